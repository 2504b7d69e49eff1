-- What comes after one another.
use Rattle.std.proofs.Common.{◌≡◌, List, Option, Some, None, refl, append_assoc, append-nil}
use Rattle.al_base_fault.specs.declared.fault.Fault.{Fault}
use Rattle.al_stmts.specs.FaultLists.{followed}
use Rattle.al_view_typed.specs.DeclarationTrees.{DeclarationTree}
use Rattle.al_view_typed.specs.StatementTrees.{StatementTree}
use Rattle.al_view_typed.specs.UnitTrees.{BodyTree}
use Rattle.al_stmts.specs.Steps.{Part, Walked, joined, no_part, nothing, parts_joined}
use Rattle.al_stmts.specs.Walking.{part_after, walked_after}

-- ---- statements

abbrev statements : List Fault → Option Fault → List StatementTree → List BodyTree → Walked
statements faults end ss bodies = record { checked = record { faults = record { faults = faults; end = end }; statements = ss }; bodies = bodies }

walked_by : {H : Type 0} (env : H) (faults : List Fault) (end : Option Fault) (ss : List StatementTree) (bodies : List BodyTree) (b : H × Walked)
    → (walked_after (env, statements faults end ss bodies) b).1.checked.faults ≡ followed (record { faults = faults; end = end }) b.1.checked.faults
unfolding joined
walked_by env faults (Some f) ss bodies b = refl
walked_by env faults None ss bodies b = refl

pub walked : {H : Type 0} (a b : H × Walked) → (walked_after a b).1.checked.faults ≡ followed a.1.checked.faults b.1.checked.faults
walked a b = walked_by a.0 a.1.checked.faults.faults a.1.checked.faults.end a.1.checked.statements a.1.bodies b

joined_by : (fa fb fc : List Fault) (ec : Option Fault) (sa sb sc : List StatementTree) (ba bb bc : List BodyTree)
    → joined (joined (statements fa None sa ba) (statements fb None sb bb)) (statements fc ec sc bc) ≡ joined (statements fa None sa ba) (joined (statements fb None sb bb) (statements fc ec sc bc))
unfolding joined
joined_by fa fb fc ec sa sb sc ba bb bc = simp append_assoc

parted_by : {H : Type 0} (ha hb hc : H) (fa fb : List Fault) (ea eb : Option Fault) (sa sb : List StatementTree) (ba bb : List BodyTree) (c : Walked)
    → walked_after (walked_after (ha, statements fa ea sa ba) (hb, statements fb eb sb bb)) (hc, c) ≡ walked_after (ha, statements fa ea sa ba) (walked_after (hb, statements fb eb sb bb) (hc, c))
unfolding joined
parted_by ha hb hc fa fb (Some f) eb sa sb ba bb c = refl
parted_by ha hb hc fa fb None (Some g) sa sb ba bb c = refl
parted_by ha hb hc fa fb None None sa sb ba bb c = rw (joined_by fa fb c.checked.faults.faults c.checked.faults.end sa sb c.checked.statements ba bb c.bodies) refl

-- the faults are the same wherever statements are divided
pub parted : {H : Type 0} (a b c : H × Walked) → walked_after (walked_after a b) c ≡ walked_after a (walked_after b c)
parted a b c =
    parted_by a.0 b.0 c.0 a.1.checked.faults.faults b.1.checked.faults.faults a.1.checked.faults.end b.1.checked.faults.end a.1.checked.statements b.1.checked.statements a.1.bodies b.1.bodies c.1

last_by : {H : Type 0} (env : H) (faults : List Fault) (end : Option Fault) (ss : List StatementTree) (bodies : List BodyTree)
    → walked_after (env, statements faults end ss bodies) (env, nothing) ≡ (env, statements faults end ss bodies)
unfolding joined nothing
last_by env faults (Some f) ss bodies = refl
last_by env faults None ss bodies = simp append-nil

-- after the last statement there is nothing
pub last : {H : Type 0} (env : H) (a : Walked) → walked_after (env, a) (env, nothing) ≡ (env, a)
last env a = last_by env a.checked.faults.faults a.checked.faults.end a.checked.statements a.bodies

-- ---- declarations

abbrev declarations : List Fault → Option Fault → List DeclarationTree → List BodyTree → Part
declarations faults end ds bodies = record { faults = record { faults = faults; end = end }; declarations = ds; bodies = bodies }

part_by : {H : Type 0} (env : H) (faults : List Fault) (end : Option Fault) (ds : List DeclarationTree) (bodies : List BodyTree) (b : H × Part)
    → (part_after (env, declarations faults end ds bodies) b).1.faults ≡ followed (record { faults = faults; end = end }) b.1.faults
unfolding parts_joined
part_by env faults (Some f) ds bodies b = refl
part_by env faults None ds bodies b = refl

pub part : {H : Type 0} (a b : H × Part) → (part_after a b).1.faults ≡ followed a.1.faults b.1.faults
part a b = part_by a.0 a.1.faults.faults a.1.faults.end a.1.declarations a.1.bodies b

parts_by : (fa fb fc : List Fault) (ec : Option Fault) (da db dc : List DeclarationTree) (ba bb bc : List BodyTree)
    → parts_joined (parts_joined (declarations fa None da ba) (declarations fb None db bb)) (declarations fc ec dc bc) ≡ parts_joined (declarations fa None da ba) (parts_joined (declarations fb None db bb) (declarations fc ec dc bc))
unfolding parts_joined
parts_by fa fb fc ec da db dc ba bb bc = simp append_assoc

parts_parted_by : {H : Type 0} (ha hb hc : H) (fa fb : List Fault) (ea eb : Option Fault) (da db : List DeclarationTree) (ba bb : List BodyTree) (c : Part)
    → part_after (part_after (ha, declarations fa ea da ba) (hb, declarations fb eb db bb)) (hc, c) ≡ part_after (ha, declarations fa ea da ba) (part_after (hb, declarations fb eb db bb) (hc, c))
unfolding parts_joined
parts_parted_by ha hb hc fa fb (Some f) eb da db ba bb c = refl
parts_parted_by ha hb hc fa fb None (Some g) da db ba bb c = refl
parts_parted_by ha hb hc fa fb None None da db ba bb c = rw (parts_by fa fb c.faults.faults c.faults.end da db c.declarations ba bb c.bodies) refl

-- the faults are the same wherever a part is divided
pub parts_parted : {H : Type 0} (a b c : H × Part) → part_after (part_after a b) c ≡ part_after a (part_after b c)
parts_parted a b c =
    parts_parted_by a.0 b.0 c.0 a.1.faults.faults b.1.faults.faults a.1.faults.end b.1.faults.end a.1.declarations b.1.declarations a.1.bodies b.1.bodies c.1

last_part_by : {H : Type 0} (env : H) (faults : List Fault) (end : Option Fault) (ds : List DeclarationTree) (bodies : List BodyTree)
    → part_after (env, declarations faults end ds bodies) (env, no_part) ≡ (env, declarations faults end ds bodies)
unfolding parts_joined no_part
last_part_by env faults (Some f) ds bodies = refl
last_part_by env faults None ds bodies = simp append-nil

pub last_part : {H : Type 0} (env : H) (a : Part) → part_after (env, a) (env, no_part) ≡ (env, a)
last_part env a = last_part_by env a.faults.faults a.faults.end a.declarations a.bodies
