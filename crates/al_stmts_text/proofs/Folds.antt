-- Walks over lists, one element after another.
use Rattle.std.proofs.Common.{◌≡◌, Bool, true, false, List, [], ◌∷◌, Option, Some, None, map, refl, sym, ap, ◌∙◌}
use Rattle.std.specs.Prelude.{fold, is_some, if◌then◌else◌}
use Rattle.al_base_fault.specs.declared.fault.Fault.{Fault}
use Rattle.al_tree.specs.StatementViews.{alternative_model, alternatives_of, branch_model, elsif_model, elsifs_of, item_model, items_of, more_statements_of, operation_bodies_of, operation_body_model, statement_model}
use Rattle.al_tree.specs.declared.statement.Alternative.{Alternative}
use Rattle.al_tree.specs.declared.statement.ElsifBranch.{ElsifBranch, out-ElsifBranch}
use Rattle.al_tree.specs.declared.statement.Item.{Item}
use Rattle.al_tree.specs.declared.statement.OperationBody.{OperationBody}
use Rattle.al_tree.specs.declared.statement.Statement.{Statement}
use Rattle.al_view_typed.specs.DeclarationTrees.{DeclarationTree}
use Rattle.al_view_typed.specs.StatementTrees.{StatementTree}
use Rattle.al_view_typed.specs.UnitTrees.{BodyTree}
use Rattle.al_stmts.specs.Readings.{Reading, giving}
use Rattle.al_stmts.specs.Steps.{Enclosing, Branching, Choosing, Part, Walked, joined, parts_joined}
use Rattle.al_stmts.specs.Walking.{alternative_walked, alternatives_walked, branch_walked, elsifs_walked, item_walked, items_walked, more_walked, operation_walked, operations_walked, part_after, statement_walked, walked_after}
use Rattle.al_stmts.proofs.ReturnsLayers.{elsif_layers}
use Rattle.al_stmts.proofs.Behind.{last, last_part, parted, parts_parted}
use Rattle.al_stmts_text.proofs.Loops.{stops}
use Rattle.al_stmts_text.proofs.Read.{goes_on}

-- ---- statements

abbrev pub statement_step : {H : Type 0} → Reading H → Enclosing → H × Walked → Statement → H × Walked
statement_step R r s x = walked_after s (statement_walked R r s.0 (statement_model x))

abbrev statements : List Fault → Option Fault → List StatementTree → List BodyTree → Walked
statements faults end ss bodies = record { checked = record { faults = record { faults = faults; end = end }; statements = ss }; bodies = bodies }

again_by : {H : Type 0} (h : H) (faults : List Fault) (end : Option Fault) (ss : List StatementTree) (bodies : List BodyTree) (one : H × Walked) (rest : H → H × Walked)
    → walked_after (walked_after (giving h (statements faults end ss bodies)) one) (rest (walked_after (giving h (statements faults end ss bodies)) one).0)
    ≡ walked_after (giving h (statements faults end ss bodies)) (walked_after one (rest one.0))
again_by h faults (Some f) ss bodies one rest = refl
again_by h faults None ss bodies one rest = parted (giving h (statements faults None ss bodies)) one (rest one.0)

again : {H : Type 0} (s one : H × Walked) (rest : H → H × Walked) → walked_after (walked_after s one) (rest (walked_after s one).0) ≡ walked_after s (walked_after one (rest one.0))
again s one rest = again_by s.0 s.1.checked.faults.faults s.1.checked.faults.end s.1.checked.statements s.1.bodies one rest

pub statements_folded : {H : Type 0} (R : Reading H) (r : Enclosing) (s : H × Walked) (xs : List Statement)
    → fold (statement_step R r) s xs ≡ walked_after s (more_walked R r s.0 (more_statements_of (map statement_model xs)))
statements_folded R r s [] = sym (last s.0 s.1)
statements_folded R r s (x ∷ xs) =
    statements_folded R r (statement_step R r s x) xs ∙ again s (statement_walked R r s.0 (statement_model x)) (λ h. more_walked R r h (more_statements_of (map statement_model xs)))

-- if the list goes on, a statement more
pub statement_added : {H : Type 0} (R : Reading H) (r env : Enclosing) (h after : H) (a one made : Walked) (x : Statement)
    → is_some a.checked.faults.end ≡ false → env ≡ r → giving after one ≡ statement_walked R env h (statement_model x) → made ≡ joined a one → giving after made ≡ statement_step R r (giving h a) x
statement_added {H} R r env h after a one made x goes same is made_is =
    let walked : (giving after one) ≡ statement_walked R r h (statement_model x) = is ∙ ap (λ (k : Enclosing). statement_walked R k h (statement_model x)) same in
    rw goes (ap (λ (w : Walked). giving after w) made_is ∙ goes_on (λ (k : H) (w : Walked). giving k (joined a w)) after one (statement_walked R r h (statement_model x)) walked)

-- if it has ended, no more statements
pub statements_stop : {H : Type 0} (R : Reading H) (r : Enclosing) (s : H × Walked) (xs : List Statement) → is_some s.1.checked.faults.end ≡ true → fold (statement_step R r) s xs ≡ s
statements_stop R r s xs ended = stops (statement_step R r) s xs (λ x. rw ended refl)

-- ---- branches

abbrev pub branch_step : {H : Type 0} → Reading H → Enclosing → H × Branching → ElsifBranch → H × Branching
branch_step R r s b = if is_some s.1.so_far.faults.end then s else branch_walked R r s (elsif_model b).0.line (elsif_model b).1

pub branches_stop : {H : Type 0} (R : Reading H) (r : Enclosing) (s : H × Branching) (bs : List ElsifBranch) → is_some s.1.so_far.faults.end ≡ true → fold (branch_step R r) s bs ≡ s
branches_stop R r s bs ended = stops (branch_step R r) s bs (λ b. rw ended refl)

-- if the list goes on, a branch more
pub branch_added : {H : Type 0} (R : Reading H) (r env : Enclosing) (h : H) (a : Branching) (done : H × Branching) (b : ElsifBranch)
    → is_some a.so_far.faults.end ≡ false
    → env ≡ r
    → done ≡ branch_walked R env (giving h a) (out-ElsifBranch b).opening.line (branch_model (out-ElsifBranch b).branch)
    → done ≡ branch_step R r (giving h a) b
branch_added R r env h a done b goes same is =
    rw (goes, elsif_layers b) (is ∙ ap (λ (k : Enclosing). branch_walked R k (giving h a) (out-ElsifBranch b).opening.line (branch_model (out-ElsifBranch b).branch)) same)

branches_by : {H : Type 0} (R : Reading H) (r : Enclosing) (s next : H × Branching) (bs : List ElsifBranch) (ended : Bool) → is_some s.1.so_far.faults.end ≡ ended
    → fold (branch_step R r) next bs ≡ elsifs_walked R r next (elsifs_of (map elsif_model bs))
    → fold (branch_step R r) (if ended then s else next) bs ≡ (if ended then s else elsifs_walked R r next (elsifs_of (map elsif_model bs)))
branches_by R r s next bs true is rest = branches_stop R r s bs is
branches_by R r s next bs false is rest = rest

pub branches_folded : {H : Type 0} (R : Reading H) (r : Enclosing) (s : H × Branching) (bs : List ElsifBranch) → fold (branch_step R r) s bs ≡ elsifs_walked R r s (elsifs_of (map elsif_model bs))
branches_folded R r s [] = refl
branches_folded R r s (b ∷ bs) =
    let next = branch_walked R r s (elsif_model b).0.line (elsif_model b).1 in branches_by R r s next bs (is_some s.1.so_far.faults.end) refl (branches_folded R r next bs)

-- ---- alternatives

abbrev pub alternative_step : {H : Type 0} → Reading H → Enclosing → H × Choosing → Alternative → H × Choosing
alternative_step R r s a = if is_some s.1.so_far.faults.end then s else alternative_walked R r s (alternative_model a)

pub alternatives_stop : {H : Type 0} (R : Reading H) (r : Enclosing) (s : H × Choosing) (more : List Alternative) → is_some s.1.so_far.faults.end ≡ true → fold (alternative_step R r) s more ≡ s
alternatives_stop R r s more ended = stops (alternative_step R r) s more (λ a. rw ended refl)

-- if the list goes on, an alternative more
pub alternative_added : {H : Type 0} (R : Reading H) (r env : Enclosing) (h : H) (so_far : Choosing) (done : H × Choosing) (a : Alternative)
    → is_some so_far.so_far.faults.end ≡ false → env ≡ r → done ≡ alternative_walked R env (giving h so_far) (alternative_model a) → done ≡ alternative_step R r (giving h so_far) a
alternative_added R r env h so_far done a goes same is = rw goes (is ∙ ap (λ (k : Enclosing). alternative_walked R k (giving h so_far) (alternative_model a)) same)

alternatives_by : {H : Type 0} (R : Reading H) (r : Enclosing) (s next : H × Choosing) (more : List Alternative) (ended : Bool) → is_some s.1.so_far.faults.end ≡ ended
    → fold (alternative_step R r) next more ≡ alternatives_walked R r next (alternatives_of (map alternative_model more))
    → fold (alternative_step R r) (if ended then s else next) more ≡ (if ended then s else alternatives_walked R r next (alternatives_of (map alternative_model more)))
alternatives_by R r s next more true is rest = alternatives_stop R r s more is
alternatives_by R r s next more false is rest = rest

pub alternatives_folded : {H : Type 0} (R : Reading H) (r : Enclosing) (s : H × Choosing) (more : List Alternative) → fold (alternative_step R r) s more ≡ alternatives_walked R r s (alternatives_of (map alternative_model more))
alternatives_folded R r s [] = refl
alternatives_folded R r s (a ∷ more) =
    let next = alternative_walked R r s (alternative_model a) in alternatives_by R r s next more (is_some s.1.so_far.faults.end) refl (alternatives_folded R r next more)

-- ---- declarations

abbrev pub item_step : {H : Type 0} → Reading H → H × Part → Item → H × Part
item_step R s i = part_after s (item_walked R s.0 (item_model i))

abbrev declarations : List Fault → Option Fault → List DeclarationTree → List BodyTree → Part
declarations faults end ds bodies = record { faults = record { faults = faults; end = end }; declarations = ds; bodies = bodies }

part_again_by : {H : Type 0} (h : H) (faults : List Fault) (end : Option Fault) (ds : List DeclarationTree) (bodies : List BodyTree) (one : H × Part) (rest : H → H × Part)
    → part_after (part_after (giving h (declarations faults end ds bodies)) one) (rest (part_after (giving h (declarations faults end ds bodies)) one).0)
    ≡ part_after (giving h (declarations faults end ds bodies)) (part_after one (rest one.0))
part_again_by h faults (Some f) ds bodies one rest = refl
part_again_by h faults None ds bodies one rest = parts_parted (giving h (declarations faults None ds bodies)) one (rest one.0)

pub part_again : {H : Type 0} (s one : H × Part) (rest : H → H × Part) → part_after (part_after s one) (rest (part_after s one).0) ≡ part_after s (part_after one (rest one.0))
part_again s one rest = part_again_by s.0 s.1.faults.faults s.1.faults.end s.1.declarations s.1.bodies one rest

pub items_folded : {H : Type 0} (R : Reading H) (s : H × Part) (is : List Item) → fold (item_step R) s is ≡ part_after s (items_walked R s.0 (items_of (map item_model is)))
items_folded R s [] = sym (last_part s.0 s.1)
items_folded R s (i ∷ is) =
    items_folded R (item_step R s i) is ∙ part_again s (item_walked R s.0 (item_model i)) (λ h. items_walked R h (items_of (map item_model is)))

pub item_added : {H : Type 0} (R : Reading H) (h after : H) (a one made : Part) (i : Item)
    → is_some a.faults.end ≡ false → giving after one ≡ item_walked R h (item_model i) → made ≡ parts_joined a one → giving after made ≡ item_step R (giving h a) i
item_added {H} R h after a one made i goes is made_is =
    rw goes (ap (λ (w : Part). giving after w) made_is ∙ goes_on (λ (k : H) (w : Part). giving k (parts_joined a w)) after one (item_walked R h (item_model i)) is)

pub items_stop : {H : Type 0} (R : Reading H) (s : H × Part) (is : List Item) → is_some s.1.faults.end ≡ true → fold (item_step R) s is ≡ s
items_stop R s is ended = stops (item_step R) s is (λ i. rw ended refl)

-- ---- bodies of operations

abbrev pub operation_step : {H : Type 0} → Reading H → H × Part → OperationBody → H × Part
operation_step R s o = part_after s (operation_walked R s.0 (operation_body_model o))

pub operations_folded : {H : Type 0} (R : Reading H) (s : H × Part) (os : List OperationBody)
    → fold (operation_step R) s os ≡ part_after s (operations_walked R s.0 (operation_bodies_of (map operation_body_model os)))
operations_folded R s [] = sym (last_part s.0 s.1)
operations_folded R s (o ∷ os) =
    operations_folded R (operation_step R s o) os
    ∙ part_again s (operation_walked R s.0 (operation_body_model o)) (λ h. operations_walked R h (operation_bodies_of (map operation_body_model os)))

pub operation_added : {H : Type 0} (R : Reading H) (h after : H) (a one made : Part) (o : OperationBody)
    → is_some a.faults.end ≡ false → giving after one ≡ operation_walked R h (operation_body_model o) → made ≡ parts_joined a one → giving after made ≡ operation_step R (giving h a) o
operation_added {H} R h after a one made o goes is made_is =
    rw goes (ap (λ (w : Part). giving after w) made_is ∙ goes_on (λ (k : H) (w : Part). giving k (parts_joined a w)) after one (operation_walked R h (operation_body_model o)) is)

pub operations_stop : {H : Type 0} (R : Reading H) (s : H × Part) (os : List OperationBody) → is_some s.1.faults.end ≡ true → fold (operation_step R) s os ≡ s
operations_stop R s os ended = stops (operation_step R) s os (λ o. rw ended refl)
