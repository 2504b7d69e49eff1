-- Bodies, step by step.
use Rattle.std.proofs.Common.{◌≡◌, List, ◌∷◌, Option, refl, ap, sym, ◌∙◌}
use Rattle.al_base_fault.specs.declared.fault.Fault.{Fault}
use Rattle.al_stmts.specs.declared.simple.ReturnContext.{ReturnContext}
use Rattle.al_view_typed.specs.DeclarationTrees.{DeclarationTree}
use Rattle.al_view_typed.specs.UnitTrees.{BodyTree}
use Rattle.al_stmts.specs.Readings.{Reading, giving}
use Rattle.al_stmts.specs.Steps.{Enclosing, Inside, Part, body_faults, body_of, in_body, object_of}
use Rattle.al_stmts.specs.Walking.{body_ended, body_entered, object_ended}
use Rattle.al_stmts.specs.declared.extent.BodyExtent.{BodyExtent}
use Rattle.al_stmts_text.proofs.Read.{goes_on}

pub entered : {H : Type 0} (R : Reading H) (h inner after : H) (returns : ReturnContext) (done : Enclosing)
    → inner ≡ R.body_entered h
    → giving after returns ≡ giving inner (R.returns inner)
    → done ≡ in_body returns
    → giving after done ≡ body_entered R h
entered {H} R h inner after returns done inner_is returns_are done_is =
    ap (λ (a : Enclosing). giving after a) done_is
    ∙ goes_on (λ (k : H) (r : ReturnContext). giving k (in_body r)) after returns (giving inner (R.returns inner)) returns_are
    ∙ ap (λ (k : H). giving k (in_body (R.returns k))) inner_is

pub ended : {H : Type 0} (R : Reading H) (effects : List DeclarationTree) (extent : BodyExtent) (no_return : Option Fault) (h made : H) (body : BodyTree) (part : Part) (done : H × Part) (inside : Inside)
    → giving made body ≡ giving h (R.body h extent inside.declarations inside.statements)
    → part ≡ record { faults = body_faults inside.faults no_return extent.name_fault; declarations = effects; bodies = body ∷ inside.bodies }
    → done ≡ giving (R.body_left made) part
    → done ≡ body_ended R effects extent no_return (giving h inside)
unfolding body_of
ended {H} R effects extent no_return h made body part done inside body_is part_is is =
    is
    ∙ ap (λ (p : Part). giving (R.body_left made) p) part_is
    ∙ goes_on (λ (k : H) (b : BodyTree). giving (R.body_left k) (body_of effects no_return extent.name_fault b inside)) made body (giving h (R.body h extent inside.declarations inside.statements)) body_is

pub object_made : {H : Type 0} (R : Reading H) (effects : List DeclarationTree) (end : Option Fault) (h left : H) (operations made : Part)
    → left ≡ R.object_left h
    → made ≡ object_of effects end operations
    → giving left made ≡ object_ended R effects end (giving h operations)
object_made {H} R effects end h left operations made left_is made_is =
    ap (λ (p : Part). giving left p) made_is ∙ ap (λ (k : H). giving k (object_of effects end operations)) left_is
