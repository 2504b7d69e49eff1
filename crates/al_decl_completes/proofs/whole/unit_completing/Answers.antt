use Rattle.std.proofs.Common.{subst, sym, ap, ◌∙◌}
use Rattle.al_decl_judged.specs.declared.specification.Specification.{Specification}
use Rattle.al_decl_judged.specs.Bodies.{IsWaiting}
use Rattle.al_decl_judged.specs.Profiles.{specification_of}
use Rattle.al_decl_judged.specs.declared.body.Completing.{Completing}
use Rattle.al_view.specs.declared.view.ViewKind.{ViewKind}
use Rattle.al_decl_completes.specs.CompletingFound.{view_completed}
use Rattle.al_decl_completes.proofs.Found.{first_view, if_ok, some_waits, view_waits}
use Rattle.al_decl_completes.proofs.whole.unit_completing.Goals as goal

pub returns-clause-found : goal.returns-clause-found
returns-clause-found c =
    let n = c.args.heading.now.name in
    let first = c.at.result.now in
    if_ok c.view_completed.result _ _
    (λ completing found.
    found
    ∙ ap (λ (s : Specification). view_completed 0 n.place s c.kind.result.now) c.in_ok-specification.ensures
    ∙ ap (λ (v : ViewKind). view_completed 0 n.place (specification_of c.args.heading.now) v) c.kind.ensures
    ∙ first_view c.args.uncompleted.now n (specification_of c.args.heading.now) first c.at.ensures)
    c.view_completed.ensures

pub returns-clause-waiting : goal.returns-clause-waiting
returns-clause-waiting c =
    let uncompleted = c.args.uncompleted.now in
    if_ok c.view_completed.result _ _
    (λ completing found.
    let P : Completing → Type 0 = λ x. IsWaiting uncompleted x in
    subst P (sym found) (view_waits uncompleted c.args.heading.now.name.place c.in_ok-specification.specification c.kind.result.now (some_waits uncompleted c.at.result.now c.at.ensures)))
    c.view_completed.ensures
