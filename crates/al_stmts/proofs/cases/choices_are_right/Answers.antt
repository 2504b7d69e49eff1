-- What the choices are compared with is the selector's.
use Rattle.std.proofs.Common.{◌↔◌, IfOk, IsTrue, List, Option, subst}
use Rattle.al_stmts.specs.Choosing.{AreRight}
use Rattle.al_stmts.specs.declared.choice.Choice.{Choice}
use Rattle.al_stmts.specs.declared.choice.Selector.{Selector}
use Rattle.al_stmts.specs.Cases.{RightFor}
use Rattle.al_stmts.proofs.cases.choices_are_right.Goals as goal

pub returns-in-Some : goal.returns-in-Some
returns-in-Some c =
    let P : List (List Choice) → Type 0 = λ alternatives. IfOk c.are_right.result (λ right. IsTrue right ↔ AreRight c.in-Some.held alternatives) in
    let Q : Option Selector → Type 0 = λ held. IfOk c.are_right.result (λ right. IsTrue right ↔ RightFor held c.args.choices.now.alternatives) in
    subst Q c.in-Some.ensures (subst P c.as_slice.ensures c.are_right.ensures)
