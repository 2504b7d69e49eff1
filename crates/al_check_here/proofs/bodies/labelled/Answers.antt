use Rattle.std.proofs.Common.{ℕ, map, ap, ◌∙◌}
use Rattle.al_view_typed.specs.StatementViews.{statement_model}
use Rattle.al_view_typed.specs.UnitTrees.{elaboration_model}
use Rattle.al_stmts.specs.Views.{effects_model}
use Rattle.al_check_here.specs.BodiesHere.{labelled_body}
use Rattle.al_check_here.specs.Stacks.{innermost}
use Rattle.al_check_here.proofs.Lists.{if_ok}
use Rattle.al_check_here.proofs.bodies.labelled.Goals as goal

pub returns : goal.returns
unfolding elaboration_model
returns c =
    let h = c.args.state.now in
    let x = c.args.extent in
    let ds = effects_model c.args.declarations in
    let ss = map statement_model c.args.statements.items in
    if_ok c.labelled_inside.result _ _
    (λ body made.
    made ∙ ap (λ (n : ℕ). labelled_body h x.end.line (record { line = x.line; frame = n; declarations = ds; statements = ss }) (innermost h.bodies)) c.frame_words.ensures)
    c.labelled_inside.ensures
