use Rattle.std.proofs.Common.{ℕ, ap, ◌∙◌}
use Rattle.al_stmts.specs.Walking.{first_line}
use Rattle.al_check_here.specs.declared.state.CheckState.{CheckState}
use Rattle.al_decl_judged.specs.declared.heading.Heading.{Heading}
use Rattle.al_tree.specs.DeclarationViews.{specification_model}
use Rattle.al_check_declared.specs.WholeHere.{whole_head_of}
use Rattle.al_check_declared.proofs.Composed.{if_ok}
use Rattle.al_check_declared.proofs.whole.whole_head.Goals as goal

pub returns-clause-answered : goal.returns-clause-answered
returns-clause-answered g c =
    if_ok c.whole_head_of.result _ _
    (λ effects settled t h.
    let read = c.in_ok-heading.ensures.answered t h in
    let s = c.args.state.now in (
      read.0,
      settled
          ∙ ap (λ (x : CheckState). whole_head_of x c.first_line.result c.in_ok-heading.heading) c.in_ok-heading.ensures.state
          ∙ ap (λ (n : ℕ). whole_head_of s n c.in_ok-heading.heading) c.first_line.ensures
          ∙ ap (λ (x : Heading). whole_head_of s (first_line (specification_model c.args.specification.now)) x) read.1,
    ))
    c.whole_head_of.ensures
