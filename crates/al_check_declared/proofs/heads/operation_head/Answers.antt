use Rattle.std.proofs.Common.{ℕ, ap, ◌∙◌}
use Rattle.al_stmts.specs.Walking.{first_line}
use Rattle.al_check_here.specs.declared.state.CheckState.{CheckState}
use Rattle.al_decl_judged.specs.declared.heading.Heading.{Heading}
use Rattle.al_tree.specs.DeclarationViews.{specification_model}
use Rattle.al_check_declared.specs.ObjectsHere.{operation_of}
use Rattle.al_check_declared.proofs.Composed.{if_ok}
use Rattle.al_check_declared.proofs.heads.operation_head.Goals as goal

pub returns-clause-answered : goal.returns-clause-answered
returns-clause-answered g c =
    if_ok c.operation_of.result _ _
    (λ effects answered t h.
    let later = answered t h in
    let read = c.in_ok-heading.ensures.answered t later.0 in
    let s = c.args.state.now in (
      read.0,
      later.1
          ∙ ap (λ (x : CheckState). operation_of t x c.first_line.result c.in_ok-heading.heading) c.in_ok-heading.ensures.state
          ∙ ap (λ (n : ℕ). operation_of t s n c.in_ok-heading.heading) c.first_line.ensures
          ∙ ap (λ (x : Heading). operation_of t s (first_line (specification_model c.args.specification.now)) x) read.1,
    ))
    c.operation_of.ensures.answered
