use Rattle.std.proofs.Common.{Result, ap, ◌∙◌}
use Rattle.al_base_fault.specs.Judging.{next, map_ok, unless}
use Rattle.al_base_fault.specs.declared.fault.Fault.{Fault}
use Rattle.al_stmts_ranges.specs.PerformedAt.{call_effect_of, call_effect_with_words}
use Rattle.al_overload_values.specs.TextsAt.{With}
use Rattle.al_overload_values.specs.Puts.{call_effect}
use Rattle.al_overload.specs.Terms.{TermTree}
use Rattle.al_view_typed.specs.StatementTrees.{StatementFormTree}
use Rattle.al_stmts_ranges.proofs.perform.call_effect_at.Goals as goal

pub returns-clause-answered : goal.returns-clause-answered
returns-clause-answered g c t h =
    let answered = c.in_ok-term.ensures.answered t h in
    let l = c.args.site.now.labeller.now in (
      answered.0,
      c.take_words.ensures ∙ ap (call_effect_with_words c.args.word.now)
          (c.call_effect_of-checked.ensures
          ∙ ap (λ (r : Result StatementFormTree Fault). map_ok call_effect_of r)
          (c.in_ok-labelled.ensures ∙ ap (λ (r : Result (With TermTree) Fault). next r (λ (w : With TermTree). unless w.1 (call_effect l.predefined l.own w.0))) answered.1)),
    )
