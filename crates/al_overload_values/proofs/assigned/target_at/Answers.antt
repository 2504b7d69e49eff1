use Rattle.std.proofs.Common.{Result, [], ap, ◌∙◌}
use Rattle.al_base_fault.specs.Judging.{next, unless}
use Rattle.al_base_fault.specs.declared.fault.Fault.{Fault}
use Rattle.al_overload_nodes.specs.Contexts.{target_checked}
use Rattle.al_overload_values.specs.TextsAt.{With}
use Rattle.al_overload.specs.Terms.{TermTree}
use Rattle.al_overload_values.specs.Words.{with_words}
use Rattle.al_overload_values.proofs.assigned.target_at.Goals as goal

pub returns-clause-answered : goal.returns-clause-answered
returns-clause-answered g c t h =
    let answered = c.in_ok-term.ensures.answered t h in
    let l = c.args.site.now.labeller.now in (
      answered.0,
      c.take_words.ensures ∙ ap (with_words c.args.word.now)
          (c.in_ok-checked.ensures ∙ ap (λ (r : Result (With TermTree) Fault). next r (λ (w : With TermTree). unless w.1 (target_checked l.predefined l.own [] w.0))) answered.1),
    )
