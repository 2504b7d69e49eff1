use Rattle.std.proofs.Common.{◌∙◌, Option, ap, sym}
use Rattle.al_query.specs.Answers.{context_of}
use Rattle.al_query.specs.declared.answer.ContextView.{ContextView}
use Rattle.al_check_start.specs.Around.{all_open, opens_mentioned}
use Rattle.al_check_start.proofs.around.opens_mentioned.Goals as goal

pub returns-clause-answered : goal.returns-clause-answered
returns-clause-answered g c t h =
    let answered = c.in_ok-answer.ensures.answered t h in
    let packages = c.args.packages.now in (
      answered.0,
      c.all_open-does.ensures
          ∙ ap (λ (o : Option ContextView). all_open packages o) (c.context.ensures ∙ ap context_of (sym answered.1))
          ∙ ap (opens_mentioned t packages) c.in_ok-copied_unit.ensures,
    )
