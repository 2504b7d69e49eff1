use Rattle.std.proofs.Common.{◌∙◌, ℕ, List, ap, sym}
use Rattle.al_query.specs.Answers.{completions_of, declaration}
use Rattle.al_query.specs.declared.query.Property.TheVariants.{Completions}
use Rattle.al_query.specs.declared.query.Query.TheVariants.{Of}
use Rattle.al_check_start.proofs.waiting.left.Goals as goal

pub returns-clause-answered : goal.returns-clause-answered
returns-clause-answered g c t h =
    let answered = c.in_ok-answer.ensures.answered t h in
    (answered.0, c.in_ok-uncompleted.ensures ∙ c.completions.ensures ∙ ap completions_of (sym answered.1 ∙ ap t c.in_ok-query.ensures ∙ ap (λ (n : List ℕ). t (Of (declaration n) Completions)) c.as_slice.ensures))
