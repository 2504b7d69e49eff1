use Rattle.std.proofs.Common.{◌≡◌, ◌∙◌, ◌++◌, ℕ, List, ap, refl, sym}
use Rattle.al_query.specs.Answers.{names_told}
use Rattle.al_query.specs.declared.query.Query.TheVariants.{Of}
use Rattle.al_query.specs.declared.query.Property.TheVariants.{Context}
use Rattle.al_scope.proofs.UnitPlaceLemmas.{asks-one}
use Rattle.al_scope.proofs.parts.add_told.Goals as goal

pub returns-clause-answered : goal.returns-clause-answered
returns-clause-answered g c t h =
    let answered = c.in_ok-answer.ensures.answered t h in
    let asked : t (Of c.args.part.now.unit Context) ≡ c.in_ok-answer.answer = ap t (sym c.in_ok-query.ensures) ∙ answered.1 in
    (answered.0, c.in_ok-add_names.ensures ∙ ap (λ (l : List (List ℕ)). c.args.names.now.items ++ l) (c.private_types.ensures ∙ ap names_told (sym asked)))

pub returns-clause-asks : goal.returns-clause-asks
returns-clause-asks g c = asks-one c.args.recorder.now.log c.ask.new.self.log c.in_ok-query.query c.args.part.now.unit Context c.in_ok-answer.answer refl c.in_ok-query.ensures c.in_ok-answer.ensures.log
