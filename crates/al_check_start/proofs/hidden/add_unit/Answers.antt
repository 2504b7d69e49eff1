use Rattle.std.proofs.Common.{◌++◌, ◌∙◌, List, ℕ, ap, map, sym}
use Rattle.al_base.specs.declared.unit_key.UnitKey.{UnitKey}
use Rattle.al_query.specs.Answers.{names_told}
use Rattle.al_query.specs.declared.query.Property.TheVariants.{Context}
use Rattle.al_query.specs.declared.query.Query.TheVariants.{Of}
use Rattle.al_check_start.specs.UnitsAt.{named_in}
use Rattle.al_scope.proofs.Outcomes.{on_ok}
use Rattle.al_check_start.proofs.hidden.add_unit.Goals as goal

pub returns-clause-answered : goal.returns-clause-answered
returns-clause-answered g c =
    on_ok c.add_names.result _ _
    (λ new t h.
    let answered = c.in_ok-answer.ensures.answered t h in
    let of : UnitKey → List (List ℕ) = λ u. names_told (t (Of u Context)) in (
      answered.0,
      new ∙ ap (λ (ns : List (List ℕ)). c.args.hidden.now ++ map (named_in c.args.unit.now) ns) (c.private_types.ensures ∙ ap names_told (sym answered.1) ∙ ap of c.in_ok-copied_unit.ensures),
    ))
    c.add_names.ensures
