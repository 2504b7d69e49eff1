use Rattle.std.proofs.Common.{◌∙◌, Bool, None, ap, sym, if◌then◌else◌}
use Rattle.al_query.specs.Answers.{parent_of}
use Rattle.al_query.specs.declared.query.Property.TheVariants.{Parent}
use Rattle.al_query.specs.declared.query.Query.TheVariants.{Of}
use Rattle.al_check_start.proofs.Steps.{if_ok}
use Rattle.al_check_start.proofs.stub.next_body.Goals as goal

pub returns-then-is_subunit-clause-answered : goal.returns-then-is_subunit-clause-answered
returns-then-is_subunit-clause-answered g c =
    if_ok c.parent_at.result _ _
    (λ next answered t h. let known = answered t h in
    (known.0, known.1 ∙ ap (λ (b : Bool). if b then parent_of (t (Of c.args.unit.now Parent)) else None) (sym c.if-is_subunit.true ∙ c.is_subunit.ensures)))
    c.parent_at.ensures.answered

pub returns-clause-answered : goal.returns-clause-answered
returns-clause-answered g c t h =
    (h, ap (λ (b : Bool). if b then parent_of (t (Of c.args.unit.now Parent)) else None) (sym c.if-is_subunit.false ∙ c.is_subunit.ensures))
