use Rattle.std.proofs.Common.{Bool, ap, ◌∙◌, sym, if◌then◌else◌}
use Rattle.al_overload_lookup.specs.Lookups.{asked_units, found, looked_up}
use Rattle.al_query.proofs.AskLemmas.{asks_none}
use Rattle.al_query.specs.Asked.{OfKnown, by_some_name}
use Rattle.al_overload_lookup.proofs.lookup.look_up.Goals as goal

pub returns-then-branch-clause-answered : goal.returns-then-branch-clause-answered
unfolding looked_up
returns-then-branch-clause-answered g c t h =
    let answered = c.in_ok-find.ensures.answered t h in (
      answered.0,
      answered.1 ∙ ap (λ (b : Bool). if b then found t c.args.scope.now c.args.packages.now c.args.names.now c.args.of.now else c.args.names.now) (sym c.if-branch.true ∙ c.in_ok-is_new.ensures),
    )

pub returns-clause-answered : goal.returns-clause-answered
unfolding looked_up
returns-clause-answered g c t h = (
  h,
  ap (λ (b : Bool). if b then found t c.args.scope.now c.args.packages.now c.args.names.now c.args.of.now else c.args.names.now) (sym c.if-branch.false ∙ c.in_ok-is_new.ensures),
)

pub returns-clause-asks : goal.returns-clause-asks
returns-clause-asks g c = asks_none (OfKnown (asked_units c.args.scope.now c.args.packages.now) by_some_name) c.args.recorder.now.log
