use Rattle.std.proofs.Common.{◌++◌, [], Bool, ap, sym, ◌∙◌, if◌then◌else◌}
use Rattle.al_query.proofs.AskLemmas.{asks_none}
use Rattle.al_query.specs.Asked.{OfKnown, by_some_name}
use Rattle.al_scope.proofs.HidingLemmas.{append-none}
use Rattle.al_scope.specs.Places.{place_units}
use Rattle.al_scope.specs.Seen.{full_of}
use Rattle.al_scope.proofs.Outcomes.{on_ok}
use Rattle.al_scope.proofs.seen.add_full.Goals as goal

pub returns-then-is_private-clause-answered : goal.returns-then-is_private-clause-answered
returns-then-is_private-clause-answered g c =
    on_ok c.add_full_of.result _ _
    (λ answered t h. (
      (answered t h).0,
      (answered t h).1 ∙ ap (λ (b : Bool). c.args.recasts.now ++ (if b then full_of t c.args.scope.now c.args.of.now.symbol else [])) (sym c.if-is_private.true ∙ c.is_private.ensures),
    ))
    c.add_full_of.ensures.answered

pub returns-clause-answered : goal.returns-clause-answered
returns-clause-answered g c t h = (
  h,
  sym (append-none c.args.recasts.now) ∙ ap (λ (b : Bool). c.args.recasts.now ++ (if b then full_of t c.args.scope.now c.args.of.now.symbol else [])) (sym c.if-is_private.false ∙ c.is_private.ensures),
)

pub returns-clause-asks : goal.returns-clause-asks
returns-clause-asks g c = asks_none (OfKnown (place_units c.args.scope.now) by_some_name) c.args.recorder.now.log
