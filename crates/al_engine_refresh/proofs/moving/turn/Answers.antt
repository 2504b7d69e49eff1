use Rattle.std.proofs.Common.{refl, ◌∙◌, is_some}
use Rattle.al_query_store.specs.Keyed.{with_reached}
use Rattle.al_query_store.specs.Keyed.{state}
use Rattle.al_engine_refresh.proofs.Comparing.{compared-more}
use Rattle.al_engine_refresh.proofs.HandleLemmas.{on_ok}
use Rattle.al_engine_refresh.proofs.Turning.{beq-apart, left-by, reached-moves, there-turned, turned-by}
use Rattle.al_engine_refresh.proofs.moving.turn.Goals as goal

pub returns-clause-turned : goal.returns-clause-turned
returns-clause-turned g c =
    on_ok c.compare.result _ _ (turned-by (g.P.Answers.table c.args.predefined.now) (with_reached c.args.is_reached) c.args.unit.now c.args.entries.now c.reach.new.self c.compare.new.entries c.in_ok-reach.ensures.ok (λ s. refl)) c.compare.ensures.marked

pub returns-clause-compared : goal.returns-clause-compared
returns-clause-compared g c is =
    let s = state c.args.entries.now c.args.unit.now in
    on_ok c.compare.result _ _ (λ has. compared-more (with_reached c.args.is_reached) c.args.unit.now c.args.entries.now c.reach.new.self c.compare.new.entries c.in_ok-reach.ensures.ok (λ s. refl) c.compare.ensures.base c.requires.unmoved (reached-moves (is_some s.made) s.leaves s.was_reached s.is_reached c.args.is_reached c.requires.unmoved (λ e. beq-apart _ _ c.if-is_reached.false (c.is_reached.ensures ∙ e))) c.args.compared.now c.compare.new.compared is has.0 has.1 has.2) c.compare.ensures.counted

pub returns-clause-left : goal.returns-clause-left
returns-clause-left g c =
    left-by (g.P.Answers.table c.args.predefined.now) (with_reached c.args.is_reached) c.args.unit.now c.args.entries.now c.reach.new.self c.compare.new.entries c.in_ok-reach.ensures.ok (λ s. refl) (λ s. refl) c.compare.ensures.base

pub reach-requires : goal.reach-requires
reach-requires g c = there-turned c.args.entries.now c.args.unit.now c.args.is_reached c.requires.settled (λ e. beq-apart _ _ c.if-is_reached.false (c.is_reached.ensures ∙ e))
