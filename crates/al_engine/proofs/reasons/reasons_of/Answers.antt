use Rattle.std.proofs.Common.{◌≡◌, ◌∙◌, ◌++◌, [], ◌∷◌, List, ap, sym, subst, take, arith}
use Rattle.std.proofs.lemmas.List.{take_more}
use Rattle.al_base.specs.declared.unit_key.UnitKey.{UnitKey}
use Rattle.al_query_store.specs.Keyed.{settled_at}
use Rattle.al_engine_refresh.specs.Moving.{now_table}
use Rattle.al_engine.proofs.ReasonLemmas.{with_reason}
use Rattle.al_engine.specs.Reasons.{AreReasons}
use Rattle.al_engine.specs.declared.reasons.Reason.{Reason}
use Rattle.al_engine.proofs.reasons.reasons_of.Goals as goal

pub loop-unit-preserved : goal.loop-unit-preserved
loop-unit-preserved g c =
    let t = now_table (g.P.Answers.table c.args.predefined.now) c.args.entries.now in
    let lib = c.args.sources.now in
    let at = settled_at c.args.entries.now in
    let us = c.args.units.now in
    let i = c.loop-unit.unit-index in
    let u = c.unit-item.result in
    let before = take i us in
    subst (λ (ts : List UnitKey). AreReasons t lib at ts c.push.new.self.items) (sym (take_more us i u (omega arith) ∙ ap (λ (y : UnitKey). before ++ y ∷ []) (sym c.unit-item.is)))
    (subst (λ (rs : List Reason). AreReasons t lib at (before ++ u ∷ []) rs) (sym c.in_ok-push.ensures.items)
    (with_reason t lib at before c.loop-unit.reasons.items u c.in_ok-reason_at.field-0 c.loop-unit.invariant c.in_ok-reason_at.ensures))
