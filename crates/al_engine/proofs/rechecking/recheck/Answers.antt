use Rattle.std.proofs.Common.{ℕ, List, map, ap, sym, subst, ◌∙◌}
use Rattle.al_base.specs.Batch.{key_of}
use Rattle.al_base.specs.declared.unit_key.UnitKey.{UnitKey}
use Rattle.al_unit_faults.specs.Reached.{is_faultless}
use Rattle.al_unit_graph.specs.Orders.{in_order}
use Rattle.al_engine_refresh.specs.Builds.{raised}
use Rattle.al_engine_refresh.specs.Moving.{IsCompared}
use Rattle.al_engine.proofs.KeyOrders.{same-units}
use Rattle.al_engine.proofs.OrderLemmas.{marks-ready, order-distinct, order-there}
use Rattle.al_engine.proofs.RecheckLemmas.{as-long, rechecked}
use Rattle.al_engine.proofs.StayLemmas.{will-stay}
use Rattle.al_engine.proofs.rechecking.recheck.Goals as goal

pub refresh-requires-clause-quiet : goal.refresh-requires-clause-quiet
refresh-requires-clause-quiet g c = c.requires.ready.quiet

pub refresh-requires-clause-marks : goal.refresh-requires-clause-marks
refresh-requires-clause-marks g c = marks-ready (g.P.Answers.table c.args.predefined.now) c.args.entries.now c.requires.ready

pub refresh-requires-clause-once : goal.refresh-requires-clause-once
refresh-requires-clause-once g c = order-distinct g.C.Text.ReadText.header (g.P.Answers.table c.args.predefined.now) c.args.sources.now c.args.order.now c.requires.order

pub refresh-requires-clause-there : goal.refresh-requires-clause-there
refresh-requires-clause-there g c = order-there g.C.Text.ReadText.header (g.P.Answers.table c.args.predefined.now) c.args.sources.now c.args.order.now c.requires.order

pub returns-clause-updated : goal.returns-clause-updated
returns-clause-updated g c =
    let lib = c.args.sources.now in
    let has = c.requires.order in
    let old = c.args.entries.now in
    let new = c.refresh.new.entries in
    let given = c.in_ok-done.ensures in
    let built = given.built (λ u. is_faultless lib (key_of u)) has.0 has.1 c.requires.law in
    let sorted = c.in_ok-checked.ensures ∙ ap (λ us. in_order (map key_of us)) c.as_slice.ensures ∙ ap (λ parts. in_order (map key_of parts.0)) c.into_parts-checked.ensures in
    record {
      rechecked = rechecked _ _ _ has.0.rank _ _ c.args.order.now _ _ built has.1 sorted;
      staying = will-stay lib old new c.refresh.ensures.left given.steady.leaving given.steady.are_made;
      marks = given.marks;
      compared = subst (λ (parts : List UnitKey × ℕ). IsCompared new parts.1) (sym c.into_parts-checked.ensures) given.compared;
      made = λ u. let same = same-units _ _ sorted u in (λ h. (given.steady.listed u).0 (same.0 h), λ h. same.1 ((given.steady.listed u).1 h));
      are_made = given.steady.are_made;
      leaving = given.steady.leaving;
    }

pub returns-clause-counted : goal.returns-clause-counted
returns-clause-counted g c =
    let lib = c.args.sources.now in
    let has = c.requires.order in
    let built = c.in_ok-done.ensures.built (λ u. is_faultless lib (key_of u)) has.0 has.1 c.requires.law in
    c.in_ok-done.ensures.counted
    ∙ ap (raised (g.C.UnitCheck.count c.args.checker.now)) (sym (as-long _ _ _ has.0.rank _ _ c.args.order.now _ _ built has.1 (c.in_ok-checked.ensures ∙ ap (λ us. in_order (map key_of us)) c.as_slice.ensures ∙ ap (λ parts. in_order (map key_of parts.0)) c.into_parts-checked.ensures)))
