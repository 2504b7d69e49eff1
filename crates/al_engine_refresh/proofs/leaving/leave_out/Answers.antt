use Rattle.std.proofs.Common.{◌∙◌, Bool, List, take, sym, subst, refl, is_some, arith}
use Rattle.std.proofs.lemmas.List.{take_all}
use Rattle.al_base.specs.declared.unit_key.UnitKey.{UnitKey}
use Rattle.al_query_store.specs.Units.{at_unit}
use Rattle.al_engine_refresh.proofs.LeftLemmas.{LeftSoFar, left-all, left-moved, left-out, left-turned}
use Rattle.al_engine_refresh.proofs.LoopLemmas.{done-at}
use Rattle.al_engine_refresh.proofs.leaving.leave_out.Goals as goal

pub loop-unit-init : goal.loop-unit-init
loop-unit-init g c = record { so_far = λ u. refl; marks = λ m. m; compared = λ n. n; left = λ u. refl }

-- it moved already
pub loop-unit-preserved-then-has_moved : goal.loop-unit-preserved-then-has_moved
loop-unit-preserved-then-has_moved g c =
    let i = c.loop-unit.invariant in
    let units = c.as_slice-unit-items.result.now in
    let unit = c.unit-item.result in
    record {
      so_far = subst (λ (us : List UnitKey). LeftSoFar c.args.sources.now (λ u. is_some (at_unit c.in_ok-set.set u)) c.args.entries.now us c.loop-unit.entries) (sym (done-at units c.loop-unit.unit-index unit (omega arith) c.unit-item.is))
          (left-moved c.args.sources.now (λ u. is_some (at_unit c.in_ok-set.set u)) c.args.entries.now (take c.loop-unit.unit-index units) unit c.loop-unit.entries i.so_far c.requires (sym c.has_moved.ensures ∙ c.if-has_moved.true));
      marks = i.marks;
      compared = i.compared;
      left = i.left;
    }

pub loop-unit-preserved : goal.loop-unit-preserved
loop-unit-preserved g c =
    let i = c.loop-unit.invariant in
    let pre = g.P.Answers.table c.args.predefined.now in
    let units = c.as_slice-unit-items.result.now in
    let unit = c.unit-item.result in
    let given = c.in_ok-leave_one.ensures in
    record {
      so_far = subst (λ (us : List UnitKey). LeftSoFar c.args.sources.now (λ u. is_some (at_unit c.in_ok-set.set u)) c.args.entries.now us c.leave_one.new.entries) (sym (done-at units c.loop-unit.unit-index unit (omega arith) c.unit-item.is))
          (left-turned c.args.sources.now (λ u. is_some (at_unit c.in_ok-set.set u)) c.args.entries.now (take c.loop-unit.unit-index units) unit c.loop-unit.entries c.leave_one.new.entries i.so_far pre given.turned);
      marks = λ m. given.turned.marks (i.marks m);
      compared = λ n. given.compared (i.compared n);
      left = λ u. given.left u ∙ i.left u;
    }

pub returns-clause-out : goal.returns-clause-out
returns-clause-out g c =
    let i = c.loop-unit.invariant in
    let units = c.as_slice-unit-items.result.now in
    let ordered : UnitKey → Bool = λ u. is_some (at_unit c.in_ok-set.set u) in
    left-out (g.P.Answers.table c.args.predefined.now) c.args.sources.now c.args.order.now ordered c.args.entries.now c.loop-unit.entries c.in_ok-set.ensures c.requires
    (left-all c.args.sources.now ordered c.args.entries.now units (c.as_slice-unit-items.ensures.value ∙ c.in_ok-units.ensures) c.loop-unit.entries
    (subst (λ (us : List UnitKey). LeftSoFar c.args.sources.now ordered c.args.entries.now us c.loop-unit.entries) (take_all c.loop-unit.unit-index units (omega arith)) i.so_far)) i.marks
