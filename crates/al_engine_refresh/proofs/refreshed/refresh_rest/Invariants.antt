use Rattle.std.proofs.Common.{◌≡◌, ◌++◌, ℕ, Bool, true, false, List, None, take, drop, length}
use Rattle.al_base.specs.declared.unit_key.UnitKey.{UnitKey}
use Rattle.al_query.specs.Known.{has_unit}
use Rattle.al_query_outcome.specs.Equations.{IsSetting}
use Rattle.al_query_store.specs.Keyed.{now_at, settled_at}
use Rattle.al_engine_refresh.specs.EntryLaw.{AllKeepLaw}
use Rattle.al_engine_refresh.specs.Moves.{IsLeft, has_moved}
use Rattle.al_engine_refresh.specs.Builds.{raised, setting}
use Rattle.al_engine_refresh.specs.Handling.{within}
use Rattle.al_engine_refresh.specs.Moving.{IsCompared, IsSteady, MarksFollow}
use Rattle.al_engine_refresh.specs.Progress.{Progress}
use Rattle.al_engine_refresh.proofs.refreshed.refresh_rest.Given as goal

abbrev pub invariant-loop-unit : goal.invariant-loop-unit
invariant-loop-unit g l =
    let meaning = g.C.UnitCheck.meaning in
    let header = g.C.Text.ReadText.header in
    let pre = g.P.Answers.table l.predefined in
    let first = take l.unit-index l.rest in
    let later = drop l.unit-index l.rest in record {
      built : (before : List UnitKey) (is_faultless : UnitKey → Bool) (is : IsSetting (setting header l.sources is_faultless pre)) → AllKeepLaw meaning header (settled_at l.fn.entries) → Progress meaning header l.sources is_faultless pre is (settled_at l.fn.entries) (within before (now_at l.fn.entries)) before l.rest l.fn.done.checked → ((u : UnitKey) → has_unit (before ++ l.rest) u ≡ false → now_at l.fn.entries u ≡ None)
          → Progress meaning header l.sources is_faultless pre is (settled_at l.fn.entries) (within (before ++ first) (now_at l.entries)) (before ++ first) later l.done.checked;
      counted : (n : ℕ) → g.C.UnitCheck.count l.fn.checker ≡ raised n (length l.fn.done.checked) → g.C.UnitCheck.count l.checker ≡ raised n (length l.done.checked);
      marks : MarksFollow pre l.entries;
      compared : IsCompared l.fn.entries l.fn.done.compared → IsCompared l.entries l.done.compared;
      unmoved : (u : UnitKey) → has_unit later u ≡ true → has_moved l.entries u ≡ false;
      others : (u : UnitKey) → has_unit l.rest u ≡ false → now_at l.entries u ≡ now_at l.fn.entries u;
      steady : IsSteady l.sources l.fn.done.checked l.fn.entries → IsSteady l.sources l.done.checked l.entries;
      left : IsLeft l.fn.entries l.entries;
    }
