use Rattle.std.proofs.Common.{◌≡◌, ℕ, true, List, drop, length}
use Rattle.al_base.specs.declared.unit_key.UnitKey.{UnitKey}
use Rattle.al_engine_refresh.specs.Builds.{Picked, raised}
use Rattle.al_engine_refresh.specs.Moving.{IsCompared}
use Rattle.al_engine.specs.RecheckEdits.{units_of}
use Rattle.al_engine.specs.Rechecks.{HasOrder}
use Rattle.al_engine.specs.Walks.{IsUnread, IsWalked, is_edited}
use Rattle.al_engine.proofs.walking.walk.Given as goal

abbrev pub invariant-loop-edited : goal.invariant-loop-edited
invariant-loop-edited g l =
    let pre = g.P.Answers.table l.predefined in record {
      before : List UnitKey;
      rest : List UnitKey;
      walked : (has : HasOrder g.C.Text.ReadText.header pre l.sources l.order) → IsWalked g.C.UnitCheck.meaning g.C.Text.ReadText.header pre l.sources l.order has l.edits l.fn.entries l.entries before rest l.done.checked;
      unread : IsUnread l.sources l.fn.entries l.entries;
      later : Picked (λ u. is_edited l.edits u ≡ true) rest (units_of (drop l.edited-index l.row));
      compared : IsCompared l.fn.entries l.fn.done.compared → IsCompared l.entries l.done.compared;
      counted : (n : ℕ) → g.C.UnitCheck.count l.fn.checker ≡ raised n (length l.fn.done.checked) → g.C.UnitCheck.count l.checker ≡ raised n (length l.done.checked);
    }
