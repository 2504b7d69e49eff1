use Rattle.std.proofs.Common.{◌≡◌, ◌++◌, ◌-◌}
use Rattle.al_query.specs.Asked.{AsksOf, by_property}
use Rattle.al_query.specs.Known.{AreKnown, known_after}
use Rattle.al_query.specs.Reads.{FromAnswers}
use Rattle.al_check_start.specs.Starts.{IsKnown, OnlyOthers, as_list, outward}
use Rattle.al_check_start.proofs.outward.outward_from.Given as goal

abbrev pub invariant-loop-i : goal.invariant-loop-i
invariant-loop-i g l = record {
  asked : l.recorder.asked ≡ l.fn.recorder.asked;
  answered : FromAnswers l.fn.recorder.log l.recorder.log (λ t. l.units.items ++ outward t l.own (l.most - l._i) l.next ≡ outward t l.own l.most l.fn.first);
  asks : AsksOf (as_list l.fn.first) by_property l.fn.recorder.log l.recorder.log;
  others : OnlyOthers l.own l.fn.recorder.log l.recorder.log;
  next : IsKnown (known_after (as_list l.fn.first) l.recorder.log) l.next;
  known : AreKnown (known_after (as_list l.fn.first) l.recorder.log) l.units.items;
}
