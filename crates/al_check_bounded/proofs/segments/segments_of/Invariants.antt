use Rattle.std.proofs.Common.{◌≡◌, ◌++◌, [], drop}
use Rattle.al_check_bounded.specs.Segments.{segments_from}
use Rattle.al_check_bounded.proofs.segments.segments_of.Given as goal

abbrev pub invariant-loop-byte : goal.invariant-loop-byte
invariant-loop-byte l = l.segments.items ++ segments_from l.segment.items (drop l.byte-index l.name) ≡ segments_from [] l.name
