use Rattle.std.proofs.Common.{◌≡◌, IsOk}
use Rattle.al_listing.proofs.listing.emit_code.Given as goal

abbrev pub invariant-loop-instruction : goal.invariant-loop-instruction
invariant-loop-instruction g l = IsOk l.so_far → IsOk l.fn.so_far × (g.K.Sink.faults l.writer ≡ g.K.Sink.faults l.fn.writer)
