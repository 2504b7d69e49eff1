use Rattle.std.proofs.Common.{◌≡◌, ℕ, ◌+◌, List, ◌++◌, length, IsTrue, false}
use Rattle.al_session_stream.specs.Input.{moment, Reads}
use Rattle.al_session_stream.proofs.reading.read_text.Given as goal

-- so many bytes were read, and kept if there was memory
abbrev pub invariant-loop-left : goal.invariant-loop-left
invariant-loop-left g l = record {
  bytes : List ℕ;
  count : length bytes + l.left ≡ l.fn.len;
  kept : IsTrue l.text.kept → IsTrue l.fn.text.kept × (l.text.bytes.items ≡ l.fn.text.bytes.items ++ bytes);
  dropped : l.fn.text.kept ≡ false → (l.text.kept ≡ false) × (l.text.bytes.items ≡ l.fn.text.bytes.items);
  reads : Reads (moment g.S.Source.ahead g.S.Source.faults g.S.Source.pulls l.fn.source l.fn.buffer) (moment g.S.Source.ahead g.S.Source.faults g.S.Source.pulls l.source l.buffer) bytes (length bytes);
}

abbrev pub decreases-loop-left : goal.decreases-loop-left
decreases-loop-left g l = l.left
