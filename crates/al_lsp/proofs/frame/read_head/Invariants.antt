use Rattle.std.proofs.Common.{◌≡◌, ℕ, ◌≤◌, ◌<◌, false, length, take}
use Rattle.al_session_stream.specs.Input.{moment, budget, Reads}
use Rattle.al_lsp.specs.Heads.{ends_head}
use Rattle.al_lsp.proofs.frame.read_head.Given as goal

-- what was read ends no head yet
abbrev pub invariant-loop-byte : goal.invariant-loop-byte
invariant-loop-byte g l = record {
  reads : Reads (moment g.S.Source.ahead g.S.Source.faults g.S.Source.pulls l.fn.source l.fn.buffer) (moment g.S.Source.ahead g.S.Source.faults g.S.Source.pulls l.source l.buffer) l.head.items (length l.head.items);
  short : length l.head.items < 4096;
  open_yet : (n : ℕ) → n ≤ length l.head.items → ends_head (take n l.head.items) ≡ false;
}

abbrev pub decreases-loop-byte : goal.decreases-loop-byte
decreases-loop-byte g l = budget l.buffer
