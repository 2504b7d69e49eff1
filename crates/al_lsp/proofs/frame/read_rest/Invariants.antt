use Rattle.std.proofs.Common.{◌≡◌, length}
use Rattle.al_session_stream.specs.Input.{moment, Reads}
use Rattle.al_lsp.proofs.frame.read_rest.Given as goal

abbrev pub invariant-loop-done : goal.invariant-loop-done
invariant-loop-done g l = record {
  count : length l.body.items ≡ l._done;
  reads : Reads (moment g.S.Source.ahead g.S.Source.faults g.S.Source.pulls l.fn.source l.fn.buffer) (moment g.S.Source.ahead g.S.Source.faults g.S.Source.pulls l.source l.buffer) l.body.items (length l.body.items);
}
