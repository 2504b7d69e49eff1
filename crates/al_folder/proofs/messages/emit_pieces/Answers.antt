use Rattle.std.proofs.Common.{◌∙◌, append_assoc, arith, rules, [], slice_index_or}
use Rattle.std.proofs.lemmas.List.{take_all}
use Rattle.al_folder.specs.Messages.{shown_bytes}
use Rattle.al_folder.proofs.ToldLines.{lines_more}
use Rattle.al_folder.proofs.messages.emit_pieces.Goals as goal

pub loop-piece-preserved : goal.loop-piece-preserved
loop-piece-preserved g c = record {
  adds = λ start before wrote.
      let piece = slice_index_or c.args.pieces.now c.loop-piece.piece-index (record { ref_ptr = (0, 0); now = [] }) in
      let more = lines_more shown_bytes (λ piece. piece.now) c.args.pieces.now c.loop-piece.piece-index piece (omega arith) (search rules) in
      let so_far = c.emit_shown_bytes-so_far.ensures.adds start _ (c.loop-piece.invariant.adds start before wrote) in
      rw more (rw append_assoc at so_far);
  room = λ ok.
      let one = c.emit_shown_bytes-so_far.ensures.faults ok in
      let before = c.loop-piece.invariant.room one.0 in
      (before.0, one.1 ∙ before.1);
}

pub returns-clause-adds : goal.returns-clause-adds
returns-clause-adds g c = λ start before wrote.
    rw (take_all c.loop-piece.piece-index c.args.pieces.now (omega arith)) at (c.loop-piece.invariant.adds start before wrote)
