use Rattle.std.proofs.Common.{◌∙◌, append_assoc, arith, rules, slice_index_or}
use Rattle.std.proofs.lemmas.List.{take_all}
use Rattle.al_folder.specs.Excerpts.{blanks_for}
use Rattle.al_folder.proofs.ToldLines.{bytes_more}
use Rattle.al_folder.proofs.excerpt.emit_blanks.Goals as goal

pub loop-byte-preserved : goal.loop-byte-preserved
loop-byte-preserved g c = record {
  adds = λ start before wrote.
      let more = bytes_more blanks_for c.args.bytes.now c.loop-byte.byte-index (slice_index_or c.args.bytes.now c.loop-byte.byte-index 0) (omega arith) (search rules) in
      let so_far = rw c.blanks_for.ensures at (c.emit-so_far.ensures.adds start _ (c.loop-byte.invariant.adds start before wrote)) in
      rw more (rw append_assoc at so_far);
  room = λ ok.
      let one = c.emit-so_far.ensures.faults ok in
      let before = c.loop-byte.invariant.room one.0 in
      (before.0, one.1 ∙ before.1);
}

pub returns-clause-adds : goal.returns-clause-adds
returns-clause-adds g c = λ start before wrote.
    rw (take_all c.loop-byte.byte-index c.args.bytes.now (omega arith)) at (c.loop-byte.invariant.adds start before wrote)
