use Rattle.std.proofs.Common.{◌≡◌, ◌++◌, ◌∷◌, [], length, sym, ◌∙◌, append-nil, length-append, arith, inl, inr}
use Rattle.std.proofs.lemmas.List.{length_push, get_or_push}
use Rattle.al_session_stream.proofs.Moments.{append_then, reads_none, reads_then}
use Rattle.al_session_stream.proofs.reading.read_text.Goals as goal

pub loop-left-init : goal.loop-left-init
loop-left-init g c = record {
  bytes = [];
  count = omega arith;
  kept = λ kept. (c.reserve.ensures.kept kept, c.reserve.ensures.bytes ∙ sym (append-nil c.args.text.now.bytes.items));
  dropped = λ none. (c.reserve.ensures.dropped none, c.reserve.ensures.bytes);
  reads = reads_none _;
}

pub loop-left-preserved : goal.loop-left-preserved
loop-left-preserved g c =
    let so_far = c.loop-left.invariant in
    let block = c.in_ok-count.ensures.read in
    record {
      bytes = so_far.bytes ++ block.0;
      count = omega (arith, length-append so_far.bytes block.0, block.1, block.2, so_far.count);
      kept = λ kept.
          let now = block.3 kept in
          let before = so_far.kept now.0 in
          (before.0, append_then c.args.text.now.bytes.items c.loop-left.text.bytes.items c.read_block.new.text.bytes.items so_far.bytes block.0 before.1 now.1);
      dropped = λ none.
          let before = so_far.dropped none in
          let now = c.in_ok-count.ensures.dropped before.0 in
          (now.0, cc);
      reads = reads_then _ (omega (arith, length-append so_far.bytes block.0, block.1)) so_far.reads block.4;
    }

pub returns-then-after-ne10-clause-read : goal.returns-then-after-ne10-clause-read
returns-then-after-ne10-clause-read g c =
    let so_far = c.loop-left.invariant in
    let one = rw c.in-Some.is at c.in_ok-after.ensures.next in
    let last = get_or_push so_far.bytes c.in-Some.after 0 c.args.len (omega (arith, so_far.count)) in (
      so_far.bytes ++ c.in-Some.after ∷ [],
      inr (omega (arith, length_push so_far.bytes c.in-Some.after, so_far.count), rw last c.if-after-ne10.true, reads_then _ (omega (arith, so_far.count)) so_far.reads one),
    )

pub returns-then-count-eq0-clause-read : goal.returns-then-count-eq0-clause-read
returns-then-count-eq0-clause-read g c =
    let so_far = c.loop-left.invariant in
    let block = c.in_ok-count.ensures.read in
    let none : length block.0 ≡ 0 = omega (arith, block.1) in (
      so_far.bytes ++ block.0,
      inl (
        omega (arith, length-append so_far.bytes block.0, so_far.count),
        reads_then _ (omega (arith, length-append so_far.bytes block.0)) so_far.reads block.4,
        block.5 (omega arith),
      ),
    )
