use Rattle.std.proofs.Common.{◌++◌, ◌∷◌, [], take, ap, ◌∙◌, arith}
use Rattle.std.proofs.lemmas.List.{length_push}
use Rattle.al_session_stream.proofs.Moments.{reads_then}
use Rattle.al_session_stream.proofs.Cuts.{cut_at_push, take_push_kept}
use Rattle.al_session_stream.proofs.reading.read_line.Goals as goal

pub returns-then-b-eq10 : goal.returns-then-b-eq10
returns-then-b-eq10 g c =
    let so_far = c.loop-b.invariant in
    let one = rw (c.in-Some.is, c.if-b-eq10.true) at c.in_ok-b.ensures.next in
    (so_far.bytes, so_far.is_line, reads_then _ (omega arith) so_far.reads one)

pub loop-b-preserved : goal.loop-b-preserved
loop-b-preserved g c =
    let so_far = c.loop-b.invariant in
    let one = rw c.in-Some.is at c.in_ok-b.ensures.next in
    record {
      bytes = so_far.bytes ++ c.in-Some.b ∷ [];
      is_line = record {
        no_end = cut_at_push 10 c.in-Some.b so_far.bytes so_far.is_line.no_end c.if-b-eq10.false;
        kept = c.push.ensures ∙ ap (λ line. take 601 (line ++ c.in-Some.b ∷ [])) so_far.is_line.kept ∙ take_push_kept 601 so_far.bytes c.in-Some.b;
      };
      reads = reads_then _ (omega (arith, length_push so_far.bytes c.in-Some.b)) so_far.reads one;
    }
