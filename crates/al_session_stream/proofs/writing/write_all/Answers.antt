use Rattle.std.proofs.Common.{◌<◌, ◌+◌, length, take, drop, sym, refl, ap, ◌∙◌, arith}
use Rattle.std.proofs.Math.Seq.{take-add}
use Rattle.std.proofs.lemmas.List.{take_rest, length-drop, length-take-le}
use Rattle.std.proofs.lemmas.List as lists
use Rattle.al_session_stream.proofs.Moments.{appends_then, appends_keeps}
use Rattle.al_session_stream.proofs.writing.write_all.Goals as goal

pub loop-done-preserved : goal.loop-done-preserved
loop-done-preserved g c =
    let so_far = c.loop-done.invariant in
    let rest = take_rest c.args.bytes.now c.loop-done.done in
    let adds = rw rest at c.in-Ok.ensures.bytes in
    record {
      in_range = omega (arith, rw rest at c.in-Ok.ensures.bound, length-drop c.loop-done.done c.args.bytes.now, so_far.in_range);
      adds = rw (take-add c.loop-done.done c.in-Ok.count c.args.bytes.now) (appends_then (g.K.Sink.written c.args.writer.now) (g.K.Sink.written c.loop-done.writer) (g.K.Sink.written c.push.new.self) _ _ so_far.adds adds);
      faults = c.in-Ok.ensures.fault ∙ so_far.faults;
      passed = λ none. let some : 0 < length (drop c.loop-done.done c.args.bytes.now) = omega (arith, length-drop c.loop-done.done c.args.bytes.now) in absurd (omega (arith, rw rest at c.in-Ok.ensures.some some));
    }

pub returns-in-Err : goal.returns-in-Err
returns-in-Err g c =
    let so_far = c.loop-done.invariant in (
      take c.loop-done.done c.args.bytes.now,
      (drop c.loop-done.done c.args.bytes.now, sym (lists.take-append-drop c.loop-done.done c.args.bytes.now)),
      appends_keeps (g.K.Sink.written c.args.writer.now) (g.K.Sink.written c.loop-done.writer) (g.K.Sink.written c.push.new.self) _ so_far.adds c.in-Err.ensures.bytes,
      c.in-Err.ensures.fault ∙ ap (λ n. n + 1) so_far.faults,
      refl,
      λ none passed. c.in-Err.ensures.held ∙ so_far.passed (omega (arith, length-take-le c.loop-done.done c.args.bytes.now so_far.in_range, ap length none)) passed,
    )
