use Rattle.std.proofs.Common.{◌≡◌, ◌+◌, ◌-◌, ◌++◌, [], true, length, unwrap_or, List, ℕ, Option, None, append-nil, length-append, refl, sym, ap, ◌∙◌, subst, arith, inl, inr}
use Rattle.std.specs.Io.KnownBytes.{Consumes, prepend_known}
use Rattle.al_session_served.specs.Library.{with_tick}
use Rattle.al_session_served.specs.ReplySeen.{reply_model}
use Rattle.al_session_stream.specs.Input.{source_moment}
use Rattle.al_session_stream.specs.Output.{sink_moment}
use Rattle.al_session_served.specs.Session.{IsSession, over}
use Rattle.al_session_served.specs.Lines.{first}
use Rattle.al_session_served.specs.Serving.{LacksInput}
use Rattle.al_session_stream.proofs.Moments.{reads_none, reads_then, reads_within, stops_then, appends_none, appends_then}
use Rattle.al_session_served.proofs.Turns.{wants_nothing, turned, reached_start, reached_more, session-zero, session_over, first-nil, none_left, known-nil}
use Rattle.al_session_served.proofs.Sessions.{calls_in_need, served_over, served_ends, served_last, stopped_reading, stopped_writing}
use Rattle.al_session_served.proofs.serving.serve_within.Goals as goal

-- the buffer is empty when the session starts
from_start : (x y : Option (List ℕ)) (bytes : List ℕ) → Consumes (prepend_known [] x) y bytes → Consumes x y bytes
from_start x y bytes adds = subst (λ k. Consumes k y bytes) (known-nil x) adds

-- and when the reader fails
to_stop : (x y : Option (List ℕ)) (held bytes : List ℕ) → held ≡ [] → Consumes x (prepend_known held y) bytes → Consumes x y bytes
to_stop x y held bytes none adds = subst (λ k. Consumes x k bytes) (known-nil y) (subst (λ h. Consumes x (prepend_known h y) bytes) none adds)

pub loop-init : goal.loop-init
loop-init g c = record {
  taken = [];
  done = [];
  reached = reached_start (with_tick g.L.UnitLibrary.meaning c.args.tick) (g.L.UnitLibrary.state c.args.library.now);
  reads = rw c.new-buffer.ensures (reads_none _);
  calls = inl (omega arith);
  written = appends_none (g.K.Sink.written c.args.writer.now);
  no_fault = refl;
  passed = λ passed. passed;
}

pub returns-in_err-acted-clause-read : goal.returns-in_err-acted-clause-read
returns-in_err-acted-clause-read g c = λ failed.
    let so_far = c.loop.invariant in
    let stopped = c.in_err-acted.ensures.stopped in
    let stops = stops_then (omega arith) so_far.reads stopped.2.stops in
    let cause : LacksInput c.args.pulls (so_far.taken ++ stopped.2.bytes) (source_moment g.S.Source.ahead g.S.Source.faults g.S.Source.pulls c.args.reader.now) (source_moment g.S.Source.ahead g.S.Source.faults g.S.Source.pulls c.act.new.source) = elim stops.cause [
      | inl fails ↦ inl fails.counted
      | inr spends ↦ inr (spends.no_fault, omega (arith, stops.counted, spends.none_left), omega (arith, stops.counted, spends.none_left, spends.few))
    ] in
    rw stopped.1 (stopped_reading (with_tick g.L.UnitLibrary.meaning c.args.tick) c.args.commands (g.L.UnitLibrary.state c.args.library.now) (g.L.UnitLibrary.state c.loop.library) so_far.taken so_far.done c.loop.counter so_far.reached
    c.args.pulls (source_moment g.S.Source.ahead g.S.Source.faults g.S.Source.pulls c.args.reader.now) (source_moment g.S.Source.ahead g.S.Source.faults g.S.Source.pulls c.act.new.source) (sink_moment g.K.Sink.written g.K.Sink.faults g.K.Sink.waits c.args.writer.now) (sink_moment g.K.Sink.written g.K.Sink.faults g.K.Sink.waits c.loop.writer) stopped.2.bytes c.loop-test.true stopped.2.no_command
    (from_start (g.S.Source.ahead c.args.reader.now) _ _ (to_stop _ (g.S.Source.ahead c.act.new.source) _ _ stops.none_held stops.adds)) so_far.written cause so_far.no_fault so_far.passed)

pub returns-in_default-clause-served : goal.returns-in_default-clause-served
returns-in_default-clause-served g c =
    let so_far = c.loop.invariant in
    let none = rw c.in_default.is at c.in_ok-acted.ensures.acted in
    let reads = reads_then (length so_far.taken + 1) (omega arith) so_far.reads none.2 in
    let calls = calls_in_need (with_tick g.L.UnitLibrary.meaning c.args.tick) c.args.commands (g.L.UnitLibrary.state c.args.library.now) (g.L.UnitLibrary.state c.loop.library) so_far.taken so_far.done c.loop.counter so_far.reached [] true 1 _ (g.S.Source.pulls c.act.new.source) c.loop-test.true wants_nothing reads.few in
    let left = prepend_known c.act.new.buffer.0 (g.S.Source.ahead c.act.new.source) in
    let no_more : first true (unwrap_or left []) ≡ None = ap (first true) (none_left left none.1) ∙ first-nil true in
    let nothing = session_over (with_tick g.L.UnitLibrary.meaning c.args.tick) true (c.args.commands - c.loop.counter) (g.L.UnitLibrary.state c.loop.library) [] (unwrap_or left []) no_more in
    rw none.0 (served_over (with_tick g.L.UnitLibrary.meaning c.args.tick) c.args.commands (g.L.UnitLibrary.state c.args.library.now) (g.L.UnitLibrary.state c.loop.library) so_far.taken so_far.done c.loop.counter so_far.reached
    (source_moment g.S.Source.ahead g.S.Source.faults g.S.Source.pulls c.args.reader.now) (source_moment g.S.Source.ahead g.S.Source.faults g.S.Source.pulls c.act.new.source) left (sink_moment g.K.Sink.written g.K.Sink.faults g.K.Sink.waits c.args.writer.now) (sink_moment g.K.Sink.written g.K.Sink.faults g.K.Sink.waits c.loop.writer) (omega arith) (from_start (g.S.Source.ahead c.args.reader.now) _ _ (rw append-nil at reads.adds)) so_far.written nothing
    (reads.no_fault, so_far.no_fault) (rw append-nil at calls) so_far.passed)

pub returns-clause-served : goal.returns-clause-served
returns-clause-served g c =
    let so_far = c.loop.invariant in
    let left = prepend_known c.loop.buffer.0 (g.S.Source.ahead c.loop.reader) in
    let none_left : 0 ≡ c.args.commands - c.loop.counter = omega arith in
    let nothing = subst (λ (n : ℕ). IsSession (with_tick g.L.UnitLibrary.meaning c.args.tick) true n (g.L.UnitLibrary.state c.loop.library) [] (unwrap_or left []) (over (g.L.UnitLibrary.state c.loop.library))) none_left (session-zero (with_tick g.L.UnitLibrary.meaning c.args.tick) true (g.L.UnitLibrary.state c.loop.library) [] (unwrap_or left [])) in
    served_over (with_tick g.L.UnitLibrary.meaning c.args.tick) c.args.commands (g.L.UnitLibrary.state c.args.library.now) (g.L.UnitLibrary.state c.loop.library) so_far.taken so_far.done c.loop.counter so_far.reached
    (source_moment g.S.Source.ahead g.S.Source.faults g.S.Source.pulls c.args.reader.now) (source_moment g.S.Source.ahead g.S.Source.faults g.S.Source.pulls c.loop.reader) left (sink_moment g.K.Sink.written g.K.Sink.faults g.K.Sink.waits c.args.writer.now) (sink_moment g.K.Sink.written g.K.Sink.faults g.K.Sink.waits c.loop.writer) (omega arith) (from_start (g.S.Source.ahead c.args.reader.now) _ _ so_far.reads.adds) so_far.written nothing
    (so_far.reads.no_fault, so_far.no_fault) so_far.calls so_far.passed

pub returns-in_err-write_reply-clause-write : goal.returns-in_err-write_reply-clause-write
returns-in_err-write_reply-clause-write g c = λ failed.
    let so_far = c.loop.invariant in
    let acted = rw c.in-Some.is at c.in_ok-acted.ensures.acted in
    let one = turned (with_tick g.L.UnitLibrary.meaning c.args.tick) (g.L.UnitLibrary.state c.loop.library) (g.L.UnitLibrary.state c.act.new.library) _ c.in-Some.acted.ended acted.bytes acted.last acted.command acted.is_command acted.answers in
    let reads = reads_then (length so_far.taken + acted.most) (omega arith) so_far.reads acted.reads in
    let wrote = c.in_err-write_reply.ensures.adds in
    let front = wrote.1 in
    stopped_writing (with_tick g.L.UnitLibrary.meaning c.args.tick) c.args.commands (g.L.UnitLibrary.state c.args.library.now) (g.L.UnitLibrary.state c.loop.library) so_far.taken so_far.done c.loop.counter so_far.reached
    (g.L.UnitLibrary.state c.act.new.library) _ acted.bytes c.in-Some.acted.ended acted.last one.0 one.1 (source_moment g.S.Source.ahead g.S.Source.faults g.S.Source.pulls c.args.reader.now) (source_moment g.S.Source.ahead g.S.Source.faults g.S.Source.pulls c.act.new.source) (prepend_known c.act.new.buffer.0 (g.S.Source.ahead c.act.new.source)) (sink_moment g.K.Sink.written g.K.Sink.faults g.K.Sink.waits c.args.writer.now) (sink_moment g.K.Sink.written g.K.Sink.faults g.K.Sink.waits c.write_reply.new.writer) c.loop-test.true
    (from_start (g.S.Source.ahead c.args.reader.now) _ _ reads.adds) acted.at_end wrote.0 front
    (appends_then _ (g.K.Sink.written c.loop.writer) _ _ _ so_far.written wrote.2)
    (wrote.3 ∙ ap (λ n. n + 1) so_far.no_fault) (λ none passed. wrote.5 none (so_far.passed passed))

pub returns-in-Some-ended-clause-served : goal.returns-in-Some-ended-clause-served
returns-in-Some-ended-clause-served g c =
    let so_far = c.loop.invariant in
    let acted = rw c.in-Some.is at c.in_ok-acted.ensures.acted in
    let one = turned (with_tick g.L.UnitLibrary.meaning c.args.tick) (g.L.UnitLibrary.state c.loop.library) (g.L.UnitLibrary.state c.act.new.library) _ c.in-Some.acted.ended acted.bytes acted.last acted.command acted.is_command acted.answers in
    let reads = reads_then (length so_far.taken + acted.most) (omega arith) so_far.reads acted.reads in
    let calls = calls_in_need (with_tick g.L.UnitLibrary.meaning c.args.tick) c.args.commands (g.L.UnitLibrary.state c.args.library.now) (g.L.UnitLibrary.state c.loop.library) so_far.taken so_far.done c.loop.counter so_far.reached acted.bytes acted.last acted.most _ (g.S.Source.pulls c.act.new.source) c.loop-test.true acted.wants reads.few in
    let wrote = c.in_ok-write_reply.ensures.adds in
    served_ends (with_tick g.L.UnitLibrary.meaning c.args.tick) c.args.commands (g.L.UnitLibrary.state c.args.library.now) (g.L.UnitLibrary.state c.loop.library) so_far.taken so_far.done c.loop.counter so_far.reached
    (g.L.UnitLibrary.state c.act.new.library) _ acted.bytes c.in-Some.acted.ended acted.last one.0 one.1 (source_moment g.S.Source.ahead g.S.Source.faults g.S.Source.pulls c.args.reader.now) (source_moment g.S.Source.ahead g.S.Source.faults g.S.Source.pulls c.act.new.source) (prepend_known c.act.new.buffer.0 (g.S.Source.ahead c.act.new.source)) (sink_moment g.K.Sink.written g.K.Sink.faults g.K.Sink.waits c.args.writer.now) (sink_moment g.K.Sink.written g.K.Sink.faults g.K.Sink.waits c.write_reply.new.writer) c.loop-test.true
    (from_start (g.S.Source.ahead c.args.reader.now) _ _ reads.adds) acted.at_end c.in-Some-ended.ended c.in-Some-ended.is
    (appends_then _ (g.K.Sink.written c.loop.writer) _ _ _ so_far.written wrote.0)
    (reads.no_fault, wrote.1 ∙ so_far.no_fault) calls (λ _. c.in_ok-write_reply.ensures.passed)

pub returns-then-acted-clause-served : goal.returns-then-acted-clause-served
returns-then-acted-clause-served g c =
    let so_far = c.loop.invariant in
    let acted = rw c.in-Some.is at c.in_ok-acted.ensures.acted in
    let one = turned (with_tick g.L.UnitLibrary.meaning c.args.tick) (g.L.UnitLibrary.state c.loop.library) (g.L.UnitLibrary.state c.act.new.library) _ c.in-Some.acted.ended acted.bytes acted.last acted.command acted.is_command acted.answers in
    let reads = reads_then (length so_far.taken + acted.most) (omega arith) so_far.reads acted.reads in
    let calls = calls_in_need (with_tick g.L.UnitLibrary.meaning c.args.tick) c.args.commands (g.L.UnitLibrary.state c.args.library.now) (g.L.UnitLibrary.state c.loop.library) so_far.taken so_far.done c.loop.counter so_far.reached acted.bytes acted.last acted.most _ (g.S.Source.pulls c.act.new.source) c.loop-test.true acted.wants reads.few in
    let wrote = c.in_ok-write_reply.ensures.adds in
    let none = c.in_default-ended.is in
    served_last (with_tick g.L.UnitLibrary.meaning c.args.tick) c.args.commands (g.L.UnitLibrary.state c.args.library.now) (g.L.UnitLibrary.state c.loop.library) so_far.taken so_far.done c.loop.counter so_far.reached
    (g.L.UnitLibrary.state c.act.new.library) _ acted.bytes c.in-Some.acted.ended acted.last one.0 one.1 (source_moment g.S.Source.ahead g.S.Source.faults g.S.Source.pulls c.args.reader.now) (source_moment g.S.Source.ahead g.S.Source.faults g.S.Source.pulls c.act.new.source) (prepend_known c.act.new.buffer.0 (g.S.Source.ahead c.act.new.source)) (sink_moment g.K.Sink.written g.K.Sink.faults g.K.Sink.waits c.args.writer.now) (sink_moment g.K.Sink.written g.K.Sink.faults g.K.Sink.waits c.write_reply.new.writer) c.loop-test.true
    (from_start (g.S.Source.ahead c.args.reader.now) _ _ reads.adds) acted.at_end none (sym (acted.adds none) ∙ c.if-acted.true)
    (appends_then _ (g.K.Sink.written c.loop.writer) _ _ _ so_far.written wrote.0)
    (reads.no_fault, wrote.1 ∙ so_far.no_fault) calls (λ _. c.in_ok-write_reply.ensures.passed)

pub loop-preserved : goal.loop-preserved
loop-preserved g c =
    let so_far = c.loop.invariant in
    let acted = rw c.in-Some.is at c.in_ok-acted.ensures.acted in
    let one = turned (with_tick g.L.UnitLibrary.meaning c.args.tick) (g.L.UnitLibrary.state c.loop.library) (g.L.UnitLibrary.state c.act.new.library) _ c.in-Some.acted.ended acted.bytes acted.last acted.command acted.is_command acted.answers in
    let reads = reads_then (length so_far.taken + acted.most) (omega arith) so_far.reads acted.reads in
    let calls = calls_in_need (with_tick g.L.UnitLibrary.meaning c.args.tick) c.args.commands (g.L.UnitLibrary.state c.args.library.now) (g.L.UnitLibrary.state c.loop.library) so_far.taken so_far.done c.loop.counter so_far.reached acted.bytes acted.last acted.most _ (g.S.Source.pulls c.act.new.source) c.loop-test.true acted.wants reads.few in
    let wrote = c.in_ok-write_reply.ensures.adds in
    let none = c.in_default-ended.is in
    let not_last = sym (acted.adds none) ∙ c.if-acted.false in
    record {
      taken = so_far.taken ++ acted.bytes;
      done = so_far.done ++ (reply_model (g.L.UnitLibrary.state c.act.new.library) c.in-Some.acted.reply);
      reached = reached_more acted.bytes (reply_model (g.L.UnitLibrary.state c.act.new.library) c.in-Some.acted.reply) one.0 so_far.reached (one.1.opens none not_last) (λ at_end n marks more later is. one.1.goes none at_end n marks more later (λ last. cc) is);
      reads = reads_within _ (omega (arith, length-append so_far.taken acted.bytes, acted.wants.one_more not_last)) reads;
      calls = calls;
      written = appends_then _ (g.K.Sink.written c.loop.writer) _ _ _ so_far.written wrote.0;
      no_fault = wrote.1 ∙ so_far.no_fault;
      passed = λ passed. c.in_ok-write_reply.ensures.passed;
    }
