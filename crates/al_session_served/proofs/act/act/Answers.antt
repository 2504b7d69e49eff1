use Rattle.std.proofs.Common.{◌≡◌, ◌<◌, false, length, refl, ap, ◌∙◌, arith}
use Rattle.std.proofs.lemmas.Result.{err_from_is_err_and}
use Rattle.al_session_served.specs.Lines.{PutLine, BadPutLine, WholeLine, BadLength, line_of}
use Rattle.al_session_served.specs.LineSeen.{simple_model}
use Rattle.al_session_served.specs.Library.{with_tick}
use Rattle.al_session_served.specs.ReplySeen.{reply_model}
use Rattle.al_session_served.proofs.Commands.{first_open, acts_on_line, acts_on_last_put, acts_on_put, stops_in_put, simple_whole}
use Rattle.al_session_served.proofs.act.act.Goals as goal
use Rattle.al_session_served.proofs.act.act.Goals.{else-not-has_end-via-then-not-has_end+else-is_empty, else-not-has_end-via-else-not-has_end}

pub returns-in_err-has_end-clause-stopped : goal.returns-in_err-has_end-clause-stopped
returns-in_err-has_end-clause-stopped g c =
    let p = err_from_is_err_and c.from_residual.result c.from_residual.ensures.1 in
    let read = c.in_err-has_end.ensures in
    rw (p.1, p.2) (read.3, refl, record { bytes = read.0; no_command = first_open read.0 read.1; stops = read.2 })

pub returns-in_err-acted-in-Put-clause-stopped : goal.returns-in_err-acted-in-Put-clause-stopped
returns-in_err-acted-in-Put-clause-stopped g c =
    let p = err_from_is_err_and c.from_residual-in_err-acted-in-Put.result c.from_residual-in_err-acted-in-Put.ensures.1 in
    let read = rw c.if-is_last.false at c.in_ok-has_end.ensures in
    let stopped = c.in_err-acted-in-Put.ensures.stopped in
    rw (p.1, p.2) (stopped.0, stopped.1, stops_in_put _ _ _ c.read_line.new.line c.in-Put.name.now c.in-Put.len read (c.in-Put.ensures.says ∙ ap line_of c.as_slice-line.ensures) stopped.2)

pub returns-then-is_last-clause-acted : goal.returns-then-is_last-clause-acted
returns-then-is_last-clause-acted g c =
    let read = rw c.if-is_last.true at c.in_ok-has_end.ensures in
    let some : 0 < length c.read_line.new.line = elim c.else-not-has_end.branch [
      | else-not-has_end-via-then-not-has_end+else-is_empty w ↦ grind (arith, w.if-is_empty.false, c.as_slice-line.ensures)
      | else-not-has_end-via-else-not-has_end w ↦ cc
    ] in
    acts_on_last_put (with_tick g.L.UnitLibrary.meaning c.args.tick) _ _ c.read_line.new.line c.in-Put.name.now c.in-Put.len read (c.in-Put.ensures.says ∙ ap line_of c.as_slice-line.ensures) some _ _ _ _ _ (c.bad_length.ensures.ended, ap (reply_model (g.L.UnitLibrary.state c.args.library.now)) c.bad_length.ensures.reply, refl)

pub returns-in-Put-clause-acted : goal.returns-in-Put-clause-acted
returns-in-Put-clause-acted g c =
    let read = rw c.if-is_last.false at c.in_ok-has_end.ensures in
    let acted = c.in_ok-acted-in-Put.ensures in
    acts_on_put (with_tick g.L.UnitLibrary.meaning c.args.tick) _ _ _ c.read_line.new.line (PutLine c.in-Put.name.now c.in-Put.len) read (c.in-Put.ensures.says ∙ ap line_of c.as_slice-line.ensures) _ _ _ _ _ acted.not_last acted.acted

pub returns-in-BadPut-clause-acted : goal.returns-in-BadPut-clause-acted
returns-in-BadPut-clause-acted g c =
    let some : c.in_ok-has_end.has_end ≡ false → 0 < length c.read_line.new.line = λ e. elim c.else-not-has_end.branch [
      | else-not-has_end-via-then-not-has_end+else-is_empty w ↦ grind (arith, w.if-is_empty.false, c.as_slice-line.ensures)
      | else-not-has_end-via-else-not-has_end w ↦ let t = w.if-not-has_end.false in cc
    ] in
    let bad = c.bad_length-in-BadPut.ensures in
    acts_on_line (with_tick g.L.UnitLibrary.meaning c.args.tick) _ _ c.read_line.new.line c.in_ok-has_end.has_end BadPutLine BadLength c.in_ok-has_end.ensures (c.in-BadPut.ensures.says ∙ ap line_of c.as_slice-line.ensures) some (λ at_end more. refl) _ _ _ _ _ (bad.ended, ap (reply_model (g.L.UnitLibrary.state c.args.library.now)) bad.reply, refl) (λ none. let e = bad.ended in cc)

pub returns-clause-acted : goal.returns-clause-acted
returns-clause-acted g c =
    let some : c.in_ok-has_end.has_end ≡ false → 0 < length c.read_line.new.line = λ e. elim c.else-not-has_end.branch [
      | else-not-has_end-via-then-not-has_end+else-is_empty w ↦ grind (arith, w.if-is_empty.false, c.as_slice-line.ensures)
      | else-not-has_end-via-else-not-has_end w ↦ let t = w.if-not-has_end.false in cc
    ] in
    acts_on_line (with_tick g.L.UnitLibrary.meaning c.args.tick) _ _ c.read_line.new.line c.in_ok-has_end.has_end (WholeLine (simple_model c.in-Whole.command)) (simple_model c.in-Whole.command) c.in_ok-has_end.ensures (c.in-Whole.ensures.says ∙ ap line_of c.as_slice-line.ensures) some (simple_whole c.in-Whole.command) _ _ _ _ _ c.answer-reply.ensures (λ none. refl)
