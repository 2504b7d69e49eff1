use Rattle.std.proofs.Common.{◌+◌, ◌++◌, ◌∷◌, [], length, refl, ap, ◌∙◌, true, false, inl, inr}
use Rattle.std.proofs.lemmas.Result.{err_from_is_err_and}
use Rattle.al_session_served.specs.Lines.{Put, BadLength}
use Rattle.al_session_served.specs.ReplySeen.{reply_model}
use Rattle.al_session_served.proofs.Commands.{text_whole, text_short, text_bad, text_open, wants_text, wants_end_in_text, wants_line_end}
use Rattle.al_session_served.proofs.act.act_on_text.Goals as goal

pub returns-in_err-read_text-clause-stopped : goal.returns-in_err-read_text-clause-stopped
returns-in_err-read_text-clause-stopped g c =
    let p = err_from_is_err_and c.from_residual.result c.from_residual.ensures.1 in
    let read = c.in_err-read_text.ensures.read in
    rw (p.1, p.2) (read.3, refl, record { bytes = read.0; no_text = text_open c.args.name.now c.args.len read.0 read.1; stops = read.2 })

pub returns-then-not-branch-clause-acted : goal.returns-then-not-branch-clause-acted
returns-then-not-branch-clause-acted g c =
    let read = rw c.if-not-branch.true at c.in_ok-read_text.ensures.read in
    let bad = c.bad_length.ensures in
    elim read.1 [
      | inl short ↦ record {
        command = BadLength;
        bytes = read.0;
        last = true;
        most = length read.0 + 1;
        reads = short.1;
        wants = wants_end_in_text c.args.name.now c.args.len read.0 short.0;
        is_text = text_short c.args.name.now c.args.len read.0 short.0;
        answers = (bad.ended, ap (reply_model (g.L.UnitLibrary.state c.args.library.now)) bad.reply, refl);
        at_end = λ _. short.2;
        goes_on = λ none. cc;
      }
      | inr wrong ↦ record {
        command = BadLength;
        bytes = read.0;
        last = false;
        most = c.args.len + 1;
        reads = wrong.2;
        wants = wants_line_end c.args.name.now c.args.len read.0 wrong.0;
        is_text = text_bad c.args.name.now c.args.len read.0 wrong.0 wrong.1;
        answers = (bad.ended, ap (reply_model (g.L.UnitLibrary.state c.args.library.now)) bad.reply, refl);
        at_end = λ e. cc;
        goes_on = λ none. refl;
      }
    ]

pub returns-clause-acted : goal.returns-clause-acted
returns-clause-acted g c =
    let read = rw c.if-not-branch.false at c.in_ok-read_text.ensures.read in
    record {
      command = Put c.args.name.now read.0;
      bytes = read.0 ++ 10 ∷ [];
      last = false;
      most = c.args.len + 1;
      reads = read.3;
      wants = wants_text c.args.name.now c.args.len read.0 read.1;
      is_text = text_whole c.args.name.now c.args.len read.0 read.1;
      answers = (refl, c.put-reply.ensures c.args.tick read.0 read.1 (λ kept. (read.2 kept).1 ∙ ap (λ bs. bs ++ read.0) c.new-text.ensures.bytes));
      at_end = λ e. cc;
      goes_on = λ none. refl;
    }
