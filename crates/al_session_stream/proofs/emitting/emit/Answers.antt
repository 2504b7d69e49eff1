use Rattle.std.proofs.Common.{sym, ◌∙◌}
use Rattle.al_session_stream.proofs.Emits.{emits, stays, wrote_all}
use Rattle.al_session_stream.proofs.emitting.emit.Goals as goal

pub returns-then-is_err-clause-adds : goal.returns-then-is_err-clause-adds
returns-then-is_err-clause-adds g c = λ start before wrote. stays start _ before c.args.piece.now c.args.so_far (sym c.is_err.ensures.value ∙ c.if-is_err.true) wrote

pub returns-clause-adds : goal.returns-clause-adds
returns-clause-adds g c = λ start before wrote.
    let all = wrote_all start _ before c.args.so_far (sym c.is_err.ensures.value ∙ c.if-is_err.false) wrote in
    emits start _ _ before c.args.piece.now c.write_all.result all c.write_all.ensures
