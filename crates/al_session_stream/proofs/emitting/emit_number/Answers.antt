use Rattle.std.proofs.Common.{◌≡◌, ◌∙◌}
use Rattle.std.specs.Prelude.{decimal}
use Rattle.al_session_stream.proofs.emitting.emit_number.Goals as goal

pub returns-clause-adds : goal.returns-clause-adds
returns-clause-adds g c = λ start before wrote.
    let text : c.as_bytes.result.now ≡ decimal c.args.number = c.as_bytes.ensures.value ∙ c.format.ensures.text in
    rw text at (c.emit.ensures.adds start before wrote)
