use Rattle.std.proofs.Common.{◌≤◌, ◌++◌, length, take, ap, ◌∙◌, arith}
use Rattle.std.proofs.lemmas.List.{length-take-le}
use Rattle.al_session_stream.proofs.Moments.{reads_then, reads_front}
use Rattle.al_session_stream.proofs.reading.read_block.Goals as goal

pub returns-clause-read : goal.returns-clause-read
returns-clause-read g c =
    let more = c.in_ok-refill.ensures.more in
    let held = c.refill.new.self.0 in
    let count = c.min-count.result in
    let within : count ≤ length held = omega (arith, ap length c.held-held.ensures) in (
      take count held,
      length-take-le count held within,
      omega arith,
      λ kept. (c.append.ensures.kept kept, c.append.ensures.bytes kept ∙ ap (λ bs. c.args.text.now.bytes.items ++ take count bs) c.held-held.ensures),
      reads_then 1 (omega arith) more.0 (reads_front g.S.Source.ahead g.S.Source.faults g.S.Source.pulls c.refill.new.source c.refill.new.self c.skip.new.self count c.skip.ensures.rest c.skip.ensures.left),
      λ none. rw (c.skip.ensures.rest, none) (more.1 (omega (arith, ap length c.held-held.ensures))),
    )
