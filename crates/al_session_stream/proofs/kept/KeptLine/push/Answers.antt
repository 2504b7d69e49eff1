use Rattle.std.proofs.Common.{◌++◌, ◌∷◌, [], take, arith, sym, ◌∙◌}
use Rattle.std.proofs.lemmas.List.{take_more_set, take_all, take-append-le, length-take-le, length_push}
use Rattle.al_session_stream.proofs.kept.KeptLine.push.Goals as goal

pub returns-then-self-lt601 : goal.returns-then-self-lt601
returns-then-self-lt601 c =
    let more = take_more_set c.self.inside.bytes c.self.inside.len c.args.b (omega arith) in
    let front = take c.self.inside.len c.self.inside.bytes in
    let count = length-take-le c.self.inside.len c.self.inside.bytes (omega arith) in
    rw (← c.self.view_is) (more ∙ sym (take_all 601 (front ++ c.args.b ∷ []) (omega (arith, count, length_push front c.args.b))))

pub returns-else-self-lt601 : goal.returns-else-self-lt601
returns-else-self-lt601 c =
    let front = take c.self.inside.len c.self.inside.bytes in
    let count = length-take-le c.self.inside.len c.self.inside.bytes (omega arith) in
    rw (← c.self.view_is) (sym (take-append-le 601 front (c.args.b ∷ []) (omega arith) ∙ take_all 601 front (omega arith)))
