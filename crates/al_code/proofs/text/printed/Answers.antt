use Rattle.std.proofs.Common.{◌≡◌, min, length, arith}
use Rattle.std.proofs.lemmas.List.{take_min}
use Rattle.al_code.proofs.text.printed.Goals as goal

pub returns-clause-value : goal.returns-clause-value
returns-clause-value c =
    let swapped : min (length c.as_slice-bytes.result.now) 255 ≡ min 255 (length c.as_slice-bytes.result.now) = omega arith in
    rw (← c.as_slice-bytes.ensures, ← take_min 255 c.as_slice-bytes.result.now, ← swapped, ← c.min-end.ensures) c.from_slice.ensures
