use Rattle.std.proofs.Common.{◌≡◌, ltb, true, false, length, arith}
use Rattle.std.proofs.lemmas.Bool.Decides.{nat_tests}
use Rattle.al_base.specs.Batch.{key_of}
use Rattle.al_folder.proofs.Files.{length-file_name_of}
use Rattle.al_folder.proofs.runs.emit_file.Goals as goal

pub returns-then-name-gt251-clause-adds : goal.returns-then-name-gt251-clause-adds
returns-then-name-gt251-clause-adds g c = λ start before wrote.
    let above = rw c.as_slice-name.ensures at c.if-name-gt251.true in
    let long : ltb 251 (length c.args.key.now.name) ≡ true = grind (arith, nat_tests) in
    rw long (rw c.as_slice-name.ensures at (c.emit_named.ensures.adds start before wrote))

pub returns-in-Some-clause-adds : goal.returns-in-Some-clause-adds
returns-in-Some-clause-adds g c = λ start before wrote.
    let within = rw c.as_slice-name.ensures at c.if-name-gt251.false in
    let short : ltb 251 (length c.args.key.now.name) ≡ false = grind (arith, nat_tests) in
    rw short (rw (c.as_slice.ensures, c.in-Some.ensures, c.as_slice-name.ensures) at (c.emit_named-in-Some.ensures.adds start before wrote))

pub returns-in-None-clause-adds : goal.returns-in-None-clause-adds
returns-in-None-clause-adds g c = λ start before wrote.
    let within = rw c.as_slice-name.ensures at c.if-name-gt251.false in
    let beyond = rw c.as_slice-name.ensures at c.in-None.ensures in
    let few = length-file_name_of (key_of c.args.key.now) in
    absurd (omega (arith, within, beyond, few))
