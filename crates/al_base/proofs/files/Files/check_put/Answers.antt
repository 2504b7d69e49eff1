use Rattle.std.proofs.Common.{arith}
use Rattle.std.proofs.lemmas.Bool.Decides.{nat_tests}
use Rattle.al_base.specs.Files.{put_refusal}
use Rattle.al_base.proofs.PairLemmas.{is_text_of-pairs_of, length-pairs_of}
use Rattle.al_base.proofs.files.Files.check_put.Goals as goal

pub returns-then-len-ge-MAX_FILES : goal.returns-then-len-ge-MAX_FILES
unfolding put_refusal
returns-then-len-ge-MAX_FILES c =
    let there = is_text_of-pairs_of c.self.inside.texts.entries c.args.name.now in
    let count = length-pairs_of c.self.inside.texts.entries in
    rw (← c.self.view_is) (grind (arith, nat_tests, there, count))

pub returns : goal.returns
unfolding put_refusal
returns c =
    let there = is_text_of-pairs_of c.self.inside.texts.entries c.args.name.now in
    let count = length-pairs_of c.self.inside.texts.entries in
    rw (← c.self.view_is) (grind (arith, nat_tests, there, count))
