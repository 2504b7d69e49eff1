use Rattle.std.proofs.Common.{arith}
use Rattle.std.proofs.lemmas.Bool.Decides.{nat_tests}
use Rattle.al_base.specs.Files.{rename_refusal}
use Rattle.al_base.proofs.PairLemmas.{is_text_of-pairs_of}
use Rattle.al_base.proofs.files.Files.check_rename.Goals as goal
use Rattle.al_base.proofs.files.Files.check_rename.Goals.{then-not-is_file_name-via-then-not-is_file_name, then-not-is_file_name-via-else-not-is_file_name+then-not-is_file_name-2}

pub returns-then-not-is_file_name : goal.returns-then-not-is_file_name
unfolding rename_refusal
returns-then-not-is_file_name c = elim c.then-not-is_file_name.branch [
  | then-not-is_file_name-via-then-not-is_file_name w ↦ grind (arith, nat_tests, w.if-not-is_file_name.true, c.is_file_name.ensures)
  | then-not-is_file_name-via-else-not-is_file_name+then-not-is_file_name-2 w ↦ grind (arith, nat_tests, w.if-not-is_file_name.false, c.is_file_name.ensures, w.is_file_name-else-not-is_file_name.ensures, w.if-not-is_file_name-2.true)
]

pub returns-then-is_none : goal.returns-then-is_none
unfolding rename_refusal
returns-then-is_none c =
    let there = is_text_of-pairs_of c.self.inside.texts.entries c.args.old.now in
    rw (← c.self.view_is) (grind (arith, nat_tests, there))

pub returns-then-is_some : goal.returns-then-is_some
unfolding rename_refusal
returns-then-is_some c =
    let there = is_text_of-pairs_of c.self.inside.texts.entries c.args.old.now in
    let taken = is_text_of-pairs_of c.self.inside.texts.entries c.args.new.now in
    rw (← c.self.view_is) (grind (arith, nat_tests, there, taken))

pub returns : goal.returns
unfolding rename_refusal
returns c =
    let there = is_text_of-pairs_of c.self.inside.texts.entries c.args.old.now in
    let taken = is_text_of-pairs_of c.self.inside.texts.entries c.args.new.now in
    rw (← c.self.view_is) (grind (arith, nat_tests, there, taken))
