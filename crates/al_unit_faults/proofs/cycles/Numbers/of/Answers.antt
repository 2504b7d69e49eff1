use Rattle.std.proofs.Common.{◌≡◌, ◌+◌, ◌<◌, ℕ, List, [], map, length, get_or, ap, subst, sym, ◌∙◌, arith}
use Rattle.std.proofs.lemmas.Grind.{common_steps}
use Rattle.std.specs.BTreeMap.{insert_entry}
use Rattle.al_base.specs.Files.{name_cmp}
use Rattle.al_unit_faults.specs.Numbers.{IsNumbering}
use Rattle.al_unit_faults.proofs.NumberLemmas.{names_of, names_of-insert_entry, one_more_number}
use Rattle.al_unit_faults.proofs.cycles.Numbers.of.Goals as goal

pub loop-i-preserved : goal.loop-i-preserved
loop-i-preserved c =
    let files = map (λ n. n.now) c.args.files.now in
    let i = c.loop-i.i in
    let es = c.loop-i.places.entries in
    let within : i < length files = grind (arith, common_steps, c.loop-i-test.true) in
    let file : c.in_ok-file.file.items ≡ get_or files i [] = grind (arith, common_steps, c.in_ok-file.ensures.items, c.loop-i-test.true) in
    let same = ap names_of c.in_ok-insert.ensures.entries ∙ names_of-insert_entry es c.in_ok-file.file i ∙ ap (λ k. insert_entry name_cmp (names_of es) k i) file in
    let P : List (List ℕ × ℕ) → Type 0 = λ ns. IsNumbering files (i + 1) ns in
    subst P (sym same) (one_more_number files (names_of es) i c.loop-i.invariant within)
