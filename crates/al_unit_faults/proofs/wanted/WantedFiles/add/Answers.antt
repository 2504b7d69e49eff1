use Rattle.std.proofs.Common.{◌≡◌, ℕ, List, [], ◌∷◌, ◌++◌, length, subst, sym, ap, ◌∙◌, arith}
use Rattle.std.specs.Ordering.{nat_cmp}
use Rattle.std.specs.Cmp.Lexicographic.{slice_cmp}
use Rattle.std.specs.BTreeMap.{insert_entry}
use Rattle.al_unit_faults.specs.Wanted.{AreNumbered}
use Rattle.al_unit_faults.proofs.ObsoleteNumberLemmas.{numbered_added}
use Rattle.al_unit_faults.proofs.wanted.WantedFiles.add.Goals as goal

pub returns-clause-numbers : goal.returns-clause-numbers
returns-clause-numbers c =
    let names = c.args.self.now.names.items in
    let es = c.args.self.now.numbers.entries in
    let key = c.in_ok-key.key in
    let same_names : c.push.new.self.items ≡ names ++ key.items ∷ [] = c.in_ok-push.ensures.items ∙ ap (λ n. names ++ n ∷ []) (c.in_ok-from_slice.ensures ∙ sym c.in_ok-key.ensures.items) in
    let number : c.len-number.result ≡ length names = let ok = c.args.self.now.names.ok in omega (arith, c.len-number.ensures, ok) in
    let same_entries = c.in_ok-insert.ensures.entries ∙ ap (λ n. insert_entry (λ x y. slice_cmp nat_cmp x.items y.items) es key n) number in
    let P : List (List ℕ) → Type 0 = λ ns. AreNumbered ns c.insert.new.self.entries in
    subst P (sym same_names) (subst (λ fs. AreNumbered (names ++ key.items ∷ []) fs) (sym same_entries) (numbered_added names es key c.requires))
