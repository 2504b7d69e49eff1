-- Files that have the same source under each name are the same.
use Rattle.std.proofs.Common.{◌≡◌, ℕ, true, List, [], ◌∷◌, Some, None, ⊎_elim, refl, sym, ap, ◌∙◌}
use Rattle.std.specs.Cmp.{tied_itself, eq_by_cmp_equiv}
use Rattle.std.specs.Cmp.Lexicographic.{nat_list_cmp_total}
use Rattle.std.specs.Ordering.{is_eq, ordering_reverse}
use Rattle.std.specs.declared.cmp.Ordering.{Ordering}
use Rattle.std.specs.declared.cmp.Ordering.TheVariants.{Less, Equal, Greater}
use Rattle.std.specs.BTreeMap.{is_at}
use Rattle.std.specs.Map.{keys_of}
use Rattle.std.proofs.lemmas.Bool.{cases_Bool}
use Rattle.std.proofs.lemmas.Map.{lookup-none}
use Rattle.std.proofs.lemmas.Map.Entries.{lookup_head, lookup_tail, none_past_head, none_below_head}
use Rattle.std.proofs.lemmas.Map.Keys.{IsDistinct-from_sorted, sorted_tail}
use Rattle.std.proofs.lemmas.Map.Text.{is_eq-slice_cmp}
use Rattle.std.proofs.lemmas.Slice.Eq.{bytes_eq-Decides}
use Rattle.al_base.specs.FileLaws.{Ascend}
use Rattle.al_base.specs.Files.{Texts, name_cmp, text_of}

-- names that compare as equal are equal
pub tied : (p q : List ℕ) → is_eq (name_cmp p q) ≡ true → p ≡ q
tied p q same = (bytes_eq-Decides p q).0 (sym (is_eq-slice_cmp p q) ∙ same)

pub text_of_first : (e : List ℕ × List ℕ) (es : Texts) → text_of (e ∷ es) e.0 ≡ Some e.1
text_of_first e es = lookup_head (is_at (name_cmp e.0)) e es (ap is_eq (tied_itself nat_list_cmp_total e.0))

once : (q : List ℕ) (e : List ℕ × List ℕ) (es : Texts) → Ascend (e ∷ es) → is_eq (name_cmp q e.0) ≡ true → text_of es q ≡ None
once q e es sorted same = lookup-none (is_at (name_cmp q)) es (none_past_head (eq_by_cmp_equiv nat_list_cmp_total) q e es (IsDistinct-from_sorted name_cmp (keys_of (e ∷ es)) sorted) same)

below_all : (q : List ℕ) (e : List ℕ × List ℕ) (es : Texts) → Ascend (e ∷ es) → name_cmp q e.0 ≡ Less → text_of (e ∷ es) q ≡ None
below_all q e es sorted below = lookup-none (is_at (name_cmp q)) (e ∷ es) (none_below_head nat_list_cmp_total q e es sorted below)

-- two lists of files with the same source under each name, and their first files
module _ (e f : List ℕ × List ℕ) (es fs : Texts) (sorted : Ascend (e ∷ es)) (also : Ascend (f ∷ fs)) (alike : (q : List ℕ) → text_of (e ∷ es) q ≡ text_of (f ∷ fs) q) where
  by_first : (o : Ordering) → name_cmp e.0 f.0 ≡ o → is_eq (name_cmp e.0 f.0) ≡ true
  by_first Less is = let there : Some e.1 ≡ None = sym (text_of_first e es) ∙ alike e.0 ∙ below_all e.0 f fs also is in cc
  by_first Equal is = ap is_eq is
  by_first Greater is = let there : Some f.1 ≡ None = sym (text_of_first f fs) ∙ sym (alike f.0) ∙ below_all f.0 e es sorted (nat_list_cmp_total.antisymm f.0 e.0 ∙ ap ordering_reverse is) in cc

  first_name : e.0 ≡ f.0
  first_name = tied e.0 f.0 (by_first (name_cmp e.0 f.0) refl)

  first_file : e ≡ f
  first_file =
      let there : Some e.1 ≡ Some f.1 = sym (text_of_first e es) ∙ alike e.0 ∙ ap (text_of (f ∷ fs)) first_name ∙ text_of_first f fs in
      let text : e.1 ≡ f.1 = cc in
      λ i. (first_name i, text i)

  rest_alike : (q : List ℕ) → text_of es q ≡ text_of fs q
  rest_alike q =
      ⊎_elim
      (λ same. once q e es sorted same ∙ sym (once q f fs also (ap (λ n. is_eq (name_cmp q n)) (sym first_name) ∙ same)))
      (λ apart. sym (lookup_tail (is_at (name_cmp q)) e es apart) ∙ alike q ∙ lookup_tail (is_at (name_cmp q)) f fs (ap (λ n. is_eq (name_cmp q n)) (sym first_name) ∙ apart))
      (cases_Bool (is_eq (name_cmp q e.0)))

pub same_files : (es fs : Texts) → Ascend es → Ascend fs → ((q : List ℕ) → text_of es q ≡ text_of fs q) → es ≡ fs
same_files [] [] sorted also alike = refl
same_files [] (f ∷ fs) sorted also alike = let there : None ≡ Some f.1 = alike f.0 ∙ text_of_first f fs in cc
same_files (e ∷ es) [] sorted also alike = let there : Some e.1 ≡ None = sym (text_of_first e es) ∙ alike e.0 in cc
same_files (e ∷ es) (f ∷ fs) sorted also alike =
    let rest = same_files es fs (sorted_tail name_cmp e.0 (keys_of es) sorted) (sorted_tail name_cmp f.0 (keys_of fs) also) (rest_alike e f es fs sorted also alike) in
    λ i. first_file e f es fs sorted also alike i ∷ rest i
