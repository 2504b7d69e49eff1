-- The files are a finite map: what each change does to the text under a name.
use Rattle.std.proofs.Common.{◌≡◌, ◌≢◌, ℕ, Bool, true, false, List, [], ◌∷◌, Option, Some, None, refl, sym, ap, ◌∙◌}
use Rattle.std.specs.Ordering.{is_eq, ordering_reverse}
use Rattle.std.specs.declared.cmp.Ordering.{Ordering}
use Rattle.std.specs.declared.cmp.Ordering.TheVariants.{Less, Equal, Greater}
use Rattle.std.specs.Cmp.Lexicographic.{nat_list_cmp_total}
use Rattle.std.specs.List.{AllByRecursion}
use Rattle.std.specs.List.Sorted.{IsStrictlySortedBy}
use Rattle.std.specs.Map.{keys_of}
use Rattle.std.proofs.lemmas.Map.Keys.{sorted_head, sorted_tail}
use Rattle.std.proofs.lemmas.Map.Text.{is_eq-slice_cmp}
use Rattle.std.proofs.lemmas.Slice.Eq.{bytes_eq-Decides}
use Rattle.std.specs.Str.{bytes_eq}
use Rattle.al_base.specs.Files.{Texts, name_cmp, text_of, with_file, without_file, with_text}
use Rattle.al_base.specs.FileLaws.{Ascend, Moves, PutChangesOne, DeleteChangesOne, RenameMovesOne}
use Rattle.al_base.proofs.Renames.{text_of-with_file, text_of-with_file_other, text_of-without_file_other, all_above, MayRename, may_rename}

-- two names that differ don't tie
apart : (p q : List ℕ) → p ≢ q → is_eq (name_cmp p q) ≡ false
apart p q differ = is_eq-slice_cmp p q ∙ untold (bytes_eq p q) refl
  where
    untold : (b : Bool) → bytes_eq p q ≡ b → b ≡ false
    untold false is = refl
    untold true is = absurd (differ ((bytes_eq-Decides p q).0 is))

-- no text below the first name
text_of-above : (es : Texts) (k : List ℕ) → AllByRecursion (λ n. name_cmp k n ≡ Less) (keys_of es) → text_of es k ≡ None
text_of-above [] k below = refl
text_of-above (e ∷ es) k below = let first = below.0 in rw first (text_of-above es k below.1)

text_of-without_file : (es : Texts) (k : List ℕ) → Ascend es → text_of (without_file es k) k ≡ None
text_of-without_file [] k sorted = refl
text_of-without_file (e ∷ es) k sorted = step (name_cmp k e.0) refl (text_of-without_file es k (sorted_tail name_cmp e.0 (keys_of es) sorted))
  where
    step : (o : Ordering) → name_cmp k e.0 ≡ o → text_of (without_file es k) k ≡ None → text_of (without_file (e ∷ es) k) k ≡ None
    step Less is rest = rw is (rw is rest)
    step Equal is rest = rw is (text_of-above es k (like (keys_of es) (sorted_head name_cmp e.0 (keys_of es) sorted)))
      where
        like : (ns : List (List ℕ)) → AllByRecursion (λ n. name_cmp e.0 n ≡ Less) ns → AllByRecursion (λ n. name_cmp k n ≡ Less) ns
        like [] below = tt
        like (n ∷ ns) below = (nat_list_cmp_total.congr k e.0 n is ∙ below.0, like ns below.1)
    step Greater is rest = rw is (rw is rest)

-- a name below all names of a list is below those of the list with one name more that it is below, and of the list without one
below-with_file : (es : Texts) (b k v : List ℕ) → name_cmp b k ≡ Less → AllByRecursion (λ n. name_cmp b n ≡ Less) (keys_of es) → AllByRecursion (λ n. name_cmp b n ≡ Less) (keys_of (with_file es k v))
below-with_file [] b k v first below = (first, tt)
below-with_file (e ∷ es) b k v first below = step (name_cmp k e.0) refl (below-with_file es b k v first below.1)
  where
    step : (o : Ordering) → name_cmp k e.0 ≡ o → AllByRecursion (λ n. name_cmp b n ≡ Less) (keys_of (with_file es k v)) → AllByRecursion (λ n. name_cmp b n ≡ Less) (keys_of (with_file (e ∷ es) k v))
    step Less is rest = rw is (first, below)
    step Equal is rest = rw is below
    step Greater is rest = rw is (below.0, rest)

below-without_file : (es : Texts) (b k : List ℕ) → AllByRecursion (λ n. name_cmp b n ≡ Less) (keys_of es) → AllByRecursion (λ n. name_cmp b n ≡ Less) (keys_of (without_file es k))
below-without_file [] b k below = tt
below-without_file (e ∷ es) b k below = step (name_cmp k e.0) refl (below-without_file es b k below.1)
  where
    step : (o : Ordering) → name_cmp k e.0 ≡ o → AllByRecursion (λ n. name_cmp b n ≡ Less) (keys_of (without_file es k)) → AllByRecursion (λ n. name_cmp b n ≡ Less) (keys_of (without_file (e ∷ es) k))
    step Less is rest = rw is (below.0, rest)
    step Equal is rest = rw is below.1
    step Greater is rest = rw is (below.0, rest)

pub Ascend-with_file : (es : Texts) (k v : List ℕ) → Ascend es → Ascend (with_file es k v)
unfolding IsStrictlySortedBy
Ascend-with_file [] k v sorted = (tt, tt)
Ascend-with_file (e ∷ es) k v sorted = step (name_cmp k e.0) refl (Ascend-with_file es k v sorted.1)
  where
    step : (o : Ordering) → name_cmp k e.0 ≡ o → Ascend (with_file es k v) → Ascend (with_file (e ∷ es) k v)
    step Less is rest = rw is ((is, all_above (keys_of es) k e.0 is sorted.0), sorted)
    step Equal is rest = rw is sorted
    step Greater is rest = rw is (below-with_file es e.0 k v (nat_list_cmp_total.antisymm e.0 k ∙ ap ordering_reverse is) sorted.0, rest)

pub Ascend-without_file : (es : Texts) (k : List ℕ) → Ascend es → Ascend (without_file es k)
unfolding IsStrictlySortedBy
Ascend-without_file [] k sorted = tt
Ascend-without_file (e ∷ es) k sorted = step (name_cmp k e.0) refl (Ascend-without_file es k sorted.1)
  where
    step : (o : Ordering) → name_cmp k e.0 ≡ o → Ascend (without_file es k) → Ascend (without_file (e ∷ es) k)
    step Less is rest = rw is (below-without_file es e.0 k sorted.0, rest)
    step Equal is rest = rw is sorted.1
    step Greater is rest = rw is (below-without_file es e.0 k sorted.0, rest)

pub put_changes_one : PutChangesOne
put_changes_one files name text sorted = record {
  there = text_of-with_file files name text;
  others = λ other differ. text_of-with_file_other files name text other (apart other name differ);
  ascend = Ascend-with_file files name text sorted;
}

pub delete_changes_one : DeleteChangesOne
delete_changes_one files name sorted = record {
  there = text_of-without_file files name sorted;
  others = λ other differ. text_of-without_file_other files name other (apart other name differ);
  ascend = Ascend-without_file files name sorted;
}

pub rename_moves_one : RenameMovesOne
rename_moves_one files old new sorted none = told (text_of files old) refl
  where
    may : MayRename files old new
    may = may_rename files old new none

    told : (t : Option (List ℕ)) → text_of files old ≡ t → Moves files (with_text t (without_file files old) new) old new
    told None is = let there = may.there in cc
    told (Some text) is = record {
      moved = text_of-with_file (without_file files old) new text ∙ sym is;
      gone = text_of-with_file_other (without_file files old) new text old may.apart ∙ text_of-without_file files old sorted;
      others = λ other unlike_old unlike_new. text_of-with_file_other (without_file files old) new text other (apart other new unlike_new) ∙ text_of-without_file_other files old other (apart other old unlike_old);
      ascend = Ascend-with_file (without_file files old) new text (Ascend-without_file files old sorted);
    }
