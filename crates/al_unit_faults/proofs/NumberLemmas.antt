-- Numbers of names.
use Rattle.std.proofs.Common.{◌≡◌, ℕ, ◌+◌, ◌<◌, ◌⊎◌, inl, inr, Bool, true, false, cond, List, [], ◌∷◌, map, length, get_or, Some, Vec, refl, ap, subst, sym, ◌∙◌, arith}
use Rattle.std.specs.Ordering.{nat_cmp, match_ordering, is_eq}
use Rattle.std.specs.declared.cmp.Ordering.{Ordering}
use Rattle.std.specs.declared.cmp.Ordering.TheVariants.{Less, Equal, Greater}
use Rattle.std.specs.Cmp.Lexicographic.{slice_cmp, nat_list_cmp_total}
use Rattle.std.specs.Map.{lookup}
use Rattle.std.specs.BTreeMap.{insert_entry, is_at}
use Rattle.std.proofs.lemmas.Cmp.{tied_itself, alike_right}
use Rattle.std.proofs.lemmas.Bool.{cases_lt}
use Rattle.al_base.specs.Files.{name_cmp}
use Rattle.al_unit_faults.specs.Numbers.{IsNumbering, number_at}
use Rattle.al_unit_faults.proofs.UnitLemmas.{some_is, same_name, told_same_name}

pub at_or_before : (j i : ℕ) → j < i + 1 → (j < i) ⊎ (j ≡ i)
at_or_before j i less = elim (cases_lt j i) [ inl h ↦ inl h | inr h ↦ inr (omega (arith, h, less)) ]

module _ {Y : Type 0} where
  abbrev pub names_of : List (Vec ℕ Y × ℕ) → List (List ℕ × ℕ)
  names_of es = map (λ e. (e.0.items, e.1)) es

  pub number_at-names_of : (es : List (Vec ℕ Y × ℕ)) (q : List ℕ) → number_at (names_of es) q ≡ lookup (is_at (λ (k : Vec ℕ Y). slice_cmp nat_cmp q k.items)) es
  number_at-names_of [] q = refl
  number_at-names_of (e ∷ es) q = ap (cond (is_eq (slice_cmp nat_cmp q e.0.items)) (Some e.1)) (number_at-names_of es q)

  pub names_of-insert_entry : (es : List (Vec ℕ Y × ℕ)) (k : Vec ℕ Y) (v : ℕ) → names_of (insert_entry (λ x y. slice_cmp nat_cmp x.items y.items) es k v) ≡ insert_entry name_cmp (names_of es) k.items v
  names_of-insert_entry [] k v = refl
  names_of-insert_entry (e ∷ es) k v =
      elim (slice_cmp nat_cmp k.items e.0.items) as (λ o. names_of (match_ordering o ((k, v) ∷ e ∷ es) ((e.0, v) ∷ es) (e ∷ insert_entry (λ x y. slice_cmp nat_cmp x.items y.items) es k v)) ≡ match_ordering o ((k.items, v) ∷ names_of (e ∷ es)) ((e.0.items, v) ∷ names_of es) ((e.0.items, e.1) ∷ insert_entry name_cmp (names_of es) k.items v)) [
        | Less ↦ refl
        | Equal ↦ refl
        | Greater ↦ ap (λ ns. (e.0.items, e.1) ∷ ns) (names_of-insert_entry es k v)
      ]

abbrev Numbers : Type 0
Numbers = List (List ℕ × ℕ)

abbrev with_number : Numbers → List ℕ → ℕ → Numbers
with_number ns k v = insert_entry name_cmp ns k v

number_here : (ns : Numbers) (k : List ℕ) (v : ℕ) → number_at (with_number ns k v) k ≡ Some v
number_here [] k v = rw (tied_itself nat_list_cmp_total k) refl
number_here (e ∷ es) k v = step (name_cmp k e.0) refl (number_here es k v)
  where
    step : (o : Ordering) → name_cmp k e.0 ≡ o → number_at (with_number es k v) k ≡ Some v → number_at (with_number (e ∷ es) k v) k ≡ Some v
    step Less is rest = rw is (rw (tied_itself nat_list_cmp_total k) refl)
    step Equal is rest = rw (is, is) refl
    step Greater is rest = rw (is, is) rest

number_other : (ns : Numbers) (k : List ℕ) (v : ℕ) (q : List ℕ) → is_eq (name_cmp q k) ≡ false → number_at (with_number ns k v) q ≡ number_at ns q
number_other [] k v q apart = rw apart refl
number_other (e ∷ es) k v q apart = step (name_cmp k e.0) refl (number_other es k v q apart)
  where
    step : (o : Ordering) → name_cmp k e.0 ≡ o → number_at (with_number es k v) q ≡ number_at es q → number_at (with_number (e ∷ es) k v) q ≡ number_at (e ∷ es) q
    step Less is rest = rw (is, apart) refl
    step Equal is rest = let off : is_eq (name_cmp q e.0) ≡ false = ap is_eq (sym (alike_right nat_list_cmp_total k e.0 q is)) ∙ apart in rw (is, off) refl
    step Greater is rest = rw is (ap (cond (is_eq (name_cmp q e.0)) (Some e.1)) rest)

module _ (files : List (List ℕ)) where
  abbrev file_at : ℕ → List ℕ
  file_at i = get_or files i []

  pub no_numbers : IsNumbering files 0 []
  no_numbers = record {
    right = λ file n is. absurd (cc);
    total = λ i less. absurd (omega (arith, less));
  }

  module _ (ns : Numbers) (i : ℕ) (so_far : IsNumbering files i ns) (within : i < length files) where
    right_by : (file : List ℕ) (n : ℕ) (b : Bool) → is_at (name_cmp file) (file_at i) ≡ b → number_at (with_number ns (file_at i) i) file ≡ Some n → (n < length files) × (file_at n ≡ file)
    right_by file n true same is =
        let here = same_name file (file_at i) same in
        let there = subst (λ f. number_at (with_number ns (file_at i) i) f ≡ Some n) here is in
        let number = some_is i n (sym (number_here ns (file_at i) i) ∙ there) in
        (subst (λ m. m < length files) number within, ap file_at (sym number) ∙ sym here)
    right_by file n false apart is = so_far.right file n (sym (number_other ns (file_at i) i file apart) ∙ is)

    total_by : (j : ℕ) (b : Bool) → is_at (name_cmp (file_at j)) (file_at i) ≡ b → (j < i) ⊎ (j ≡ i) → (n : ℕ) × (number_at (with_number ns (file_at i) i) (file_at j) ≡ Some n)
    total_by j true same less = (i, ap (λ f. number_at (with_number ns (file_at i) i) f) (same_name (file_at j) (file_at i) same) ∙ number_here ns (file_at i) i)
    total_by j false apart (inl less) = let old = so_far.total j less in (old.0, number_other ns (file_at i) i (file_at j) apart ∙ old.1)
    total_by j false apart (inr here) = absurd (clash (told_same_name (file_at j) (file_at i) (ap file_at here)) apart)
      where
        clash : {b : Bool} → b ≡ true → b ≡ false → ⊥
        clash holds fails = cc

    pub one_more_number : IsNumbering files (i + 1) (with_number ns (file_at i) i)
    one_more_number = record {
      right = λ file n is. right_by file n (is_at (name_cmp file) (file_at i)) refl is;
      total = λ j less. total_by j (is_at (name_cmp (file_at j)) (file_at i)) refl (at_or_before j i less);
    }
