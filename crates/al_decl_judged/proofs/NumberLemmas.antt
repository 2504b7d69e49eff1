-- Counts of names.
use Rattle.std.proofs.Common.{◌≡◌, ℕ, ◌+◌, List, [], ◌∷◌, Bool, true, false, cond, Some, None, refl, sym, ◌∙◌, ap, arith}
use Rattle.std.specs.Prelude.{unwrap_or, count_by, fold}
use Rattle.std.specs.Map.{lookup}
use Rattle.std.specs.Str.{bytes_eq}
use Rattle.std.proofs.lemmas.List.Sums.{sum_by-cons}
use Rattle.std.proofs.lemmas.Slice.Eq.{bytes_eq-Decides}
use Rattle.al_decl_judged.specs.Homonyms.{Counts, count_of, with_name}
use Rattle.al_decl_judged.specs.Laws.{NumbersCountHomonyms}

abbrev one_if : Bool → ℕ
one_if b = cond b 1 0

-- two names with the same bytes are one
same_name : (a b : List ℕ) → bytes_eq a b ≡ true → a ≡ b
same_name a b h = (bytes_eq-Decides a b).0 h

-- one more declaration of a name: of it there is one more, of another name as many as before
count_of-with_name : (counts : Counts) (name other : List ℕ) → count_of (with_name counts name) other ≡ count_of counts other + one_if (bytes_eq other name)
count_of-with_name [] name other = at (bytes_eq other name)
  where
    at : (b : Bool) → unwrap_or (cond b (Some 1) None) 0 ≡ 0 + one_if b
    at true = omega arith
    at false = omega arith
count_of-with_name (e ∷ es) name other = at (bytes_eq name e.0) refl (count_of-with_name es name other)
  where
    one : (b : Bool) → unwrap_or (cond b (Some (e.1 + 1)) (lookup (bytes_eq other) es)) 0 ≡ unwrap_or (cond b (Some e.1) (lookup (bytes_eq other) es)) 0 + one_if b
    one true = refl
    one false = omega arith

    apart : (c : Bool) → bytes_eq other name ≡ c → bytes_eq other e.0 ≡ true → bytes_eq name e.0 ≡ false → e.1 ≡ e.1 + one_if c
    apart true same k h =
        let one_name : name ≡ e.0 = sym (same_name other name same) ∙ same_name other e.0 k in
        let yes : bytes_eq name e.0 ≡ true = (bytes_eq-Decides name e.0).1 one_name in
        absurd (cc)
    apart false same k h = omega arith

    others : (b : Bool) → bytes_eq other e.0 ≡ b → bytes_eq name e.0 ≡ false → count_of (with_name es name) other ≡ count_of es other + one_if (bytes_eq other name) → unwrap_or (cond b (Some e.1) (lookup (bytes_eq other) (with_name es name))) 0 ≡ unwrap_or (cond b (Some e.1) (lookup (bytes_eq other) es)) 0 + one_if (bytes_eq other name)
    others true k h rest = apart (bytes_eq other name) refl k h
    others false k h rest = rest

    at : (b : Bool) → bytes_eq name e.0 ≡ b → count_of (with_name es name) other ≡ count_of es other + one_if (bytes_eq other name) → count_of (cond b ((e.0, e.1 + 1) ∷ es) (e ∷ with_name es name)) other ≡ count_of (e ∷ es) other + one_if (bytes_eq other name)
    at true h rest = one (bytes_eq other e.0) ∙ ap (λ (m : List ℕ). count_of (e ∷ es) other + one_if (bytes_eq other m)) (sym (same_name name e.0 h))
    at false h rest = others (bytes_eq other e.0) refl h rest

counted : (before : List (List ℕ)) (counts : Counts) (name : List ℕ) → count_of (fold with_name counts before) name ≡ count_of counts name + count_by (bytes_eq name) before
counted [] counts name = omega arith
counted (b ∷ bs) counts name =
    let rest = counted bs (with_name counts b) name in
    let first = count_of-with_name counts b name in
    omega (arith, rest, first, sum_by-cons (λ (n : List ℕ). cond (bytes_eq name n) 1 0) b bs)

pub numbers_count_homonyms : NumbersCountHomonyms
numbers_count_homonyms before name =
    let all = counted before [] name in
    omega (arith, all)
