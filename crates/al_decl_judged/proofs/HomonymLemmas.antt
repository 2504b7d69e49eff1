-- The entries of a map by name, seen as names with their counts.
use Rattle.std.proofs.Common.{◌≡◌, ℕ, ◌+◌, List, [], ◌∷◌, Bool, true, false, cond, Some, None, Vec, refl, sym, ◌∙◌, ap, subst}
use Rattle.std.specs.Map.{lookup, set_value}
use Rattle.std.specs.Str.{bytes_eq}
use Rattle.indexmap.specs.IndexMap.{insert_entry}
use Rattle.al_decl_judged.specs.Homonyms.{counts_of, with_name}

module _ {Y : Type 0} where
  -- a key with these bytes
  abbrev pub is_key : List ℕ → Vec ℕ Y → Bool
  is_key name k = bytes_eq name k.items

  -- a look-up by bytes
  pub lookup_counts_of : (es : List (Vec ℕ Y × ℕ)) (name : List ℕ) → lookup (bytes_eq name) (counts_of es) ≡ lookup (is_key name) es
  lookup_counts_of [] name = refl
  lookup_counts_of (e ∷ es) name = at (bytes_eq name e.0.items) (lookup_counts_of es name)
    where
      at : (b : Bool) → lookup (bytes_eq name) (counts_of es) ≡ lookup (is_key name) es → cond b (Some e.1) (lookup (bytes_eq name) (counts_of es)) ≡ cond b (Some e.1) (lookup (is_key name) es)
      at true rest = refl
      at false rest = rest

  -- a name that is there is counted once more
  pub counts_of-set_value : (es : List (Vec ℕ Y × ℕ)) (name : List ℕ) (n : ℕ) → lookup (is_key name) es ≡ Some n → counts_of (set_value (is_key name) es (n + 1)) ≡ with_name (counts_of es) name
  counts_of-set_value [] name n h = absurd (cc)
  counts_of-set_value (e ∷ es) name n h = at (bytes_eq name e.0.items) h (counts_of-set_value es name n)
    where
      at : (b : Bool) → cond b (Some e.1) (lookup (is_key name) es) ≡ Some n → (lookup (is_key name) es ≡ Some n → counts_of (set_value (is_key name) es (n + 1)) ≡ with_name (counts_of es) name) → counts_of (cond b ((e.0, n + 1) ∷ es) (e ∷ set_value (is_key name) es (n + 1))) ≡ cond b ((e.0.items, e.1 + 1) ∷ counts_of es) ((e.0.items, e.1) ∷ with_name (counts_of es) name)
      at true h rest = let same : e.1 ≡ n = cc in rw same refl
      at false h rest = ap (λ (l : List (List ℕ × ℕ)). (e.0.items, e.1) ∷ l) (rest h)

  -- a value written over itself
  pub set_value-same : (es : List (Vec ℕ Y × ℕ)) (name : List ℕ) (n : ℕ) → lookup (is_key name) es ≡ Some n → set_value (is_key name) es n ≡ es
  set_value-same [] name n h = absurd (cc)
  set_value-same (e ∷ es) name n h = at (bytes_eq name e.0.items) h (set_value-same es name n)
    where
      at : (b : Bool) → cond b (Some e.1) (lookup (is_key name) es) ≡ Some n → (lookup (is_key name) es ≡ Some n → set_value (is_key name) es n ≡ es) → cond b ((e.0, n) ∷ es) (e ∷ set_value (is_key name) es n) ≡ (e ∷ es)
      at true h rest = let same : e.1 ≡ n = cc in rw (← same) refl
      at false h rest = ap (λ (l : List (Vec ℕ Y × ℕ)). e ∷ l) (rest h)

  -- a new name goes last
  pub counts_of-insert_entry : (es : List (Vec ℕ Y × ℕ)) (key : Vec ℕ Y) → lookup (is_key key.items) es ≡ None → counts_of (insert_entry (λ (x y : Vec ℕ Y). bytes_eq x.items y.items) es key 1) ≡ with_name (counts_of es) key.items
  counts_of-insert_entry [] key h = refl
  counts_of-insert_entry (e ∷ es) key h = at (bytes_eq key.items e.0.items) h (counts_of-insert_entry es key)
    where
      at : (b : Bool) → cond b (Some e.1) (lookup (is_key key.items) es) ≡ None → (lookup (is_key key.items) es ≡ None → counts_of (insert_entry (λ (x y : Vec ℕ Y). bytes_eq x.items y.items) es key 1) ≡ with_name (counts_of es) key.items) → counts_of (cond b ((e.0, 1) ∷ es) (e ∷ insert_entry (λ (x y : Vec ℕ Y). bytes_eq x.items y.items) es key 1)) ≡ cond b ((e.0.items, e.1 + 1) ∷ counts_of es) ((e.0.items, e.1) ∷ with_name (counts_of es) key.items)
      at true h rest = absurd (cc)
      at false h rest = ap (λ (l : List (List ℕ × ℕ)). (e.0.items, e.1) ∷ l) (rest h)

  -- the same, by equations
  pub counts_of-declared : (es changed : List (Vec ℕ Y × ℕ)) (key : Vec ℕ Y) (name : List ℕ) → key.items ≡ name → lookup (is_key name) es ≡ None → changed ≡ insert_entry (λ (x y : Vec ℕ Y). bytes_eq x.items y.items) es key 1 → counts_of changed ≡ with_name (counts_of es) name
  counts_of-declared es changed key name is absent made =
      let missing = subst (λ (n : List ℕ). lookup (is_key n) es ≡ None) (sym is) absent in
      ap (λ (l : List (Vec ℕ Y × ℕ)). counts_of l) made
      ∙ counts_of-insert_entry es key missing
      ∙ ap (λ (n : List ℕ). with_name (counts_of es) n) is
