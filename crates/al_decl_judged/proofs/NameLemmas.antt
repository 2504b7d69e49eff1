-- The next of some names.
use Rattle.std.proofs.Common.{◌≡◌, ℕ, ◌+◌, ◌<◌, Bool, true, false, cond, ◌||◌, List, [], ◌∷◌, ◌++◌, length, take, drop, get_or, drop-cons, add-one, suc, Option, Some, None, refl, sym, ◌∙◌, ap, arith}
use Rattle.std.proofs.lemmas.Slice.Eq.{bytes_eq-Decides}
use Rattle.indexmap.specs.IndexSet.{insert_key}
use Rattle.std.proofs.lemmas.List.{take_more}
use Rattle.std.specs.List.{list_any}
use Rattle.std.specs.Str.{bytes_eq}
use Rattle.al_base_fault.specs.declared.fault.Fault.{Fault}
use Rattle.al_decl_judged.specs.declared.names.DefiningName.{DefiningName}
use Rattle.al_decl_judged.specs.DefiningNames.{duplicate_at, names_of, repeated}

-- the next item is before the rest
pub rest_more : {X : Type 0} (xs : List X) (i : ℕ) (x : X) → i < length xs → x ≡ get_or xs i x → drop i xs ≡ x ∷ drop (i + 1) xs
rest_more xs i x inside is = rw add-one (drop-cons xs i x inside ∙ ap (λ y. y ∷ drop (suc i) xs) (sym is))

-- and after those so far
pub front_more : {X : Type 0} (xs : List X) (i : ℕ) (x : X) → i < length xs → x ≡ get_or xs i x → take (i + 1) xs ≡ take i xs ++ x ∷ []
front_more xs i x inside is = take_more xs i x inside ∙ ap (λ y. take i xs ++ y ∷ []) (sym is)

-- a name that comes before it
pub repeated_here : (names : List DefiningName) (i : ℕ) (n : DefiningName) → i < length names → n ≡ get_or names i n → list_any (λ (m : DefiningName). bytes_eq m.name n.name) (take i names) ≡ true → repeated (take i names) (drop i names) ≡ Some (duplicate_at n)
repeated_here names i n inside is twice =
    ap (repeated (take i names)) (rest_more names i n inside is)
    ∙ ap (λ (b : Bool). cond b (Some (duplicate_at n)) (repeated (take i names ++ n ∷ []) (drop (i + 1) names))) twice

-- a name that doesn't
pub repeated_more : (names : List DefiningName) (i : ℕ) (n : DefiningName) → i < length names → n ≡ get_or names i n → list_any (λ (m : DefiningName). bytes_eq m.name n.name) (take i names) ≡ false → repeated (take (i + 1) names) (drop (i + 1) names) ≡ repeated (take i names) (drop i names)
repeated_more names i n inside is once =
    sym (ap (repeated (take i names)) (rest_more names i n inside is)
    ∙ ap (λ (b : Bool). cond b (Some (duplicate_at n)) (repeated (take i names ++ n ∷ []) (drop (i + 1) names))) once
    ∙ ap (λ (t : List DefiningName). repeated t (drop (i + 1) names)) (sym (front_more names i n inside is)))

-- equality of names is symmetric
eq_sym : (xs ys : List ℕ) → bytes_eq xs ys ≡ bytes_eq ys xs
eq_sym xs ys = at (bytes_eq xs ys) (bytes_eq ys xs) refl refl
  where
    at : (a b : Bool) → bytes_eq xs ys ≡ a → bytes_eq ys xs ≡ b → a ≡ b
    at true true f g = refl
    at false false f g = refl
    at true false f g = sym ((bytes_eq-Decides ys xs).1 (sym ((bytes_eq-Decides xs ys).0 f))) ∙ g
    at false true f g = sym f ∙ (bytes_eq-Decides xs ys).1 (sym ((bytes_eq-Decides ys xs).0 g))

-- among names alone
pub among_names : (name : List ℕ) (ns : List DefiningName) → list_any (bytes_eq name) (names_of ns) ≡ list_any (λ (m : DefiningName). bytes_eq m.name name) ns
among_names name [] = refl
among_names name (n ∷ ns) = ap (λ (b : Bool). b || list_any (bytes_eq name) (names_of ns)) (eq_sym name n.name) ∙ ap (λ (b : Bool). bytes_eq n.name name || b) (among_names name ns)

names-append : (xs ys : List DefiningName) → names_of (xs ++ ys) ≡ names_of xs ++ names_of ys
names-append [] ys = refl
names-append (x ∷ xs) ys = ap (λ (l : List (List ℕ)). x.name ∷ l) (names-append xs ys)

-- a name that wasn't there is one more
pub seen_more : (names : List DefiningName) (i : ℕ) (n : DefiningName) (keys : List (List ℕ)) → i < length names → n ≡ get_or names i n → keys ≡ names_of (take i names) → list_any (bytes_eq n.name) keys ≡ false → insert_key bytes_eq keys n.name ≡ names_of (take (i + 1) names)
seen_more names i n keys inside is seen new =
    ap (λ (b : Bool). cond b keys (keys ++ n.name ∷ [])) new
    ∙ ap (λ (ks : List (List ℕ)). ks ++ n.name ∷ []) seen
    ∙ sym (names-append (take i names) (n ∷ []))
    ∙ ap names_of (sym (front_more names i n inside is))
