-- The name of a subunit is that of its parent body, a dot, and an identifier.
use Rattle.std.proofs.Common.{◌≡◌, ℕ, suc, ◌+◌, ◌==◌, Bool, true, false, not, List, [], ◌∷◌, ◌++◌, length, drop, map, Option, Some, None, if◌then◌else◌, refl, ap, ◌∙◌, add-one}
use Rattle.std.specs.List.{last_or}
use Rattle.std.specs.Option.{option_map_or}
use Rattle.al_unit_graph.specs.Names.{ancestors, parent_of}
use Rattle.al_unit_graph.proofs.BoolLemmas.{both, not_true}
use Rattle.al_query_outcome.specs.Defines.{is_simple}
use Rattle.al_query_outcome.specs.Left.{last_of}

-- an identifier has no dot
no_ancestors : (s : List ℕ) → is_simple s ≡ true → ancestors s ≡ []
no_ancestors [] simple = refl
no_ancestors (b ∷ bs) simple =
    let two = both (not (b == 46)) (is_simple bs) simple in
    let none : (b == 46) ≡ false = not_true (b == 46) two.0 in
    rw none (ap (λ (ns : List (List ℕ)). map (λ a. b ∷ a) ns) (no_ancestors bs two.1))

last_mapped : (f : List ℕ → List ℕ) (o : Option (List ℕ)) (xs : List (List ℕ)) (y : List ℕ) → last_or None xs ≡ Some y → last_or o (map f xs) ≡ Some (f y)
last_mapped f o [] y is = absurd (cc)
last_mapped f o (x ∷ []) y is = let same : x ≡ y = cc in ap (λ (z : List ℕ). Some (f z)) same
last_mapped f o (x ∷ z ∷ zs) y is = last_mapped f (Some (f x)) (z ∷ zs) y is

pub parent_is : (p s : List ℕ) → is_simple s ≡ true → parent_of (p ++ 46 ∷ s) ≡ Some p
parent_is [] s simple = ap (λ (ns : List (List ℕ)). last_or (Some []) (map (λ a. 46 ∷ a) ns)) (no_ancestors s simple)
parent_is (b ∷ p) s simple = at (b == 46) (parent_is p s simple)
  where
    at : (c : Bool) → parent_of (p ++ 46 ∷ s) ≡ Some p
        → last_or None (if c then [] ∷ map (λ a. b ∷ a) (ancestors (p ++ 46 ∷ s)) else map (λ a. b ∷ a) (ancestors (p ++ 46 ∷ s))) ≡ Some (b ∷ p)
    at true is = last_mapped (λ a. b ∷ a) (Some []) (ancestors (p ++ 46 ∷ s)) p is
    at false is = last_mapped (λ a. b ∷ a) None (ancestors (p ++ 46 ∷ s)) p is

drop_past : (p s : List ℕ) → drop (suc (length p)) (p ++ 46 ∷ s) ≡ s
drop_past [] s = refl
drop_past (b ∷ p) s = drop_past p s

pub last_is : (p s : List ℕ) → is_simple s ≡ true → last_of (p ++ 46 ∷ s) ≡ s
last_is p s simple =
    ap (λ (o : Option (List ℕ)). option_map_or (λ (q : List ℕ). drop (length q + 1) (p ++ 46 ∷ s)) o (p ++ 46 ∷ s)) (parent_is p s simple)
    ∙ ap (λ (n : ℕ). drop n (p ++ 46 ∷ s)) (add-one (length p))
    ∙ drop_past p s
