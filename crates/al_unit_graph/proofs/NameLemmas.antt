-- Names read from the front.
use Rattle.std.proofs.Common.{◌≡◌, ℕ, Bool, true, false, ◌==◌, ◌<◌, ◌+◌, List, [], ◌∷◌, ◌++◌, map, length, take, get_or, Option, Some, if◌then◌else◌, refl, arith}
use Rattle.std.proofs.lemmas.List.{map-append}
use Rattle.std.proofs.lemmas.Grind.{common_steps}
use Rattle.std.specs.List.{last_or}
use Rattle.al_unit_graph.specs.Names.{ancestors}

-- the name of an ancestor, where a dot stands after it
abbrev pub where_dot : Bool → List ℕ → List (List ℕ)
where_dot is_dot xs = if is_dot then xs ∷ [] else []

map-where_dot : (a : ℕ) (t : Bool) (xs : List ℕ) → map (λ n. a ∷ n) (where_dot t xs) ≡ where_dot t (a ∷ xs)
map-where_dot a true xs = refl
map-where_dot a false xs = refl

begin : (t : Bool) → (if t then [] ∷ [] else []) ≡ where_dot t []
begin true = refl
begin false = refl

after : (t : Bool) (xs ys : List (List ℕ)) → (if t then [] ∷ (xs ++ ys) else (xs ++ ys)) ≡ (if t then [] ∷ xs else xs) ++ ys
after true xs ys = refl
after false xs ys = refl

pub ancestors-push : (xs : List ℕ) (b : ℕ) → ancestors (xs ++ b ∷ []) ≡ ancestors xs ++ where_dot (b == 46) xs
ancestors-push [] b = begin (b == 46)
ancestors-push (a ∷ xs) b =
    rw (ancestors-push xs b) (
    rw (map-append (λ n. a ∷ n) (ancestors xs) (where_dot (b == 46) xs)) (
    rw (map-where_dot a (b == 46) xs) (
    after (a == 46) (map (λ n. a ∷ n) (ancestors xs)) (where_dot (b == 46) (a ∷ xs)))))

pub last_or-push : {X : Type 0} (o : Option X) (xs : List X) (x : X) → last_or o (xs ++ x ∷ []) ≡ Some x
last_or-push o [] x = refl
last_or-push o (y ∷ xs) x = last_or-push (Some y) xs x

-- one byte further
pub ancestors-further : (name : List ℕ) (i d : ℕ) → i < length name → ancestors (take (i + 1) name) ≡ ancestors (take i name) ++ where_dot (get_or name i d == 46) (take i name)
ancestors-further name i d within =
    let e : take (i + 1) name ≡ take i name ++ get_or name i d ∷ [] = grind (arith, common_steps, within) in
    rw e (ancestors-push (take i name) (get_or name i d))

pub ancestors_at_dot : (name : List ℕ) (i d : ℕ) → i < length name → get_or name i d ≡ 46 → ancestors (take (i + 1) name) ≡ ancestors (take i name) ++ take i name ∷ []
ancestors_at_dot name i d within is = rw (ancestors-further name i d within) (rw is refl)

elsewhere : (b : ℕ) (t : Bool) → (b == 46) ≡ t → (b ≡ 46 → ⊥) → t ≡ false
elsewhere b true is differ = absurd (differ (grind (arith, is)))
elsewhere b false is differ = refl

pub ancestors_elsewhere : (name : List ℕ) (i d : ℕ) → i < length name → (get_or name i d ≡ 46 → ⊥) → ancestors (take (i + 1) name) ≡ ancestors (take i name)
ancestors_elsewhere name i d within differ =
    rw (ancestors-further name i d within) (rw (elsewhere (get_or name i d) (get_or name i d == 46) refl differ) (grind (arith, common_steps)))
