-- The candidates of declarations by their numbers.
use Rattle.std.proofs.Common.{◌≡◌, ℕ, zero, suc, ◌-◌, ◌<◌, ◌≤◌, Bool, true, false, List, [], ◌∷◌, ◌++◌, length, Option, Some, None, refl, ap, ◌∙◌, arith}
use Rattle.std.specs.Prelude.{nat_lt, slice_get, if◌then◌else◌}
use Rattle.std.specs.List.{flat_map}
use Rattle.std.specs.Option.{option_and_then, option_map_or}
use Rattle.std.proofs.lemmas.Bool.{ltb-true, ltb-false}
use Rattle.al_overload.specs.Candidates.{candidates_of, component_in, component_of}
use Rattle.al_view_predefined.specs.StandardTypes.{type_of}
use Rattle.al_view.specs.declared.symbol.Symbol.{Symbol}
use Rattle.al_view.specs.declared.types.TypeDefinition.{TypeDefinition}
use Rattle.al_view.specs.declared.types.TypeDefinition.TheVariants as definitions
use Rattle.al_view.specs.declared.types.TypeView.{TypeView}
use Rattle.al_view.specs.declared.view.ViewKind.{ViewKind}
use Rattle.al_view.specs.declared.view.ViewKind.TheVariants as views
use Rattle.al_overload.specs.Picks.{NumbersMeanCandidates, candidate_count, object_count, pick}

-- an element of the first of two lists, and one of the second
get_first : {A : Type 0} (xs ys : List A) (n : ℕ) → n < length xs → slice_get (xs ++ ys) n ≡ slice_get xs n
get_first [] ys n h = let no : ⊥ = omega (arith, h) in absurd no
get_first (x ∷ xs) ys zero h = refl
get_first (x ∷ xs) ys (suc n) h = get_first xs ys n (omega (arith, h))

get_rest : {A : Type 0} (xs ys : List A) (n : ℕ) → length xs ≤ n → slice_get (xs ++ ys) n ≡ slice_get ys (n - length xs)
get_rest [] ys n h = let e : n ≡ n - 0 = omega arith in ap (slice_get ys) e
get_rest (x ∷ xs) ys zero h = let no : ⊥ = omega (arith, h) in absurd no
get_rest (x ∷ xs) ys (suc n) h =
    let e : n - length xs ≡ suc n - length (x ∷ xs) = omega arith in
    get_rest xs ys n (omega (arith, h)) ∙ ap (slice_get ys) e

-- an array object has a candidate more
definition_length : (types : List TypeView) (d : TypeDefinition) → suc (length (component_in types d)) ≡ object_count d
definition_length types (definitions.Array index component) = refl
definition_length types (definitions.Integer bounds) = refl
definition_length types (definitions.Enumeration literals) = refl
definition_length types (definitions.Record components) = refl
definition_length types definitions.Time = refl
definition_length types definitions.Private = refl

object_length : (types : List TypeView) (found : Option TypeView)
    → suc (length (option_map_or (component_of types) found [])) ≡ option_map_or (λ (t : TypeView). object_count t.definition) found 1
object_length types None = refl
object_length types (Some t) = definition_length types t.definition

pub length-candidates_of : (root : Symbol) (v : ViewKind) → length (candidates_of root v) ≡ candidate_count v
length-candidates_of root (views.OfObject o) = object_length o.types (type_of o.types o.subtype.base)
length-candidates_of root (views.OfNumber value) = refl
length-candidates_of root (views.OfLiteral l) = refl
length-candidates_of root (views.OfSubprogram s) = refl
length-candidates_of root views.OfComponent = refl
length-candidates_of root (views.OfType t) = refl
length-candidates_of root (views.OfSubtype s) = refl
length-candidates_of root (views.OfTask t) = refl
length-candidates_of root (views.OfProtected p) = refl
length-candidates_of root (views.OfPackage symbol) = refl

-- the candidate that a number means among those of a declaration and of others after it
picked : (root : Symbol) (v : ViewKind) (vs : List ViewKind) (n : ℕ) (b : Bool) → nat_lt n (candidate_count v) ≡ b
    → slice_get (flat_map (candidates_of root) vs) (n - candidate_count v)
    ≡ option_and_then (λ (p : ViewKind × ℕ). slice_get (candidates_of root p.0) p.1) (pick (n - candidate_count v) vs)
    → slice_get (candidates_of root v ++ flat_map (candidates_of root) vs) n
    ≡ option_and_then (λ (p : ViewKind × ℕ). slice_get (candidates_of root p.0) p.1) (if b then Some (v, n) else pick (n - candidate_count v) vs)
picked root v vs n true e rest =
    let below : n < candidate_count v = ltb-true n (candidate_count v) e in
    let count = length-candidates_of root v in
    get_first (candidates_of root v) (flat_map (candidates_of root) vs) n (omega (arith, below, count))
picked root v vs n false e rest =
    let above : candidate_count v ≤ n = ltb-false n (candidate_count v) e in
    let count = length-candidates_of root v in
    get_rest (candidates_of root v) (flat_map (candidates_of root) vs) n (omega (arith, above, count))
    ∙ ap (λ (k : ℕ). slice_get (flat_map (candidates_of root) vs) (n - k)) count
    ∙ rest

pub numbers_mean : NumbersMeanCandidates
numbers_mean root [] n = refl
numbers_mean root (v ∷ vs) n = picked root v vs n (nat_lt n (candidate_count v)) refl (numbers_mean root vs (n - candidate_count v))
