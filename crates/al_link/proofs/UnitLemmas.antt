-- Sums of what units hold.
use Rattle.std.proofs.Common.{◌≡◌, ℕ, ◌<◌, List, [], ◌∷◌, length, get_or, drop, suc, map, arith, subst, sym, ap, ◌∙◌}
use Rattle.al_link.specs.declared.bases.Bases.{Bases}
use Rattle.al_link.specs.Bases.{AreSmall, next_bases}
use Rattle.std.proofs.Math.Seq.{drop-cons}
use Rattle.al_link.specs.declared.units.LinkUnit.{LinkUnit}
use Rattle.al_link.specs.Units.{UnitObject, bases_after, unit_model}

-- what precedes some units is small if the sum of all is
pub small_before : (b : Bases) (us : List UnitObject) → AreSmall (bases_after b us) → AreSmall b
small_before b [] small = small
small_before b (u ∷ us) small =
    let next = small_before (next_bases b u.object) us small in
    record { code = omega (arith, next.code); words = omega (arith, next.words); objects = omega (arith, next.objects); tasks = omega (arith, next.tasks) }

-- if a unit passes a limit, the sum of all does
pub passed_at : (b sum : Bases) (xs : List LinkUnit) (i : ℕ) (x : LinkUnit) → i < length xs → x ≡ get_or xs i x → (AreSmall (next_bases b x.object.now) → ⊥) → bases_after b (map unit_model (drop i xs)) ≡ sum → AreSmall sum → ⊥
passed_at b sum xs i x lt at large is small =
    let rest : drop i xs ≡ x ∷ drop (suc i) xs = drop-cons xs i x lt ∙ ap (λ (y : LinkUnit). y ∷ drop (suc i) xs) (sym at) in
    let P : Bases → Type 0 = λ s. AreSmall s in
    let Q : List LinkUnit → Type 0 = λ ys. AreSmall (bases_after b (map unit_model ys)) in
    large (small_before (next_bases b x.object.now) (map unit_model (drop (suc i) xs)) (subst Q rest (subst P (sym is) small)))
