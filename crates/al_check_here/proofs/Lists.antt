-- Lists without their last element, and what is known of lists elsewhere.
use Rattle.std.proofs.Common.{◌≡◌, ℕ, ◌-◌, List, [], ◌∷◌, ◌++◌, length, take, refl, sym, ap, ◌∙◌, arith}
use Rattle.std.proofs.Math.Seq.{take-append_seam}
use Rattle.std.proofs.lemmas.List.{length-append}
use Rattle.al_scope.specs.Places.{Place}
use Rattle.al_scope.specs.declared.region.Region.{Region}
use Rattle.al_view.specs.Named.{Declarations}
pub use Rattle.al_scope.proofs.Lists.{folded, folded_at, mapped, no_value, one_value}
pub use Rattle.al_scope.proofs.Outcomes.{if_ok, on_ok}

-- what precedes the last element
pub before_last : {A : Type 0} (xs ys : List A) (x : A) → xs ≡ ys ++ x ∷ [] → ys ≡ take (length xs - 1) xs
before_last {A} xs ys x e =
    let n : length ys ≡ length xs - 1 = omega (arith, ap length e, length-append ys (x ∷ [])) in
    sym (take-append_seam ys (x ∷ [])) ∙ ap (λ (l : List A). take (length ys) l) (sym e) ∙ ap (λ (m : ℕ). take m xs) n

pub none_last : {A : Type 0} (xs : List A) → length xs ≡ 0 → xs ≡ take (length xs - 1) xs
none_last [] e = refl
none_last (x ∷ xs) e = absurd (omega (arith, e))

pub place-is : (p q : Place) → p.mentioned ≡ q.mentioned → p.regions ≡ q.regions → p ≡ q
place-is p q m r =
    ap (λ (x : Declarations). record p { mentioned = x }) m ∙ ap (λ (x : List Region). record q { regions = x }) r
