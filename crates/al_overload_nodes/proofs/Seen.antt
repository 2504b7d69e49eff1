-- Two things that are judged each by itself, as they are seen, and trees by their fields.
use Rattle.std.proofs.Common.{◌≡◌, ◌<◌, ◌-◌, List, [], ◌∷◌, map, length, get_or, Option, Some, None, option_map, Result, Ok, Err, refl, sym, ap, ◌∙◌, arith, lit<}
use Rattle.al_base_fault.specs.Judging.{both, map_ok, unless}
use Rattle.al_base_fault.specs.declared.fault.Fault.{Fault}
use Rattle.al_view_typed.specs.ExpressionTrees.{TypedTree as typed_trees}
use Rattle.al_view_typed.specs.ExpressionViews.{form_model, typed_model}
use Rattle.al_view_typed.specs.declared.expression.Typed.{Typed, out-Typed, roll-out-Typed}
use Rattle.al_view_typed.proofs.ExpressionsMade.{typed_made, literal_made, named_made, unary_made, binary_made, short_circuit_made, membership_made, converted_made, aggregate_made, others_made, call_form_made, clock_made, in_made, variable_made}
use Rattle.al_overload_nodes.specs.Calls.{sole}
use Rattle.al_overload_nodes.specs.Views.{pair_model, three_model}

pub both_model : {A B C D : Type 0} (f : A → C) (g : B → D) (a : Result A Fault) (b : Result B Fault)
    → both (map_ok f a) (map_ok g b) ≡ map_ok (λ (p : A × B). (f p.0, g p.1)) (both a b)
both_model f g (Ok a) (Ok b) = refl
both_model f g (Ok a) (Err h) = refl
both_model f g (Err h) (Ok b) = refl
both_model f g (Err h) (Err k) = refl

pub unless_model : {A B : Type 0} (f : A → B) (d : Option Fault) (r : Result A Fault) → unless d (map_ok f r) ≡ map_ok f (unless d r)
unless_model f None r = refl
unless_model f (Some h) (Ok a) = refl
unless_model f (Some h) (Err k) = refl

-- a fault, whatever it is seen as
pub faulty_model : {A B : Type 0} (f : A → B) (c d : Option Fault) (g : Fault) → map_ok f (unless c (unless d (Err g))) ≡ unless c (unless d (Err g))
faulty_model f c d g = sym (unless_model f c (unless d (Err g))) ∙ ap (λ r. unless c r) (sym (unless_model f d (Err g)))

pub both_of_three : (value low high : Result Typed Fault) → map_ok three_model (both value (both low high)) ≡ both (map_ok typed_model value) (both (map_ok typed_model low) (map_ok typed_model high))
both_of_three value low high =
    sym (both_model typed_model pair_model value (both low high))
    ∙ ap (λ r. both (map_ok typed_model value) r) (sym (both_model typed_model typed_model low high))

pub typed_layers : (t : Typed) → typed_model t ≡ typed_trees.Labelled (out-Typed t).labels (form_model (out-Typed t).form)
typed_layers t = ap typed_model (sym (roll-out-Typed t)) ∙ typed_made (out-Typed t).labels (out-Typed t).form

-- what forms and actual parameters are seen as
pub ruleset forms_made = (literal_made, named_made, unary_made, binary_made, short_circuit_made, membership_made, converted_made, aggregate_made, others_made, call_form_made, clock_made)

pub ruleset actuals_made = (in_made, variable_made)

-- the only one of a list
pub sole_model : {A B : Type 0} (f : A → B) (xs : List A) → sole (map f xs) ≡ option_map f (sole xs)
sole_model f [] = refl
sole_model f (x ∷ []) = refl
sole_model f (x ∷ (y ∷ more)) = refl

pub sole_popped : {A : Type 0} (xs : List A) (r : Option A) → length xs ≡ 1 → ((d : A) → 0 < length xs → r ≡ Some (get_or xs (length xs - 1) d)) → r ≡ sole xs
sole_popped [] r one is = absurd (omega (arith, one))
sole_popped (x ∷ []) r one is = is x (lit< tt)
sole_popped (x ∷ (y ∷ more)) r one is = absurd (omega (arith, one))

pub sole_none : {A : Type 0} (xs : List A) → (length xs ≡ 1 → ⊥) → sole xs ≡ None
sole_none [] none = refl
sole_none (x ∷ []) none = absurd (none refl)
sole_none (x ∷ (y ∷ more)) none = refl
