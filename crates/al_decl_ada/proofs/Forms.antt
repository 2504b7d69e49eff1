-- What holds of a range or a constraint holds of it as it is written, if the bounds are boxed.
use Rattle.std.proofs.Common.{◌≡◌, Option, Some, None, sym, subst, Box, Global}
use Rattle.std.specs.Prelude.{option_map}
use Rattle.al_tree_syntax.specs.DeclarationTrees.{DiscreteRangeTree, DiscreteRangeTree as ranges, RangeTree}
use Rattle.al_tree.specs.DeclarationViews.{boxed_range_model, discrete_range_model, range_model}
use Rattle.al_tree.specs.ExpressionViews.{expression_model}
use Rattle.al_tree.specs.declared.declaration.DiscreteRange.{DiscreteRange}
use Rattle.al_tree.specs.declared.declaration.DiscreteRange.TheVariants as forms
use Rattle.al_tree.specs.declared.declaration.Range.{Range}
use Rattle.al_tree.specs.declared.expression.Expression.{Expression}

-- a range that is one expression
pub sole_holds : (P : DiscreteRangeTree → Type 0) {d : DiscreteRange} {x : Expression} → d ≡ forms.Mark x → P (ranges.SoleMark (expression_model x)) → P (discrete_range_model d)
sole_holds P is h = subst (λ (d : DiscreteRange). P (discrete_range_model d)) (sym is) h

-- two bounds
pub bounds_hold : (P : DiscreteRangeTree → Type 0) {d : DiscreteRange} {b : Box Range Global} {r : Range} → d ≡ forms.Bounds b → r ≡ b.value → P (ranges.Bounds (range_model r)) → P (discrete_range_model d)
bounds_hold P is opened h =
    subst (λ (d : DiscreteRange). P (discrete_range_model d)) (sym is)
    (subst (λ (r : Range). P (ranges.Bounds (range_model r))) opened h)

-- a mark with two bounds
pub marked_holds : (P : DiscreteRangeTree → Type 0) {d : DiscreteRange} {x : Expression} {b : Box Range Global} {r : Range} → d ≡ forms.MarkRange x b → r ≡ b.value → P (ranges.MarkRange (expression_model x) (range_model r)) → P (discrete_range_model d)
marked_holds P {x = x} is opened h =
    subst (λ (d : DiscreteRange). P (discrete_range_model d)) (sym is)
    (subst (λ (r : Range). P (ranges.MarkRange (expression_model x) (range_model r))) opened h)

-- a constraint
pub constrained_holds : (P : Option RangeTree → Type 0) {o : Option (Box Range Global)} {b : Box Range Global} {r : Range} → o ≡ Some b → r ≡ b.value → P (Some (range_model r)) → P (option_map boxed_range_model o)
constrained_holds P is opened h =
    subst (λ (o : Option (Box Range Global)). P (option_map boxed_range_model o)) (sym is)
    (subst (λ (r : Range). P (Some (range_model r))) opened h)

-- none
pub unconstrained_holds : (P : Option RangeTree → Type 0) {o : Option (Box Range Global)} → o ≡ None → P None → P (option_map boxed_range_model o)
unconstrained_holds P is h = subst (λ (o : Option (Box Range Global)). P (option_map boxed_range_model o)) (sym is) h
