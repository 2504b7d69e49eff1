-- The labels of an expression, as it is seen.
use Rattle.std.proofs.Common.{◌≡◌, Option, sym, ◌∙◌, ap}
use Rattle.al_base.specs.declared.place.Place.{Place}
use Rattle.al_view.specs.declared.types.StaticValue.{StaticValue}
use Rattle.al_view_typed.specs.declared.expression.Typed.{Typed, out-Typed, roll-out-Typed}
use Rattle.al_view_typed.specs.ExpressionTrees.{TypedTree as typed_trees}
use Rattle.al_view_typed.specs.ExpressionViews.{form_model, typed_model}
use Rattle.al_view_typed.proofs.ExpressionsMade.{typed_made}
use Rattle.al_decl_judged.specs.StaticPieces.{place_label, value_label}

pub typed_layers : (t : Typed) → typed_model t ≡ typed_trees.Labelled (out-Typed t).labels (form_model (out-Typed t).form)
typed_layers t = ap typed_model (sym (roll-out-Typed t)) ∙ typed_made (out-Typed t).labels (out-Typed t).form

pub value_layer : (t : Typed) → value_label (typed_model t) ≡ (out-Typed t).labels.value
value_layer t = ap value_label (typed_layers t)

pub place_layer : (t : Typed) → place_label (typed_model t) ≡ (out-Typed t).labels.place
place_layer t = ap place_label (typed_layers t)
