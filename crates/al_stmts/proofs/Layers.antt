-- Expressions of the program by their fields.
use Rattle.std.proofs.Common.{◌≡◌, sym, ap, ◌∙◌}
use Rattle.al_view_typed.specs.ExpressionTrees.{TypedTree as typed_trees}
use Rattle.al_view_typed.specs.ExpressionViews.{form_model, typed_model}
use Rattle.al_view_typed.specs.declared.expression.Typed.{Typed, out-Typed, roll-out-Typed}
use Rattle.al_view_typed.proofs.ExpressionsMade.{typed_made}
use Rattle.al_stmts.specs.Cases.{bounds_of}
use Rattle.al_stmts.specs.LoopForms.{value_in}

pub typed_layers : (t : Typed) → typed_model t ≡ typed_trees.Labelled (out-Typed t).labels (form_model (out-Typed t).form)
typed_layers t = ap typed_model (sym (roll-out-Typed t)) ∙ typed_made (out-Typed t).labels (out-Typed t).form

pub typed_bounds : (t : Typed) → bounds_of (typed_model t) ≡ (out-Typed t).labels.bounds
typed_bounds t = ap bounds_of (typed_layers t)

pub typed_value : (t : Typed) → value_in (typed_model t) ≡ (out-Typed t).labels.value
typed_value t = ap value_in (typed_layers t)
