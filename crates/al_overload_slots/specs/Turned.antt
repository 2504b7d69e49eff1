-- Chains that were turned round: what is at the left of a link may be another chain.
use Rattle.std.specs.Prelude.{Bool, true, false}
use Rattle.al_view_typed.specs.ExpressionTrees.{FormTree}
use Rattle.al_view_typed.specs.ExpressionTrees.FormTree.{BinaryForm, ShortCircuitForm}
use Rattle.al_view_typed.specs.declared.expression.Form.{Form}
use Rattle.al_view_typed.specs.declared.expression.Form.TheVariants.{Binary', ShortCircuit'}
use Rattle.al_view_typed.specs.declared.expression.Typed.{Typed}
use Rattle.al_view_typed.specs.declared.expression.TypedName.{TypedName}
use Rattle.al_view_typed.specs.declared.expression.TypedName.TheVariants.{Object, Component', Indexed'}

-- whether something comes before the last component of a name
abbrev pub has_prefix : TypedName → Bool
has_prefix (Object place is_constant) = false
has_prefix (Component' p whole offset) = true
has_prefix (Indexed' p array q labels form bounds words) = true

-- the name with another one before its last component
abbrev pub with_prefix : TypedName → TypedName → TypedName
with_prefix (Object place is_constant) other = Object place is_constant
with_prefix (Component' p whole offset) other = Component' p other offset
with_prefix (Indexed' p array q labels form bounds words) other = Indexed' p other q labels form bounds words

-- what comes before the last component of a name, if something does
abbrev pub prefix_in : TypedName → TypedName → TypedName
prefix_in (Object place is_constant) other = other
prefix_in (Component' p whole offset) other = whole
prefix_in (Indexed' p array q labels form bounds words) other = array

-- whether an expression is computed of two operands
abbrev pub form_leans : Form → Bool
form_leans (Binary' operator p labels form q second other) = true
form_leans (ShortCircuit' operator p labels form q second other) = true
form_leans _ = false

-- the expression with another left operand
abbrev pub form_with_left : Form → Typed → Form
form_with_left (Binary' operator p labels form q second other) left = Binary' operator p left.labels left.form q second other
form_with_left (ShortCircuit' operator p labels form q second other) left = ShortCircuit' operator p left.labels left.form q second other
form_with_left form left = form

abbrev pub with_left : Typed → Typed → Typed
with_left typed left = record { labels = typed.labels; form = form_with_left typed.form left }

-- its left operand, if it has one
abbrev pub form_left_in : Form → Typed → Typed
form_left_in (Binary' operator p labels form q second other) left = record { labels = labels; form = form }
form_left_in (ShortCircuit' operator p labels form q second other) left = record { labels = labels; form = form }
form_left_in form left = left

abbrev pub left_in : Typed → Typed → Typed
left_in typed left = form_left_in typed.form left

-- whether it is computed of two operands, as it is seen
abbrev pub tree_leans : FormTree → Bool
tree_leans (BinaryForm operator left right) = true
tree_leans (ShortCircuitForm operator left right) = true
tree_leans form = false

-- the expression with another right operand
abbrev pub form_with_right : Form → Typed → Form
form_with_right (Binary' operator p labels form q second other) right = Binary' operator p labels form q right.labels right.form
form_with_right (ShortCircuit' operator p labels form q second other) right = ShortCircuit' operator p labels form q right.labels right.form
form_with_right form right = form

abbrev pub with_right : Typed → Typed → Typed
with_right typed right = record { labels = typed.labels; form = form_with_right typed.form right }

-- its right operand, if it has one
abbrev pub form_right_in : Form → Typed → Typed
form_right_in (Binary' operator p labels form q second other) right = record { labels = second; form = other }
form_right_in (ShortCircuit' operator p labels form q second other) right = record { labels = second; form = other }
form_right_in form right = right

abbrev pub right_in : Typed → Typed → Typed
right_in typed right = form_right_in typed.form right
