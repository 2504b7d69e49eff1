-- The name that an expression is.
use Rattle.std.specs.Prelude.{Option, Some, None}
use Rattle.al_view_typed.specs.ExpressionTrees.{FormTree, FormTree as forms, NameTree}

abbrev pub name_in : FormTree → Option NameTree
name_in (forms.NamedForm name) = Some name
name_in (forms.LiteralForm value) = None
name_in (forms.UnaryForm operator operand) = None
name_in (forms.BinaryForm operator left right) = None
name_in (forms.ShortCircuitForm form left right) = None
name_in (forms.MembershipForm value is_negated low high slot) = None
name_in (forms.ConvertedForm conversion value) = None
name_in (forms.AggregateForm values) = None
name_in (forms.OthersForm count value) = None
name_in (forms.CallForm call) = None
name_in forms.ClockForm = None
