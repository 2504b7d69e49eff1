-- What is known of an expression by what is known of its operands (ARM 4.9).
use Rattle.std.specs.Prelude.{ℤ, Bool, true, false, ◌&&◌, if◌then◌else◌, Option, Some, None}
use Rattle.al_base.specs.declared.place.Place.{Place}
use Rattle.al_base_fault.specs.declared.check_rule.CheckRule.TheVariants.{StaticFailure}
use Rattle.al_base_fault.specs.Faults.{earlier, fault_at}
use Rattle.al_base_fault.specs.declared.fault.Fault.{Fault}
use Rattle.al_view.specs.declared.types.Bounds.{Bounds}
use Rattle.al_view.specs.declared.types.StaticValue.{StaticValue}
use Rattle.al_view_typed.specs.declared.label.BinaryOperator.{BinaryOperator}
use Rattle.al_view_typed.specs.declared.label.Conversion.{Conversion}
use Rattle.al_view_typed.specs.declared.label.ShortCircuit.{ShortCircuit}
use Rattle.al_view_typed.specs.declared.label.UnaryOperator.{UnaryOperator}
use Rattle.al_static.specs.declared.knowledge.Known.{Known}
use Rattle.al_static.specs.declared.knowledge.Known.TheVariants.{Value, Fails, Open}
use Rattle.al_static.specs.Operators.{binary_value, converted_value, decides, is_member, is_scalar, keeps_static, unary_value}
use Rattle.al_static.specs.Words.{bit}

-- a static expression whose first token is there has no value
abbrev pub failure_at : Place → Fault
failure_at place = fault_at place StaticFailure

abbrev pub is_static : Known → Bool
is_static (Value v) = true
is_static (Fails place) = true
is_static (Open fault) = false

-- the first failure in an expression by itself: of its largest static expressions
abbrev pub failure_in : Known → Option Fault
failure_in (Value v) = None
failure_in (Fails place) = Some (failure_at place)
failure_in (Open fault) = fault

-- the static expression that begins there and has this value, if any
abbrev pub static_at : Place → Option ℤ → Known
static_at place (Some z) = Value (record { word = z })
static_at place None = Fails place

-- of two operands one of which at least has no value
abbrev pub joined : Place → Known → Known → Known
joined place a b = if is_static a && is_static b then Fails place else Open (earlier (failure_in a) (failure_in b))

abbrev pub of_one : Place → (ℤ → Option ℤ) → Known → Known
of_one place f (Value v) = static_at place (f v.word)
of_one place f (Fails inner) = Fails place
of_one place f (Open fault) = Open fault

abbrev pub of_two : Place → (ℤ → ℤ → Option ℤ) → Known → Known → Known
of_two place f (Value v) (Value w) = static_at place (f v.word w.word)
of_two place f a b = joined place a b

abbrev pub unary : Place → UnaryOperator → Known → Known
unary place operator operand = of_one place (unary_value operator) operand

abbrev pub binary : Place → BinaryOperator → Known → Known → Known
binary place operator a b =
    if is_scalar operator then of_two place (binary_value operator) a b else Open (earlier (failure_in a) (failure_in b))

abbrev pub converted : Place → Conversion → Option Bounds → Known → Known
converted place conversion bounds operand =
    if keeps_static conversion then of_one place (converted_value conversion bounds) operand else Open (failure_in operand)

-- of a value that is tested and both bounds, one of which at least has no value
abbrev pub untested : Place → Known → Known → Known → Known
untested place v l h =
    if is_static v && (is_static l && is_static h) then Fails place
    else Open (earlier (failure_in v) (earlier (failure_in l) (failure_in h)))

-- the value that is tested, and both bounds
abbrev pub membership : Place → Bool → Known → Known → Known → Known
membership place is_negated (Value v) (Value l) (Value h) = Value (record { word = bit (is_member is_negated v.word l.word h.word) })
membership place is_negated v l h = untested place v l h

-- If the left operand decides, nothing is known to fail in the right one, which isn't evaluated (ARM 4.9(33)).
abbrev pub decided : StaticValue → Known → Known
decided v right = if is_static right then Value v else Open None

-- if the left operand has a value that doesn't decide, the right one is the value
abbrev pub undecided : Place → Known → Known
undecided place right = of_one place Some right

abbrev pub short_circuit : Place → ShortCircuit → Known → Known → Known
short_circuit place form (Value v) right = if decides form v.word then decided v right else undecided place right
short_circuit place form left right = joined place left right

-- a name of an object: a constant with a static value has it, else what fails in the indices is reported
abbrev pub named : Option StaticValue → Option Fault → Known
named (Some v) fault = Value v
named None fault = Open fault
