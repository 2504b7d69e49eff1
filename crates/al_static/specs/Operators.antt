-- What predefined operators and attributes give of static operands (ARM 4.5, 3.5.5), if they give something.
use Rattle.std.specs.Prelude.{ℤ, pos, neg_ℤ, unsigned_abs, ◌+ℤ◌, ◌-ℤ◌, ◌*ℤ◌, int_lt, int_le, int_div, int_rem, Bool, true, false, not, ◌&&◌, ◌||◌, if◌then◌else◌, Option, Some, None}
use Rattle.std.specs.Ordering.{int_eq}
use Rattle.al_view.specs.declared.types.Bounds.{Bounds}
use Rattle.al_view_typed.specs.declared.label.BinaryOperator.{BinaryOperator}
use Rattle.al_view_typed.specs.declared.label.BinaryOperator.TheVariants as binary
use Rattle.al_view_typed.specs.declared.label.Conversion.{Conversion}
use Rattle.al_view_typed.specs.declared.label.Conversion.TheVariants as conversions
use Rattle.al_view_typed.specs.declared.label.ShortCircuit.{ShortCircuit}
use Rattle.al_view_typed.specs.declared.label.ShortCircuit.TheVariants as short
use Rattle.al_view_typed.specs.declared.label.UnaryOperator.{UnaryOperator}
use Rattle.al_view_typed.specs.declared.label.UnaryOperator.TheVariants as unary
use Rattle.al_static.specs.Words.{bit, by_divisor, int_mod, is_true, power, word_of}

unfoldable pub unary_value : UnaryOperator → ℤ → Option ℤ
unary_value unary.Plus a = Some a
unary_value unary.Minus a = word_of (neg_ℤ a)
unary_value unary.Abs a = word_of (pos (unsigned_abs a))
unary_value unary.Not a = Some (bit (not (is_true a)))

abbrev pub differ : Bool → Bool → Bool
differ true b = not b
differ false b = b

-- of the left operand and the right one; equality of what isn't seen to be scalar gives nothing
unfoldable pub binary_value : BinaryOperator → ℤ → ℤ → Option ℤ
binary_value binary.And a b = Some (bit (is_true a && is_true b))
binary_value binary.Or a b = Some (bit (is_true a || is_true b))
binary_value binary.Xor a b = Some (bit (differ (is_true a) (is_true b)))
binary_value binary.Equal a b = Some (bit (int_eq a b))
binary_value binary.NotEqual a b = Some (bit (not (int_eq a b)))
binary_value binary.Less a b = Some (bit (int_lt a b))
binary_value binary.LessOrEqual a b = Some (bit (int_le a b))
binary_value binary.Greater a b = Some (bit (int_lt b a))
binary_value binary.GreaterOrEqual a b = Some (bit (int_le b a))
binary_value binary.Plus a b = word_of (a +ℤ b)
binary_value binary.Minus a b = word_of (a -ℤ b)
binary_value binary.Times a b = word_of (a *ℤ b)
binary_value binary.Divide a b = by_divisor b (int_div a b)
binary_value binary.Mod a b = by_divisor b (int_mod a b)
binary_value binary.Rem a b = by_divisor b (int_rem a b)
binary_value binary.Power a b = power a b
binary_value binary.SameWords a b = None
binary_value binary.OtherWords a b = None

-- whether operands of an operator are seen to be scalar, so that static ones give a static expression
unfoldable pub is_scalar : BinaryOperator → Bool
is_scalar binary.And = true
is_scalar binary.Or = true
is_scalar binary.Xor = true
is_scalar binary.Equal = true
is_scalar binary.NotEqual = true
is_scalar binary.Less = true
is_scalar binary.LessOrEqual = true
is_scalar binary.Greater = true
is_scalar binary.GreaterOrEqual = true
is_scalar binary.Plus = true
is_scalar binary.Minus = true
is_scalar binary.Times = true
is_scalar binary.Divide = true
is_scalar binary.Mod = true
is_scalar binary.Rem = true
is_scalar binary.Power = true
is_scalar binary.SameWords = false
is_scalar binary.OtherWords = false

-- a value of a range, if there is a range
abbrev pub within : Option Bounds → ℤ → Option ℤ
within None z = Some z
within (Some b) z = if int_le b.low z && int_le z b.high then Some z else None

-- what is within a range, of a word that may be there
abbrev pub word_within : Option Bounds → Option ℤ → Option ℤ
word_within b None = None
word_within b (Some z) = within b z

-- what an attribute or conversion makes of a value, before it is compared with a range
unfoldable pub changed : Conversion → ℤ → Option ℤ
changed conversions.ToType z = Some z
changed conversions.Qualification z = Some z
changed conversions.Pos z = Some z
changed conversions.Val z = Some z
changed conversions.Succ z = word_of (z +ℤ pos 1)
changed conversions.Pred z = word_of (z -ℤ pos 1)
changed conversions.Milliseconds z = Some z

abbrev pub converted_value : Conversion → Option Bounds → ℤ → Option ℤ
converted_value c b z = word_within b (changed c z)

-- whether it makes a static expression of one: a function doesn't
unfoldable pub keeps_static : Conversion → Bool
keeps_static conversions.ToType = true
keeps_static conversions.Qualification = true
keeps_static conversions.Pos = true
keeps_static conversions.Val = true
keeps_static conversions.Succ = true
keeps_static conversions.Pred = true
keeps_static conversions.Milliseconds = false

-- whether a value lies in a range, or doesn't
abbrev pub is_member : Bool → ℤ → ℤ → ℤ → Bool
is_member is_negated z low high = differ is_negated (int_le low z && int_le z high)

-- whether the left operand alone decides: False of 'and then', True of 'or else'
abbrev pub decides : ShortCircuit → ℤ → Bool
decides short.AndThen z = not (is_true z)
decides short.OrElse z = is_true z
