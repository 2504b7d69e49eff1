-- Scalars, and what operators give of them (ARM 3.5, 4.5).
use Rattle.std.specs.Prelude.{ℤ, pos, negsuc, neg_ℤ, unsigned_abs, ◌+ℤ◌, ◌-ℤ◌, ◌*ℤ◌, int_lt, int_le, int_div, int_rem, Bool, true, false, not, ◌&&◌, ◌||◌, if◌then◌else◌, Option, Some, None, Result, Ok, Err}
use Rattle.std.specs.Ordering.{int_eq}
use Rattle.std.specs.Int.{int_pow}
use Rattle.al_view.specs.declared.types.Bounds.{Bounds}
use Rattle.al_view_typed.specs.declared.label.BinaryOperator.{BinaryOperator}
use Rattle.al_view_typed.specs.declared.label.BinaryOperator.TheVariants as binary
use Rattle.al_view_typed.specs.declared.label.Conversion.{Conversion}
use Rattle.al_view_typed.specs.declared.label.Conversion.TheVariants as conversions
use Rattle.al_view_typed.specs.declared.label.UnaryOperator.{UnaryOperator}
use Rattle.al_view_typed.specs.declared.label.UnaryOperator.TheVariants as unary

-- why there is no value: an exception (ARM 11.1), or what no checked unit does
pub data Failure : Type 0 where
  ConstraintError : Failure
  ProgramError : Failure
  Meaningless : Failure

abbrev pub Valued : Type 0
Valued = Result ℤ Failure

-- the base range of all integer types
abbrev pub is_number : ℤ → Bool
is_number (pos n) = int_le (pos n) (pos 9223372036854775807)
is_number (negsuc n) = int_le (negsuc 9223372036854775807) (negsuc n)

-- a result outside of it raises Constraint_Error (ARM 4.5(10))
abbrev pub number_of : ℤ → Valued
number_of z = if is_number z then Ok z else Err ConstraintError

-- the position of a value of Boolean (ARM 3.5.3)
abbrev pub truth : Bool → ℤ
truth true = pos 1
truth false = pos 0

abbrev pub truth_of : ℤ → Option Bool
truth_of z = if int_eq z (pos 0) then Some false else if int_eq z (pos 1) then Some true else None

abbrev pub with_truth : Option Bool → (Bool → Valued) → Valued
with_truth (Some b) f = f b
with_truth None f = Err Meaningless

-- the range check (ARM 3.5(27))
abbrev pub within : Option Bounds → ℤ → Valued
within None z = Ok z
within (Some b) z = if int_le b.low z && int_le z b.high then Ok z else Err ConstraintError

-- a divisor of zero raises Constraint_Error (ARM 4.5.5(22))
abbrev pub by : ℤ → ℤ → Valued
by b z = if int_eq b (pos 0) then Err ConstraintError else number_of z

-- mod has the sign of the right operand, rem that of the left one (ARM 4.5.5(8))
abbrev pub modulo : ℤ → ℤ → ℤ
modulo a b =
    let r = int_rem a b in
    if (int_lt r (pos 0) && int_lt (pos 0) b) || (int_lt (pos 0) r && int_lt b (pos 0)) then r +ℤ b else r

-- an exponent below zero raises Constraint_Error (ARM 4.5.6(8))
abbrev pub raised_to : ℤ → ℤ → Valued
raised_to a (pos n) = number_of (int_pow a n)
raised_to a (negsuc n) = Err ConstraintError

abbrev pub logic : (Bool → Bool → Bool) → ℤ → ℤ → Valued
logic f a b = with_truth (truth_of a) (λ x. with_truth (truth_of b) (λ y. Ok (truth (f x y))))

abbrev pub xor_of : Bool → Bool → Bool
xor_of true b = not b
xor_of false b = b

-- what an operator gives of two scalars (ARM 4.5.1 to 4.5.6)
unfoldable pub applied : BinaryOperator → ℤ → ℤ → Valued
applied binary.Plus a b = number_of (a +ℤ b)
applied binary.Minus a b = number_of (a -ℤ b)
applied binary.Times a b = number_of (a *ℤ b)
applied binary.Divide a b = by b (int_div a b)
applied binary.Mod a b = by b (modulo a b)
applied binary.Rem a b = by b (int_rem a b)
applied binary.Power a b = raised_to a b
applied binary.And a b = logic (λ x y. x && y) a b
applied binary.Or a b = logic (λ x y. x || y) a b
applied binary.Xor a b = logic xor_of a b
applied binary.Equal a b = Ok (truth (int_eq a b))
applied binary.NotEqual a b = Ok (truth (not (int_eq a b)))
applied binary.Less a b = Ok (truth (int_lt a b))
applied binary.LessOrEqual a b = Ok (truth (int_le a b))
applied binary.Greater a b = Ok (truth (int_lt b a))
applied binary.GreaterOrEqual a b = Ok (truth (int_le b a))
applied binary.SameWords a b = Ok (truth (int_eq a b))
applied binary.OtherWords a b = Ok (truth (not (int_eq a b)))

unfoldable pub applied_to : UnaryOperator → ℤ → Valued
applied_to unary.Plus a = Ok a
applied_to unary.Minus a = number_of (neg_ℤ a)
applied_to unary.Abs a = number_of (pos (unsigned_abs a))
applied_to unary.Not a = with_truth (truth_of a) (λ b. Ok (truth (not b)))

-- the value before or after it (ARM 3.5(22, 25)); else the same value
unfoldable pub stepped : Conversion → ℤ → Valued
stepped conversions.Succ z = number_of (z +ℤ pos 1)
stepped conversions.Pred z = number_of (z -ℤ pos 1)
stepped _ z = Ok z
