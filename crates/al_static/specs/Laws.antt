-- Division, in the Manual's words (ARM 4.5.5(5 to 7)).
use Rattle.std.specs.Prelude.{◌≡◌, ◌<◌, ℤ, ◌+ℤ◌, ◌*ℤ◌, unsigned_abs, false, Some}
use Rattle.al_view_typed.specs.declared.label.BinaryOperator.TheVariants.{Divide, Mod, Rem}
use Rattle.al_static.specs.Operators.{binary_value}
use Rattle.al_static.specs.Words.{are_opposite}

-- a number is its quotient times the divisor, with the remainder, which is less than the divisor
abbrev pub DivisionsLeaveRemainders : Type 0
DivisionsLeaveRemainders =
    (a b q r : ℤ) → binary_value Divide a b ≡ Some q → binary_value Rem a b ≡ Some r
    → (q *ℤ b +ℤ r ≡ a) × (unsigned_abs r < unsigned_abs b)

-- the modulus never has the sign that the divisor hasn't
abbrev pub ModuliFollowTheDivisor : Type 0
ModuliFollowTheDivisor = (a b m : ℤ) → binary_value Mod a b ≡ Some m → are_opposite m b ≡ false
