-- Words: integers of 64 bits (ARM 3.5.4), and what is computed of them.
use Rattle.std.specs.Prelude.{ℤ, pos, negsuc, ◌+ℤ◌, int_lt, int_rem, Bool, ◌&&◌, ◌||◌, nat_lt, Option, Some, None, if◌then◌else◌}
use Rattle.std.specs.Ordering.{int_eq}
use Rattle.std.specs.Int.{int_pow}

-- whether a number is a word: from -2**63 to 2**63 - 1
abbrev pub is_word : ℤ → Bool
is_word (pos n) = nat_lt n 9223372036854775808
is_word (negsuc n) = nat_lt n 9223372036854775808

-- the number as a word, if it is one
abbrev pub word_of : ℤ → Option ℤ
word_of z = if is_word z then Some z else None

-- False is 0, True is 1
abbrev pub bit : Bool → ℤ
bit b = if b then pos 1 else pos 0

abbrev pub is_true : ℤ → Bool
is_true z = int_eq z (pos 1)

-- whether two numbers have opposite signs
abbrev pub are_opposite : ℤ → ℤ → Bool
are_opposite a b = (int_lt a (pos 0) && int_lt (pos 0) b) || (int_lt (pos 0) a && int_lt b (pos 0))

-- the remainder with the sign of the divisor
abbrev pub int_mod : ℤ → ℤ → ℤ
int_mod a b = let r = int_rem a b in if are_opposite r b then r +ℤ b else r

-- by a divisor other than 0
abbrev pub by_divisor : ℤ → ℤ → Option ℤ
by_divisor b z = if int_eq b (pos 0) then None else word_of z

-- to an exponent that isn't negative
abbrev pub power : ℤ → ℤ → Option ℤ
power a (pos n) = word_of (int_pow a n)
power a (negsuc n) = None
