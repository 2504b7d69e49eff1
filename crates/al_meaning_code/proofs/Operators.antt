-- The operators of the machine give what those of the language do.
use Rattle.std.proofs.Common.{◌≡◌, ℕ, ℤ, Bool, true, false, not, ◌&&◌, ◌||◌, [], ◌∷◌, Option, Some, None, Result, Ok, Err, refl, sym, ◌∙◌, ap, arith, inl, inr, ◌⊎◌}
use Rattle.std.proofs.lemmas.Bool.Decides.{nat_tests, Decides-int_eq}
use Rattle.std.proofs.lemmas.Int.{ints}
use Rattle.std.specs.Prelude.{pos, negsuc, neg_ℤ, unsigned_abs, ◌+ℤ◌, ◌-ℤ◌, ◌*ℤ◌, int_lt, int_le, int_div, int_rem, if◌then◌else◌}
use Rattle.std.specs.Ordering.{int_eq}
use Rattle.std.specs.Int.{int_pow}
use Rattle.al_view_typed.specs.declared.label.BinaryOperator.{BinaryOperator}
use Rattle.al_view_typed.specs.declared.label.BinaryOperator.TheVariants as source
use Rattle.al_view_typed.specs.declared.label.UnaryOperator.{UnaryOperator}
use Rattle.al_view_typed.specs.declared.label.UnaryOperator.TheVariants as unary
use Rattle.al_instr.specs.declared.instruction.Instr.TheVariants as instr
use Rattle.al_instr.specs.declared.numbers.Plain.{Plain as PlainOne}
use Rattle.al_instr.specs.declared.numbers.Plain.TheVariants as plain
use Rattle.al_code.specs.Pieces.{Whole}
use Rattle.al_code.specs.Templates.{binary_code}
use Rattle.al_machine.specs.declared.instruction.BinaryOperator.{BinaryOperator as MachineOperator}
use Rattle.al_machine.specs.declared.instruction.BinaryOperator.TheVariants as machine
use Rattle.al_machine.specs.declared.instruction.UnaryOperator.{UnaryOperator as MachineUnary}
use Rattle.al_machine.specs.declared.instruction.UnaryOperator.TheVariants as machine_unary
use Rattle.al_machine.specs.declared.instruction.Exception.TheVariants as exception
use Rattle.al_machine.specs.declared.instruction.Instruction.TheVariants as kind
use Rattle.al_machine.specs.declared.instruction.Trap.{Trap}
use Rattle.al_machine.specs.declared.instruction.Trap.TheVariants.{Raised}
use Rattle.al_machine.specs.declared.operation.Operation.TheVariants as operation
use Rattle.al_machine.specs.Operations.{operation_of, plain_operation}
use Rattle.al_machine.specs.Words.{is_word, word_of, bit}
use Rattle.al_machine.specs.Arithmetic.{int_mod, by_divisor, power, logical, differ, both, either, operated, complement, changed}
use Rattle.al_meaning_code.specs.Subset.{IsScalar}
use Rattle.al_meaning.specs.Scalars.{ConstraintError, Meaningless, is_number, number_of, truth, truth_of, with_truth, by, raised_to, logic, xor_of, applied, applied_to}
use Rattle.al_meaning_code.specs.Laws.{Agree}

same_range : (z : ℤ) → is_number z ≡ is_word z
same_range (pos n) = grind (arith, nat_tests, ints)
same_range (negsuc n) = grind (arith, nat_tests, ints)

agree_if : (b : Bool) (z : ℤ) → Agree (if b then Ok z else Err ConstraintError) (if b then Ok z else Err (Raised exception.Constraint))
agree_if true z = refl
agree_if false z = refl

pub agree-number : (z : ℤ) → Agree (number_of z) (word_of z)
agree-number z = rw (same_range z) (agree_if (is_word z) z)

agree-by : (b z : ℤ) → Agree (by b z) (by_divisor b z)
agree-by b z = go (int_eq b (pos 0))
  where
    go : (t : Bool) → Agree (if t then Err ConstraintError else number_of z) (if t then Err (Raised exception.Constraint) else word_of z)
    go true = refl
    go false = agree-number z

agree-power : (a b : ℤ) → Agree (raised_to a b) (power a b)
agree-power a (pos n) = agree-number (int_pow a n)
agree-power a (negsuc n) = refl

-- a number is one of the two truths, or none
pub two_truths : (a : ℤ) → (a ≡ pos 0) ⊎ ((a ≡ pos 1) ⊎ (truth_of a ≡ None))
two_truths a = go (int_eq a (pos 0)) (int_eq a (pos 1)) refl refl
  where
    go : (s t : Bool) → int_eq a (pos 0) ≡ s → int_eq a (pos 1) ≡ t → (a ≡ pos 0) ⊎ ((a ≡ pos 1) ⊎ (truth_of a ≡ None))
    go true t e f = inl ((Decides-int_eq a (pos 0)).0 e)
    go false true e f = inr (inl ((Decides-int_eq a (pos 1)).0 f))
    go false false e f = inr (inr (rw (e, f) refl))

agree-logic : (f : Bool → Bool → Bool) (g : Bool → Bool → Bool) → ((x y : Bool) → f x y ≡ g x y) → (a b : ℤ) → Agree (logic f a b) (logical g a b)
agree-logic f g same a b = go (two_truths a) (two_truths b)
  where
    bits : (x y : Bool) → bit (g x y) ≡ truth (f x y)
    bits x y = ap bit (sym (same x y)) ∙ tell (f x y)
      where
        tell : (t : Bool) → bit t ≡ truth t
        tell true = refl
        tell false = refl

    none_right : (x : Option Bool) → Agree (with_truth x (λ y. Err Meaningless)) (logical g a b)
    none_right None = tt
    none_right (Some x) = tt

    go : (a ≡ pos 0) ⊎ ((a ≡ pos 1) ⊎ (truth_of a ≡ None)) → (b ≡ pos 0) ⊎ ((b ≡ pos 1) ⊎ (truth_of b ≡ None)) → Agree (logic f a b) (logical g a b)
    go (inr (inr e)) y = rw e tt
    go (inl e) (inr (inr h)) = rw h (none_right (truth_of a))
    go (inr (inl e)) (inr (inr h)) = rw h (none_right (truth_of a))
    go (inl e) (inl h) = rw (e, h) (ap Ok (bits false false))
    go (inl e) (inr (inl h)) = rw (e, h) (ap Ok (bits false true))
    go (inr (inl e)) (inl h) = rw (e, h) (ap Ok (bits true false))
    go (inr (inl e)) (inr (inl h)) = rw (e, h) (ap Ok (bits true true))

truth_bit : (b : Bool) → ◌≡◌ {A = Result ℤ Trap} (Ok (bit b)) (Ok (truth b))
truth_bit true = refl
truth_bit false = refl

ands : (x y : Bool) → (x && y) ≡ both x y
ands x y = refl

ors : (x y : Bool) → (x || y) ≡ either x y
ors x y = refl

xors : (x y : Bool) → xor_of x y ≡ differ x y
xors true y = refl
xors false y = refl

abbrev pub plain_for : BinaryOperator → PlainOne
plain_for source.And = plain.And
plain_for source.Or = plain.Or
plain_for source.Xor = plain.Xor
plain_for source.Equal = plain.Equal
plain_for source.NotEqual = plain.NotEqual
plain_for source.Less = plain.Less
plain_for source.LessOrEqual = plain.AtMost
plain_for source.Greater = plain.Greater
plain_for source.GreaterOrEqual = plain.AtLeast
plain_for source.Plus = plain.Add
plain_for source.Minus = plain.Subtract
plain_for source.Times = plain.Multiply
plain_for source.Divide = plain.Divide
plain_for source.Mod = plain.Modulo
plain_for source.Rem = plain.Remainder
plain_for source.Power = plain.Power
plain_for source.SameWords = plain.Equal
plain_for source.OtherWords = plain.NotEqual

abbrev pub operator_for : BinaryOperator → MachineOperator
operator_for source.And = machine.And
operator_for source.Or = machine.Or
operator_for source.Xor = machine.Xor
operator_for source.Equal = machine.Eq
operator_for source.NotEqual = machine.Ne
operator_for source.Less = machine.Lt
operator_for source.LessOrEqual = machine.Le
operator_for source.Greater = machine.Gt
operator_for source.GreaterOrEqual = machine.Ge
operator_for source.Plus = machine.Add
operator_for source.Minus = machine.Sub
operator_for source.Times = machine.Mul
operator_for source.Divide = machine.Div
operator_for source.Mod = machine.Mod
operator_for source.Rem = machine.Rem
operator_for source.Power = machine.Pow
operator_for source.SameWords = machine.Eq
operator_for source.OtherWords = machine.Ne

pub binary_is : (o : BinaryOperator) (w : ℕ) → IsScalar o → binary_code o w ≡ Whole (instr.Plain (plain_for o)) ∷ []
binary_is source.SameWords w s = absurd s
binary_is source.OtherWords w s = absurd s
binary_is _ w s = refl

pub operation_is : (o : BinaryOperator) → operation_of (instr.Plain (plain_for o)) ≡ operation.Word (kind.Binary (operator_for o))
unfolding operation_of plain_operation
operation_is source.And = refl
operation_is _ = refl

pub agree-applied : (o : BinaryOperator) → IsScalar o → (a b : ℤ) → Agree (applied o a b) (operated (operator_for o) a b)
unfolding applied operated
agree-applied source.And s a b = agree-logic (λ x y. x && y) both ands a b
agree-applied source.Or s a b = agree-logic (λ x y. x || y) either ors a b
agree-applied source.Xor s a b = agree-logic xor_of differ xors a b
agree-applied source.Equal s a b = truth_bit (int_eq a b)
agree-applied source.NotEqual s a b = truth_bit (not (int_eq a b))
agree-applied source.Less s a b = truth_bit (int_lt a b)
agree-applied source.LessOrEqual s a b = truth_bit (int_le a b)
agree-applied source.Greater s a b = truth_bit (int_lt b a)
agree-applied source.GreaterOrEqual s a b = truth_bit (int_le b a)
agree-applied source.Plus s a b = agree-number (a +ℤ b)
agree-applied source.Minus s a b = agree-number (a -ℤ b)
agree-applied source.Times s a b = agree-number (a *ℤ b)
agree-applied source.Divide s a b = agree-by b (int_div a b)
agree-applied source.Mod s a b = agree-by b (int_mod a b)
agree-applied source.Rem s a b = agree-by b (int_rem a b)
agree-applied source.Power s a b = agree-power a b
agree-applied source.SameWords s a b = absurd s
agree-applied source.OtherWords s a b = absurd s

-- the unary ones; `+` has no instruction
abbrev pub unary_plain : UnaryOperator → PlainOne
unary_plain unary.Minus = plain.Negate
unary_plain unary.Abs = plain.Absolute
unary_plain unary.Not = plain.Not
unary_plain unary.Plus = plain.Not

abbrev pub unary_for : UnaryOperator → MachineUnary
unary_for unary.Minus = machine_unary.Neg
unary_for unary.Abs = machine_unary.Abs
unary_for unary.Not = machine_unary.Not
unary_for unary.Plus = machine_unary.Not

pub unary_operation_is : (o : UnaryOperator) → operation_of (instr.Plain (unary_plain o)) ≡ operation.Word (kind.Unary (unary_for o))
unfolding operation_of plain_operation
unary_operation_is unary.Plus = refl
unary_operation_is _ = refl

agree-not : (a : ℤ) → Agree (with_truth (truth_of a) (λ b. Ok (truth (not b)))) (complement (pos 1 -ℤ a))
agree-not a = go (two_truths a)
  where
    go : (a ≡ pos 0) ⊎ ((a ≡ pos 1) ⊎ (truth_of a ≡ None)) → Agree (with_truth (truth_of a) (λ b. Ok (truth (not b)))) (complement (pos 1 -ℤ a))
    go (inr (inr e)) = rw e tt
    go (inl e) = rw e refl
    go (inr (inl e)) = rw e refl

pub agree-changed : (o : UnaryOperator) → (o ≡ unary.Plus → ⊥) → (a : ℤ) → Agree (applied_to o a) (changed (unary_for o) a)
unfolding applied_to changed
agree-changed unary.Plus n a = absurd (n refl)
agree-changed unary.Minus n a = agree-number (neg_ℤ a)
agree-changed unary.Abs n a = agree-number (pos (unsigned_abs a))
agree-changed unary.Not n a = agree-not a
