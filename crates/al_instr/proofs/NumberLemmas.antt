-- Which instruction has a number.
use Rattle.std.proofs.Common.{◌≡◌, Some, refl}
use Rattle.al_instr.specs.declared.numbers.Plain.{Plain}
use Rattle.al_instr.specs.declared.numbers.Plain.TheVariants as plain
use Rattle.al_instr.specs.declared.numbers.Sized.{Sized}
use Rattle.al_instr.specs.declared.numbers.Sized.TheVariants as sized
use Rattle.al_instr.specs.declared.numbers.Protected.{Protected}
use Rattle.al_instr.specs.declared.numbers.Protected.TheVariants as protected
use Rattle.al_instr.specs.Numbers.{plain_number, sized_number, protected_number, plain_of, sized_of, protected_of}

pub plain_again : (p : Plain) → plain_of (plain_number p) ≡ Some p
plain_again plain.Add = refl
plain_again plain.Subtract = refl
plain_again plain.Multiply = refl
plain_again plain.Divide = refl
plain_again plain.Modulo = refl
plain_again plain.Remainder = refl
plain_again plain.Power = refl
plain_again plain.Negate = refl
plain_again plain.Absolute = refl
plain_again plain.Not = refl
plain_again plain.And = refl
plain_again plain.Or = refl
plain_again plain.Xor = refl
plain_again plain.Equal = refl
plain_again plain.NotEqual = refl
plain_again plain.Less = refl
plain_again plain.AtMost = refl
plain_again plain.Greater = refl
plain_again plain.AtLeast = refl
plain_again plain.Root = refl
plain_again plain.Access = refl
plain_again plain.NewLine = refl
plain_again plain.Go = refl
plain_again plain.Begun = refl
plain_again plain.Done = refl
plain_again plain.Now = refl
plain_again plain.Sleep = refl
plain_again plain.Leave = refl

pub sized_again : (p : Sized) → sized_of (sized_number p) ≡ Some p
sized_again sized.Load = refl
sized_again sized.Store = refl
sized_again sized.Zero = refl
sized_again sized.Same = refl
sized_again sized.Drop = refl
sized_again sized.Field = refl
sized_again sized.Mark = refl
sized_again sized.Enter = refl
sized_again sized.Return = refl
sized_again sized.Raise = refl
sized_again sized.PutInteger = refl

pub protected_again : (p : Protected) → protected_of (protected_number p) ≡ Some p
protected_again protected.Enter = refl
protected_again protected.EnterEntry = refl
protected_again protected.Waiting = refl
protected_again protected.Wake = refl
protected_again protected.Block = refl
