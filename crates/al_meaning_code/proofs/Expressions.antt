-- The code of scalar expressions pushes their values, or raises their exceptions.
use Rattle.std.proofs.Common.{◌≡◌, ℕ, ◌+◌, ◌<◌, ◌≤◌, ℤ, List, [], ◌∷◌, Bool, true, false, ◌&&◌, Option, Some, None, Result, Ok, Err, refl, ◌∙◌, ap, subst, arith, inl, inr, ◌⊎◌, ⊎_elim}
use Rattle.std.proofs.lemmas.Bool.{cases_lt}
use Rattle.std.specs.Prelude.{⊤, int_le, if◌then◌else◌}
use Rattle.al_view.specs.declared.link.LinkSymbol.{LinkSymbol}
use Rattle.al_view.specs.declared.types.Bounds.{Bounds}
use Rattle.al_view_typed.specs.declared.label.BinaryOperator.{BinaryOperator}
use Rattle.al_view_typed.specs.declared.label.UnaryOperator.{UnaryOperator}
use Rattle.al_view_typed.specs.declared.label.UnaryOperator.TheVariants as unary
use Rattle.al_instr.specs.declared.instruction.Instr.{Instr}
use Rattle.al_instr.specs.declared.instruction.Instr.TheVariants as instr
use Rattle.al_instr.specs.declared.numbers.Plain.{Plain as PlainOne}
use Rattle.al_instr.specs.Codes.{encoded, size_of}
use Rattle.al_code.specs.declared.piece.Target.{Target}
use Rattle.al_code.specs.Pieces.{Piece, Whole, size}
use Rattle.al_code.specs.ExprPieces.{check_code}
use Rattle.al_code.specs.Templates.{unary_code, binary_code}
use Rattle.al_link_image.specs.declared.parts.Region.{Region}
use Rattle.al_machine.specs.declared.regions.Entered.{Entered}
use Rattle.al_machine.specs.declared.code.Step.{Step}
use Rattle.al_machine.specs.declared.instruction.Exception.TheVariants as exception
use Rattle.al_machine.specs.declared.instruction.Trap.{Trap}
use Rattle.al_machine.specs.declared.instruction.Trap.TheVariants.{Raised}
use Rattle.al_machine.specs.declared.instruction.Instruction.{Instruction}
use Rattle.al_machine.specs.declared.instruction.Instruction.TheVariants as kind
use Rattle.al_machine.specs.declared.operation.Operation.{Operation}
use Rattle.al_machine.specs.declared.operation.Operation.TheVariants as operation
use Rattle.al_machine.specs.Operations.{operation_of}
use Rattle.al_machine.specs.Code.{fetch}
use Rattle.al_machine.specs.Machine.{Machine, IsWithin}
use Rattle.al_machine.specs.Stack.{put, put_result, pushed}
use Rattle.al_machine.specs.Arithmetic.{operated, changed}
use Rattle.al_machine.specs.Bursts.{At}
use Rattle.al_machine.specs.Table.{on, exec}
use Rattle.al_meaning.specs.Scalars.{Failure, ConstraintError, ProgramError, Meaningless, Valued, within, applied, applied_to}
use Rattle.al_meaning_code.proofs.Plain.{then_value}
use Rattle.al_meaning_code.proofs.Machines.{leads_on, stays, traps_after, goes, fails, size_cons}
use Rattle.al_meaning_code.specs.Running.{at, Leads, Traps}
use Rattle.al_meaning_code.proofs.Effects.{put_pushed, self_pushed, pushes, pushes_not, operates, changes, checks}
use Rattle.al_meaning_code.specs.Showing.{Pushed}
use Rattle.al_meaning_code.specs.Standing.{Stands}
use Rattle.al_meaning_code.proofs.Operators.{plain_for, operator_for, binary_is, operation_is, agree-applied, unary_plain, unary_for, unary_operation_is, agree-changed}
use Rattle.al_meaning_code.specs.Laws.{Agree}
use Rattle.al_meaning_code.specs.Subset.{IsScalar}

pub plain_some : (p : PlainOne) → 0 < size_of (instr.Plain p)
unfolding encoded
plain_some p = omega arith

pub check_some : (l h : ℤ) → 0 < size_of (instr.Check l h)
unfolding encoded
check_some l h = omega arith

module _ (objects : List Region) (inside : List Entered) (code : List Step) where
  -- there is no room on the stack
  abbrev pub Short : At → ℕ → Machine → ℕ → ℕ → Type 0
  Short a from m to need = (m.first + 16384 < m.top + need) × Traps objects inside code a from to exception.Storage

  -- from a place on the machine ends where the value stands on top of m's stack, or raises the exception; or there is no room
  abbrev pub Ends : At → ℕ → Machine → ℕ → ℕ → Valued → Type 0
  Ends a from m to need (Ok v) = ((n : Machine) × Leads objects inside code a (at to n) × Pushed m n v) ⊎ Short a from m to need
  Ends a from m to need (Err ConstraintError) = Traps objects inside code a from to exception.Constraint ⊎ Short a from m to need
  Ends a from m to need (Err ProgramError) = Traps objects inside code a from to exception.Program ⊎ Short a from m to need
  Ends a from m to need (Err Meaningless) = ⊤

  -- short of room further on
  pub short_after : (a b : At) (n m : Machine) (from to from' to' need need' : ℕ) → n.first ≡ m.first → n.top + need ≤ m.top + need' → from' ≤ from → to ≤ to' → Leads objects inside code a b → Short b from n to need → Short a from' m to' need'
  short_after a b n m from to from' to' need need' first room low high l s =
      let lack = s.0 in (omega arith, traps_after objects inside code a b from' to' from to exception.Storage low high l s.1)

  -- short of room, whatever is meant
  pub short_any : (a : At) (m : Machine) (from to need : ℕ) (o : Valued) → Short a from m to need → Ends a from m to need o
  short_any a m from to need (Ok v) s = inr s
  short_any a m from to need (Err ConstraintError) s = inr s
  short_any a m from to need (Err ProgramError) s = inr s
  short_any a m from to need (Err Meaningless) s = tt

  -- a failure, as seen from before and over more code
  pub fails_on : (a b : At) (n m : Machine) (from to from' to' need need' : ℕ) (f : Failure) → n.first ≡ m.first → n.top + need ≤ m.top + need' → from' ≤ from → to ≤ to' → Leads objects inside code a b → Ends b from n to need (Err f) → Ends a from' m to' need' (Err f)
  fails_on a b n m from to from' to' need need' ConstraintError first room low high l (inl t) = inl (traps_after objects inside code a b from' to' from to exception.Constraint low high l t)
  fails_on a b n m from to from' to' need need' ConstraintError first room low high l (inr s) = inr (short_after a b n m from to from' to' need need' first room low high l s)
  fails_on a b n m from to from' to' need need' ProgramError first room low high l (inl t) = inl (traps_after objects inside code a b from' to' from to exception.Program low high l t)
  fails_on a b n m from to from' to' need need' ProgramError first room low high l (inr s) = inr (short_after a b n m from to from' to' need need' first room low high l s)
  fails_on a b n m from to from' to' need need' Meaningless first room low high l x = tt

  pub ends_after : (a b : At) (m : Machine) (from from' to need : ℕ) (o : Valued) → from' ≤ from → Leads objects inside code a b → Ends b from m to need o → Ends a from' m to need o
  ends_after a b m from from' to need (Ok v) low l (inl x) = inl (x.0, leads_on objects inside code a b (at to x.0) l x.1, x.2)
  ends_after a b m from from' to need (Ok v) low l (inr s) = inr (short_after a b m m from to from' to need need refl (omega arith) low (omega arith) l s)
  ends_after a b m from from' to need (Err ConstraintError) low l (inl t) = inl (traps_after objects inside code a b from' to from to exception.Constraint low (omega arith) l t)
  ends_after a b m from from' to need (Err ConstraintError) low l (inr s) = inr (short_after a b m m from to from' to need need refl (omega arith) low (omega arith) l s)
  ends_after a b m from from' to need (Err ProgramError) low l (inl t) = inl (traps_after objects inside code a b from' to from to exception.Program low (omega arith) l t)
  ends_after a b m from from' to need (Err ProgramError) low l (inr s) = inr (short_after a b m m from to from' to need need refl (omega arith) low (omega arith) l s)
  ends_after a b m from from' to need (Err Meaningless) low l e = tt

  -- a value, and what goes on with it
  pub then_ends : (a : At) (n m : Machine) (from mid from' to need need' : ℕ) (o : Valued) (f : ℤ → Valued) → n.first ≡ m.first → n.top + need ≤ m.top + need' → from' ≤ from → from ≤ mid → mid ≤ to → Ends a from n mid need o → ((v : ℤ) (p : Machine) → Pushed n p v → Ends (at mid p) mid m to need' (f v)) → Ends a from' m to need' (then_value o f)
  then_ends a n m from mid from' to need need' (Ok v) f first room low between high (inl x) go = ends_after a (at mid x.0) m mid from' to need' (f v) (omega arith) x.1 (go v x.0 x.2)
  then_ends a n m from mid from' to need need' (Ok v) f first room low between high (inr s) go = lack (f v)
    where
      st : Short a from' m to need'
      st = short_after a a n m from mid from' to need need' first room low high (stays objects inside code a) s

      lack : (o : Valued) → Ends a from' m to need' o
      lack (Ok w) = inr st
      lack (Err ConstraintError) = inr st
      lack (Err ProgramError) = inr st
      lack (Err Meaningless) = tt
  then_ends a n m from mid from' to need need' (Err ConstraintError) f first room low between high (inl t) go = inl (traps_after objects inside code a a from' to from mid exception.Constraint low high (stays objects inside code a) t)
  then_ends a n m from mid from' to need need' (Err ConstraintError) f first room low between high (inr s) go = inr (short_after a a n m from mid from' to need need' first room low high (stays objects inside code a) s)
  then_ends a n m from mid from' to need need' (Err ProgramError) f first room low between high (inl t) go = inl (traps_after objects inside code a a from' to from mid exception.Program low high (stays objects inside code a) t)
  then_ends a n m from mid from' to need need' (Err ProgramError) f first room low between high (inr s) go = inr (short_after a a n m from mid from' to need need' first room low high (stays objects inside code a) s)
  then_ends a n m from mid from' to need need' (Err Meaningless) f first room low between high e go = tt

  -- one instruction whose result is put at m's top
  pub result_ends : (i : Instruction) (pc next to need : ℕ) (m p : Machine) (o : Valued) (r : Result ℤ Trap) → fetch code pc ≡ Some (operation.Word i, next) → next ≡ to → pc < to → exec objects inside next i p ≡ on (put_result m.top p r) → Agree o r → ((v : ℤ) → Pushed m (put m.top p v) v) → Ends (at pc p) pc m to need o
  result_ends i pc next to need m p (Ok v) r there is less e agree push =
      inl (put m.top p v, subst (λ (q : ℕ). Leads objects inside code (at pc p) (at q (put m.top p v))) is (goes objects inside code pc next i p (put m.top p v) there (e ∙ ap (λ (x : Result ℤ Trap). on (put_result m.top p x)) agree)), push v)
  result_ends i pc next to need m p (Err ConstraintError) r there is less e agree push = inl (fails objects inside code pc next to i p exception.Constraint there less (e ∙ ap (λ (x : Result ℤ Trap). on (put_result m.top p x)) agree))
  result_ends i pc next to need m p (Err ProgramError) r there is less e agree push = inl (fails objects inside code pc next to i p exception.Program there less (e ∙ ap (λ (x : Result ℤ Trap). on (put_result m.top p x)) agree))
  result_ends i pc next to need m p (Err Meaningless) r there is less e agree push = tt

  -- a word is pushed that is known
  pub push_ends : (i : Instruction) (pc next to need : ℕ) (m : Machine) (v : ℤ) → fetch code pc ≡ Some (operation.Word i, next) → next ≡ to → pc < to → exec objects inside next i m ≡ on (pushed v m) → IsWithin m → 1 ≤ need → Ends (at pc m) pc m to need (Ok v)
  push_ends i pc next to need m v there is less e w some =
      ⊎_elim
      (λ (room : m.top < m.first + 16384). inl (put m.top m v, subst (λ (q : ℕ). Leads objects inside code (at pc m) (at q (put m.top m v))) is (goes objects inside code pc next i m (put m.top m v) there (e ∙ ap on (pushes objects inside m v room))), self_pushed m v w room))
      (λ (full : m.first + 16384 ≤ m.top). inr (omega arith, fails objects inside code pc next to i m exception.Storage there less (e ∙ ap on (pushes_not objects inside m v full))))
      (cases_lt m.top (m.first + 16384))

  -- two words that an operator makes one of
  pub operator_ends : (o : BinaryOperator) (w pc to need : ℕ) (linked : LinkSymbol → Instr → Instr) (ends : Target → ℕ) (m n p : Machine) (a b : ℤ) → IsScalar o → IsWithin m → Pushed m n a → Pushed n p b → Stands code linked ends pc (binary_code o w) → pc + size (binary_code o w) ≡ to → Ends (at pc p) pc m to need (applied o a b)
  unfolding exec
  operator_ends o w pc to need linked ends m n p a b scalar within x y stands len =
      let s = subst (Stands code linked ends pc) (binary_is o w scalar) stands in
      let there = s.0 ∙ ap (λ (z : Operation). Some (z, pc + size_of (instr.Plain (plain_for o)))) (operation_is o) in
      let fx = x.first in let fy = y.first in let tx = x.top in let ty = y.top in let wi = within.own in let py = y.within in let room = py.room in
      let l = subst (λ (q : List Piece). pc + size q ≡ to) (binary_is o w scalar) len in
      let more : pc + size_of (instr.Plain (plain_for o)) ≡ to = omega (arith, l, size_cons (Whole (instr.Plain (plain_for o))) []) in
      let some = plain_some (plain_for o) in
      result_ends (kind.Binary (operator_for o)) pc (pc + size_of (instr.Plain (plain_for o))) to need m p (applied o a b) (operated (operator_for o) a b) there more (omega arith) (ap on (operates (operator_for o) m n p a b within x y)) (agree-applied o scalar a b)
      (λ v. put_pushed m p v within y.within (fy ∙ fx) (y.frame ∙ x.frame) (y.long ∙ x.long) (omega arith) (λ k h. y.kept k (omega arith) ∙ x.kept k h))

  by_instruction : (o : UnaryOperator) → (o ≡ unary.Plus → ⊥) → (pc need : ℕ) (linked : LinkSymbol → Instr → Instr) (ends : Target → ℕ) (m n : Machine) (a : ℤ) → IsWithin m → Pushed m n a → Stands code linked ends pc (Whole (instr.Plain (unary_plain o)) ∷ []) → Ends (at pc n) pc m (pc + size (Whole (instr.Plain (unary_plain o)) ∷ [])) need (applied_to o a)
  unfolding exec
  by_instruction o other pc need linked ends m n a within x s =
      let there = s.0 ∙ ap (λ (z : Operation). Some (z, pc + size_of (instr.Plain (unary_plain o)))) (unary_operation_is o) in
      let fx = x.first in let tx = x.top in let wi = within.own in let py = x.within in let room = py.room in
      let more : pc + size_of (instr.Plain (unary_plain o)) ≡ pc + size (Whole (instr.Plain (unary_plain o)) ∷ []) = omega (arith, size_cons (Whole (instr.Plain (unary_plain o))) []) in
      let some = plain_some (unary_plain o) in
      result_ends (kind.Unary (unary_for o)) pc (pc + size_of (instr.Plain (unary_plain o))) _ need m n (applied_to o a) (changed (unary_for o) a) there more (omega (arith, more)) (ap on (changes (unary_for o) m n a within x)) (agree-changed o other a)
      (λ v. put_pushed m n v within x.within fx x.frame x.long (omega arith) (λ k h. x.kept k h))

  -- the unary ones
  pub unary_ends : (o : UnaryOperator) (pc need : ℕ) (linked : LinkSymbol → Instr → Instr) (ends : Target → ℕ) (m n : Machine) (a : ℤ) → IsWithin m → Pushed m n a → Stands code linked ends pc (unary_code o) → Ends (at pc n) pc m (pc + size (unary_code o)) need (applied_to o a)
  unfolding exec applied_to
  unary_ends unary.Plus pc need linked ends m n a within x stands =
      let same : pc ≡ pc + size [] = omega arith in
      inl (n, subst (λ (q : ℕ). Leads objects inside code (at pc n) (at q n)) same (stays objects inside code (at pc n)), x)
  unary_ends unary.Minus pc need linked ends m n a within x stands = by_instruction unary.Minus plus_not pc need linked ends m n a within x stands
    where
      plus_not : unary.Minus ≡ unary.Plus → ⊥
      plus_not e = cc
  unary_ends unary.Abs pc need linked ends m n a within x stands = by_instruction unary.Abs plus_not pc need linked ends m n a within x stands
    where
      plus_not : unary.Abs ≡ unary.Plus → ⊥
      plus_not e = cc
  unary_ends unary.Not pc need linked ends m n a within x stands = by_instruction unary.Not plus_not pc need linked ends m n a within x stands
    where
      plus_not : unary.Not ≡ unary.Plus → ⊥
      plus_not e = cc

  -- a range check
  pub check_ends : (b : Option Bounds) (pc need : ℕ) (linked : LinkSymbol → Instr → Instr) (ends : Target → ℕ) (m n : Machine) (a : ℤ) → IsWithin m → Pushed m n a → Stands code linked ends pc (check_code b) → Ends (at pc n) pc m (pc + size (check_code b)) need (within b a)
  unfolding exec operation_of
  check_ends None pc need linked ends m n a inside_ x stands =
      let same : pc ≡ pc + size [] = omega arith in
      inl (n, subst (λ (q : ℕ). Leads objects inside code (at pc n) (at q n)) same (stays objects inside code (at pc n)), x)
  check_ends (Some b) pc need linked ends m n a inside_ x stands = go (int_le b.low a && int_le a b.high) refl
    where
      i : Instr
      i = instr.Check b.low b.high

      len : pc + size_of i ≡ pc + size (Whole i ∷ [])
      len = omega (arith, size_cons (Whole i) [])

      less : pc < pc + size (Whole i ∷ [])
      less = let some = check_some b.low b.high in omega (arith, size_cons (Whole i) [])

      effect : (t : Bool) → (int_le b.low a && int_le a b.high) ≡ t → exec objects inside (pc + size_of i) (kind.Check b.low b.high) n ≡ on (if t then Ok n else Err (Raised exception.Constraint))
      effect t e = ap on (checks b.low b.high m n a inside_ x ∙ ap (λ (z : Bool). if z then Ok n else Err (Raised exception.Constraint)) e)

      go : (t : Bool) → (int_le b.low a && int_le a b.high) ≡ t → Ends (at pc n) pc m (pc + size (Whole i ∷ [])) need (if t then Ok a else Err ConstraintError)
      go true e = inl (n, subst (λ (q : ℕ). Leads objects inside code (at pc n) (at q n)) len (goes objects inside code pc (pc + size_of i) (kind.Check b.low b.high) n n stands.0 (effect true e)), x)
      go false e = inl (fails objects inside code pc (pc + size_of i) (pc + size (Whole i ∷ [])) (kind.Check b.low b.high) n exception.Constraint stands.0 less (effect false e))
