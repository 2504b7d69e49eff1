-- The machine in a few steps: pieces of code that stand in a program, and what single instructions do.
use Rattle.std.proofs.Common.{◌≡◌, ℕ, zero, suc, ◌+◌, ◌-◌, ◌<◌, ◌≤◌, ℤ, List, [], ◌∷◌, ◌++◌, true, Option, Some, None, Result, Ok, Err, length, refl, ◌∙◌, ap, arith, length-append}
use Rattle.std.proofs.lemmas.Bool.Decides.{nat_tests}
use Rattle.std.specs.Prelude.{pos, option_and_then, ◌+ℤ◌}
use Rattle.al_instr.specs.Codes.{encoded, size_of, jump_bytes}
use Rattle.al_code.specs.declared.piece.JumpCondition.{JumpCondition}
use Rattle.al_code.specs.declared.piece.JumpCondition.TheVariants as when
use Rattle.al_code.specs.Pieces.{Piece, jump_of, piece_bytes, piece_size, bytes_of, size}
use Rattle.al_link_image.specs.declared.parts.Region.{Region}
use Rattle.al_machine.specs.declared.regions.Entered.{Entered}
use Rattle.al_machine.specs.declared.code.Step.{Step}
use Rattle.al_machine.specs.declared.instruction.Exception.{Exception}
use Rattle.al_machine.specs.declared.instruction.Flow.{Flow}
use Rattle.al_machine.specs.declared.instruction.Flow.TheVariants.{On}
use Rattle.al_machine.specs.declared.instruction.Trap.{Trap}
use Rattle.al_machine.specs.declared.instruction.Trap.TheVariants.{Raised}
use Rattle.al_machine.specs.declared.instruction.Instruction.{Instruction}
use Rattle.al_machine.specs.declared.instruction.Instruction.TheVariants as kind
use Rattle.al_machine.specs.declared.operation.Operation.{Operation}
use Rattle.al_machine.specs.declared.operation.Operation.TheVariants as operation
use Rattle.al_machine.specs.Code.{fetch}
use Rattle.al_machine.specs.Machine.{Machine}
use Rattle.al_machine.specs.Stack.{word_at, holds}
use Rattle.al_machine.specs.Bursts.{At, landing, landed, advanced_by, advanced, carried}
use Rattle.al_machine.specs.Frames.{jumped, jumped_if_zero, jump_to}
use Rattle.al_machine.specs.Table.{exec}
use Rattle.al_meaning_code.specs.Running.{at, IsThere, Leads, Traps}

pub jump_length : (z : ℤ) → length (jump_bytes z) ≡ 4
unfolding jump_bytes
jump_length z = refl

abbrev opcode : JumpCondition → ℕ
opcode when.Always = 0x0b
opcode when.IfZero = 0x0c

jump_is : (w : JumpCondition) (z : ℤ) → encoded (jump_of w z) ≡ opcode w ∷ jump_bytes z
unfolding encoded
jump_is when.Always z = refl
jump_is when.IfZero z = refl

pub jump_size : (w : JumpCondition) (z : ℤ) → size_of (jump_of w z) ≡ 5
jump_size w z = ap length (jump_is w z) ∙ omega (arith, jump_length z)

pub size_cons : (x : Piece) (p : List Piece) → size (x ∷ p) ≡ piece_size x + size p
size_cons x p = length-append (piece_bytes x) (bytes_of p)

pub size-append : (p q : List Piece) → size (p ++ q) ≡ size p + size q
size-append [] q = omega arith
size-append (x ∷ p) q = omega (arith, size_cons x (p ++ q), size-append p q, size_cons x p)

module _ (objects : List Region) (inside : List Entered) (code : List Step) where
  -- so many instructions, and then more
  pub carried_on : (j k : ℕ) (a b : At) → carried objects inside code j a ≡ Some b → carried objects inside code (j + k) a ≡ carried objects inside code k b
  carried_on zero k a b e = let z : 0 + k ≡ k = omega arith in rw z (ap (λ (o : Option At). option_and_then (λ (x : At). carried objects inside code k x) o) e)
  carried_on (suc j) k a b e =
      let s : suc j + k ≡ suc (j + k) = omega arith in
      rw s (go (advanced objects inside code a) (λ x h. carried_on j k x b h) e)
    where
      go : (o : Option At) → ((x : At) → carried objects inside code j x ≡ Some b → carried objects inside code (j + k) x ≡ carried objects inside code k b) → option_and_then (λ (x : At). carried objects inside code j x) o ≡ Some b → option_and_then (λ (x : At). carried objects inside code (j + k) x) o ≡ carried objects inside code k b
      go None more h = absurd (cc)
      go (Some x) more h = more x h

  pub leads_on : (a b c : At) → Leads objects inside code a b → Leads objects inside code b c → Leads objects inside code a c
  leads_on a b c x y = (x.0 + y.0, carried_on x.0 y.0 a b x.1 ∙ y.1)

  pub stays : (a : At) → Leads objects inside code a a
  stays a = (0, refl)

  pub traps_after : (a b : At) (from to from' to' : ℕ) (e : Exception) → from ≤ from' → to' ≤ to → Leads objects inside code a b → Traps objects inside code b from' to' e → Traps objects inside code a from to e
  traps_after a b from to from' to' e low high l t =
      let tl = t.low in let th = t.high in
      record { last = t.last; leads = leads_on a b t.last l t.leads; low = omega arith; high = omega arith; next = t.next; instruction = t.instruction; there = t.there; raises = t.raises }

  -- one instruction
  abbrev one_step : (pc next : ℕ) (i : Instruction) (m : Machine) (b : At) → fetch code pc ≡ Some (operation.Word i, next) → landed code next (exec objects inside next i m) ≡ Some b → Leads objects inside code (at pc m) b
  one_step pc next i m b there e =
      (1, ap (λ (o : Option At). option_and_then (λ (x : At). Some x) o) (ap (λ (o : Option (Operation × ℕ)). advanced_by objects inside code o m) there ∙ e))

  -- one that goes on with the next
  pub goes : (pc next : ℕ) (i : Instruction) (m n : Machine) → fetch code pc ≡ Some (operation.Word i, next) → exec objects inside next i m ≡ Ok (On, n) → Leads objects inside code (at pc m) (at next n)
  goes pc next i m n there e = one_step pc next i m (at next n) there (ap (λ (r : Result (Flow × Machine) Trap). landed code next r) e)

  -- .. which is one instruction
  pub goes_once : (pc next : ℕ) (i : Instruction) (m n : Machine) → fetch code pc ≡ Some (operation.Word i, next) → exec objects inside next i m ≡ Ok (On, n) → carried objects inside code 1 (at pc m) ≡ Some (at next n)
  goes_once pc next i m n there e = (one_step pc next i m (at next n) there (ap (λ (r : Result (Flow × Machine) Trap). landed code next r) e)).1

  -- one that raises an exception
  pub fails : (pc next to : ℕ) (i : Instruction) (m : Machine) (e : Exception) → fetch code pc ≡ Some (operation.Word i, next) → pc < to → exec objects inside next i m ≡ Err (Raised e) → Traps objects inside code (at pc m) pc to e
  fails pc next to i m e there h r = record { last = at pc m; leads = stays (at pc m); low = omega arith; high = h; next = next; instruction = i; there = there; raises = r }

  lands : (pc next : ℕ) (m : Machine) (z : ℤ) → IsThere code pc → z ≡ pos pc → landed code next (jump_to z m) ≡ Some (at pc m)
  lands pc next m z there is = ap (λ (y : ℤ). landed code next (jump_to y m)) is ∙ ap (λ (o : Option (Operation × ℕ)). landing o pc m) there.1

  -- a jump
  pub jumps : (pc next to : ℕ) (d : ℤ) (m : Machine) → fetch code pc ≡ Some (operation.Word (kind.Jump d), next) → IsThere code to → pos next +ℤ d ≡ pos to → Leads objects inside code (at pc m) (at to m)
  unfolding exec jumped
  jumps pc next to d m there lies is = one_step pc next (kind.Jump d) m (at to m) there (lands to next m (pos next +ℤ d) lies is)

  -- one that depends on the word on top
  pub jumps_at_zero : (pc next to : ℕ) (d : ℤ) (m : Machine) → fetch code pc ≡ Some (operation.Word (kind.JumpIfZero d), next) → IsThere code to → pos next +ℤ d ≡ pos to → m.frame < m.top → word_at m (m.top - 1) ≡ pos 0 → Leads objects inside code (at pc m) (at to (record m { top = m.top - 1 }))
  unfolding exec jumped_if_zero
  jumps_at_zero pc next to d m there lies is some z =
      let held : holds 1 m ≡ true = grind (arith, nat_tests) in
      one_step pc next (kind.JumpIfZero d) m (at to (record m { top = m.top - 1 })) there (rw (held, z) (lands to next (record m { top = m.top - 1 }) (pos next +ℤ d) lies is))

  pub passes_at_one : (pc next : ℕ) (d : ℤ) (m : Machine) → fetch code pc ≡ Some (operation.Word (kind.JumpIfZero d), next) → m.frame < m.top → word_at m (m.top - 1) ≡ pos 1 → Leads objects inside code (at pc m) (at next (record m { top = m.top - 1 }))
  unfolding exec jumped_if_zero
  passes_at_one pc next d m there some z =
      let held : holds 1 m ≡ true = grind (arith, nat_tests) in
      one_step pc next (kind.JumpIfZero d) m (at next (record m { top = m.top - 1 })) there (rw (held, z) refl)

  -- .. which is one instruction
  pub jumps_once : (pc next to : ℕ) (d : ℤ) (m : Machine) → fetch code pc ≡ Some (operation.Word (kind.Jump d), next) → IsThere code to → pos next +ℤ d ≡ pos to → carried objects inside code 1 (at pc m) ≡ Some (at to m)
  unfolding exec jumped
  jumps_once pc next to d m there lies is = (one_step pc next (kind.Jump d) m (at to m) there (lands to next m (pos next +ℤ d) lies is)).1
