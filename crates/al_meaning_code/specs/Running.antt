-- The machine in a code: where its instructions lead, and at which line one raises an exception.
use Rattle.std.specs.Prelude.{◌≡◌, ℕ, ◌+◌, ◌<◌, ◌≤◌, List, Option, Some, Err}
use Rattle.al_base.specs.declared.unit_key.UnitKey.{UnitKey}
use Rattle.al_link_image.specs.declared.parts.Region.{Region}
use Rattle.al_machine.specs.declared.regions.Entered.{Entered}
use Rattle.al_machine.specs.declared.code.Step.{Step}
use Rattle.al_machine.specs.declared.instruction.Exception.{Exception}
use Rattle.al_machine.specs.declared.instruction.Exception.TheVariants as exception
use Rattle.al_machine.specs.declared.instruction.Instruction.{Instruction}
use Rattle.al_machine.specs.declared.instruction.Trap.TheVariants.{Raised}
use Rattle.al_machine.specs.declared.operation.Operation.{Operation}
use Rattle.al_machine.specs.declared.operation.Operation.TheVariants as operation
use Rattle.al_machine.specs.Bursts.{At, carried}
use Rattle.al_machine.specs.Code.{fetch}
use Rattle.al_machine.specs.Machine.{Machine}
use Rattle.al_machine.specs.Table.{exec}

-- at a place of the code
abbrev pub at : ℕ → Machine → At
at place m = record { place = place; machine = m }

-- an instruction begins there
abbrev pub IsThere : List Step → ℕ → Type 0
IsThere code pc = (x : Operation × ℕ) × (fetch code pc ≡ Some x)

-- of which line of which unit each place of the code is
abbrev pub Lines : Type 0
Lines = ℕ → Option (UnitKey × ℕ)

module _ (objects : List Region) (inside : List Entered) (code : List Step) where
  -- the machine comes from one state to another
  abbrev pub Leads : At → At → Type 0
  Leads a b = (k : ℕ) × (carried objects inside code k a ≡ Some b)

  -- it goes on for so many instructions at least
  abbrev pub GoesOnFor : ℕ → At → Type 0
  GoesOnFor fuel a = (k : ℕ) × (fuel ≤ k) × (b : At) × (carried objects inside code k a ≡ Some b)

  -- it comes to an instruction that raises an exception, and that begins at or after the one place and before the other
  pub record Traps (a : At) (from to : ℕ) (e : Exception) : Type 0 where
    pub last : At
    pub leads : Leads a last
    pub low : from ≤ last.place
    pub high : last.place < to
    pub next : ℕ
    pub instruction : Instruction
    pub there : fetch code last.place ≡ Some (operation.Word instruction, next)
    pub raises : exec objects inside next instruction last.machine ≡ Err (Raised e)

  -- .. and that is of a line
  pub record TrapsAt (lines : Lines) (a : At) (line : UnitKey × ℕ) (e : Exception) : Type 0 where
    pub last : At
    pub leads : Leads a last
    pub next : ℕ
    pub instruction : Instruction
    pub there : fetch code last.place ≡ Some (operation.Word instruction, next)
    pub raises : exec objects inside next instruction last.machine ≡ Err (Raised e)
    pub told : lines last.place ≡ Some line

  -- it raises Storage_Error, and so many words more than were used don't fit the stack
  abbrev pub Exhausts : At → Machine → ℕ → Type 0
  Exhausts a m need = (m.first + 16384 < m.top + need) × (from : ℕ) × (to : ℕ) × Traps a from to exception.Storage
