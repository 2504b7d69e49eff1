-- What code does that runs as statements mean.
use Rattle.std.specs.Prelude.{◌≡◌, ◌⊎◌, ℕ, ⊤, ℤ, List, [], ◌∷◌, Option, Some, None}
use Rattle.al_base.specs.declared.unit_key.UnitKey.{UnitKey}
use Rattle.al_view.specs.declared.link.LinkSymbol.{LinkSymbol}
use Rattle.al_view.specs.declared.view.ObjectPlace.{ObjectPlace}
use Rattle.al_instr.specs.declared.instruction.Instr.{Instr}
use Rattle.al_code.specs.Pieces.{line_word}
use Rattle.al_link_image.specs.declared.parts.Region.{Region}
use Rattle.al_machine.specs.declared.regions.Entered.{Entered}
use Rattle.al_machine.specs.declared.code.Step.{Step}
use Rattle.al_machine.specs.declared.instruction.Exception.TheVariants as exception
use Rattle.al_machine.specs.Bursts.{At}
use Rattle.al_machine.specs.Machine.{Machine}
use Rattle.al_meaning.specs.Scalars.{Failure, ConstraintError, ProgramError, Meaningless}
use Rattle.al_meaning.specs.States.{State, Words, Outcome, Gives, Raises, GoesOn}
use Rattle.al_meaning.specs.Statements.{Flow, On, Exits, Returns}
use Rattle.al_meaning_code.specs.Running.{Lines, at, Leads, GoesOnFor, TrapsAt, Exhausts}
use Rattle.al_meaning_code.specs.Showing.{Pushed, Shows, Near}

-- a line of a unit as line tables have it
abbrev pub table_line : UnitKey × ℕ → UnitKey × ℕ
table_line l = (l.0, line_word l.1)

-- a line that was told, or else this one
abbrev pub line_or : UnitKey × ℕ → Option (UnitKey × ℕ) → UnitKey × ℕ
line_or line None = line
line_or line (Some l) = l

module _ (objects : List Region) (inside : List Entered) (code : List Step) (lines : Lines) where
  -- the machine raises the exception of a failure at that line; or the stack words run out. Nothing is said of what no checked unit does
  abbrev pub RaisesAt : ℕ → UnitKey × ℕ → At → Machine → Failure → Type 0
  RaisesAt room line a m ConstraintError = TrapsAt objects inside code lines a line exception.Constraint ⊎ Exhausts objects inside code a m room
  RaisesAt room line a m ProgramError = TrapsAt objects inside code lines a line exception.Program ⊎ Exhausts objects inside code a m room
  RaisesAt room line a m Meaningless = ⊤

  -- What the code of a scalar expression does that leaves the state as it is: it pushes the value, or raises an exception at its line (one without a
  -- line: at this one). Or the stack words run out, and so many words don't fit.
  abbrev pub Evaluates : UnitKey × ℕ → At → Machine → ℕ → ℕ → State → Outcome Words → Type 0
  Evaluates line a m to need st (Gives (v ∷ []) after) = (after ≡ st) × (((n : Machine) × Leads objects inside code a (at to n) × Pushed m n v) ⊎ Exhausts objects inside code a m need)
  Evaluates line a m to need st (Gives vs after) = ⊥
  Evaluates line a m to need st (Raises failure told after) = RaisesAt need (table_line (line_or line told)) a m failure
  Evaluates line a m to need st (GoesOn after) = ⊥

  module _ (linked : LinkSymbol → Instr → Instr) (depth floor room : ℕ) (V : ObjectPlace → Type 0) (address : ObjectPlace → ℕ) where
    -- the machine comes to a place, shows what variables hold, and differs in nothing else that is below its top
    abbrev pub Reaching : At → ℕ → (ObjectPlace → ℤ) → Machine → Type 0
    Reaching a to words m = (n : Machine) × Leads objects inside code a (at to n) × Near V address floor m n × Shows linked depth floor V address words n

    -- From a place on, the machine does what statements mean: it comes to the end of their code, to the exit of a loop or to the end of the body,
    -- raises an exception at its line (one without a line: at this one), or goes on for as many instructions as the bound says. Or the stack words
    -- run out, and `room` words don't fit.
    abbrev pub Runs : (ℕ → ℕ) → ℕ → UnitKey × ℕ → At → Machine → ℕ → ℕ → Outcome Flow → Type 0
    Runs exits home line a m to fuel (Gives On st) = Reaching a to st.words m ⊎ Exhausts objects inside code a m room
    Runs exits home line a m to fuel (Gives (Exits loops) st) = Reaching a (exits loops) st.words m ⊎ Exhausts objects inside code a m room
    Runs exits home line a m to fuel (Gives (Returns []) st) = Reaching a home st.words m ⊎ Exhausts objects inside code a m room
    Runs exits home line a m to fuel (Gives (Returns (v ∷ vs)) st) = Exhausts objects inside code a m room
    Runs exits home line a m to fuel (Raises failure told st) = RaisesAt room (table_line (line_or line told)) a m failure
    Runs exits home line a m to fuel (GoesOn st) = GoesOnFor objects inside code fuel a ⊎ Exhausts objects inside code a m room

    -- the same of a call of a procedure without parameters
    abbrev pub CallRuns : UnitKey × ℕ → At → Machine → ℕ → ℕ → Outcome Words → Type 0
    CallRuns line a m to fuel (Gives [] st) = Reaching a to st.words m ⊎ Exhausts objects inside code a m room
    CallRuns line a m to fuel (Gives (v ∷ vs) st) = ⊥
    CallRuns line a m to fuel (Raises failure told st) = RaisesAt room (table_line (line_or line told)) a m failure
    CallRuns line a m to fuel (GoesOn st) = GoesOnFor objects inside code fuel a ⊎ Exhausts objects inside code a m room
