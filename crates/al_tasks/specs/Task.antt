-- Tasks, and a running program.
use Rattle.std.specs.Prelude.{ℕ, ℤ, int_le, Bool, true, false, ◌==◌, List, Option}
use Rattle.al_instr.specs.declared.lines.LineEntry.{LineEntry}
use Rattle.al_machine.specs.declared.code.Step.{Step}
use Rattle.al_machine.specs.declared.regions.Entered.{Entered}
use Rattle.al_machine.specs.declared.stack.Registers.{Registers}
use Rattle.al_link_image.specs.declared.parts.Region.{Region}
use Rattle.al_tasks.specs.declared.event.Pause.{Pause}
use Rattle.al_tasks.specs.declared.event.Pause.TheVariants.{Created, Activating, Delayed, Waiting, Ended}
use Rattle.al_tasks.specs.declared.event.Ending.{Ending}

-- a task: its number; its base and its active priority; the objects it is inside, the last one entered first, each with the
-- active priority before; its place in the code and its words in memory; whether its activation has ended; and why it is paused,
-- if it is
pub record Task : Type 0 where
  pub number : ℕ
  pub base : ℕ
  pub active : ℕ
  pub held : List Entered
  pub place : ℕ
  pub registers : Registers
  pub begun : Bool
  pub pause : Pause

-- a program: its instructions with their places; its protected objects; the places at which the code of the units begins; its
-- data words, and how many tasks it may create; and the places in the code at which lines of the units' sources begin
pub record Program : Type 0 where
  pub code : List Step
  pub objects : List Region
  pub units : List ℕ
  pub words : ℕ
  pub tasks : ℕ
  pub lines : List LineEntry

-- a running program: memory; the ready tasks in the order of their dispatch, and the paused ones by number; how many tasks are
-- created, whether they were made ready, and how many activations haven't ended; the clock, in milliseconds; the output; and how
-- the program ended, if it did
pub record World : Type 0 where
  pub memory : List ℤ
  pub ready : List Task
  pub paused : List Task
  pub created : ℕ
  pub gone : Bool
  pub activations : ℕ
  pub clock : ℤ
  pub output : List ℕ
  pub ended : Option Ending

abbrev pub is_created : Pause → Bool
is_created Created = true
is_created Activating = false
is_created (Delayed _) = false
is_created (Waiting _) = false
is_created Ended = false

abbrev pub is_activating : Pause → Bool
is_activating Created = false
is_activating Activating = true
is_activating (Delayed _) = false
is_activating (Waiting _) = false
is_activating Ended = false

-- delayed until the clock's moment or an earlier one
abbrev pub is_due : ℤ → Pause → Bool
is_due clock Created = false
is_due clock Activating = false
is_due clock (Delayed moment) = int_le moment clock
is_due clock (Waiting _) = false
is_due clock Ended = false

abbrev pub is_delayed : Pause → Bool
is_delayed Created = false
is_delayed Activating = false
is_delayed (Delayed _) = true
is_delayed (Waiting _) = false
is_delayed Ended = false

-- waiting at the entry of an object
abbrev pub is_waiting : ℕ → Pause → Bool
is_waiting object Created = false
is_waiting object Activating = false
is_waiting object (Delayed _) = false
is_waiting object (Waiting o) = o == object
is_waiting object Ended = false

abbrev pub is_ended : Pause → Bool
is_ended Created = false
is_ended Activating = false
is_ended (Delayed _) = false
is_ended (Waiting _) = false
is_ended Ended = true
