-- The places of tasks in memory.
use Rattle.std.specs.Prelude.{◌≡◌, ◌+◌, ◌<◌, ◌≤◌, length}
use Rattle.al_machine.specs.declared.stack.Registers.{Registers}
use Rattle.al_tasks.specs.Task.{Task, Program, World}
use Rattle.al_tasks.specs.Exclusion.{Each, size}

-- the words of a task's frames are among its own stack words, above the data words
pub record InPlace (p : Program) (r : Registers) : Type 0 where
  pub data_below : p.words ≤ r.first
  pub own : r.first + 16384 ≤ size p
  pub frame : r.first ≤ r.frame
  pub below : r.frame < r.first + 16384
  pub stack : r.frame ≤ r.top
  pub room : r.top ≤ r.first + 16384

abbrev pub Stands : Program → Task → Type 0
Stands p t = InPlace p t.registers

-- memory has its size, each task is at its place in it, and there are no more tasks than the image has
pub record Fits (p : Program) (w : World) : Type 0 where
  pub memory : length w.memory ≡ size p
  pub ready : Each (Stands p) w.ready
  pub paused : Each (Stands p) w.paused
  pub created : w.created ≤ p.tasks
