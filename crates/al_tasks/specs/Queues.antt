-- The place of a task in a list of tasks, and which paused tasks become ready.
use Rattle.std.specs.Prelude.{ℕ, suc, Bool, if◌then◌else◌, List, [], ◌∷◌, Option, Some, None}
use Rattle.al_machine.specs.declared.regions.Entered.{Entered}
use Rattle.al_tasks.specs.declared.queues.Wanted.{Wanted}
use Rattle.al_tasks.specs.declared.queues.Wanted.TheVariants as wanted
use Rattle.al_tasks.specs.declared.event.Pause.{Pause}
use Rattle.al_tasks.specs.Task.{Task, is_created, is_activating, is_due, is_waiting}
use Rattle.al_tasks.specs.World.{outside}

-- the place of the first task that passes the test, or the end of the list
abbrev pub first_place : (Task → Bool) → List Task → ℕ
first_place test [] = 0
first_place test (t ∷ ts) = if test t then 0 else suc (first_place test ts)

abbrev pub is_wanted : Wanted → Pause → Bool
is_wanted wanted.Created = is_created
is_wanted wanted.Activating = is_activating
is_wanted (wanted.Due clock) = is_due clock
is_wanted (wanted.Waiting object) = is_waiting object

-- the task after it has left the object that it entered last
abbrev pub left_by : Task → List Entered → Task
left_by t [] = t
left_by t (h ∷ hs) = outside t h.before hs

-- the object that a task is inside, if it is inside exactly one
abbrev pub sole_of : List Entered → Option ℕ
sole_of [] = None
sole_of (h ∷ i ∷ hs) = None
sole_of (h ∷ []) = Some h.object
