-- What changes with an event.
use Rattle.std.specs.Prelude.{ℕ, ◌==◌, Bool, true, false, not, ◌&&◌, Option, Some, None}
use Rattle.al_tasks.specs.declared.looking.TaskState.{TaskState}
use Rattle.al_tasks.specs.declared.looking.TaskState.TheVariants.{Running, Ready, Created, Activating, Delayed, Waiting, Ended}
use Rattle.al_tasks.specs.declared.looking.TaskLook.{TaskLook}

-- two states of one kind
abbrev pub is_like : TaskState → TaskState → Bool
is_like Running Running = true
is_like Ready Ready = true
is_like Created Created = true
is_like Activating Activating = true
is_like (Delayed _) (Delayed _) = true
is_like (Waiting _) (Waiting _) = true
is_like Ended Ended = true
is_like _ _ = false

abbrev pub is_same_object : Option ℕ → Option ℕ → Bool
is_same_object None None = true
is_same_object (Some a) (Some b) = a == b
is_same_object None (Some _) = false
is_same_object (Some _) None = false

-- a task has another state or priority, or is inside another object
abbrev pub has_changed : TaskLook → TaskLook → Bool
has_changed before now = not (is_like before.state now.state && (before.level == now.level && is_same_object before.object now.object))
