-- What tasks are doing, as a program sees it that looks at a running program (ARM D.2.1, 9.5.1).
use Rattle.std.specs.Prelude.{ℕ, ◌==◌, nat_lt, List, [], ◌∷◌, Option, Some, None, slice_get, if◌then◌else◌}
use Rattle.al_link_image.specs.declared.parts.Region.{Region}
use Rattle.al_machine.specs.Code.{fetch}
use Rattle.al_machine.specs.declared.operation.Operation.{Operation}
use Rattle.al_machine.specs.declared.operation.Operation.TheVariants as operation
use Rattle.al_machine.specs.declared.operation.TaskInstruction.{TaskInstruction}
use Rattle.al_machine.specs.declared.operation.TaskInstruction.TheVariants as kind
use Rattle.al_machine.specs.declared.regions.Entered.{Entered}
use Rattle.al_machine.specs.Memory.{is_entered}
use Rattle.al_tasks.specs.declared.event.Pause.{Pause}
use Rattle.al_tasks.specs.declared.event.Pause.TheVariants as pause
use Rattle.al_tasks.specs.declared.looking.TaskState.{TaskState}
use Rattle.al_tasks.specs.declared.looking.TaskState.TheVariants.{Running, Ready, Created, Activating, Delayed, Waiting, Ended}
use Rattle.al_tasks.specs.declared.looking.TaskLook.{TaskLook}
use Rattle.al_tasks.specs.declared.looking.ErrorCause.{ErrorCause}
use Rattle.al_tasks.specs.declared.looking.ErrorCause.TheVariants.{AboveCeiling, Again, SecondCaller, Blocking, Other}
use Rattle.al_tasks.specs.Task.{Task, Program, World}

-- the state of a task that is paused
abbrev pub state_of : Pause → TaskState
state_of pause.Created = Created
state_of pause.Activating = Activating
state_of (pause.Delayed moment) = Delayed moment
state_of (pause.Waiting object) = Waiting object
state_of pause.Ended = Ended

-- the object that was entered last
abbrev pub innermost : List Entered → Option ℕ
innermost [] = None
innermost (h ∷ hs) = Some h.object

-- what a task in a given state is doing
abbrev pub look_at : TaskState → Task → TaskLook
look_at state t = record { number = t.number; base = t.base; level = t.active; state = state; object = innermost t.held; place = t.place }

-- the task of this number among ready ones, the first of which is in the given state
abbrev pub among_ready : ℕ → TaskState → List Task → Option TaskLook
among_ready number state [] = None
among_ready number state (t ∷ ts) = if t.number == number then Some (look_at state t) else among_ready number Ready ts

-- the task of this number among paused ones
abbrev pub among_paused : ℕ → List Task → Option TaskLook
among_paused number [] = None
among_paused number (t ∷ ts) = if t.number == number then Some (look_at (state_of t.pause) t) else among_paused number ts

abbrev pub or_among : Option TaskLook → Option TaskLook → Option TaskLook
or_among (Some look) other = Some look
or_among None other = other

-- what the task of this number is doing: the first ready one runs (ARM D.2.1); None if there is no such task yet
abbrev pub look_of : World → ℕ → Option TaskLook
look_of w number = or_among (among_ready number Running w.ready) (among_paused number w.paused)

-- the place of the running task's instruction
abbrev pub place_of_first : List Task → Option ℕ
place_of_first [] = None
place_of_first (t ∷ ts) = Some t.place

-- the number of the running task
abbrev pub number_of_first : List Task → Option ℕ
number_of_first [] = None
number_of_first (t ∷ ts) = Some t.number

-- the number of the task that is inside the object of this number; a paused one is inside nothing (`exclusion`)
abbrev pub owner_of : ℕ → List Task → Option ℕ
owner_of object [] = None
owner_of object (t ∷ ts) = if is_entered t.held object then Some t.number else owner_of object ts

-- why a task can't enter an object: its active priority is above the ceiling, or it is inside already
abbrev pub entering_cause : ℕ → Task → Option Region → ErrorCause
entering_cause object t None = Again object
entering_cause object t (Some region) = if nat_lt region.ceiling t.active then AboveCeiling object region.ceiling t.active else Again object

-- why a task can't wait or print something: it is inside an object
abbrev pub blocking_cause : List Entered → ErrorCause
blocking_cause [] = Other
blocking_cause (h ∷ hs) = Blocking h.object

abbrev pub entry_cause : ℕ → Task → List Entered → Option Region → ErrorCause
entry_cause object t [] region = entering_cause object t region
entry_cause object t (h ∷ hs) region = Blocking h.object

abbrev pub task_cause : TaskInstruction → Task → List Region → ErrorCause
task_cause (kind.Enter object) t objects = entering_cause object t (slice_get objects object)
task_cause (kind.EnterEntry object) t objects = entry_cause object t t.held (slice_get objects object)
task_cause (kind.Block object) t objects = SecondCaller object
task_cause kind.Sleep t objects = blocking_cause t.held
task_cause _ t objects = Other

-- why an instruction of a task raised Program_Error
abbrev pub cause_of : Operation → Task → List Region → ErrorCause
cause_of (operation.Word i) t objects = Other
cause_of (operation.Task i) t objects = task_cause i t objects
cause_of (operation.Output i) t objects = blocking_cause t.held

abbrev pub cause_at : Option (Operation × ℕ) → Task → List Region → ErrorCause
cause_at None t objects = Other
cause_at (Some (o, next)) t objects = cause_of o t objects

abbrev pub cause_of_first : Program → List Task → ErrorCause
cause_of_first p [] = Other
cause_of_first p (t ∷ ts) = cause_at (fetch p.code t.place) t p.objects
