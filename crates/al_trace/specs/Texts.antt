-- Traces as text: a line for each change.
use Rattle.std.specs.Prelude.{ℕ, List, [], ◌++◌, codes, decimal, Option, Some, None}
use Rattle.std.specs.Fmt.{signed_decimal}
use Rattle.al_tasks.specs.declared.event.Status.{Status}
use Rattle.al_tasks.specs.declared.event.Status.TheVariants.{Going, Finished, Idle, Raised, Stuck}
use Rattle.al_tasks.specs.declared.looking.TaskState.{TaskState}
use Rattle.al_tasks.specs.declared.looking.TaskState.TheVariants.{Running, Ready, Created, Activating, Delayed, Waiting, Ended}
use Rattle.al_tasks.specs.declared.looking.TaskLook.{TaskLook}
use Rattle.al_trace.specs.declared.moment.Moment.{Moment}
use Rattle.al_trace.specs.Words.{state_word, exception_word}

-- what a line begins with: how many events there were, and how many ticks
abbrev pub moment_text : Moment → List ℕ
moment_text m = decimal m.events ++ (codes " " ++ (decimal m.ticks ++ codes " "))

abbrev pub tick_line : Moment → List ℕ
tick_line m = moment_text m ++ codes "tick\n"

-- until when, or at which object
abbrev pub until_text : TaskState → List ℕ
until_text Running = []
until_text Ready = []
until_text Created = []
until_text Activating = []
until_text (Delayed moment) = codes " until " ++ signed_decimal moment
until_text (Waiting object) = codes " at object " ++ decimal object
until_text Ended = []

abbrev pub inside_text : Option ℕ → List ℕ
inside_text None = []
inside_text (Some object) = codes "inside object " ++ (decimal object ++ codes ", ")

-- a task with its state, its active priority and the object that it entered last
abbrev pub doing_text : TaskLook → List ℕ
doing_text look = ((codes "task " ++ (decimal look.number ++ (codes " " ++ state_word look.state))) ++ until_text look.state) ++ ((codes ", priority " ++ (decimal look.level ++ codes ", ")) ++ inside_text look.object)

-- how a run ended, with the number of the running task
abbrev pub end_text : Status → ℕ → List ℕ
end_text Going running = codes "the steps are spent\n"
end_text Finished running = codes "finished\n"
end_text Idle running = codes "idle\n"
end_text (Raised kind unit line) running = codes "task " ++ (decimal running ++ (codes " raised " ++ (exception_word kind ++ codes "\n")))
end_text Stuck running = codes "task " ++ (decimal running ++ codes " stuck\n")

abbrev pub end_line : Moment → Status → ℕ → List ℕ
end_line m status running = moment_text m ++ end_text status running
