-- Runs of images.
use Rattle.std.specs.Prelude.{ℕ, List, Option, Some, None, slice_get}
use Rattle.al_machine.specs.declared.instruction.Exception.{Exception}
use Rattle.al_link_image.specs.Images.{Image}
use Rattle.al_link_image.specs.declared.parts.ImageObject.{ImageObject}
use Rattle.al_tasks.specs.Runs.{status_of}
use Rattle.al_tasks.specs.declared.event.Status.{Status}
use Rattle.al_tasks.specs.declared.event.Status.TheVariants as status
use Rattle.al_tasks.specs.Partitions.{loaded, ran_on}
use Rattle.al_tasks.specs.declared.running.RunEnd.{RunEnd}
use Rattle.al_tasks.specs.declared.running.RunEnd.TheVariants.{Finished, Idle, Raised, Spent, Stuck}
use Rattle.al_tasks.specs.declared.running.RunReport.{RunReport}

-- an exception was raised in the code of this unit, on this line of its source; without a unit the image is damaged
abbrev pub raised_in : Exception → Option ImageObject → Option ℕ → RunEnd
raised_in exception None line = Stuck
raised_in exception (Some object) line = Raised exception (record { name = object.name; kind = object.kind }) line

-- the end of a run whose image has these units; if the program is still going, its events are used up
abbrev pub end_of : List ImageObject → Status → RunEnd
end_of objects status.Going = Spent
end_of objects status.Finished = Finished
end_of objects status.Idle = Idle
end_of objects (status.Raised exception unit line) = raised_in exception (slice_get objects unit) line
end_of objects status.Stuck = Stuck

-- the output of a run, and how it ended
abbrev pub Run : Type 0
Run = List ℕ × RunEnd

abbrev pub run_model : RunReport → Run
run_model ran = (ran.output.items, ran.ended)

-- An image is loaded, and at most so many events happen to it, with a tick of the clock after every `tick` instructions.
abbrev pub run_of : Image → ℕ → ℕ → Run
run_of image tick steps = let after = ran_on steps tick (loaded image) in (after.world.output, end_of image.objects (status_of after.world))
