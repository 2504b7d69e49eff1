-- Runs of programs, whose output is printed part by part and forgotten then.
use Rattle.std.specs.Prelude.{◌≡◌, ◌≢◌, ◌⊎◌, ℕ, ◌+◌, Bool, List, [], ◌++◌, Option, Some, None, Result, slice_get}
use Rattle.al_base.specs.Files.{Texts}
use Rattle.al_session_stream.specs.Output.{Adds}
use Rattle.al_session_stream.specs.declared.device.Device.{Device}
use Rattle.al_folder.specs.Status.{ending_of}
use Rattle.al_folder.specs.declared.runs.RunEnd.{RunEnd}
use Rattle.al_folder.specs.declared.runs.RunEnd.TheVariants.{Finished, Idle, Spent, Stuck, Raised}
use Rattle.al_folder.specs.declared.status.Ending.{Ending}
use Rattle.al_link_image.specs.declared.parts.ImageObject.{ImageObject}
use Rattle.al_machine.specs.declared.instruction.Exception.{Exception}
use Rattle.al_link_image.specs.Images.{Image, image_bytes}
use Rattle.al_tasks.specs.Partitions.{Partition, forgotten, loaded, part_of_run}
use Rattle.al_tasks.specs.Runs.{status_of}
use Rattle.al_tasks.specs.declared.event.Status.{Status}
use Rattle.al_tasks.specs.declared.event.Status.TheVariants as status
use Rattle.al_folder_served.specs.Told.{end_told}

-- A program has run from its start in so many parts, of so many steps together; so many instructions came after the last tick of the clock; it has
-- put this text, which is then forgotten. By parts_are_the_run of al_tasks the parts are the run in one.
pub data RunsTo (tick : ℕ) (start : Partition) : ℕ → ℕ → ℕ → List ℕ → Partition → Type 0 where
  begun : RunsTo tick start 0 0 0 [] start
  part : {parts steps since : ℕ} {text : List ℕ} {before : Partition} (more last : ℕ) (after : Partition) → RunsTo tick start parts steps since text before → (last, after) ≡ part_of_run more tick since before → RunsTo tick start (parts + 1) (steps + more) last (text ++ after.world.output) (forgotten after)

-- a run is over: the program has ended or each task waits, or the steps are used up; no run has more than 2^64-1 parts
abbrev pub IsOver : Option ℕ → ℕ → ℕ → Partition → Type 0
IsOver limit parts steps w = (status_of w.world ≢ status.Going) ⊎ ((limit ≡ Some steps) ⊎ (parts ≡ 18446744073709551615))

-- a piece comes next on an output, whatever is written after it
abbrev pub WritesNext : {W : Type 0} → (W → Option (List ℕ)) → (W → ℕ) → (W → Bool) → W → Result (Unit {0}) Device → List ℕ → Type 0
WritesNext {W} written faults waits old so_far piece = (new : W) × (result : Result (Unit {0}) Device) × Adds written faults waits old new so_far result piece

-- a whole run, which has put this text
pub record HasRun (tick : ℕ) (limit : Option ℕ) (start : Partition) (text : List ℕ) (end : Partition) : Type 0 where
  pub parts : ℕ
  pub steps : ℕ
  pub since : ℕ
  pub runs : RunsTo tick start parts steps since text end
  pub over : IsOver limit parts steps end

-- an exception was raised in the code of this unit, on this line; without a unit the image is damaged
abbrev pub raised_in : Exception → Option ImageObject → Option ℕ → RunEnd
raised_in exception None line = Stuck
raised_in exception (Some object) line = Raised exception (record { name = object.name; kind = object.kind }) line

-- the end of a run whose image has these units; if the program is still going, its steps are used up
abbrev pub end_of : List ImageObject → Status → RunEnd
end_of objects status.Going = Spent
end_of objects status.Finished = Finished
end_of objects status.Idle = Idle
end_of objects (status.Raised exception unit line) = raised_in exception (slice_get objects unit) line
end_of objects status.Stuck = Stuck

-- an image was run: what it put and then how its run ended was printed, and the ending says that end
pub record RunsImage (tick : ℕ) (limit : Option ℕ) (image : Image) (folders : Texts) (Puts Tells : List ℕ → Type 0) (ending : Ending) : Type 0 where
  pub text : List ℕ
  pub world : Partition
  pub is_open : Bool
  pub ran : HasRun tick limit (loaded image) text world
  pub put : Puts text
  pub told : Tells (end_told is_open folders (end_of image.objects (status_of world.world)))
  pub ending_is : ending ≡ ending_of (end_of image.objects (status_of world.world))

-- the image of these bytes was run
abbrev pub RunsBytes : ℕ → Option ℕ → List ℕ → Texts → (List ℕ → Type 0) → (List ℕ → Type 0) → Ending → Type 0
RunsBytes tick limit bytes folders Puts Tells ending = (image : Image) × (image_bytes image ≡ bytes) × RunsImage tick limit image folders Puts (λ told. Tells told) ending

-- the image of the bytes that a file gave was run; or there is none, and the cause was printed
abbrev pub IsLoaded : (List ℕ → Type 0) → (List ℕ → Ending → Type 0) → (Ending → Type 0) → Ending → Type 0
IsLoaded Gives Runs Refused ending = ((bytes : List ℕ) × Gives bytes × Runs bytes ending) ⊎ Refused ending
