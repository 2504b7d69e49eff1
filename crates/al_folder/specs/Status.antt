-- Exit statuses.
use Rattle.std.specs.Prelude.{ℕ}
use Rattle.al_folder.specs.declared.runs.RunEnd.{RunEnd}
use Rattle.al_folder.specs.declared.runs.RunEnd.TheVariants.{Finished, Idle, Spent, Stuck, Raised}
use Rattle.al_folder.specs.declared.status.Ending.{Ending}
use Rattle.al_folder.specs.declared.status.Ending.TheVariants.{Done, NotBuilt, Usage, ByException}

abbrev pub status_of : Ending → ℕ
status_of Done = 0
status_of NotBuilt = 1
status_of Usage = 2
status_of ByException = 3

-- the end of a program that ran an image: if the run waits for ever, or its steps are used up, all is done
abbrev pub ending_of : RunEnd → Ending
ending_of Finished = Done
ending_of Idle = Done
ending_of Spent = Done
ending_of Stuck = NotBuilt
ending_of (Raised exception unit line) = ByException
