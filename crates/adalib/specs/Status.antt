-- The exit status of the program.
use Rattle.std.specs.Prelude.{ℕ, Ok, Err}
use Rattle.adalib.specs.declared.status.Outcome.{Outcome}
use Rattle.adalib.specs.declared.status.Outcome.TheVariants.{Served, Usage, Unopened, NoMemory}
use Rattle.al_session_served.specs.declared.serving.Ended.TheVariants.{Quit, BadLength}

-- 0 at the end of the session; 2 after a put whose bytes aren't there as announced, and for words of another form; 1 after a failed device, and if
-- no session could begin
abbrev pub status_of : Outcome → ℕ
status_of (Served (Ok Quit)) = 0
status_of (Served (Ok BadLength)) = 2
status_of (Served (Err fault)) = 1
status_of Usage = 2
status_of Unopened = 1
status_of NoMemory = 1
