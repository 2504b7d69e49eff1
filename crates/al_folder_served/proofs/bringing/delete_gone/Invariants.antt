use Rattle.std.proofs.Common.{◌≡◌}
use Rattle.al_session_served.specs.Library.{with_now}
use Rattle.al_folder_served.proofs.Brought.{deleted_to}
use Rattle.al_folder_served.proofs.bringing.delete_gone.Given as goal

abbrev pub invariant-loop-name : goal.invariant-loop-name
invariant-loop-name g l = g.L.UnitLibrary.state l.library ≡ with_now (g.L.UnitLibrary.state l.fn.library) (deleted_to l.now l.before l.name-index)
