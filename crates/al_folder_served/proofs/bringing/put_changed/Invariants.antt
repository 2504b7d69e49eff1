use Rattle.std.proofs.Common.{◌≡◌}
use Rattle.al_session_served.specs.Library.{with_now}
use Rattle.al_folder_served.specs.Brought.{still_there}
use Rattle.al_folder_served.proofs.Brought.{ArePutTo}
use Rattle.al_folder_served.proofs.bringing.put_changed.Given as goal

abbrev pub invariant-loop-name : goal.invariant-loop-name
invariant-loop-name g l = record {
  files : ArePutTo l.now (still_there l.now l.before) (g.L.UnitLibrary.state l.library).now l.name-index;
  rest : g.L.UnitLibrary.state l.library ≡ with_now (g.L.UnitLibrary.state l.fn.library) (g.L.UnitLibrary.state l.library).now;
}
