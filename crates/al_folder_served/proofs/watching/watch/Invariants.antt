use Rattle.al_folder_served.specs.Sources.{Holds}
use Rattle.al_folder_served.proofs.watching.watch.Given as goal

abbrev pub invariant-loop-line : goal.invariant-loop-line
invariant-loop-line g l = Holds (g.L.UnitLibrary.state l.library) l.kept.sources.texts
