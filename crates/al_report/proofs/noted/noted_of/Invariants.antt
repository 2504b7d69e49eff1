use Rattle.std.proofs.Common.{◌≡◌, map, take}
use Rattle.al_report.specs.Shown.{shown}
use Rattle.al_report.proofs.noted.noted_of.Given as goal

abbrev pub invariant-loop-diagnostic : goal.invariant-loop-diagnostic
invariant-loop-diagnostic l = map (λ one. one.diagnostic.now) l.told.items ≡ shown l.lists_all (take l.diagnostic-index l.found)
