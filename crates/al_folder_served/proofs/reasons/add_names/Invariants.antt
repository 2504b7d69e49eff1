use Rattle.std.proofs.Common.{◌≡◌, ◌++◌, take}
use Rattle.al_folder_served.proofs.reasons.add_names.Given as goal

abbrev pub invariant-loop-name : goal.invariant-loop-name
invariant-loop-name l = l.found.items ≡ l.initial.found.items ++ take l.name-index l.names
