use Rattle.std.proofs.Common.{◌≡◌, ◌++◌, drop}
use Rattle.al_code.specs.ObjectOf.{protected_addresses}
use Rattle.al_code.proofs.object.add_protected.Given as goal

abbrev pub invariant-loop-object : goal.invariant-loop-object
invariant-loop-object l = record { number : l.number ≡ l.object-index; now : l.defines.items ++ protected_addresses l.number (drop l.object-index l.objects) ≡ l.initial.defines.items ++ protected_addresses 0 l.objects }
