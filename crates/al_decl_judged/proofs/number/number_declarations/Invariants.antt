use Rattle.std.proofs.Common.{◌≡◌, take}
use Rattle.al_decl_judged.specs.Numbers.{number_declarations}
use Rattle.al_decl_judged.proofs.number.number_declarations.Given as goal

abbrev pub invariant-loop-name : goal.invariant-loop-name
invariant-loop-name l = l.declarations ≡ number_declarations l.value (take l.name-index l.names)
