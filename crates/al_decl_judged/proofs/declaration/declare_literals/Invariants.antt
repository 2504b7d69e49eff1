use Rattle.std.proofs.Common.{◌≡◌, ◌++◌, take}
use Rattle.al_decl_judged.specs.TypeDeclarations.{literals_from, with_names}
use Rattle.al_decl_judged.proofs.declaration.declare_literals.Given as goal

-- the literals so far are counted and declared
abbrev pub invariant-loop-i : goal.invariant-loop-i
invariant-loop-i l =
    (l.homonyms ≡ with_names l.fn.homonyms (take l.i l.literals))
    × (l.declared ≡ l.fn.declared ++ literals_from l.symbol l.types 0 (take l.i l.literals))
