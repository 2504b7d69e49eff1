use Rattle.std.proofs.Common.{◌≡◌, ◌++◌, take}
use Rattle.al_decl_judged.specs.TypeDeclarations.{operators_from, spellings, with_names}
use Rattle.al_decl_judged.proofs.declaration.declare_signs.Given as goal

-- the operators so far are counted and declared
abbrev pub invariant-loop-sign : goal.invariant-loop-sign
invariant-loop-sign l =
    (l.homonyms ≡ with_names l.fn.homonyms (spellings (take l.sign-index l.signs)))
    × (l.declared ≡ l.fn.declared ++ operators_from l.symbol l.types l.fn.homonyms (take l.sign-index l.signs))
