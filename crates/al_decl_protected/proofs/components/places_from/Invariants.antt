use Rattle.std.proofs.Common.{◌≡◌, ◌++◌, drop}
use Rattle.al_decl_protected.specs.Components.{places_from}
use Rattle.al_decl_protected.proofs.components.places_from.Given as goal

-- those so far, and those that are left from the next word on
abbrev pub invariant-loop-name : goal.invariant-loop-name
invariant-loop-name l = l.places ++ places_from l.words l.next (drop l._name-index l.names) ≡ places_from l.words l.word l.names
