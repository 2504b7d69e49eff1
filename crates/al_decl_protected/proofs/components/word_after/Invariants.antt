use Rattle.std.proofs.Common.{◌≡◌, take}
use Rattle.al_decl_protected.specs.Components.{word_after}
use Rattle.al_decl_protected.proofs.components.word_after.Given as goal

abbrev pub invariant-loop-name : goal.invariant-loop-name
invariant-loop-name l = l.next ≡ word_after l.words l.word (take l._name-index l.names)
