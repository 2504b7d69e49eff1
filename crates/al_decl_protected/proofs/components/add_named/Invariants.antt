use Rattle.std.proofs.Common.{◌≡◌, ◌++◌, map, take}
use Rattle.al_decl_protected.specs.Components.{component}
use Rattle.al_decl_protected.proofs.components.add_named.Given as goal

abbrev pub invariant-loop-name : goal.invariant-loop-name
invariant-loop-name l = l.components ≡ l.fn.components ++ map (component l.of) (take l.name-index l.names)
