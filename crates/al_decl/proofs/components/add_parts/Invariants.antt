use Rattle.std.proofs.Common.{◌≡◌, ◌++◌, map, take}
use Rattle.al_decl.specs.Components.{part}
use Rattle.al_decl.proofs.components.add_parts.Given as goal

abbrev pub invariant-loop-name : goal.invariant-loop-name
invariant-loop-name l = l.parts ≡ l.fn.parts ++ map (part l.of) (take l.name-index l.names)
