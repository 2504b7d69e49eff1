use Rattle.std.proofs.Common.{◌≡◌, map, take}
use Rattle.al_overload_values.specs.Puts.{upper}
use Rattle.al_overload_values.proofs.put_text.images.Given as goal

abbrev pub invariant-loop-name : goal.invariant-loop-name
invariant-loop-name l = l.images ≡ map upper (take l.name-index l.names)
