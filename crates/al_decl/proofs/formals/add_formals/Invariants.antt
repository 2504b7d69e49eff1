use Rattle.std.proofs.Common.{◌≡◌, ◌++◌, map, take}
use Rattle.al_decl.specs.Formals.{formal_part}
use Rattle.al_decl.proofs.formals.add_formals.Given as goal

abbrev pub invariant-loop-name : goal.invariant-loop-name
invariant-loop-name l = l.formals ≡ l.fn.formals ++ map (formal_part l.mode l.of) (take l.name-index l.names)
