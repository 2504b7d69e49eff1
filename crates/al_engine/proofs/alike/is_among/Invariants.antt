use Rattle.std.proofs.Common.{List, take}
use Rattle.std.specs.List.{Contains}
use Rattle.al_engine.proofs.alike.is_among.Given as goal

abbrev pub invariant-loop-name : goal.invariant-loop-name
invariant-loop-name l = Contains (take l.name-index l.files) l.file → ⊥
