use Rattle.std.proofs.Common.{◌≡◌, take}
use Rattle.std.specs.Prelude.{fold}
use Rattle.al_overload_nodes.specs.Calls.{more_words}
use Rattle.al_overload_nodes.proofs.call.actual_words.Given as goal

abbrev pub invariant-loop-parameter : goal.invariant-loop-parameter
invariant-loop-parameter l = l.words ≡ fold (more_words l.subprogram.types) 0 (take l.parameter-index l.parameter-items)
