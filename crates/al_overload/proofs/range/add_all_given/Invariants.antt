use Rattle.std.proofs.Common.{◌≡◌, take, fold}
use Rattle.al_overload.specs.Counts.{candidates}
use Rattle.al_overload.specs.Ranges.{added_given}
use Rattle.al_overload.proofs.range.add_all_given.Given as goal

abbrev pub invariant-loop-choice : goal.invariant-loop-choice
invariant-loop-choice l = l.types ≡ fold added_given l.fn.types (candidates (take l.choice-index l.choices))
