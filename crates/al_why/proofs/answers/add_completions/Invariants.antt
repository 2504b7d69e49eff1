use Rattle.std.proofs.Common.{◌≡◌, ◌++◌, map, take}
use Rattle.std.specs.List.{flat_map}
use Rattle.al_why.specs.Answers.{completion_words, next}
use Rattle.al_why.proofs.answers.add_completions.Given as goal

abbrev pub invariant-loop-one : goal.invariant-loop-one
invariant-loop-one l = l.text.items ≡ l.initial.text.items ++ flat_map next (map completion_words (take l.one-index l.rest))
