use Rattle.std.proofs.Common.{◌≡◌, ◌++◌, map, take}
use Rattle.std.specs.List.{flat_map}
use Rattle.al_why.specs.Answers.{unit_words, next}
use Rattle.al_why.proofs.answers.add_units.Given as goal

abbrev pub invariant-loop-unit : goal.invariant-loop-unit
invariant-loop-unit l = l.text.items ≡ l.initial.text.items ++ flat_map next (map unit_words (take l.unit-index l.rest))
