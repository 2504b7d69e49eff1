use Rattle.std.proofs.Common.{◌≡◌, take}
use Rattle.std.specs.List.{flat_map}
use Rattle.al_code.specs.Written.{written}
use Rattle.al_code.specs.Statements.{other_choice_code}
use Rattle.al_code.proofs.choices.emit_other_choices.Given as goal

abbrev pub invariant-loop-choice : goal.invariant-loop-choice
invariant-loop-choice l = l.out ≡ written l.initial.out (flat_map (other_choice_code l.word) (take l.choice-index l.choices))
