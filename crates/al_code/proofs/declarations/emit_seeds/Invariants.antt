use Rattle.std.proofs.Common.{◌≡◌, take}
use Rattle.std.specs.List.{flat_map}
use Rattle.al_view_typed.specs.ExpressionViews.{value_model}
use Rattle.al_code.specs.Written.{written}
use Rattle.al_code.specs.Declarations.{seed_code}
use Rattle.al_code.proofs.declarations.emit_seeds.Given as goal

abbrev pub invariant-loop-word : goal.invariant-loop-word
invariant-loop-word l = l.out ≡ written l.initial.out (flat_map (seed_code l.depth l.symbol l.words (value_model l.value)) (take l.word-index l.places))
