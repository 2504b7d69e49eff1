use Rattle.std.proofs.Common.{◌≡◌, take}
use Rattle.std.specs.List.{flat_map}
use Rattle.al_code.specs.Written.{written}
use Rattle.std.specs.Prelude.{option_map}
use Rattle.al_view_typed.specs.ExpressionViews.{value_model}
use Rattle.al_code.specs.Declarations.{object_code}
use Rattle.al_code.proofs.declarations.emit_objects.Given as goal

abbrev pub invariant-loop-place : goal.invariant-loop-place
invariant-loop-place l = l.out ≡ written l.initial.out (flat_map (object_code l.depth l.words (option_map value_model l.value)) (take l.place-index l.places))
