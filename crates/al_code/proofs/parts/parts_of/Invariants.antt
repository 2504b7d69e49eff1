use Rattle.std.proofs.Common.{◌≡◌, ◌≤◌, ◌++◌, ℕ}
use Rattle.al_code.specs.Parts.{ArePartsBelow, parted_code}
use Rattle.al_code.specs.Templates.{address_of}
use Rattle.al_view_typed.specs.ExpressionViews.{name_model}
use Rattle.al_view_typed.specs.declared.expression.TypedName.{size-TypedName}
use Rattle.al_code.proofs.parts.parts_of.Given as goal

abbrev pub invariant-loop-rest : goal.invariant-loop-rest
invariant-loop-rest l =
    ((depth : ℕ) → address_of depth (name_model l.rest) ++ parted_code depth l.parts.items ≡ address_of depth (name_model l.fn.name))
    × ArePartsBelow l.fn.name l.parts.items
    × (size-TypedName l.rest ≤ size-TypedName l.fn.name)

abbrev pub decreases-loop-rest : goal.decreases-loop-rest
decreases-loop-rest l = size-TypedName l.rest
