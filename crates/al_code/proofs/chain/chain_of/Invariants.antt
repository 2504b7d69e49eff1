use Rattle.std.proofs.Common.{◌≡◌, ◌++◌, ℕ}
use Rattle.al_code.specs.Chains.{AreBelow, IsBelow, chained_code}
use Rattle.al_code.specs.Templates.{value_of}
use Rattle.al_view_typed.specs.ExpressionViews.{typed_model}
use Rattle.al_view_typed.specs.declared.expression.Typed.{size-Typed}
use Rattle.al_code.proofs.chain.chain_of.Given as goal

abbrev pub invariant-loop-link : goal.invariant-loop-link
invariant-loop-link l =
    ((depth : ℕ) → value_of depth (typed_model l.rest) ++ chained_code depth l.joints.items ≡ value_of depth (typed_model l.fn.typed))
    × AreBelow l.fn.typed l.joints.items
    × IsBelow l.fn.typed l.rest

abbrev pub decreases-loop-link : goal.decreases-loop-link
decreases-loop-link l = size-Typed l.rest
