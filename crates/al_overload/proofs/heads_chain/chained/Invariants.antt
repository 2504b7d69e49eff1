use Rattle.std.proofs.Common.{◌≡◌, length}
use Rattle.std.specs.Prelude.{option_map}
use Rattle.al_overload.specs.Counts.{plain}
use Rattle.al_overload.specs.HeadsChains.{chained_head, chained_universal}
use Rattle.al_overload.specs.Parts.{nominal}
use Rattle.al_overload.proofs.heads_chain.chained.Given as goal

abbrev pub invariant-loop-joint : goal.invariant-loop-joint
invariant-loop-joint l =
    (chained_head l.predefined l.joints.items (plain l.placed.built.expression) l.placed.built.is_universal (option_map (λ x. nominal x.1.now x.0.now) l.placed.part)
    ≡ chained_head l.predefined l.fn.joints.items (plain l.fn.first.built.expression) l.fn.first.built.is_universal (option_map (λ x. nominal x.1.now x.0.now) l.fn.first.part))
    × (chained_universal l.joints.items l.placed.built.is_universal ≡ chained_universal l.fn.joints.items l.fn.first.built.is_universal)

abbrev pub decreases-loop-joint : goal.decreases-loop-joint
decreases-loop-joint l = length l.joints.items
