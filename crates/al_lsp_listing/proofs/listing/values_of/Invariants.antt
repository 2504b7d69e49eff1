use Rattle.std.proofs.Common.{◌≡◌, ◌++◌, length, map}
use Rattle.serde_json.specs.View.{view}
use Rattle.al_lsp_listing.specs.Listed.{Deep}
use Rattle.al_lsp_listing.specs.Stacks.{stacked}
use Rattle.al_lsp_listing.proofs.listing.values_of.Given as goal

abbrev pub invariant-loop-last : goal.invariant-loop-last
invariant-loop-last l = map view l.values.items ++ map (λ (d : Deep). d.listed) (stacked l.pending.items) ≡ map (λ (d : Deep). d.listed) (stacked l.initial.pending.items)

abbrev pub decreases-loop-last : goal.decreases-loop-last
decreases-loop-last l = length l.pending.items
