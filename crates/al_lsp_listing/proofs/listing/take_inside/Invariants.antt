use Rattle.std.proofs.Common.{◌≡◌, ◌++◌, length, map}
use Rattle.serde_json.specs.View.{view}
use Rattle.al_lsp_listing.specs.Listed.{behind, inside}
use Rattle.al_lsp_listing.specs.Stacks.{stacked}
use Rattle.al_lsp_listing.proofs.listing.take_inside.Given as goal

abbrev pub invariant-loop-value : goal.invariant-loop-value
invariant-loop-value l = record {
  inside : map view l.inside.items ++ inside l.depth (stacked l.pending.items) ≡ inside l.depth (stacked l.initial.pending.items);
  behind : behind l.depth (stacked l.pending.items) ≡ behind l.depth (stacked l.initial.pending.items);
}

abbrev pub decreases-loop-value : goal.decreases-loop-value
decreases-loop-value l = length l.pending.items
