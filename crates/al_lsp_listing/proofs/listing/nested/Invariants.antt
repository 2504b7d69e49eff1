use Rattle.std.proofs.Common.{◌≡◌, ◌≤◌, length, drop}
use Rattle.al_lsp_listing.specs.Listed.{nested}
use Rattle.al_lsp_listing.specs.Stacks.{stacked}
use Rattle.al_lsp_listing.proofs.listing.nested.Given as goal

abbrev pub invariant-loop-at : goal.invariant-loop-at
invariant-loop-at l = record {
  within : l.at ≤ length l.symbols;
  listed : stacked l.pending.items ≡ nested l.counting l.text (drop l.at l.symbols);
}

abbrev pub decreases-loop-at : goal.decreases-loop-at
decreases-loop-at l = l.at
