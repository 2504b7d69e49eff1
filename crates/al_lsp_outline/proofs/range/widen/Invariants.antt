use Rattle.std.proofs.Common.{◌≡◌, ◌≤◌, length, map, drop}
use Rattle.std.specs.List.{All}
use Rattle.al_lsp_outline.specs.Nested.{AreNested, HasName}
use Rattle.al_lsp_outline.proofs.range.widen.Given as goal

abbrev pub invariant-loop-at : goal.invariant-loop-at
invariant-loop-at l = record {
  within : l.at ≤ length l.symbols.items;
  nested : AreNested (drop l.at l.symbols.items);
  declared : map (λ s. s.declared) l.symbols.items ≡ map (λ s. s.declared) l.initial.symbols.items;
  names : All HasName l.initial.symbols.items → All HasName l.symbols.items;
}

abbrev pub decreases-loop-at : goal.decreases-loop-at
decreases-loop-at l = l.at
