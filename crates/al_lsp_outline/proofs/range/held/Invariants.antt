use Rattle.std.proofs.Common.{take}
use Rattle.al_lsp_outline.specs.Nested.{HoldsDeeper, IsWithin}
use Rattle.al_lsp_outline.proofs.range.held.Given as goal

abbrev pub invariant-loop-symbol : goal.invariant-loop-symbol
invariant-loop-symbol l = record {
  own : IsWithin l.fn.whole l.held;
  inner : HoldsDeeper l.depth l.held (take l.symbol-index l.inner);
}
