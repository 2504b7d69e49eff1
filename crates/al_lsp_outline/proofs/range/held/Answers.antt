use Rattle.std.proofs.Common.{arith}
use Rattle.al_lsp_outline.proofs.Nests.{holds_all, holds_next, within_trans}
use Rattle.al_lsp_outline.proofs.range.held.Goals as goal

pub loop-symbol-preserved : goal.loop-symbol-preserved
loop-symbol-preserved c = record {
  own = within_trans _ _ _ c.loop-symbol.invariant.own c.hull-held.ensures.first;
  inner = holds_next c.args.depth c.loop-symbol.held c.hull-held.result c.args.inner.now c.loop-symbol.symbol-index _ (omega arith) c.loop-symbol.invariant.inner c.hull-held.ensures.first c.hull-held.ensures.second;
}

pub returns-then-symbol-depth-clause-inner : goal.returns-then-symbol-depth-clause-inner
returns-then-symbol-depth-clause-inner c = holds_all c.args.depth c.loop-symbol.held c.args.inner.now c.loop-symbol.symbol-index _ (omega arith) c.loop-symbol.invariant.inner c.if-symbol-depth.true
