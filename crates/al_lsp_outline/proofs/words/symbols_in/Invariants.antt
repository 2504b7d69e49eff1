use Rattle.std.proofs.Common.{◌≡◌, map, take}
use Rattle.std.specs.List.{All}
use Rattle.al_lsp_outline.specs.Nested.{HasName}
use Rattle.al_lsp_outline.proofs.words.symbols_in.Given as goal

abbrev pub invariant-loop-one : goal.invariant-loop-one
invariant-loop-one l = record {
  declared : map (λ s. s.declared) l.symbols.items ≡ take l.one-index l.declared;
  names : All HasName l.symbols.items;
}
