use Rattle.std.proofs.Common.{◌≡◌, ap, get_or, rules}
use Rattle.std.proofs.Math.Seq.{map-set_same}
use Rattle.al_lsp_outline.specs.declared.range.Symbol.{Symbol}
use Rattle.al_lsp_outline.proofs.range.widen_at.Goals as goal

pub returns-clause-declared : goal.returns-clause-declared
returns-clause-declared c =
    let is : c.index-of.result.now ≡ get_or c.args.symbols.now.items c.args.at c.index-of.result.now = search rules in
    map-set_same (λ (s : Symbol). s.declared) c.args.symbols.now.items c.args.at _ c.index-of.result.now (ap (λ (s : Symbol). s.declared) is)
