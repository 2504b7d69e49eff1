use Rattle.std.proofs.Common.{ℕ, ◌+◌, ap, ◌∙◌}
use Rattle.al_view.specs.declared.link.LinkSymbol.{LinkSymbol}
use Rattle.al_view.specs.declared.symbol.Symbol.{Symbol}
use Rattle.al_link.specs.Symbols.{Places, with_place}
use Rattle.al_link.proofs.SymbolLemmas.{inserted}
use Rattle.al_link.proofs.places.Places.add.Goals as goal

pub returns : goal.returns
returns c =
    let kind = c.args.define.now.symbol.kind in
    let offset = c.args.define.now.offset in
    let es = c.self.inside.by_symbol.entries in
    let name : Symbol → LinkSymbol = λ x. record { symbol = x; kind = kind } in
    c.in_ok-insert.ensures.entries ∙ inserted es (name c.in_ok-copy.field-0) (c.base_of.result + offset)
    ∙ ap (λ (x : Symbol). with_place es (name x) (c.base_of.result + offset)) c.in_ok-copy.ensures
    ∙ ap (λ (p : Places). with_place p c.args.define.now.symbol (c.base_of.result + offset)) c.self.view_is
    ∙ ap (λ (n : ℕ). with_place c.args.self.now c.args.define.now.symbol (n + offset)) c.base_of.ensures
