use Rattle.std.proofs.Common.{◌≡◌, ◌<◌, List, length, take, sym, ◌∙◌, ap, arith}
use Rattle.std.proofs.lemmas.List.{take_all}
use Rattle.std.specs.List.{list_any}
use Rattle.al_decl_judged.proofs.SymbolsOf.{front_more, symbols_more}
use Rattle.al_decl_judged.proofs.TypeDeclarationLemmas.{has}
use Rattle.al_view.specs.Symbols.{same_symbol}
use Rattle.al_view.specs.declared.symbol.Symbol.{Symbol}
use Rattle.al_view.specs.declared.types.TypeView.{TypeView}
use Rattle.al_decl_judged.proofs.type_list.symbols_of.Goals as goal

pub loop-of-init : goal.loop-of-init
loop-of-init c = λ s. ap (λ (l : List Symbol). list_any (same_symbol s) l) c.new-symbols.ensures

pub loop-of-preserved : goal.loop-of-preserved
loop-of-preserved c = λ s.
    let types = c.args.types.now in
    let i = c.loop-of.of-index in
    let x = c.of-item.result in
    let inside : i < length types = omega arith in
    symbols_more s (take i types) x c.loop-of.symbols c.insert.new.self (c.loop-of.invariant s) (c.in_ok-insert.ensures s)
    ∙ ap (λ (l : List TypeView). has l s) (sym (front_more types i x inside c.of-item.is))

pub returns : goal.returns
returns c = λ s.
    let all : take c.loop-of.of-index c.args.types.now ≡ c.args.types.now = take_all c.loop-of.of-index c.args.types.now (omega arith) in
    c.loop-of.invariant s ∙ ap (λ (l : List TypeView). has l s) all
