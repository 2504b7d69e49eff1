use Rattle.std.proofs.Common.{List, sym, ap, ◌∙◌, ◌||◌, Bool}
use Rattle.std.specs.List.{list_any}
use Rattle.indexmap.specs.IndexSet.{insert_key}
use Rattle.al_view.specs.Symbols.{same_symbol}
use Rattle.al_view.specs.contracts.symbol.SymbolPartialEq.TheImpl.{eq-value as symbol}
use Rattle.al_view.specs.declared.symbol.Symbol.{Symbol}
use Rattle.al_check_promises.proofs.Same.{has_already, inserted}
use Rattle.al_check_promises.proofs.symbol_set.SymbolSet.insert.Goals as goal

pub returns : goal.returns
returns c = λ s.
    ap (list_any (same_symbol s)) (c.in_ok-insert.ensures.keys ∙ ap (insert_key symbol.it c.self.inside.symbols.keys) c.in_ok-symbol.ensures)
    ∙ inserted s c.args.symbol.now c.self.inside.symbols.keys
    ∙ ap (λ (symbols : List Symbol). same_symbol s c.args.symbol.now || list_any (same_symbol s) symbols) c.self.view_is
