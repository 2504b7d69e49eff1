use Rattle.std.proofs.Common.{List, sym, ◌∙◌, ap}
use Rattle.al_decl_judged.proofs.SymbolsOf.{symbols_more}
use Rattle.al_decl_judged.proofs.TypeDeclarationLemmas.{has}
use Rattle.al_view.specs.declared.types.TypeView.{TypeView}
use Rattle.al_decl_judged.proofs.type_list.push_type.Goals as goal

pub returns-clause-symbols : goal.returns-clause-symbols
returns-clause-symbols c = λ s.
    symbols_more s c.args.types.now c.args.of.now c.args.symbols.now c.insert.new.self (c.requires s) (c.in_ok-insert.ensures s)
    ∙ ap (λ (l : List TypeView). has l s) (sym c.in_ok-push_copy.ensures)
