use Rattle.std.proofs.Common.{List, refl, ◌∙◌, ap, arith}
use Rattle.al_decl_judged.proofs.SymbolsOf.{joined_more}
use Rattle.al_decl_judged.proofs.TypeDeclarationLemmas.{has}
use Rattle.al_view.specs.declared.types.TypeView.{TypeView}
use Rattle.al_decl_judged.proofs.type_list.add_types.Goals as goal

pub loop-of-init : goal.loop-of-init
loop-of-init c = record {
  types = refl;
  symbols = λ s. c.in_ok-symbols.ensures s ∙ ap (λ (l : List TypeView). has l s) c.as_slice.ensures;
}

pub loop-of-preserved : goal.loop-of-preserved
loop-of-preserved c = record {
  types = joined_more c.args.types.now c.loop-of.types c.add_type.new.types c.args.others.now c.loop-of.of-index c.of-item.result (omega arith) c.of-item.is c.loop-of.invariant.types c.in_ok-add_type.ensures.types;
  symbols = c.in_ok-add_type.ensures.symbols;
}
