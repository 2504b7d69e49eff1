use Rattle.std.proofs.Common.{◌++◌, sym, ap, ◌∙◌, arith}
use Rattle.al_tree.specs.StatementViews.{item_model}
use Rattle.al_unit_header.specs.Units.{stub_of}
use Rattle.al_unit_header.proofs.StubLemmas.{stubs_more}
use Rattle.al_unit_header.proofs.stubs.stubs_in.Goals as goal

pub loop-item-preserved : goal.loop-item-preserved
loop-item-preserved c =
    c.in_ok-add_stub.ensures
    ∙ ap (λ ns. ns ++ stub_of (item_model c.item-item.result)) c.loop-item.invariant
    ∙ sym (stubs_more c.args.items.now c.loop-item.item-index c.item-item.result (omega arith) c.item-item.is)
