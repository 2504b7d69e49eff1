use Rattle.std.proofs.Common.{arith}
use Rattle.al_tree.specs.DeclarationViews.{specification_model}
use Rattle.al_lsp_outline.proofs.Added.{added_then, body_parts, handled_parts, protected_parts}
use Rattle.al_lsp_outline.proofs.Listed.{items_more, operations_more}
use Rattle.al_lsp_outline.proofs.bodies.+bodies.Goals as goal

pub add_body-returns : goal.add_body-returns
add_body-returns t c = added_then c.add_items.result _ _ _ _ _ _ c.in_ok-add_subprogram.ensures
    (body_parts c.args.depth c.deeper.result (specification_model c.args.specification.now) c.args.body.now c.as_slice.result.now c.deeper.ensures c.as_slice.ensures.value)
    c.add_items.ensures

pub add_handled-returns : goal.add_handled-returns
add_handled-returns t c = added_then c.add_items.result _ _ _ _ _ _ c.in_ok-add_ended.ensures
    (handled_parts c.args.kind c.args.depth c.deeper.result c.args.name.now c.args.inside.now c.as_slice.result.now c.deeper.ensures c.as_slice.ensures.value)
    c.add_items.ensures

pub add_item-returns-in_ok-add_ended-in-ProtectedBodyItem : goal.add_item-returns-in_ok-add_ended-in-ProtectedBodyItem
add_item-returns-in_ok-add_ended-in-ProtectedBodyItem t c = added_then c.add_operations.result _ _ _ _ _ _ c.in_ok-add_ended-in-ProtectedBodyItem.ensures
    (protected_parts c.args.depth c.deeper.result c.in-ProtectedBodyItem.field-0 c.in-ProtectedBodyItem.name c.in-ProtectedBodyItem.operations c.in-ProtectedBodyItem.end c.as_slice.result.now c.args.item.now c.deeper.ensures c.as_slice.ensures.value c.in-ProtectedBodyItem.is)
    c.add_operations.ensures

pub add_items-loop-item-preserved : goal.add_items-loop-item-preserved
add_items-loop-item-preserved t c = items_more c.args.depth c.args.list.now.items _ _ c.args.items.now c.loop-item.item-index c.item-item.result (omega arith) c.item-item.is c.loop-item.invariant c.in_ok-add_item.ensures

pub add_operations-loop-operation-preserved : goal.add_operations-loop-operation-preserved
add_operations-loop-operation-preserved t c = operations_more c.args.depth c.args.list.now.items _ _ c.args.operations.now c.loop-operation.operation-index c.operation-item.result (omega arith) c.operation-item.is c.loop-operation.invariant c.in_ok-add_operation.ensures
