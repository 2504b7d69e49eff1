use Rattle.std.proofs.Common.{refl}
use Rattle.al_tree.proofs.StatementsMade.{item_common_model, item_subprogram_model, item_body_model, item_task_model, item_task_body_model, item_protected_model, item_protected_body_model}
use Rattle.al_unit_header.proofs.StubLemmas.{unchanged}
use Rattle.al_unit_header.proofs.stubs.add_stub.Goals as goal

pub returns-in-CommonItem : goal.returns-in-CommonItem
returns-in-CommonItem c = unchanged c.args.names.now.items c.args.item.now _ _ c.in-CommonItem.is (item_common_model c.in-CommonItem.field-0) refl

pub returns-in-SubprogramItem : goal.returns-in-SubprogramItem
returns-in-SubprogramItem c = unchanged c.args.names.now.items c.args.item.now _ _ c.in-SubprogramItem.is (item_subprogram_model c.in-SubprogramItem.field-0) refl

pub returns-in-BodyItem : goal.returns-in-BodyItem
returns-in-BodyItem c = unchanged c.args.names.now.items c.args.item.now _ _ c.in-BodyItem.is (item_body_model c.in-BodyItem.field-0 c.in-BodyItem.field-1) refl

pub returns-in-TaskItem : goal.returns-in-TaskItem
returns-in-TaskItem c = unchanged c.args.names.now.items c.args.item.now _ _ c.in-TaskItem.is (item_task_model c.in-TaskItem.field-0) refl

pub returns-in-TaskBodyItem : goal.returns-in-TaskBodyItem
returns-in-TaskBodyItem c = unchanged c.args.names.now.items c.args.item.now _ _ c.in-TaskBodyItem.is (item_task_body_model c.in-TaskBodyItem.field-0 c.in-TaskBodyItem.field-1 c.in-TaskBodyItem.field-2) refl

pub returns-in-ProtectedItem : goal.returns-in-ProtectedItem
returns-in-ProtectedItem c = unchanged c.args.names.now.items c.args.item.now _ _ c.in-ProtectedItem.is (item_protected_model c.in-ProtectedItem.field-0 c.in-ProtectedItem.field-1) refl

pub returns-in-ProtectedBodyItem : goal.returns-in-ProtectedBodyItem
returns-in-ProtectedBodyItem c = unchanged c.args.names.now.items c.args.item.now _ _ c.in-ProtectedBodyItem.is (item_protected_body_model c.in-ProtectedBodyItem.field-0 c.in-ProtectedBodyItem.field-1 c.in-ProtectedBodyItem.field-2 c.in-ProtectedBodyItem.field-3) refl
