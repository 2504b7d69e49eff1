use Rattle.std.proofs.Common.{◌≡◌, ◌∙◌, ◌++◌, List, arith, take, ap, sym}
use Rattle.std.specs.List.{flat_map}
use Rattle.std.proofs.lemmas.List.{take_all}
use Rattle.al_view.specs.declared.types.TypeView.{TypeView}
use Rattle.al_view.specs.declared.view.Operation.{Operation}
use Rattle.al_scope.proofs.HidingLemmas.{append-none}
use Rattle.al_scope.specs.Hidden.{partial_if_hidden}
use Rattle.al_scope.specs.Recasts.{operation_types}
use Rattle.al_scope.proofs.Lists.{nested_more}
use Rattle.al_scope.proofs.seen_hiding.add_operations.Goals as goal

pub loop-operation-init : goal.loop-operation-init
loop-operation-init c = sym (append-none c.args.recasts.now)

pub loop-operation-preserved : goal.loop-operation-preserved
loop-operation-preserved c =
    nested_more (partial_if_hidden c.args.names.now) (λ (o : Operation). o.subprogram.types) c.args.recasts.now c.loop-operation.recasts c.add_partials.new.recasts c.args.operations.now c.loop-operation.operation-index c.operation-item.result (omega arith) c.operation-item.is
    c.loop-operation.invariant
    (c.in_ok-add_partials.ensures ∙ ap (λ (l : List TypeView). c.loop-operation.recasts ++ flat_map (partial_if_hidden c.args.names.now) l) c.as_slice-types.ensures)

pub returns : goal.returns
returns c =
    let all : take c.loop-operation.operation-index c.args.operations.now ≡ c.args.operations.now = take_all c.loop-operation.operation-index c.args.operations.now (omega arith) in
    c.loop-operation.invariant ∙ ap (λ (l : List Operation). c.args.recasts.now ++ flat_map (partial_if_hidden c.args.names.now) (operation_types l)) all
