use Rattle.std.proofs.Common.{◌++◌, ◌∙◌, List, ap}
use Rattle.std.specs.List.{flat_map}
use Rattle.al_view.specs.declared.types.TypeView.{TypeView}
use Rattle.al_view.specs.declared.view.Operation.{Operation}
use Rattle.al_scope.specs.Hidden.{partial_if_hidden}
use Rattle.al_scope.specs.Recasts.{operation_types}
use Rattle.al_scope.proofs.Lists.{both_more}
use Rattle.al_scope.proofs.seen_hiding.add_protected.Goals as goal

pub returns : goal.returns
returns c =
    let partials = flat_map (partial_if_hidden c.args.names.now) in
    both_more (partial_if_hidden c.args.names.now) c.args.recasts.now c.add_partials.new.recasts c.add_operations.new.recasts c.args.of.now.types (operation_types c.args.of.now.operations)
    (c.in_ok-add_partials.ensures ∙ ap (λ (ts : List TypeView). c.args.recasts.now ++ partials ts) c.as_slice.ensures)
    (c.in_ok-add_operations.ensures ∙ ap (λ (os : List Operation). c.add_partials.new.recasts ++ partials (operation_types os)) c.as_slice-2.ensures)
