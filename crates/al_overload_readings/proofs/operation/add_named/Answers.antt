use Rattle.std.proofs.Common.{◌≡◌, ◌++◌, ◌∷◌, [], List, take, ap, sym, ◌∙◌}
use Rattle.std.specs.List.{flat_map}
use Rattle.std.proofs.lemmas.List.{flat_map_more, take_more}
use Rattle.al_view.specs.declared.view.Operation.{Operation}
use Rattle.al_view.specs.declared.view.ViewKind.{ViewKind}
use Rattle.al_overload_readings.specs.Operations.{named_so, operations_named}
use Rattle.al_overload_readings.proofs.operation.add_named.Goals as goal

pub loop-operation-preserved : goal.loop-operation-preserved
loop-operation-preserved c =
    let f = named_so c.args.name.now in
    let xs = c.args.operations.now in
    let i = c.loop-operation.operation-index in
    let o = c.operation-item.result in
    let before = c.args.views.now in
    c.in_ok-add_if_named.ensures
    ∙ ap (λ (vs : List ViewKind). vs ++ f o) c.loop-operation.invariant
    ∙ flat_map_more f before (take i xs) o
    ∙ ap (λ (os : List Operation). before ++ flat_map f os) (ap (λ (x : Operation). take i xs ++ x ∷ []) c.operation-item.is ∙ sym (take_more xs i o c.loop-operation-test.true))
