use Rattle.std.proofs.Common.{map, set, ap, ◌∙◌}
use Rattle.std.proofs.lemmas.List.{map-set, take_all}
use Rattle.al_engine.specs.ObjectsSeen.{object_model}
use Rattle.al_engine.proofs.linking.objects_with.Goals as goal

pub returns : goal.returns
returns c =
    ap (map object_model) c.put.ensures ∙ map-set object_model c.loop-one.objects.items c.args.at c.args.object
    ∙ ap (λ us. set us c.args.at (object_model c.args.object)) (c.loop-one.invariant ∙ ap (map object_model) (take_all c.loop-one.one-index c.args.before.now c.loop-one-test.false))
