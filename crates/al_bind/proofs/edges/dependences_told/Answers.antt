use Rattle.std.proofs.Common.{◌↔◌, map, sym, subst}
use Rattle.std.specs.List.{Contains}
use Rattle.std.specs.Result.{IfOk}
use Rattle.al_base.specs.Batch.{Key, key_of}
use Rattle.al_bind.specs.Steps.{IsTold}
use Rattle.al_bind.specs.declared.edges.Extent.{Extent}
use Rattle.al_bind.proofs.edges.dependences_told.Goals as goal

pub returns-in-Steps : goal.returns-in-Steps
returns-in-Steps c =
    let lib = c.args.sources.now in
    let keys = map key_of c.args.places.now.keys.items in
    subst (λ (e : Extent). IfOk c.steps_from.result (λ those. (y : Key) → Contains keys y → Contains (map key_of those.items) y ↔ IsTold e lib keys (key_of c.args.part.now) y)) (sym c.in-Steps.is) c.steps_from.ensures
