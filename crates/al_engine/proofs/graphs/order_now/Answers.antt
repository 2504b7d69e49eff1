use Rattle.std.proofs.Common.{List, map, IfSome, ap, sym, subst}
use Rattle.al_base.specs.Batch.{key_of}
use Rattle.al_bind.specs.Binding.{IsElaboration}
use Rattle.al_engine.specs.GraphGraphs.{HaveSameGraph}
use Rattle.al_engine.specs.Graphs.{AreElaborations}
use Rattle.al_engine.specs.declared.orders.KnownOrder.{KnownOrder}
use Rattle.al_engine.proofs.Taken.{orders_for, orders_stay, some_has}
use Rattle.al_engine.proofs.graphs.order_now.Goals as goal

pub returns : goal.returns
returns g c =
    let library = g.R.ReadFiles.library in
    let files = g.R.ReadFiles.files in
    let build = c.in-Some.build in
    let now = library (files c.args.read.now) in
    let has = some_has c.args.alike build (λ b. AreElaborations (library (files b.now.read)) (map (λ o. o.value) b.now.orders.items) × HaveSameGraph (library (files b.now.read)) now) c.in-Some.is c.requires in
    let are : AreElaborations now (map (λ o. o.value) build.now.orders.items) = orders_stay (library (files build.now.read)) now (map (λ o. o.value) build.now.orders.items) (c.graphs_go_by_headers.ensures (library (files build.now.read)) now has.1.headers) has.0 in
    let found : AreElaborations now (map (λ o. o.value) c.as_slice.result.now) = subst (AreElaborations now) (sym (ap (map (λ o. o.value)) c.as_slice.ensures.value)) are in
    orders_for now c.args.main.now (map (λ o. o.value) c.as_slice.result.now) c.order_of.result found c.order_of.ensures
