use Rattle.std.proofs.Common.{map, ap, sym, subst}
use Rattle.al_engine.specs.GraphGraphs.{HaveSameGraph}
use Rattle.al_engine.specs.Graphs.{AreElaborations}
use Rattle.al_engine.proofs.Taken.{orders_stay, some_has}
use Rattle.al_engine.proofs.graphs.known_orders.Goals as goal

pub returns : goal.returns
returns g c =
    let library = g.R.ReadFiles.library in
    let files = g.R.ReadFiles.files in
    let build = c.in-Some.build in
    let old = library (files build.now.read) in
    let now = library (files c.args.read.now) in
    let orders = map (λ o. o.value) build.now.orders.items in
    let has = some_has c.args.alike build (λ b. AreElaborations (library (files b.now.read)) (map (λ o. o.value) b.now.orders.items) × HaveSameGraph (library (files b.now.read)) now) c.in-Some.is c.requires in
    let are : AreElaborations now orders = orders_stay old now orders (c.graphs_go_by_headers.ensures old now has.1.headers) has.0 in
    c.in_ok-orders.ensures now (subst (AreElaborations now) (sym (ap (map (λ o. o.value)) c.as_slice.ensures.value)) are)
