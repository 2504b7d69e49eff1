use Rattle.std.proofs.Common.{sym, subst}
use Rattle.al_engine.specs.GraphGraphs.{HaveSameGraph}
use Rattle.al_engine.specs.Kept.{IsGraphOf}
use Rattle.al_engine.specs.declared.graph.UnitGraph.{UnitGraph}
use Rattle.al_engine.proofs.Taken.{graph_stays, some_has}
use Rattle.al_engine.proofs.graphs.graph_now.Goals as goal

pub returns-in_ok-clone-in-Some : goal.returns-in_ok-clone-in-Some
returns-in_ok-clone-in-Some g c =
    let library = g.R.ReadFiles.library in
    let files = g.R.ReadFiles.files in
    let build = c.in-Some.build in
    let now = library (files c.args.read.now) in
    let has = some_has c.args.alike build (λ b. IsGraphOf (library (files b.now.read)) b.now.graph.value × HaveSameGraph (library (files b.now.read)) now) c.in-Some.is c.requires in
    let stays : IsGraphOf now build.now.graph.value = graph_stays (library (files build.now.read)) now build.now.graph.value (c.graphs_go_by_headers.ensures (library (files build.now.read)) now has.1.headers) has.1 has.0 in
    subst (λ (graph : UnitGraph). IsGraphOf now graph) (sym c.in_ok-clone-in-Some.ensures.cases) stays
