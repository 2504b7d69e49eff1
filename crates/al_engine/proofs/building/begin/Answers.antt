use Rattle.std.proofs.Common.{ℕ, List, IfSome, map, sym, subst}
use Rattle.al_base.specs.Batch.{key_of}
use Rattle.al_bind.specs.Binding.{IsElaboration}
use Rattle.al_unit_graph.specs.Headers.{Library}
use Rattle.al_unit_faults.specs.Read.{AreHeaded, NameParentBodies}
use Rattle.al_query_store.specs.Keyed.{now_at, settled_at}
use Rattle.al_engine_refresh.specs.Builds.{results_of}
use Rattle.al_engine.specs.BatchRenewals.{KeepsPartition}
use Rattle.al_engine.specs.Earlier.{KeepsEarlier, over}
use Rattle.al_engine.specs.Prepared.{IsPrepared}
use Rattle.al_engine.specs.Renewed.{IsCleanBut}
use Rattle.al_engine.specs.RecheckEdits.{AreEdits, units_of}
use Rattle.al_engine.specs.GraphGraphs.{HaveSameGraph}
use Rattle.al_engine.specs.Kept.{IsGraphOf}
use Rattle.al_engine.specs.declared.graph.UnitGraph.{UnitGraph}
use Rattle.al_engine.specs.Graphs.{AreElaborations, IsOrderOf}
use Rattle.al_engine.specs.States.{IsSettledBy}
use Rattle.al_unit_graph.specs.Traces.{AreReadAlike}
use Rattle.al_engine.proofs.EditedThere.{for-any}
use Rattle.al_engine.proofs.Keeping.{partition-of-last}
use Rattle.al_engine.proofs.Taken.{besides, first_of, graphs_of, of_last, planned_orders, second_of}
use Rattle.al_engine.proofs.building.begin.Goals as goal

pub alike-found-requires-clause-graph : goal.alike-found-requires-clause-graph
alike-found-requires-clause-graph g c =
    let library = g.R.ReadFiles.library in
    let files = g.R.ReadFiles.files in
    graphs_of c.args.last.now (λ b. IsGraphOf (library (files b.read)) b.graph.value) (λ b. AreElaborations (library (files b.read)) (map (λ o. o.value) b.orders.items)) c.requires.last

pub alike-found-requires-clause-reading : goal.alike-found-requires-clause-reading
alike-found-requires-clause-reading g c =
    for-any c.args.last.now (λ b. AreReadAlike (g.R.ReadFiles.library (g.R.ReadFiles.files b.read)) (g.R.ReadFiles.library (g.R.ReadFiles.files c.args.read.now)))
    (λ b. c.requires.reading.alike (g.R.ReadFiles.files b.read) (g.R.ReadFiles.files c.args.read.now))

pub graph_now-requires : goal.graph_now-requires
graph_now-requires g c =
    let library = g.R.ReadFiles.library in
    let files = g.R.ReadFiles.files in
    first_of c.args.last.now (λ b. b.now) (λ b. IsGraphOf (library (files b.read)) b.graph.value) (λ b. AreElaborations (library (files b.read)) (map (λ o. o.value) b.orders.items))
    (λ b. HaveSameGraph (library (files b.now.read)) (library (files c.args.read.now))) c.alike-found.result.0 c.alike-found.ensures.found c.requires.last

pub order_now-order-requires : goal.order_now-order-requires
order_now-order-requires g c =
    let library = g.R.ReadFiles.library in
    let files = g.R.ReadFiles.files in
    second_of c.args.last.now (λ b. b.now) (λ b. IsGraphOf (library (files b.read)) b.graph.value) (λ b. AreElaborations (library (files b.read)) (map (λ o. o.value) b.orders.items))
    (λ b. HaveSameGraph (library (files b.now.read)) (library (files c.args.read.now))) c.alike-found.result.0 c.alike-found.ensures.found c.requires.last

pub edited_now-requires-clause-graph : goal.edited_now-requires-clause-graph
edited_now-requires-clause-graph g c =
    let library = g.R.ReadFiles.library in
    let files = g.R.ReadFiles.files in
    of_last c.args.last.now (λ b. b.now) (λ b. IsGraphOf (library (files b.read)) b.graph.value) (λ b. HaveSameGraph (library (files b.now.read)) (library (files c.args.read.now))) c.alike-found.result.0 c.alike-found.ensures.found
    (graphs_of c.args.last.now (λ b. IsGraphOf (library (files b.read)) b.graph.value) (λ b. AreElaborations (library (files b.read)) (map (λ o. o.value) b.orders.items)) c.requires.last)

pub edited_now-requires-clause-settled : goal.edited_now-requires-clause-settled
edited_now-requires-clause-settled g c =
    let library = g.R.ReadFiles.library in
    let files = g.R.ReadFiles.files in
    of_last c.args.last.now (λ b. b.now)
    (λ b. IsSettledBy g.C.UnitCheck.meaning g.C.Text.ReadText.header (g.P.Answers.table c.args.predefined.now) library c.args.cache.now.store (record { files = files b.read; main = b.main; gave = c.args.gave.now }))
    (λ b. HaveSameGraph (library (files b.now.read)) (library (files c.args.read.now))) c.alike-found.result.0 c.alike-found.ensures.found c.requires.settled

pub edited_now-requires-clause-headers : goal.edited_now-requires-clause-headers
edited_now-requires-clause-headers g c =
    let library = g.R.ReadFiles.library in
    let files = g.R.ReadFiles.files in
    besides c.args.last.now (λ b. b.now) (λ b. HaveSameGraph (library (files b.now.read)) (library (files c.args.read.now))) c.alike-found.result.0 c.alike-found.ensures.found

pub prepare-requires-clause-edited : goal.prepare-requires-clause-edited
prepare-requires-clause-edited g c =
    subst (λ (l : Library). IfSome c.in_ok-known.known.0 (λ edits. AreEdits g.C.UnitCheck.meaning g.C.Text.ReadText.header (g.P.Answers.table c.args.predefined.now) l c.args.cache.now.store edits.items)) (sym c.sources-sources.ensures) c.in_ok-known.ensures.renewable

pub prepare-requires-clause-clean : goal.prepare-requires-clause-clean
prepare-requires-clause-clean g c = λ is.
    subst (λ (l : Library). IfSome c.in_ok-known.known.0 (λ edits. IsCleanBut l (settled_at c.args.cache.now.store) (units_of edits.items))) (sym c.sources-sources.ensures) (c.in_ok-known.ensures.clean is)

pub prepare-requires-clause-headed : goal.prepare-requires-clause-headed
prepare-requires-clause-headed g c = subst (λ (l : Library). AreHeaded g.C.Text.ReadText.header l) (sym c.sources-sources.ensures) (c.requires.reading.headed (g.R.ReadFiles.files c.args.read.now))

pub prepare-requires-clause-bodies : goal.prepare-requires-clause-bodies
prepare-requires-clause-bodies g c = subst (λ (l : Library). NameParentBodies l) (sym c.sources-sources.ensures) (c.requires.reading.bodies (g.R.ReadFiles.files c.args.read.now))

pub prepare-requires-clause-graph : goal.prepare-requires-clause-graph
prepare-requires-clause-graph g c =
    subst (λ (l : Library). IsGraphOf l c.deref.result.now) (sym c.sources-sources.ensures)
    (subst (λ (graph : UnitGraph). IsGraphOf (g.R.ReadFiles.library (g.R.ReadFiles.files c.args.read.now)) graph) (sym c.deref.ensures) c.in_ok-graph.ensures)

pub prepare-requires-clause-known : goal.prepare-requires-clause-known
prepare-requires-clause-known g c =
    subst (λ (l : Library). IfSome c.order_now-order.result (λ order. IsElaboration l c.args.main.now (map key_of order.now))) (sym c.sources-sources.ensures) c.order_now-order.ensures

pub prepare-requires-clause-kept : goal.prepare-requires-clause-kept
prepare-requires-clause-kept g c =
    let K : (Library → List ℕ → Type 0) = λ l m. KeepsPartition l (results_of (settled_at c.args.cache.now.store)) m c.args.gave.now.compiled × KeepsEarlier l (results_of (settled_at c.args.cache.now.store)) c.args.gave.now.earlier in
    subst (λ (l : Library). IfSome c.main_of.result (λ m. IfSome c.in_ok-known.known.0 (λ _. K l m.now))) (sym c.sources-sources.ensures)
    (partition-of-last c.in_ok-known.known.0 c.alike-found.result.0 (λ b. b.now.main) c.main_of.result (K (g.R.ReadFiles.library (g.R.ReadFiles.files c.args.read.now))) c.main_of.ensures c.in_ok-known.ensures.kept)

pub orders_now-requires-clause-known : goal.orders_now-requires-clause-known
orders_now-requires-clause-known g c =
    let library = g.R.ReadFiles.library in
    let files = g.R.ReadFiles.files in
    second_of c.args.last.now (λ b. b.now) (λ b. IsGraphOf (library (files b.read)) b.graph.value) (λ b. AreElaborations (library (files b.read)) (map (λ o. o.value) b.orders.items))
    (λ b. HaveSameGraph (library (files b.now.read)) (library (files c.args.read.now))) c.alike-found.result.0 c.alike-found.ensures.found c.requires.last

pub orders_now-requires-clause-planned : goal.orders_now-requires-clause-planned
orders_now-requires-clause-planned g c =
    subst (λ (l : Library). IsOrderOf l c.args.main.now c.in_ok-prepared.prepared.planned) c.sources-sources.ensures
    (planned_orders c.sources-sources.result.now (results_of (now_at c.prepare.new.cache.store)) c.args.main.now (over c.args.gave.now c.in_ok-prepared.prepared.base) c.in_ok-prepared.prepared.planned c.in_ok-prepared.ensures.prepared.is_planned)

pub returns-clause-prepared : goal.returns-clause-prepared
returns-clause-prepared g c =
    let p = c.in_ok-prepared.prepared in
    subst (λ (l : Library). IsPrepared g.C.UnitCheck.meaning g.C.Text.ReadText.header (g.P.Answers.table c.args.predefined.now) l c.args.main.now c.args.gave.now c.args.cache.now.store p.base p.planned c.prepare.new.cache.store p.checked.items p.reasons.items p.compared)
    c.sources-sources.ensures c.in_ok-prepared.ensures.prepared
