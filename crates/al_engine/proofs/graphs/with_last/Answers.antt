use Rattle.std.proofs.Common.{ℕ, List, ap, subst, ◌∙◌}
use Rattle.std.specs.List.{Contains}
use Rattle.std.specs.Prelude.{map}
use Rattle.al_base.specs.Batch.{Finding}
use Rattle.al_unit_graph.specs.Traces.{AreReadAlike}
use Rattle.al_unit_faults.specs.FilesSeen.{file_faults_model}
use Rattle.al_unit_faults.specs.declared.listing.FileFaults.{FileFaults}
use Rattle.al_engine.specs.GraphGraphs.{HaveSameHeaders}
use Rattle.al_engine.specs.Kept.{IsGraphOf}
use Rattle.al_engine.specs.Texts.{HaveTextsBut, IsKeptFault}
use Rattle.al_engine.specs.declared.graph.UnitGraph.{UnitGraph}
use Rattle.al_engine.proofs.Kept.{same_graph}
use Rattle.al_engine.proofs.Taken.{some_has}
use Rattle.al_engine.proofs.graphs.with_last.Goals as goal

pub returns-then-are_kept-clause-found : goal.returns-then-are_kept-clause-found
returns-then-are_kept-clause-found g c =
    let library = g.R.ReadFiles.library in
    let files = g.R.ReadFiles.files in
    let now = library (files c.args.read.now) in
    let last = c.in-Some.last in
    let old = library (files last.read) in
    let has = some_has c.args.last.now last (λ b. HaveSameHeaders (library (files b.read)) now × HaveTextsBut (library (files b.read)) now c.args.edited) c.in-Some.is c.requires.edited in
    let graph = some_has c.args.last.now last (λ b. IsGraphOf (library (files b.read)) b.graph.value) c.in-Some.is c.requires.graph in
    let alike = some_has c.args.last.now last (λ b. AreReadAlike (library (files b.read)) now) c.in-Some.is c.requires.reading in
    let kept = subst (λ (fs : List FileFaults). (f : List ℕ × List Finding) → Contains (map file_faults_model fs) f → IsKeptFault c.args.edited f) (c.as_slice.ensures.value ∙ ap (λ (gr : UnitGraph). gr.faults.items) c.deref.ensures) (c.are_kept.ensures c.if-are_kept.true) in
    (c.in-Some.is, same_graph old now c.args.edited last.graph.value has.0 (c.graphs_go_by_headers.ensures old now has.0) alike has.1 graph kept)

pub returns-then-are_kept-clause-edited : goal.returns-then-are_kept-clause-edited
returns-then-are_kept-clause-edited g c =
    let library = g.R.ReadFiles.library in
    let files = g.R.ReadFiles.files in
    let now = library (files c.args.read.now) in
    (some_has c.args.last.now c.in-Some.last (λ b. HaveSameHeaders (library (files b.read)) now × HaveTextsBut (library (files b.read)) now c.args.edited) c.in-Some.is c.requires.edited).1
