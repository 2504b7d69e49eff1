use Rattle.std.proofs.Common.{◌≡◌, ◌∙◌, ℕ, List, map, None, IfSome, sym, ap, subst}
use Rattle.std.specs.List.{Contains}
use Rattle.al_base.specs.Batch.{finding_of}
use Rattle.al_query_store.specs.Units.{at_unit}
use Rattle.al_unit_graph.specs.Headers.{Library}
use Rattle.al_query_store.specs.Keyed.{settled_at}
use Rattle.al_engine.specs.GraphGraphs.{HaveSameGraph}
use Rattle.al_engine.specs.Kept.{IsGraphOf}
use Rattle.al_engine.specs.Texts.{HaveTextsBut}
use Rattle.al_engine.specs.declared.graph.UnitGraph.{UnitGraph}
use Rattle.al_engine.specs.BatchRenewals.{KeepsPartition}
use Rattle.al_engine.specs.Earlier.{KeepsEarlier}
use Rattle.al_engine_refresh.specs.Builds.{results_of}
use Rattle.al_engine.specs.RecheckEdits.{AreEdits, units_of}
use Rattle.al_engine.specs.Edits.{AreEditedIn, AreIn, HasReachedAll}
use Rattle.al_engine.specs.Gave.{diagnostics_of}
use Rattle.al_base.specs.declared.diagnostic.Diagnostic.{Diagnostic}
use Rattle.al_engine.specs.States.{IsSettledBy}
use Rattle.al_engine.specs.Renewed.{IsCleanBut}
use Rattle.al_engine.proofs.EditedThere.{all-made, base-of-none, clean-but, each-found, edited-alone, entered-of, made-entries}
use Rattle.al_engine.proofs.Keeping.{entries-keep}
use Rattle.al_engine.proofs.Taken.{some_has}
use Rattle.al_engine.proofs.edits.edited_now.Goals as goal

pub returns-clause-renewable : goal.returns-clause-renewable
returns-clause-renewable g c =
    let meaning = g.C.UnitCheck.meaning in
    let header = g.C.Text.ReadText.header in
    let pre = g.P.Answers.table c.args.predefined.now in
    let library = g.R.ReadFiles.library in
    let files = g.R.ReadFiles.files in
    let store = c.args.cache.now.store in
    let entries = settled_at store in
    let build = c.in-Some.build in
    let old = library (files build.now.read) in
    let new = c.sources-sources.result.now in
    let settled = some_has c.args.same build (λ b. IsSettledBy meaning header pre library store (record { files = files b.now.read; main = b.now.main; gave = c.args.gave.now })) c.in-Some.is c.requires.settled in
    let headers : HaveSameGraph old new =
    subst (λ (l : Library). HaveSameGraph old l) (sym c.sources-sources.ensures) (some_has c.args.same build (λ b. HaveSameGraph (library (files b.now.read)) (library (files c.args.read.now))) c.in-Some.is c.requires.headers) in
    let one = c.graphs_go_by_headers.ensures old new headers.headers in
    let graph = some_has c.args.same build (λ b. IsGraphOf (library (files b.now.read)) b.now.graph.value) c.in-Some.is c.requires.graph in
    let texts : HaveTextsBut old new c.args.edited.now =
    subst (λ (l : Library). HaveTextsBut old l c.args.edited.now) (sym c.sources-sources.ensures) (some_has c.args.same build (λ b. HaveTextsBut (library (files b.now.read)) (library (files c.args.read.now)) c.args.edited.now) c.in-Some.is c.requires.texts) in
    let whole : HasReachedAll build.now.graph.value (map finding_of (diagnostics_of c.args.gave.now.compiled)) =
    subst (λ (gr : UnitGraph). HasReachedAll gr (map finding_of (diagnostics_of c.args.gave.now.compiled))) c.deref.ensures
    (subst (λ (ds : List Diagnostic). HasReachedAll c.deref.result.now (map finding_of ds)) c.diagnostics_of-found.ensures (c.has_reached_all.ensures c.if-not-has_reached_all.false)) in
    let made = all-made meaning header pre old build.now.main settled.before entries c.args.gave.now settled.rebuilt build.now.graph.value graph whole in
    each-found c.in_ok-edits.edits
    (λ es. AreEditedIn new entries c.deref-2.result.now c.as_slice.result.now es.items)
    (λ es. AreEdits meaning header pre (library (files c.args.read.now)) store es.items)
    c.in_ok-edits.ensures
    (λ es are. subst (λ (l : Library). AreEdits meaning header pre l store es.items) c.sources-sources.ensures (record {
      reached = λ w. settled.reached w ∙ sym (made w);
      renewable = record {
        old = old;
        is_setting = (c.order_is_for_builds.ensures header old pre build.now.graph.value.order.items (c.requires.reading.headed (files build.now.read)) (c.requires.reading.bodies (files build.now.read)) c.requires.predefined graph.order).0;
        before = settled.before;
        checked = c.args.gave.now.checked;
        rechecked = made-entries meaning header pre old build.now.main settled.before entries c.args.gave.now settled.rebuilt build.now.graph.value graph whole;
        alone =
            edited-alone old new entries c.args.edited.now (units_of es.items) one texts
            (λ f may. are.holds f (subst (λ (fs : List (List ℕ)). Contains fs f) (sym c.as_slice.ensures.value) may))
            (entered-of new entries es.items (λ e k. (are.each e k).edited));
      };
      alone = λ e k none. base-of-none old new build.now.graph.value e.unit one graph (subst (λ (gr : UnitGraph). at_unit gr.bases e.unit ≡ None) c.deref-2.ensures ((are.each e k).base none));
    }))

pub returns-clause-clean : goal.returns-clause-clean
returns-clause-clean g c = λ is.
    let meaning = g.C.UnitCheck.meaning in
    let header = g.C.Text.ReadText.header in
    let pre = g.P.Answers.table c.args.predefined.now in
    let library = g.R.ReadFiles.library in
    let files = g.R.ReadFiles.files in
    let store = c.args.cache.now.store in
    let entries = settled_at store in
    let build = c.in-Some.build in
    let old = library (files build.now.read) in
    let new = c.sources-sources.result.now in
    let settled = some_has c.args.same build (λ b. IsSettledBy meaning header pre library store (record { files = files b.now.read; main = b.now.main; gave = c.args.gave.now })) c.in-Some.is c.requires.settled in
    let headers : HaveSameGraph old new =
    subst (λ (l : Library). HaveSameGraph old l) (sym c.sources-sources.ensures) (some_has c.args.same build (λ b. HaveSameGraph (library (files b.now.read)) (library (files c.args.read.now))) c.in-Some.is c.requires.headers) in
    let graph = some_has c.args.same build (λ b. IsGraphOf (library (files b.now.read)) b.now.graph.value) c.in-Some.is c.requires.graph in
    let whole : HasReachedAll build.now.graph.value (map finding_of (diagnostics_of c.args.gave.now.compiled)) =
    subst (λ (gr : UnitGraph). HasReachedAll gr (map finding_of (diagnostics_of c.args.gave.now.compiled))) c.deref.ensures
    (subst (λ (ds : List Diagnostic). HasReachedAll c.deref.result.now (map finding_of ds)) c.diagnostics_of-found.ensures (c.has_reached_all.ensures c.if-not-has_reached_all.false)) in
    let found : AreIn c.args.edited.now (map finding_of (diagnostics_of c.args.gave.now.compiled)) = subst (λ (ds : List Diagnostic). AreIn c.args.edited.now (map finding_of ds)) c.diagnostics_of-found.ensures (c.are_in.ensures is) in
    each-found c.in_ok-edits.edits
    (λ es. AreEditedIn new entries c.deref-2.result.now c.as_slice.result.now es.items)
    (λ es. IsCleanBut (library (files c.args.read.now)) entries (units_of es.items))
    c.in_ok-edits.ensures
    (λ es are. subst (λ (l : Library). IsCleanBut l entries (units_of es.items)) c.sources-sources.ensures
    (λ f others sound.
    clean-but meaning header pre old build.now.main settled.before entries c.args.gave.now settled.rebuilt build.now.graph.value graph whole new headers c.args.edited.now (units_of es.items) found
    (λ file may. are.holds file (subst (λ (fs : List (List ℕ)). Contains fs file) (sym c.as_slice.ensures.value) may)) f others sound))

pub returns-clause-kept : goal.returns-clause-kept
returns-clause-kept g c =
    let meaning = g.C.UnitCheck.meaning in
    let header = g.C.Text.ReadText.header in
    let pre = g.P.Answers.table c.args.predefined.now in
    let library = g.R.ReadFiles.library in
    let files = g.R.ReadFiles.files in
    let store = c.args.cache.now.store in
    let entries = settled_at store in
    let build = c.in-Some.build in
    let old = library (files build.now.read) in
    let new = c.sources-sources.result.now in
    let settled = some_has c.args.same build (λ b. IsSettledBy meaning header pre library store (record { files = files b.now.read; main = b.now.main; gave = c.args.gave.now })) c.in-Some.is c.requires.settled in
    let headers : HaveSameGraph old new =
    subst (λ (l : Library). HaveSameGraph old l) (sym c.sources-sources.ensures) (some_has c.args.same build (λ b. HaveSameGraph (library (files b.now.read)) (library (files c.args.read.now))) c.in-Some.is c.requires.headers) in
    let one = c.graphs_go_by_headers.ensures old new headers.headers in
    let graph = some_has c.args.same build (λ b. IsGraphOf (library (files b.now.read)) b.now.graph.value) c.in-Some.is c.requires.graph in
    let whole : HasReachedAll build.now.graph.value (map finding_of (diagnostics_of c.args.gave.now.compiled)) =
    subst (λ (gr : UnitGraph). HasReachedAll gr (map finding_of (diagnostics_of c.args.gave.now.compiled))) c.deref.ensures
    (subst (λ (ds : List Diagnostic). HasReachedAll c.deref.result.now (map finding_of ds)) c.diagnostics_of-found.ensures (c.has_reached_all.ensures c.if-not-has_reached_all.false)) in
    let made = all-made meaning header pre old build.now.main settled.before entries c.args.gave.now settled.rebuilt build.now.graph.value graph whole in
    let K : Library → Type 0 = λ l. KeepsPartition l (results_of entries) build.now.main c.args.gave.now.compiled × KeepsEarlier l (results_of entries) c.args.gave.now.earlier in
    let keeps : K (library (files c.args.read.now)) = subst K c.sources-sources.ensures (entries-keep meaning header pre old build.now.main settled.before entries c.args.gave.now settled.rebuilt made new one) in
    each-found c.in_ok-edits.edits
    (λ es. AreEditedIn new entries c.deref-2.result.now c.as_slice.result.now es.items)
    (λ es. IfSome c.args.same (λ b. KeepsPartition (library (files c.args.read.now)) (results_of entries) b.now.main c.args.gave.now.compiled × KeepsEarlier (library (files c.args.read.now)) (results_of entries) c.args.gave.now.earlier))
    c.in_ok-edits.ensures (λ es are. rw c.in-Some.is keeps)
