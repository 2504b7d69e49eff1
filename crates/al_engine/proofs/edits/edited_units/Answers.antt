use Rattle.std.proofs.Common.{◌≡◌, ◌++◌, ◌∷◌, ◌+◌, ◌∙◌, ℕ, List, [], take, get_or, sym, ap, subst}
use Rattle.std.proofs.lemmas.List.{take_all, take_more}
use Rattle.al_query_store.specs.Keyed.{settled_at}
use Rattle.al_engine.specs.declared.edited.EditedUnit.{EditedUnit}
use Rattle.al_engine.specs.Edits.{AreEditedIn, IsEdited}
use Rattle.al_engine.proofs.EditedThere.{none-edited, one-edited}
use Rattle.al_engine.proofs.edits.edited_units.Goals as goal

pub loop-file-init : goal.loop-file-init
loop-file-init g c =
    let entries = settled_at c.args.cache.now.store in
    subst (λ (edits : List EditedUnit). AreEditedIn c.args.sources.now entries c.args.graph.now [] edits) (sym c.new-edits.ensures.items) (none-edited c.args.sources.now entries c.args.graph.now)

pub loop-file-preserved : goal.loop-file-preserved
loop-file-preserved g c =
    let lib = c.args.sources.now in
    let entries = settled_at c.args.cache.now.store in
    let graph = c.args.graph.now in
    let files = c.args.files.now in
    let i = c.loop-file.file-index in
    let file = c.file-item.result in
    let edits = c.loop-file.edits.items in
    let e = c.in-Some.edited in
    let more : take (i + 1) files ≡ take i files ++ file ∷ [] = take_more files i file c.loop-file-test.true ∙ ap (λ (x : List ℕ). take i files ++ x ∷ []) (sym c.file-item.is) in
    let is : IsEdited lib entries graph file e = subst (λ (f : List ℕ). IsEdited lib entries graph f e) c.as_slice.ensures (rw c.in-Some.is at c.in_ok-edited.ensures) in
    subst (λ (fs : List (List ℕ)). AreEditedIn lib entries graph fs c.push.new.self.items) (sym more)
    (subst (λ (es : List EditedUnit). AreEditedIn lib entries graph (take i files ++ file ∷ []) es) (sym c.in_ok-push.ensures.items)
    (one-edited lib entries graph (take i files) edits file e c.loop-file.invariant is))

pub returns : goal.returns
returns g c =
    subst (λ (fs : List (List ℕ)). AreEditedIn c.args.sources.now (settled_at c.args.cache.now.store) c.args.graph.now fs c.loop-file.edits.items) (take_all c.loop-file.file-index c.args.files.now c.loop-file-test.false) c.loop-file.invariant
