use Rattle.std.proofs.Common.{◌+◌, refl, take, slice_index_or}
use Rattle.slab.specs.Slab.{get}
use Rattle.al_query_store.specs.Stored.{kept}
use Rattle.al_query_store.proofs.KeepLemmas.{more_changed, one_more}
use Rattle.al_query_store.proofs.keeping.keep_all.Goals as goal

pub loop-key-preserved : goal.loop-key-preserved
loop-key-preserved g c k =
    let i = c.loop-key.key-index in
    let keys = c.args.keys.now in
    more_changed kept (λ h. refl) (get c.args.entries.now k) (get c.loop-key.entries k) (get c.keep_one.new.entries k) (take i keys) (take (i + 1) keys) (slice_index_or keys i 0) k
    (one_more keys i 0 c.loop-key-test.true) (c.loop-key.invariant k) (c.keep_one.ensures k)
