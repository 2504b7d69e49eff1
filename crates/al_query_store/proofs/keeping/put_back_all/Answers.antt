use Rattle.std.proofs.Common.{◌+◌, refl, take, slice_index_or}
use Rattle.slab.specs.Slab.{get}
use Rattle.al_query_store.specs.Stored.{base}
use Rattle.al_query_store.proofs.KeepLemmas.{more_changed, one_more}
use Rattle.al_query_store.proofs.keeping.put_back_all.Goals as goal

pub loop-key-preserved : goal.loop-key-preserved
loop-key-preserved g c k =
    let i = c.loop-key.key-index in
    let keys = c.args.keys.now in
    more_changed base (λ h. refl) (get c.args.entries.now k) (get c.loop-key.entries k) (get c.put_back_one.new.entries k) (take i keys) (take (i + 1) keys) (slice_index_or keys i 0) k
    (one_more keys i 0 c.loop-key-test.true) (c.loop-key.invariant k) (c.put_back_one.ensures k)
