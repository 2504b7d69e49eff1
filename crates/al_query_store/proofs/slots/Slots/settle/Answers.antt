use Rattle.al_query_store.proofs.KeepLemmas.{indexed-settle, untouched-settle}
use Rattle.al_query_store.proofs.slots.Slots.settle.Goals as goal

pub invariant_of-self : goal.invariant_of-self
invariant_of-self g c =
    let old = c.self.inside.entries in
    let new = c.settle_one.new.entries in (
      indexed-settle g.E.Logged.log old new c.self.inside.readers c.self.invariant.0 c.args.key c.settle_one.ensures,
      untouched-settle old new c.self.inside.touched.items c.args.key c.settle_one.ensures c.self.invariant.1,
    )
