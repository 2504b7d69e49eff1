use Rattle.std.proofs.Common.{◌&&◌, not, nat_eq, sym, ap, ◌∙◌}
use Rattle.al_query_store.specs.Reads.{reads}
use Rattle.al_query_store.specs.Stored.{in_log}
use Rattle.al_query_store.proofs.LogLemmas.{Log}
use Rattle.al_query_store.proofs.SlotLemmas.{indexed-remove, untouched-remove}
use Rattle.al_query_store.proofs.slots.Slots.remove.Goals as goal

pub invariant_of-self : goal.invariant_of-self
invariant_of-self g c =
    let log = g.E.Logged.log in (
      indexed-remove log c.self.inside.entries c.try_remove.new.self c.self.inside.readers c.withdraw.new.readers c.args.key c.in-Some.held c.self.invariant.0 (sym c.in-Some.ensures.value) c.in-Some.ensures.updates
          (λ q p. c.withdraw.ensures q p ∙ ap (λ (l : Log). reads c.self.inside.readers q p && not (nat_eq c.args.key p.entry && in_log l q p.at)) c.log.ensures),
      untouched-remove c.self.inside.entries c.try_remove.new.self c.self.inside.touched.items c.args.key c.in-Some.ensures.updates c.self.invariant.1,
    )
