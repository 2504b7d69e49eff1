use Rattle.std.proofs.Common.{◌≡◌, ◌&&◌, ◌||◌, ◌+◌, nat_eq, ℕ, Bool, length, ap, sym, ◌∙◌, arith}
use Rattle.al_query.specs.Queries.{same_query}
use Rattle.al_query_store.specs.declared.place.Place.{Place}
use Rattle.al_query_store.specs.Reads.{reads, same_place}
use Rattle.al_query_store.proofs.ReadLemmas.{ByUnit}
use Rattle.al_query_store.proofs.LogLemmas.{below-all, in_below, entered-next, entered-none}
use Rattle.al_query_store.proofs.logs.enter.Goals as goal
use Rattle.al_query_store.proofs.logs.enter.Goals.{in-Some+in-Ok, in_default}

pub returns-clause-ok : goal.returns-clause-ok
returns-clause-ok c q p =
    let e : c.loop-i.i ≡ length c.args.log.now = omega (arith, c.loop-i-test.false, c.loop-i.auto.i-end, c.len-i-end.ensures) in
    c.loop-i.invariant q p
    ∙ ap (λ (n : ℕ). reads c.args.readers.now q p || (nat_eq c.args.key p.entry && in_below c.args.log.now q n p.at)) e
    ∙ ap (λ (b : Bool). reads c.args.readers.now q p || (nat_eq c.args.key p.entry && b)) (below-all c.args.log.now q p.at)

pub loop-i-preserved : goal.loop-i-preserved
loop-i-preserved c q p =
    let log = c.args.log.now in
    let i = c.loop-i.i in
    let r = reads c.args.readers.now q p in
    let k = nat_eq c.args.key p.entry in
    elim c.match-at.branch as (λ _. reads c.match-at.readers q p ≡ (r || (k && in_below log q (i + 1) p.at))) [
      | in-Some+in-Ok w ↦
          let this : Place = record { entry = c.args.key; at = i } in
          entered-next log q i p.at (w.in-Some.query.now, w.in-Some.field-0-1.now) (sym w.in-Some.ensures) r (reads c.match-at.readers q p) k
          (ap (λ (x : ByUnit). reads x q p) w.readers-is
          ∙ w.in-Ok.ensures.ok q p ∙ ap (λ (b : Bool). b || (same_query w.in-Some.query.now q && same_place this p)) (c.loop-i.invariant q p))
      | in_default w ↦
          ap (λ (x : ByUnit). reads x q p) w.readers-is ∙ c.loop-i.invariant q p
          ∙ entered-none log q i p.at r k (sym w.in_default.ensures)
    ]
