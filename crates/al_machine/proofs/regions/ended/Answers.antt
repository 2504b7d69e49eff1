use Rattle.std.proofs.Common.{◌≡◌, ◌≤◌, ◌<◌, ◌+◌, ◌-◌, ◌/◌, ℕ, subst, arith}
use Rattle.al_machine.proofs.RegionLemmas.{ended_below}
use Rattle.al_machine.proofs.regions.ended.Goals as goal

pub loop-low-preserved-then-end-place : goal.loop-low-preserved-then-end-place
loop-low-preserved-then-end-place c =
    let l = c.loop-low in
    let middle = l.low + (l.high - l.low) / 2 in
    let le = subst (λ (p : ℕ × ℕ). p.1 ≤ c.args.place) c.limits_of-end.ensures c.if-end-place.true in
    record {
      order = let t = c.loop-low-test.true in omega arith;
      within = l.invariant.within;
      ended = λ k o less e. ended_below c.args.regions.now middle c.args.place c.known.result.now c.requires c.known.ensures le k o less e;
    }
