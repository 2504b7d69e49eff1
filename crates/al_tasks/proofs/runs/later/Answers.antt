use Rattle.std.proofs.Common.{◌≡◌, ◌∙◌, ◌+◌, ℕ, suc, ap, sym, arith, rules, FitsSigned, w64}
use Rattle.std.proofs.lemmas.Int.{to_z-of_z}
use Rattle.al_tasks.specs.Bursts.{later, next_clock}
use Rattle.al_tasks.proofs.TickLemmas.{later_more}
use Rattle.al_tasks.proofs.runs.later.Goals as goal

pub loop-tick-preserved : goal.loop-tick-preserved
loop-tick-preserved c =
    let l = c.loop-tick in
    let one : suc l.tick ≡ l.tick + 1 = omega arith in
    let fits : FitsSigned w64 c.args.clock = search rules in
    let start = to_z-of_z w64 c.args.clock fits in
    let fits2 : FitsSigned w64 c.next_clock-now.result = search rules in
    let end = to_z-of_z w64 c.next_clock-now.result fits2 in
    rw (start, end) (c.next_clock-now.ensures ∙ ap next_clock (rw start at l.invariant) ∙ sym (later_more l.tick c.args.clock) ∙ ap (λ (k : ℕ). later k c.args.clock) one)
