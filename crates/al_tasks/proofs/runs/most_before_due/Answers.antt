use Rattle.std.proofs.Common.{◌≡◌, ◌∙◌, ◌≤◌, ◌<◌, ◌+◌, ◌-◌, ◌*◌, ℕ, zero, suc, true, false, List, subst, sym, refl, arith, rules, w64, FitsSigned}
use Rattle.std.specs.Prelude.{ℤ, pos, negsuc, ◌+ℤ◌, ◌-ℤ◌, int_lt}
use lib.IntN.{nat_abs}
use lib.Signed.{le_z, ◌≤ℤ◌}
use Rattle.std.proofs.lemmas.Int.{ints, to_z-of_z}
use Rattle.al_tasks.specs.Task.{Task}
use Rattle.al_tasks.specs.Bursts.{is_any_due}
use Rattle.al_tasks.proofs.TickLemmas.{quiet_before, rounds_fit}
use Rattle.al_tasks.proofs.runs.most_before_due.Goals as goal

-- one more than r ticks end no later than the moment
enough : (clock moment ticks : ℤ) (r : ℕ) → ticks ≡ (moment -ℤ clock) → le_z ticks (pos 0) ≡ false → r ≤ nat_abs ticks - 1 → (clock +ℤ pos (suc r)) ≤ℤ moment
enough clock moment (pos zero) r e past few = absurd (cc)
enough clock moment (pos (suc d)) r e past few =
    let le : r ≤ d = omega arith in
    omega (arith, ints)
enough clock moment (negsuc d) r e past few = absurd (cc)

pub returns : goal.returns
returns c k some le =
    let n = c.args.n in
    let since = c.args.since in
    let r = c.min-rounds.result in
    let before = c.requires in
    let left : c.min.result ≤ n - since = let e = c.min.ensures in omega arith in
    let less : c.min-2.result ≤ n = let e = c.min-2.ensures in omega arith in
    let few : since + k ≤ suc r * n = rounds_fit n since k r c.min.result r c.min-2.result before le left (omega arith) less in
    let s = c.args.state.now in
    let moment = c.earliest-moment.result in
    let fits : FitsSigned w64 c.in-Some.ticks = search rules in
    let fits' : FitsSigned w64 moment = search rules in
    let fits'' : FitsSigned w64 s.clock = search rules in
    let past = simp to_z-of_z at c.if-ticks-le0.false in
    let rounds = simp to_z-of_z at c.min-rounds.ensures in
    let distance = simp to_z-of_z at c.in-Some.ensures in
    let less_one : r ≤ nat_abs c.in-Some.ticks - 1 = omega arith in
    let e = enough s.clock moment c.in-Some.ticks r distance.1 past less_one in
    let none = subst (λ (l : List Task). (clock : ℤ) → int_lt clock moment ≡ true → is_any_due clock l ≡ false) c.deref.ensures.value c.earliest-moment.ensures in
    quiet_before s.paused.items s.clock moment n k since (suc r) before some few e none
