use Rattle.std.proofs.Common.{◌≡◌, ◌∙◌, ◌<◌, ◌≤◌, ◌+◌, ◌-◌, ◌*◌, ◌/◌, ◌%◌, ℕ, ap, sym, arith, rules, FitsSigned, w64}
use Rattle.std.proofs.lemmas.Nat.{div-add-mod'}
use Rattle.std.proofs.lemmas.Int.{to_z-of_z}
use Rattle.std.proofs.lemmas.Bool.Decides.{nat_tests}
use Rattle.al_tasks.specs.Seen.{seen}
use Rattle.al_tasks.specs.Bursts.{ticks_in}
use Rattle.al_tasks.proofs.BurstLemmas.{works_fit}
use Rattle.al_tasks.proofs.TickLemmas.{ticks_few, ticks_count, left_is, works_through}
use Rattle.al_tasks.proofs.runs.turn_through.Goals as goal

pub ticks_between-ticks-requires-clause-fits : goal.ticks_between-ticks-requires-clause-fits
ticks_between-ticks-requires-clause-fits c =
    let p = c.args.program.now in let n = c.args.n in let since = c.args.since in
    let k = c.work_on-done.result in
    let more : 0 < k = let t = c.if-done-eq0.false in omega arith in
    let few : k ≤ c.args.most / 2 = let f = c.work_on-done.ensures.few in let m = c.min.ensures in grind (arith, nat_tests) in
    let half = div-add-mod' c.args.most 2 in
    let before = c.requires.since in let room = c.requires.room in
    omega arith

pub overflow_add-result : goal.overflow_add-result
overflow_add-result c =
    let p = c.args.program.now in let n = c.args.n in let since = c.args.since in
    let k = c.work_on-done.result in
    let more : 0 < k = let t = c.if-done-eq0.false in omega arith in
    let few : k ≤ c.args.most / 2 = let f = c.work_on-done.ensures.few in let m = c.min.ensures in grind (arith, nat_tests) in
    let half = div-add-mod' c.args.most 2 in
    let before = c.requires.since in let room = c.requires.room in
    let some : 0 < n = omega arith in let le : since ≤ n = omega arith in
    let e = c.ticks_between-ticks.ensures in
    let tf = ticks_few n k since in
    let count = ticks_count n k since some le in
    let sum = count.0 in
    let prod : c.ticks_between-ticks.result * n ≡ ticks_in n since k * n = ap (λ (x : ℕ). x * n) e in
    search (arith, rules, tf, e, few, half, room)

pub overflow_add-result-2 : goal.overflow_add-result-2
overflow_add-result-2 c =
    let p = c.args.program.now in let n = c.args.n in let since = c.args.since in
    let k = c.work_on-done.result in
    let more : 0 < k = let t = c.if-done-eq0.false in omega arith in
    let few : k ≤ c.args.most / 2 = let f = c.work_on-done.ensures.few in let m = c.min.ensures in grind (arith, nat_tests) in
    let half = div-add-mod' c.args.most 2 in
    let before = c.requires.since in let room = c.requires.room in
    let some : 0 < n = omega arith in let le : since ≤ n = omega arith in
    let e = c.ticks_between-ticks.ensures in
    let tf = ticks_few n k since in
    let count = ticks_count n k since some le in
    let sum = count.0 in
    let prod : c.ticks_between-ticks.result * n ≡ ticks_in n since k * n = ap (λ (x : ℕ). x * n) e in
    search (arith, rules, few, half, room)

pub overflow_mul-result : goal.overflow_mul-result
overflow_mul-result c =
    let p = c.args.program.now in let n = c.args.n in let since = c.args.since in
    let k = c.work_on-done.result in
    let more : 0 < k = let t = c.if-done-eq0.false in omega arith in
    let few : k ≤ c.args.most / 2 = let f = c.work_on-done.ensures.few in let m = c.min.ensures in grind (arith, nat_tests) in
    let half = div-add-mod' c.args.most 2 in
    let before = c.requires.since in let room = c.requires.room in
    let some : 0 < n = omega arith in let le : since ≤ n = omega arith in
    let e = c.ticks_between-ticks.ensures in
    let tf = ticks_few n k since in
    let count = ticks_count n k since some le in
    let sum = count.0 in
    let prod : c.ticks_between-ticks.result * n ≡ ticks_in n since k * n = ap (λ (x : ℕ). x * n) e in
    let small : c.ticks_between-ticks.result * n ≤ since + k = omega arith in search (arith, rules, small, few, half, room)

pub overflow_sub-result : goal.overflow_sub-result
overflow_sub-result c =
    let p = c.args.program.now in let n = c.args.n in let since = c.args.since in
    let k = c.work_on-done.result in
    let more : 0 < k = let t = c.if-done-eq0.false in omega arith in
    let few : k ≤ c.args.most / 2 = let f = c.work_on-done.ensures.few in let m = c.min.ensures in grind (arith, nat_tests) in
    let half = div-add-mod' c.args.most 2 in
    let before = c.requires.since in let room = c.requires.room in
    let some : 0 < n = omega arith in let le : since ≤ n = omega arith in
    let e = c.ticks_between-ticks.ensures in
    let tf = ticks_few n k since in
    let count = ticks_count n k since some le in
    let sum = count.0 in
    let prod : c.ticks_between-ticks.result * n ≡ ticks_in n since k * n = ap (λ (x : ℕ). x * n) e in
    omega arith

pub returns-clause-done : goal.returns-clause-done
returns-clause-done c =
    let p = c.args.program.now in let n = c.args.n in let since = c.args.since in
    let k = c.work_on-done.result in
    let more : 0 < k = let t = c.if-done-eq0.false in omega arith in
    let few : k ≤ c.args.most / 2 = let f = c.work_on-done.ensures.few in let m = c.min.ensures in grind (arith, nat_tests) in
    let half = div-add-mod' c.args.most 2 in
    let before = c.requires.since in let room = c.requires.room in
    let some : 0 < n = omega arith in let le : since ≤ n = omega arith in
    let e = c.ticks_between-ticks.ensures in
    let tf = ticks_few n k since in
    let count = ticks_count n k since some le in
    let sum = count.0 in
    let prod : c.ticks_between-ticks.result * n ≡ ticks_in n since k * n = ap (λ (x : ℕ). x * n) e in
    omega arith

pub returns-clause-went : goal.returns-clause-went
returns-clause-went c =
    let p = c.args.program.now in let n = c.args.n in let since = c.args.since in
    let k = c.work_on-done.result in
    let more : 0 < k = let t = c.if-done-eq0.false in omega arith in
    let few : k ≤ c.args.most / 2 = let f = c.work_on-done.ensures.few in let m = c.min.ensures in grind (arith, nat_tests) in
    let half = div-add-mod' c.args.most 2 in
    let before = c.requires.since in let room = c.requires.room in
    let some : 0 < n = omega arith in let le : since ≤ n = omega arith in
    let e = c.ticks_between-ticks.ensures in
    let tf = ticks_few n k since in
    let count = ticks_count n k since some le in
    let sum = count.0 in
    let prod : c.ticks_between-ticks.result * n ≡ ticks_in n since k * n = ap (λ (x : ℕ). x * n) e in
    let fits : FitsSigned w64 c.later-state.result = search rules in
    let clock = to_z-of_z w64 c.later-state.result fits in
    let fits2 : FitsSigned w64 c.work_on-done.new.state.clock = search rules in
    let from = to_z-of_z w64 c.work_on-done.new.state.clock fits2 in
    λ _. rw (clock, c.later-state.ensures, from, e, left_is n k since some le) (works_through p n k since (seen c.args.state.now) (seen c.work_on-done.new.state) c.requires.going (c.most_before_due-before.ensures k more (let f = c.work_on-done.ensures.few in let m = c.min.ensures in grind (arith, nat_tests))) some more c.work_on-done.ensures.works)

pub returns-clause-fits : goal.returns-clause-fits
returns-clause-fits c =
    let p = c.args.program.now in let n = c.args.n in let since = c.args.since in
    let k = c.work_on-done.result in
    let more : 0 < k = let t = c.if-done-eq0.false in omega arith in
    let few : k ≤ c.args.most / 2 = let f = c.work_on-done.ensures.few in let m = c.min.ensures in grind (arith, nat_tests) in
    let half = div-add-mod' c.args.most 2 in
    let before = c.requires.since in let room = c.requires.room in
    let f = works_fit p k (seen c.args.state.now) (seen c.work_on-done.new.state) c.requires.laid c.requires.going more c.requires.fits c.work_on-done.ensures.works in
    record { memory = f.memory; ready = f.ready; paused = f.paused; created = f.created }
