use Rattle.std.proofs.Common.{◌≡◌, ◌<◌, ◌≤◌, ◌+◌, ◌-◌, arith, rules}
use Rattle.std.proofs.lemmas.Bool.Decides.{nat_tests}
use Rattle.al_tasks.specs.Seen.{seen}
use Rattle.al_tasks.proofs.BurstLemmas.{works_events, works_fit}
use Rattle.al_tasks.proofs.looking.advance.Goals as goal

pub returns-then-done-gt0-clause-ok : goal.returns-then-done-gt0-clause-ok
returns-then-done-gt0-clause-ok c =
    let p = c.args.program.now in
    let w = seen c.args.state.now in
    let v = seen c.work_on-done.new.state in
    let k = c.work_on-done.result in
    let some : 0 < k = let t = c.if-done-gt0.true in omega arith in
    let few : (k ≤ c.args.n - c.args.since) × (k ≤ c.args.most) = let f = c.work_on-done.ensures.few in let m = c.min.ensures in grind (arith, nat_tests) in
    ((omega arith), few.1, works_events p c.args.n k c.args.since w v c.requires.going some (let a = few.0 in omega arith) c.work_on-done.ensures.works)

pub returns-then-done-gt0-clause-fits : goal.returns-then-done-gt0-clause-fits
returns-then-done-gt0-clause-fits c =
    let some : 0 < c.work_on-done.result = let t = c.if-done-gt0.true in omega arith in
    works_fit c.args.program.now c.work_on-done.result (seen c.args.state.now) (seen c.work_on-done.new.state) c.requires.laid c.requires.going some c.requires.fits c.work_on-done.ensures.works
