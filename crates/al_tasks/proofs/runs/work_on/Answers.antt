use Rattle.std.proofs.Common.{◌≡◌, ◌<◌, length, sym, refl, arith}
use Rattle.std.proofs.lemmas.Bool.Decides.{nat_tests}
use Rattle.al_tasks.specs.Seen.{seen}
use Rattle.al_tasks.proofs.BurstLemmas.{free_at}
use Rattle.al_tasks.proofs.runs.work_on.Goals as goal

pub carry_on-requires-clause-free : goal.carry_on-requires-clause-free
carry_on-requires-clause-free c =
    let s = c.args.state.now in
    let t = c.index_mut-task.result.now in
    let some : 0 < length s.ready.items = let ok = s.ready.ok.0 in let full = c.if-is_empty.false in let said = c.is_empty.ensures in grind (arith, nat_tests) in
    rw c.bursts-bursts.ensures.objects (free_at c.args.program.now (seen s) s.ready.items t c.limits.ensures c.requires refl some (sym c.index_mut-task.ensures.value))
