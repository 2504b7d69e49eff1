use Rattle.std.proofs.Common.{◌≡◌, ℕ, sym, ap}
use Rattle.al_tasks.specs.Task.{World}
use Rattle.al_tasks.specs.Bursts.{Moment}
use Rattle.al_tasks.specs.Partitions.{Partition}
use Rattle.al_tasks.proofs.RunLemmas.{ran_went, went_on}
use Rattle.al_tasks.proofs.laws.parts_are_the_run.Goals as goal

pub returns-clause-parts : goal.returns-clause-parts
returns-clause-parts c a b n since w =
    let p = w.program in
    let both : Moment → ℕ × Partition = λ x. (x.0, record { program = p; world = x.1 }) in
    ap both (sym (went_on p n a b (since, w.world)))

pub returns-clause-run : goal.returns-clause-run
returns-clause-run c steps n w =
    let p = w.program in
    let then : World → Partition = λ v. record { program = p; world = v } in
    ap then (sym (ran_went p n steps 0 w.world))
