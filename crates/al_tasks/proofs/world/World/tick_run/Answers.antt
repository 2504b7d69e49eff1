use Rattle.std.proofs.Common.{◌≡◌, ◌∙◌, ◌<◌, ℕ, ap, sym}
use Rattle.al_tasks.specs.Task.{World}
use Rattle.al_tasks.specs.Bursts.{Moment}
use Rattle.al_tasks.specs.Seen.{seen}
use Rattle.al_tasks.specs.Partitions.{Partition, ran_on}
use Rattle.al_tasks.proofs.ActLemmas.{on_err}
use Rattle.al_tasks.proofs.RunLemmas.{ran_went}
use Rattle.al_tasks.proofs.world.World.tick_run.Goals as goal

pub returns-clause-ok : goal.returns-clause-ok
returns-clause-ok c =
    let p = c.self.inside.program in
    let n = c.args.n in
    let then : World → Partition = λ v. record { program = p; world = v } in
    ap (λ (x : Moment). then x.1) (sym c.in_ok-run_events.ensures.ok)
    ∙ ap then (sym (ran_went p n c.args.steps 0 (seen c.self.inside.state)))
    ∙ ap (λ (v : Partition). ran_on c.args.steps n v) c.self.view_is

pub returns-in_err-run_events-clause-err : goal.returns-in_err-run_events-clause-err
returns-in_err-run_events-clause-err c =
    let p = c.self.inside.program in
    let n = c.args.n in
    let then : World → Partition = λ v. record { program = p; world = v } in
    let d = c.in_err-run_events.ensures.err in
    on_err c.from_residual.result ((x : ℕ) × (x < c.args.steps) × (then (seen c.run_events.new.state) ≡ ran_on x n c.args.self.now))
    (d.0, d.1, ap then d.2 ∙ ap (λ (v : Partition). ran_on d.0 n v) c.self.view_is)
