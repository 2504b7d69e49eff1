use Rattle.std.proofs.Common.{◌≡◌, ◌∙◌, ◌<◌, ◌≤◌, ℕ, ap, sym, subst}
use Rattle.al_tasks.specs.Task.{World}
use Rattle.al_tasks.specs.Bursts.{Moment, went}
use Rattle.al_tasks.specs.Seen.{seen}
use Rattle.al_tasks.specs.Partitions.{Partition, part_of_run}
use Rattle.al_tasks.proofs.ActLemmas.{on_err}
use Rattle.al_tasks.proofs.RunLemmas.{ran_went, went_since}
use Rattle.al_tasks.proofs.world.World.tick_run_on.Goals as goal

pub returns-clause-ok : goal.returns-clause-ok
returns-clause-ok c =
    let p = c.self.inside.program in
    let both : Moment → ℕ × Partition = λ x. (x.0, record { program = p; world = x.1 }) in
    ap both (sym c.in_ok-last.ensures.ok) ∙ ap (λ (v : Partition). part_of_run c.args.steps c.args.n c.args.since v) c.self.view_is

pub returns-clause-few : goal.returns-clause-few
returns-clause-few c few =
    let few' = went_since c.self.inside.program c.args.n c.args.steps (c.args.since, seen c.self.inside.state) few in
    subst (λ (x : Moment). x.0 ≤ c.args.n) c.in_ok-last.ensures.ok few'

pub returns-in_err-last-clause-err : goal.returns-in_err-last-clause-err
returns-in_err-last-clause-err c =
    let p = c.self.inside.program in
    let n = c.args.n in
    let since = c.args.since in
    let w = seen c.self.inside.state in
    let then : World → Partition = λ v. record { program = p; world = v } in
    let d = c.in_err-last.ensures.err in
    on_err c.from_residual.result ((x : ℕ) × (x < c.args.steps) × (then (seen c.run_events.new.state) ≡ (part_of_run x n since c.args.self.now).1))
    (d.0, d.1, ap then (d.2 ∙ ran_went p n d.0 since w) ∙ ap (λ (v : Partition). (part_of_run d.0 n since v).1) c.self.view_is)
