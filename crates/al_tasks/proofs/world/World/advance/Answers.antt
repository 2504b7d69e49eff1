use Rattle.std.proofs.Common.{◌≡◌, ◌∙◌, ℕ, ap, sym}
use Rattle.al_tasks.specs.Bursts.{Moment}
use Rattle.al_tasks.specs.Partitions.{Partition, part_of_run}
use Rattle.al_tasks.specs.Runs.{status_of}
use Rattle.al_tasks.proofs.world.World.advance.Goals as goal

pub advance-requires-clause-going : goal.advance-requires-clause-going
advance-requires-clause-going c = ap (λ (v : Partition). status_of v.world) c.self.view_is ∙ c.requires.going

pub returns-clause-ok : goal.returns-clause-ok
returns-clause-ok c =
    let p = c.self.inside.program in
    let both : Moment → ℕ × Partition = λ x. (x.0, record { program = p; world = x.1 }) in
    let a = c.in_ok-advanced.advanced in
    let ok = c.in_ok-advanced.ensures.ok in
    (ok.0, ok.1, ap both (sym ok.2) ∙ ap (λ (v : Partition). part_of_run a.done c.args.n c.args.since v) c.self.view_is)
