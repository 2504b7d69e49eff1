use Rattle.std.proofs.Common.{inr, refl, ap, ◌∙◌}
use Rattle.al_tasks.specs.WorldRuns.{run_of}
use Rattle.al_engine.proofs.engine.Engine.run.Goals as goal

pub returns-in-Err-run : goal.returns-in-Err-run
returns-in-Err-run g c = inr (c.in-Ok.program.now, c.in-Ok.ensures, refl)

pub returns-in-Ok-run : goal.returns-in-Ok-run
returns-in-Ok-run g c = (c.in-Ok.program.now, c.in-Ok.ensures, c.in-Ok-run.ensures ∙ ap (λ i. run_of i c.args.tick c.args.steps) c.image-in-Ok.ensures)
