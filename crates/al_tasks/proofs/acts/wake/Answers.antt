use Rattle.std.proofs.Common.{◌≡◌, ◌∙◌, ap, sym, false}
use Rattle.std.specs.Prelude.{slice_get}
use Rattle.std.specs.List.{list_any}
use Rattle.al_tasks.specs.Task.{is_waiting}
use Rattle.al_tasks.specs.World.{handled}
use Rattle.al_tasks.specs.Seen.{running}
use Rattle.al_tasks.specs.Acts.{at_place}
use Rattle.al_tasks.proofs.ActLemmas.{wakes_nobody}
use Rattle.al_tasks.proofs.acts.wake.Goals as goal

pub returns-then-not-has_caller : goal.returns-then-not-has_caller
unfolding handled
returns-then-not-has_caller c =
    let s = c.args.state.now in
    let t = c.args.task in
    let nobody : list_any (λ u. is_waiting c.args.object u.pause) c.deref.result.now ≡ false = cc (c.if-not-has_caller.ensures, c.has_caller.ensures) in
    let k = ap (λ l. list_any (λ u. is_waiting c.args.object u.pause) l) (sym c.deref.ensures.value) ∙ nobody in
    c.stick-then-not-has_caller.ensures
    ∙ wakes_nobody c.args.object (slice_get c.args.program.now.objects c.args.object) t (at_place t c.args.next) s.ready.items (running t s) k
