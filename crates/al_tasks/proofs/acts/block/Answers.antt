use Rattle.std.proofs.Common.{◌≡◌, ◌∙◌, ◌==◌, ap, sym, true, Some, arith}
use Rattle.std.proofs.lemmas.Bool.Decides.{nat_tests}
use Rattle.std.specs.List.{list_any}
use Rattle.al_tasks.specs.declared.event.Pause.TheVariants.{Waiting}
use Rattle.al_tasks.specs.Task.{Task, is_waiting}
use Rattle.al_tasks.specs.World.{handled, pauses}
use Rattle.al_tasks.specs.Queues.{sole_of}
use Rattle.al_tasks.specs.Seen.{running}
use Rattle.al_tasks.specs.Acts.{at_place}
use Rattle.al_tasks.proofs.ActLemmas.{blocks_called, blocks_waits, left_at}
use Rattle.al_tasks.proofs.acts.block.Goals as goal

pub returns-then-has_caller : goal.returns-then-has_caller
unfolding handled
returns-then-has_caller c =
    let s = c.args.state.now in
    let t = c.args.task in
    let e : sole_of t.held ≡ Some c.in-Some.sole = sym c.sole.ensures ∙ c.in-Some.is in
    let n : (c.in-Some.sole == c.args.object) ≡ true = let h = c.if-sole-object.false in grind (arith, nat_tests) in
    let k = ap (λ l. list_any (λ u. is_waiting c.args.object u.pause) l) (sym c.deref.ensures.value) ∙ sym c.has_caller.ensures ∙ c.if-has_caller.true in
    c.raise.ensures ∙ blocks_called c.args.program.now c.args.object t (at_place t c.args.next) s.ready.items (running t s) t.held c.in-Some.sole e n k

pub returns : goal.returns
unfolding handled
returns c =
    let s = c.args.state.now in
    let t = c.args.task in
    let e : sole_of t.held ≡ Some c.in-Some.sole = sym c.sole.ensures ∙ c.in-Some.is in
    let n : (c.in-Some.sole == c.args.object) ≡ true = let h = c.if-sole-object.false in grind (arith, nat_tests) in
    let k = ap (λ l. list_any (λ u. is_waiting c.args.object u.pause) l) (sym c.deref.ensures.value) ∙ sym c.has_caller.ensures ∙ c.if-has_caller.false in
    let left = ap (λ (z : Task). at_place z c.args.next) (c.task.view_is ∙ c.leave.ensures) ∙ left_at t t.held c.args.next in
    c.pause.ensures.value
    ∙ ap (λ (z : Task). pauses z (Waiting c.args.object) s.ready.items (running t s)) left
    ∙ blocks_waits c.args.program.now c.args.object t (at_place t c.args.next) s.ready.items (running t s) t.held c.in-Some.sole e n k
