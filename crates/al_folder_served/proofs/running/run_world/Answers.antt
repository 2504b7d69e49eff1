use Rattle.std.proofs.Common.{◌+◌, List, ℕ, sym, subst, ◌∙◌, refl, append_assoc, arith}
use Rattle.al_session_stream.specs.Output.{Adds}
use Rattle.al_tasks.specs.Partitions.{Partition}
use Rattle.al_folder_served.proofs.Voices.{adds_nothing}
use Rattle.al_folder_served.proofs.PartsOfRuns.{Goes, goes_start, goes_on, goes_over, goes_end}
use Rattle.al_folder_served.proofs.running.run_world.Goals as goal

pub loop-part-init : goal.loop-part-init
loop-part-init g c = record {
  since_in = omega arith;
  goes = goes_start c.args.pace.tick c.args.pace.steps c.args.world.now (Adds g.O.Sink.written g.O.Sink.faults g.O.Sink.waits c.args.screen.now.output.sink c.args.screen.now.output.sink c.args.screen.now.output.so_far c.args.screen.now.output.so_far) (adds_nothing g.O.Sink.written g.O.Sink.faults g.O.Sink.waits c.args.screen.now.output.sink c.args.screen.now.output.so_far);
  quiet = refl;
  form = refl;
}

pub loop-part-preserved : goal.loop-part-preserved
loop-part-preserved g c =
    let Puts : List ℕ → Type 0 = Adds g.O.Sink.written g.O.Sink.faults g.O.Sink.waits c.args.screen.now.output.sink c.loop-part.screen.output.sink c.args.screen.now.output.so_far c.loop-part.screen.output.so_far in
    let Then : List ℕ → Type 0 = Adds g.O.Sink.written g.O.Sink.faults g.O.Sink.waits c.args.screen.now.output.sink c.put_run.new.self.output.sink c.args.screen.now.output.so_far c.put_run.new.self.output.so_far in
    let more = goes_on c.args.pace.tick c.args.pace.steps c.args.world.now Puts Then c.loop-part._part c.loop-part.since c.loop-part.left c.left_after-left.result c.loop-part.world c.loop-part.invariant.goes c.part_of-steps.result c.in_ok-since.since c.go_on.new.world c.in_ok-since.ensures.ran
    (λ text puts start before wrote. rw (append_assoc before) at (rw c.output.ensures at (c.put_run.ensures.put start _ (puts start before wrote))))
    c.part_of-steps.ensures.left c.left_after-left.ensures in
    record {
      since_in = c.in_ok-since.ensures.few;
      goes = subst (λ (w : Partition). Goes c.args.pace.tick c.args.pace.steps c.args.world.now Then (c.loop-part._part + 1) c.in_ok-since.since c.left_after-left.result w) (sym c.let_go.ensures) more;
      quiet = c.put_run.ensures.quiet ∙ c.loop-part.invariant.quiet;
      form = c.put_run.ensures.form ∙ c.loop-part.invariant.form;
    }

pub returns-then-is_over-clause-put : goal.returns-then-is_over-clause-put
returns-then-is_over-clause-put g c =
    let Puts : List ℕ → Type 0 = Adds g.O.Sink.written g.O.Sink.faults g.O.Sink.waits c.args.screen.now.output.sink c.loop-part.screen.output.sink c.args.screen.now.output.so_far c.loop-part.screen.output.so_far in
    let Then : List ℕ → Type 0 = Adds g.O.Sink.written g.O.Sink.faults g.O.Sink.waits c.args.screen.now.output.sink c.put_run.new.self.output.sink c.args.screen.now.output.so_far c.put_run.new.self.output.so_far in
    let more = goes_on c.args.pace.tick c.args.pace.steps c.args.world.now Puts Then c.loop-part._part c.loop-part.since c.loop-part.left c.left_after-left.result c.loop-part.world c.loop-part.invariant.goes c.part_of-steps.result c.in_ok-since.since c.go_on.new.world c.in_ok-since.ensures.ran
    (λ text puts start before wrote. rw (append_assoc before) at (rw c.output.ensures at (c.put_run.ensures.put start _ (puts start before wrote))))
    c.part_of-steps.ensures.left c.left_after-left.ensures in
    let goes : Goes c.args.pace.tick c.args.pace.steps c.args.world.now Then (c.loop-part._part + 1) c.in_ok-since.since c.left_after-left.result c.let_go.new.self = subst (λ (w : Partition). Goes c.args.pace.tick c.args.pace.steps c.args.world.now Then (c.loop-part._part + 1) c.in_ok-since.since c.left_after-left.result w) (sym c.let_go.ensures) more in
    goes_over c.args.pace.tick c.args.pace.steps c.args.world.now Then (c.loop-part._part + 1) c.in_ok-since.since c.left_after-left.result c.let_go.new.self goes (rw c.status.ensures at (rw c.if-is_over.true at c.is_over.ensures))

pub returns-clause-put : goal.returns-clause-put
returns-clause-put g c =
    let Puts : List ℕ → Type 0 = Adds g.O.Sink.written g.O.Sink.faults g.O.Sink.waits c.args.screen.now.output.sink c.loop-part.screen.output.sink c.args.screen.now.output.so_far c.loop-part.screen.output.so_far in
    goes_end c.args.pace.tick c.args.pace.steps c.args.world.now Puts c.loop-part._part c.loop-part.since c.loop-part.left c.loop-part.world c.loop-part.invariant.goes (omega arith)
