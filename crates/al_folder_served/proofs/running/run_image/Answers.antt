use Rattle.std.proofs.Common.{◌≡◌, ap, subst, ◌∙◌}
use Rattle.al_session_stream.specs.Output.{Adds}
use Rattle.al_folder.specs.Status.{ending_of}
use Rattle.al_folder_served.specs.Runs.{HasRun, end_of}
use Rattle.al_folder_served.specs.Told.{end_told}
use Rattle.al_tasks.specs.Runs.{status_of}
use Rattle.al_folder_served.proofs.running.run_image.Goals as goal

pub returns : goal.returns
returns g c =
    let end_is : c.in_ok-end.end ≡ end_of c.args.image.now.objects (status_of c.run_world.new.world.world) = c.in_ok-end.ensures ∙ ap (λ o. end_of o c.status.result) c.objects.ensures.value ∙ ap (λ s. end_of c.args.image.now.objects s) c.status.ensures in
    record {
      text = c.in_ok-run_world.ensures.put.0;
      world = c.run_world.new.world;
      is_open = c.run_world.new.screen.is_open;
      ran = subst (λ w. HasRun c.args.pace.tick c.args.pace.steps w c.in_ok-run_world.ensures.put.0 c.run_world.new.world) c.in_ok-world.ensures c.in_ok-run_world.ensures.put.1;
      put = (c.run_world.new.screen.output.sink, c.run_world.new.screen.output.so_far, c.in_ok-run_world.ensures.put.2);
      told = λ form.
          let now = c.report_end.ensures.told (c.in_ok-run_world.ensures.form ∙ form) in
          let ended = subst (λ e. Adds g.E.Sink.written g.E.Sink.faults g.E.Sink.waits c.run_world.new.screen.error.sink c.report_end.new.screen.error.sink c.run_world.new.screen.error.so_far c.report_end.new.screen.error.so_far (end_told c.run_world.new.screen.is_open c.args.sources.now.folders e)) end_is now in
          (c.report_end.new.screen.error.sink, c.report_end.new.screen.error.so_far, subst (λ v. Adds g.E.Sink.written g.E.Sink.faults g.E.Sink.waits v.sink c.report_end.new.screen.error.sink v.so_far c.report_end.new.screen.error.so_far (end_told c.run_world.new.screen.is_open c.args.sources.now.folders (end_of c.args.image.now.objects (status_of c.run_world.new.world.world)))) c.in_ok-run_world.ensures.quiet ended);
      ending_is = c.ending_of.ensures ∙ ap ending_of end_is;
    }
