use Rattle.al_folder_served.proofs.watching.build_read.Goals as goal

pub returns-clause-told : goal.returns-clause-told
returns-clause-told g c = λ form. (c.in_ok-progress.progress, (c.report_progress.new.screen.error.sink, c.report_progress.new.screen.error.so_far, c.report_progress.ensures.told form))
