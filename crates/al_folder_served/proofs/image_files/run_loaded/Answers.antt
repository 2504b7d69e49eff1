use Rattle.std.proofs.Common.{true≢false, sym, ◌∙◌}
use Rattle.al_folder_served.proofs.image_files.run_loaded.Goals as goal

pub returns-then-not-runs : goal.returns-then-not-runs
returns-then-not-runs g c = λ nothing. absurd (true≢false (sym (c.in_ok-runs.ensures nothing).0 ∙ c.if-not-runs.true))

pub returns : goal.returns
returns g c = λ nothing. rw ((c.in_ok-runs.ensures nothing).1, c.new-sources.ensures.1) at c.run_image.ensures
