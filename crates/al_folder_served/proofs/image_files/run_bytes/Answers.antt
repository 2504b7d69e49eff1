use Rattle.std.proofs.Common.{inr, refl, sym, ◌∷◌, []}
use Rattle.std.specs.Prelude.{codes}
use Rattle.al_folder_served.proofs.Uses.{runs_bytes, runs_or_not}
use Rattle.al_folder_served.proofs.image_files.run_bytes.Goals as goal

pub returns-in-Ok : goal.returns-in-Ok
returns-in-Ok g c = λ nothing. runs_or_not _ _ c.run_loaded.result (runs_bytes _ _ c.in-Ok.image _ _ _ c.args.bytes.now c.run_loaded.result (sym c.in-Ok.ensures.found) (c.run_loaded.ensures nothing))

pub returns-in_ok-tell_refused-in-Err : goal.returns-in_ok-tell_refused-in-Err
returns-in_ok-tell_refused-in-Err g c = λ nothing. inr (refl, (c.args.screen.now.is_open, codes " isn't an image, or is a damaged one" ∷ [], (c.tell_refused.new.screen.error.sink, c.tell_refused.new.screen.error.so_far, c.tell_refused.ensures.told)))
