use Rattle.std.proofs.Common.{inr, refl, ◌∷◌, []}
use Rattle.std.specs.Prelude.{codes}
use Rattle.al_folder_served.proofs.Uses.{loads}
use Rattle.al_folder_served.proofs.image_files.load.Goals as goal

pub returns-in-Ok : goal.returns-in-Ok
returns-in-Ok g c = λ nothing. loads _ _ _ c.in-Ok.bytes.items c.run_bytes.result c.in-Ok.ensures (rw c.as_slice.ensures.value at (c.run_bytes.ensures nothing))

pub returns-in_ok-tell_fault-in-Err : goal.returns-in_ok-tell_fault-in-Err
returns-in_ok-tell_fault-in-Err g c = λ nothing. inr (refl, (c.args.screen.now.is_open, codes " can't be read: " ∷ c.in_ok-tell_fault-in-Err.ensures.told.0 ∷ [], (c.tell_fault.new.screen.error.sink, c.tell_fault.new.screen.error.so_far, c.in_ok-tell_fault-in-Err.ensures.told.1)))
