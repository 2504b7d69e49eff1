use Rattle.std.proofs.Common.{inr, refl}
use Rattle.al_folder_served.proofs.building.save_program.Goals as goal

pub returns-then-not-is_written-clause-saved : goal.returns-then-not-is_written-clause-saved
returns-then-not-is_written-clause-saved g c =
    let no = c.in_ok-is_written.ensures.refused c.if-not-is_written.true in
    rw c.in-Some.is (inr (refl, (c.args.screen.now.is_open, no.0, (c.save.new.screen.error.sink, c.save.new.screen.error.so_far, no.1))))
