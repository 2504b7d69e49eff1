use Rattle.std.proofs.Common.{refl, sym}
use Rattle.al_folder_served.specs.Sources.{gave_last, image_in}
use Rattle.al_folder_served.proofs.Uses.{not_asked, off_from_not, runs_bytes}
use Rattle.al_folder_served.proofs.building.run_program.Goals as goal

pub returns-then-not-uses-clause-ran : goal.returns-then-not-uses-clause-ran
returns-then-not-uses-clause-ran g c = not_asked (image_in (gave_last (g.L.UnitLibrary.state c.args.library.now))) c.args.uses.run _ (off_from_not c.args.uses.run c.if-not-uses.true)

pub returns-in-Some-clause-ran : goal.returns-in-Some-clause-ran
returns-in-Some-clause-ran g c = rw (sym c.in-Some.ensures) (λ on. runs_bytes _ _ c.in-Some.image.now _ _ _ _ c.run_image.result refl c.run_image.ensures)

pub returns-in-None-clause-ran : goal.returns-in-None-clause-ran
returns-in-None-clause-ran g c = rw (sym c.in-None.ensures) tt
