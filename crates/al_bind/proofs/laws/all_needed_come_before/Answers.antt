use Rattle.al_bind.specs.Elaboration.Wants.{elaborate_all}
use Rattle.al_bind.specs.Elaboration.IsPartOf.{itself}
use Rattle.al_bind.proofs.laws.all_needed_come_before.Goals as goal

pub returns : goal.returns
returns c = λ lib main q x y h ix iy unit named needed apart. record { after = ix; before = iy; follows = (x, itself, elaborate_all unit named needed); apart = apart }
