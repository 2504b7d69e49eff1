-- Why there is no image.
use Rattle.al_link.specs.declared.bases.Bases.{Bases}
use Rattle.al_link_image.specs.declared.fault.LinkFault.{LinkFault}
use Rattle.al_link_image.specs.declared.fault.LinkFault.TheVariants as faults
use Rattle.al_link.specs.Bases.{AreSmall}

-- a sum passes a limit, or the allocator refuses memory
abbrev pub IsPassing : Bases → LinkFault → Type 0
IsPassing sums faults.TooLarge = AreSmall sums → ⊥
IsPassing sums faults.Damaged = ⊥
IsPassing sums faults.NoMemory = Unit {0}
