-- What is printed of checked units.
use Rattle.std.proofs.Common.{◌≡◌, ◌==◌, Bool, true, false, List, [], ◌∷◌, ◌++◌, length, map, eqb-true, refl, arith}
use Rattle.std.specs.Prelude.{codes}
use Rattle.al_base.specs.Batch.{key_of}
use Rattle.al_base.specs.declared.unit_key.UnitKey.{UnitKey}
use Rattle.al_folder.specs.Messages.{message_text}
use Rattle.al_folder.specs.Parts.{part_lines}
use Rattle.al_folder_served.specs.Told.{checked_told, line_end}

pub checked_none : (is_open : Bool) (units : List UnitKey) → (length units == 0) ≡ true → checked_told is_open (map key_of units) ≡ line_end is_open ++ message_text (codes "no unit was checked" ∷ [])
checked_none is_open [] is = refl
checked_none is_open (unit ∷ units) is = absurd (omega (arith, eqb-true (length (unit ∷ units)) 0 is))

pub checked_some : (is_open : Bool) (units : List UnitKey) → (length units == 0) ≡ false → checked_told is_open (map key_of units) ≡ line_end is_open ++ part_lines (map key_of units)
checked_some is_open [] is = cc
checked_some is_open (unit ∷ units) is = refl
