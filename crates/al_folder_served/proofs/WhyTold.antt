-- What is printed of a unit's reasons.
use Rattle.std.proofs.Common.{◌≡◌, ◌==◌, ℕ, true, false, List, [], ◌∷◌, length, map, eqb-true, refl, arith}
use Rattle.std.specs.Global.{Vec}
use Rattle.std.specs.Prelude.{codes}
use Rattle.al_base.specs.declared.unit_key.UnitKind.{UnitKind}
use Rattle.al_folder.specs.Messages.{message_text}
use Rattle.al_folder_served.specs.UnitReasons.{lines_text, part_text, parts_text}

pub no_parts : (name : List ℕ) (parts : List (UnitKind × Vec ℕ)) → (length parts == 0) ≡ true → parts_text name (map part_text parts) ≡ message_text (codes "no unit " ∷ name ∷ [])
no_parts name [] is = refl
no_parts name (part ∷ parts) is = absurd (omega (arith, eqb-true (length (part ∷ parts)) 0 is))

pub some_parts : (name : List ℕ) (parts : List (UnitKind × Vec ℕ)) → (length parts == 0) ≡ false → parts_text name (map part_text parts) ≡ lines_text name (map part_text parts)
some_parts name [] is = cc
some_parts name (part ∷ parts) is = refl
