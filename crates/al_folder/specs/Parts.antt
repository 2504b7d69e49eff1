-- Units, as they are printed.
use Rattle.std.specs.Prelude.{ℕ, ◌++◌, List, codes}
use Rattle.std.specs.List.{flat_map}
use Rattle.al_base.specs.declared.unit_key.UnitKind.{UnitKind}
use Rattle.al_base.specs.declared.unit_key.UnitKind.TheVariants.{Decl, Body, Sub}
use Rattle.al_base.specs.Batch.{Key}

abbrev pub part_word : UnitKind → List ℕ
part_word Decl = codes "declaration of "
part_word Body = codes "body of "
part_word Sub = codes "subunit "

abbrev pub part_words : Key → List ℕ
part_words key = part_word key.1 ++ key.0

abbrev pub part_line : Key → List ℕ
part_line key = part_words key ++ codes "\n"

-- a line for each unit
abbrev pub part_lines : List Key → List ℕ
part_lines keys = flat_map part_line keys
