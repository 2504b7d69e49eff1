-- The bytes of names in the program.
use Rattle.std.specs.Prelude.{ℕ, ◌≤◌, List, take}
use Rattle.al_base.specs.declared.name.NameBytes.{NameBytes}
use Rattle.al_base.specs.declared.name.NameBytes.TheVariants.{Short, Long}

abbrev pub bytes_model : NameBytes → List ℕ
bytes_model (Short count bytes) = take count bytes
bytes_model (Long bytes) = bytes.items

abbrev pub AreShort : NameBytes → Type 0
AreShort (Short count bytes) = count ≤ 22
AreShort (Long bytes) = Unit {0}
