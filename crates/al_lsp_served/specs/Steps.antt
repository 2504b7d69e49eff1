-- A library and the texts that a server keeps beside it.
use Rattle.std.specs.Prelude.{◌≡◌}
use Rattle.al_base.specs.Files.{Texts}

-- where they were the same files before, they are after
abbrev pub KeepsStep : {L : Type 0} → (L → Texts) → L → Texts → L → Texts → Type 0
KeepsStep files library texts library_after texts_after = files library ≡ texts → files library_after ≡ texts_after
