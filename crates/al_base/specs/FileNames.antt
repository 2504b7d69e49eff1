-- Which file holds a unit: file names as GNAT gives them.
use Rattle.std.specs.Prelude.{ℕ, Bool, ◌&&◌, ◌||◌, ◌==◌, List, [], ◌∷◌, ◌++◌, map, if◌then◌else◌, codes}
use Rattle.al_base.specs.declared.unit_key.UnitKind.{UnitKind}
use Rattle.al_base.specs.declared.unit_key.UnitKind.TheVariants.{Decl, Body, Sub}
use Rattle.al_base.specs.Batch.{Key}

-- dots become hyphens
abbrev pub hyphen_for_dot : ℕ → ℕ
hyphen_for_dot b = if b == 46 then 45 else b

-- one of `a`, `g`, `i` and `s`, which with a hyphen after them begin the names of the predefined files
abbrev pub is_kept_letter : ℕ → Bool
is_kept_letter b = b == 97 || b == 103 || b == 105 || b == 115

-- a tilde in place of the hyphen after such a letter at the beginning
abbrev pub with_tilde : List ℕ → List ℕ
with_tilde [] = []
with_tilde (a ∷ []) = a ∷ []
with_tilde (a ∷ b ∷ bs) = if is_kept_letter a && b == 45 then a ∷ 126 ∷ bs else a ∷ b ∷ bs

abbrev pub ending_of : UnitKind → List ℕ
ending_of Decl = codes ".ads"
ending_of Body = codes ".adb"
ending_of Sub = codes ".adb"

unfoldable pub file_name_of : Key → List ℕ
file_name_of key = with_tilde (map hyphen_for_dot key.0) ++ ending_of key.1
