-- Why a build checked a unit, or why not, as it is printed.
use Rattle.std.specs.Prelude.{ℕ, ◌++◌, Bool, List, [], ◌∷◌, Option, Some, None, codes, drop, map, nat_eq, take, if◌then◌else◌}
use Rattle.std.specs.Char.{to_ascii_lowercase}
use Rattle.std.specs.Global.{Vec}
use Rattle.std.specs.Cmp.Lexicographic.{pointwise}
use Rattle.std.specs.List.{flat_map}
use Rattle.al_base.specs.declared.unit_key.UnitKey.{UnitKey}
use Rattle.al_base.specs.declared.unit_key.UnitKind.{UnitKind}
use Rattle.al_base.specs.declared.unit_key.UnitKind.TheVariants.{Decl, Body, Sub}
use Rattle.al_folder.specs.Messages.{message_text}
use Rattle.al_folder.specs.Parts.{part_word}
use Rattle.al_folder_served.specs.Told.{line_end}

-- the name of the unit of which a line asks why it was checked
abbrev pub asks_why : List ℕ → Option (List ℕ)
asks_why line = if pointwise nat_eq (take 4 line) (codes "why ") then Some (drop 4 line) else None

-- a part of a unit and why it was checked, or why not
abbrev pub Part : Type 0
Part = UnitKind × List ℕ

abbrev pub part_text : UnitKind × Vec ℕ → Part
part_text part = (part.0, part.1.items)

-- a part, if the library has it
abbrev pub part_of : UnitKind → Option (List ℕ) → List Part
part_of kind None = []
part_of kind (Some words) = (kind, words) ∷ []

abbrev pub part_line : List ℕ → Part → List ℕ
part_line name part = part_word part.0 ++ name ++ codes ": " ++ part.1 ++ codes "\n"

-- a line for each part of the unit, which begins with the part if there are several
abbrev pub lines_text : List ℕ → List Part → List ℕ
lines_text name [] = []
lines_text name (part ∷ []) = part.1 ++ codes "\n"
lines_text name (part ∷ other ∷ parts) = flat_map (part_line name) (part ∷ other ∷ parts)

-- or that there is no such unit
abbrev pub parts_text : List ℕ → List Part → List ℕ
parts_text name [] = message_text (codes "no unit " ∷ name ∷ [])
parts_text name (part ∷ parts) = lines_text name (part ∷ parts)

-- why a declaration, a body and a subunit of this name were checked, each if there is one
abbrev pub why_told : Bool → List ℕ → Option (List ℕ) → Option (List ℕ) → Option (List ℕ) → List ℕ
why_told is_open name decl body sub = line_end is_open ++ parts_text name ((part_of Decl decl ++ part_of Body body) ++ part_of Sub sub)

-- the part of this kind of the unit of this name, in any case
abbrev pub named : List ℕ → UnitKind → UnitKey
named name kind = record { name = map to_ascii_lowercase name; kind = kind }

-- the words of the parts that there are of a unit are printed
abbrev pub TellsWhy : (UnitKey → Option (List ℕ) → Type 0) → (List ℕ → Type 0) → Bool → List ℕ → Type 0
TellsWhy IsWhy Tells is_open name =
    (decl : Option (List ℕ)) × (body : Option (List ℕ)) × (sub : Option (List ℕ))
    × IsWhy (named name Decl) decl × IsWhy (named name Body) body × IsWhy (named name Sub) sub
    × Tells (why_told is_open name decl body sub)
