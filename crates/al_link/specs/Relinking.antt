-- Images that are linked again.
use Rattle.std.specs.Prelude.{ℕ, ◌≡◌, ◌+◌, if◌then◌else◌, ◌<◌, List, [], ◌∷◌, ◌++◌, length, take, drop, map, sum_by, fold, slice_index_or, slice_set, Option, Some, None}
use Rattle.std.specs.Str.{bytes_eq}
use Rattle.al_base.specs.declared.unit_key.UnitKey.{UnitKey}
use Rattle.al_instr.specs.declared.lines.LineEntry.{LineEntry}
use Rattle.al_view.specs.declared.link.LinkSymbol.{LinkSymbol}
use Rattle.al_code_object.specs.declared.object.Address.{Address}
use Rattle.al_code_object.specs.declared.object.Object.{Object}
use Rattle.al_code_object.specs.declared.object.Object.TheVariants as left
use Rattle.al_link_image.specs.declared.parts.Region.{Region as ImageRegion}
use Rattle.al_code_object.specs.declared.object.Relocation.{Relocation}
use Rattle.al_link.specs.Images.{region_at}
use Rattle.al_link.specs.Linking.{patched}
use Rattle.al_link.specs.Symbols.{Places}
use Rattle.al_link.specs.Units.{UnitObject}
use Rattle.al_link.specs.declared.linking.CompiledUnit.{CompiledUnit}

-- an image that may be linked again: its main subprogram, its units, and the number of units whose code the last call wrote
pub record LinkedImage : Type 0 where
  pub main : LinkSymbol
  pub units : List UnitObject
  pub patched : ℕ

-- the lengths, counts, symbols and lines of a unit
pub record Shape : Type 0 where
  pub key : UnitKey
  pub size : ℕ
  pub uses : List Relocation
  pub defines : List Address
  pub data_words : ℕ
  pub tasks : ℕ
  pub regions : ℕ
  pub lines : List LineEntry

abbrev pub shape_of : UnitObject → Shape
shape_of u = record {
  key = u.key;
  size = length u.object.code;
  uses = u.object.uses;
  defines = u.object.defines;
  data_words = u.object.data_words;
  tasks = u.object.tasks;
  regions = length u.object.protected;
  lines = u.object.lines;
}

abbrev pub left_shape : UnitKey → Object → Option Shape
left_shape key left.Large = None
left_shape key (left.Compiled o) = Some (shape_of (record { key = key; object = o }))

abbrev pub shapes_left : List CompiledUnit → List (Option Shape)
shapes_left us = map (λ u. left_shape u.key.now u.object.now) us

abbrev pub shapes_kept : List UnitObject → List (Option Shape)
shapes_kept us = map (λ u. Some (shape_of u)) us

-- the main subprogram and the units are as before in their lengths, counts, symbols and lines; bytes of code and ceilings may differ
pub record AreAsBefore (l : LinkedImage) (main : LinkSymbol) (us : List CompiledUnit) : Type 0 where
  pub main_is : main ≡ l.main
  pub shapes_are : shapes_left us ≡ shapes_kept l.units

-- the number of units whose code differs
abbrev pub differs : UnitObject → UnitObject → ℕ
differs a b = if bytes_eq a.object.code b.object.code then 0 else 1

abbrev pub differing : List UnitObject → List UnitObject → ℕ
differing [] us = 0
differing (k ∷ ks) [] = 0
differing (k ∷ ks) (u ∷ us) = differs k u + differing ks us

-- ---- protected objects

-- the words of the units' protected objects, with so many words before those of the units
abbrev pub regions_from : ℕ → List UnitObject → List ImageRegion
regions_from words [] = []
regions_from words (u ∷ us) = map (region_at words) u.object.protected ++ regions_from (words + u.object.data_words) us

abbrev pub regions_count : List UnitObject → ℕ
regions_count us = sum_by (λ u. length u.object.protected) us

abbrev pub words_size : List UnitObject → ℕ
words_size us = sum_by (λ u. u.object.data_words) us

-- ---- code

abbrev pub code_size : List UnitObject → ℕ
code_size us = sum_by (λ u. length u.object.code) us

-- a unit's code after the code so far
abbrev pub with_unit : Places → List ℕ → UnitObject → List ℕ
with_unit places code u = patched places u.object.code (length code) (code ++ u.object.code) u.object.uses

abbrev pub linked_units : Places → List ℕ → List UnitObject → List ℕ
linked_units places start us = fold (with_unit places) start us

-- ---- one unit's object

-- a unit's code, wherever it is: its operands are filled in within it
abbrev pub piece : Places → UnitObject → List ℕ
piece places u = patched places u.object.code 0 u.object.code u.object.uses

-- bytes with some replaced from a place on
abbrev pub with_bytes : List ℕ → ℕ → List ℕ → List ℕ
with_bytes code place bytes = take place code ++ (bytes ++ drop (place + length bytes) code)

-- a unit is as the one at a place in its lengths, counts, symbols, lines and protected objects
pub record IsInPlace (us : List UnitObject) (at : ℕ) (u : UnitObject) : Type 0 where
  pub within : at < length us
  pub shape_is : shape_of u ≡ shape_of (slice_index_or us at u)
  pub regions_are : u.object.protected ≡ (slice_index_or us at u).object.protected

-- the image with this unit at that place
abbrev pub exchanged : LinkedImage → ℕ → UnitObject → LinkedImage
exchanged l at u = record { main = l.main; units = slice_set l.units at u; patched = differs (slice_index_or l.units at u) u }
