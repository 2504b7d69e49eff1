-- The image of units: the sums of what their objects hold, the places at which these begin, and the linked code.
use Rattle.std.specs.Prelude.{ℕ, ◌+◌, List, [], ◌∷◌, ◌++◌, map, Some, if◌then◌else◌}
use Rattle.std.specs.List.{flat_map}
use Rattle.al_view.specs.declared.link.LinkSymbol.{LinkSymbol}
use Rattle.al_instr.specs.declared.instruction.Instr.{Instr}
use Rattle.al_instr.specs.declared.instruction.Instr.TheVariants.{Plain, Call}
use Rattle.al_instr.specs.declared.numbers.Plain.TheVariants as plain
use Rattle.al_instr.specs.declared.lines.LineEntry.{LineEntry}
use Rattle.al_instr.specs.Codes.{code_bytes}
use Rattle.al_instr.specs.Lines.{shifted}
use Rattle.al_code_object.specs.declared.object.Region.{Region as ObjectRegion}
use Rattle.al_link_image.specs.declared.parts.Region.{Region}
use Rattle.al_link_image.specs.declared.parts.ImageObject.{ImageObject}
use Rattle.al_link_image.specs.declared.fault.LinkFault.{LinkFault}
use Rattle.al_link_image.specs.declared.fault.LinkFault.TheVariants as faults
use Rattle.al_link_image.specs.Images.{Image}
use Rattle.al_link_image.specs.Parts.{code_of}
use Rattle.al_link.specs.Symbols.{Places, place_in}
use Rattle.al_link.specs.Units.{UnitObject, Located, located, is_item, first_bases, totals, AreWithin}
use Rattle.al_link.specs.Linking.{places_of, linked}

-- the place at which the code of a unit begins
abbrev pub object_of : Located → ImageObject
object_of l = record { kind = l.key.kind; name = l.key.name; place = l.before.code }

-- a protected object's words are among those of its unit
abbrev pub region_at : ℕ → ObjectRegion → Region
region_at base r = record { address = base + r.word; words = r.words; ceiling = r.ceiling }

abbrev pub regions_of : Located → List Region
regions_of l = map (region_at l.before.words) l.object.protected

-- the lines of a unit's code, which begins at the end of all code before it
abbrev pub lines_of : Located → List LineEntry
lines_of l = shifted l.before.code l.object.lines

-- the call of a routine at library level
abbrev pub called : ℕ → List Instr
called place = Plain plain.Root ∷ Call place 0 ∷ []

-- the call of an item's elaboration, which is the first code of its object
abbrev pub calls_of : Located → List Instr
calls_of l = if is_item l.key.kind then called l.before.code else []

-- the items are elaborated in their order, the tasks are made ready, and the main subprogram is called (ARM 10.2(9))
abbrev pub start_code : List Located → ℕ → List Instr
start_code ls main = flat_map calls_of ls ++ (Plain plain.Go ∷ (called main ++ Plain plain.Done ∷ []))

abbrev pub starting : Places → LinkSymbol → List Located → List ℕ
starting places main ls = code_bytes (start_code ls (place_in places main))

abbrev pub code_linked : LinkSymbol → List Located → List ℕ
code_linked main ls = linked (places_of ls) (starting (places_of ls) main ls) ls

abbrev pub image_with : LinkSymbol → List UnitObject → List Located → Image
image_with main us ls = record {
  tasks = (totals us).tasks;
  data_words = (totals us).words;
  protected = flat_map regions_of ls;
  objects = map object_of ls;
  code = code_of (code_linked main ls);
  lines = Some (flat_map lines_of ls);
}

-- the image of these units, with the main subprogram of this symbol
abbrev pub image_of : LinkSymbol → List UnitObject → Image
image_of main us = image_with main us (located (first_bases us) us)

-- why there is no image: a limit is passed, or the allocator refuses memory
abbrev pub IsLinkFault : List UnitObject → LinkFault → Type 0
IsLinkFault us faults.TooLarge = AreWithin us → ⊥
IsLinkFault us faults.Damaged = ⊥
IsLinkFault us faults.NoMemory = Unit {0}
