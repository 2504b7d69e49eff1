-- What a linked image keeps of its units, and its parts.
use Rattle.std.specs.Prelude.{ℕ, ◌≡◌, ◌≤◌, ◌+◌, ◌*◌, List, length, map, All}
use Rattle.std.specs.List.{flat_map}
use Rattle.al_view.specs.declared.link.LinkSymbol.{LinkSymbol}
use Rattle.al_code_object.specs.Objects.{Keeps}
use Rattle.al_instr.specs.Codes.{code_bytes}
use Rattle.al_instr.specs.Lines.{AreLines}
use Rattle.al_link_image.specs.Images.{Image, IsObject, IsRegion, object_bytes}
use Rattle.al_link_image.specs.Parts.{IsCode}
use Rattle.al_link.specs.Images.{image_of, lines_of, object_of, regions_of, starting}
use Rattle.al_link.specs.Linking.{places_of}
use Rattle.al_link.specs.Symbols.{Places}
use Rattle.al_link.specs.Units.{AreWithin, Located, UnitObject, first_bases, located, totals}
use Rattle.al_link.specs.Relinking.{code_size}
use Rattle.al_link.specs.declared.kept.KeptUnit.{KeptUnit}
use Rattle.al_link.specs.declared.prepared.Prepared.{Prepared}

abbrev pub kept_model : KeptUnit → UnitObject
kept_model k = record {
  key = k.key;
  object = record {
    code = k.code.items;
    uses = k.uses.items;
    defines = k.defines.items;
    data_words = k.data_words;
    tasks = k.tasks;
    protected = k.protected.items;
    lines = k.lines.items;
  };
}

-- the units with what precedes each
abbrev pub all_located : List UnitObject → List Located
all_located us = located (first_bases us) us

abbrev pub starting_of : LinkSymbol → List UnitObject → List ℕ
starting_of main us = starting (places_of (all_located us)) main (all_located us)

-- all that an image of these units is made of, except the units' code
pub record IsPrepared (main : LinkSymbol) (us : List UnitObject) (p : Prepared) : Type 0 where
  pub within : AreWithin us
  pub totals_are : p.totals ≡ totals us
  pub places_are : p.places ≡ places_of (all_located us)
  pub start_is : p.start.items ≡ starting_of main us
  pub start_code : IsCode p.start.items
  pub protected_are : p.protected.items ≡ flat_map regions_of (all_located us)
  pub protected_fit : All (IsRegion p.totals.words) p.protected.items
  pub protected_count : length p.protected.items ≤ 65535
  pub objects_are : p.objects.items ≡ map object_of (all_located us)
  pub objects_fit : All IsObject p.objects.items
  pub objects_count : length p.objects.items ≤ 65535
  pub lines_are : p.lines.items ≡ flat_map lines_of (all_located us)
  pub lines_fit : AreLines p.totals.code p.lines.items
  pub size : length p.start.items + code_size us ≡ p.totals.code

-- the number of bytes of an image made of these parts
abbrev pub prepared_size : Prepared → ℕ
prepared_size p = 30 + 12 * length p.protected.items + length (flat_map object_bytes p.objects.items) + p.totals.code + 8 * length p.lines.items

-- the object keeps what each object does
abbrev pub IsKeeping : UnitObject → Type 0
IsKeeping u = Keeps u.object

-- what a linked image keeps
pub record IsLinked (main : LinkSymbol) (us : List UnitObject) (image : Image) (places : Places) (start : List ℕ) : Type 0 where
  pub within : AreWithin us
  pub image_is : image ≡ image_of main us
  pub places_are : places ≡ places_of (all_located us)
  pub start_is : start ≡ starting_of main us
  pub start_code : IsCode start
  pub size : length start + code_size us ≡ (totals us).code
  pub image_size : length (code_bytes image.code) ≡ (totals us).code
  pub keep : All IsKeeping us
