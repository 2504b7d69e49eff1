-- A main unit's partition and its image.
use Rattle.std.specs.Prelude.{ℕ, ◌≡◌, List, map, Option}
use Rattle.al_base.specs.Batch.{Key}
use Rattle.al_base.specs.declared.unit_key.UnitKey.{UnitKey}
use Rattle.al_unit_graph.specs.Headers.{Library}
use Rattle.al_bind.specs.Binding.{IsElaboration}
use Rattle.al_view.specs.declared.link.LinkSymbol.{LinkSymbol}
use Rattle.al_engine.specs.Placed.{ArePlaced}
use Rattle.al_link.specs.Closed.{AreClosed}
use Rattle.al_link.specs.Images.{image_of}
use Rattle.al_link_image.specs.Images.{Image, image_bytes}
use Rattle.al_query_outcome.specs.Defines.{main_symbol}
use Rattle.al_query_outcome.specs.Equations.{unit_named}
use Rattle.al_query_outcome.specs.Results.{Outcome}
use Rattle.al_engine.specs.Objects.{IsLinkable, WithObject, linked_units, objects_at}

-- the objects of the items in the order of their elaboration, each with those of its subunits after it; and the main subprogram's
-- symbol
pub record IsPartition (lib : Library) (f : UnitKey → Option Outcome) (main : List ℕ) (order : List Key) (symbol : LinkSymbol) (us : List WithObject) : Type 0 where
  pub ordered : IsElaboration lib main order
  pub placed : List Key
  pub are_placed : ArePlaced lib order placed
  pub symbol_is : symbol ≡ main_symbol lib main
  pub objects_are : us ≡ objects_at f (map unit_named placed)

-- the order of elaboration of a partition whose objects would pass a limit of images
pub record IsTooLarge (lib : Library) (f : UnitKey → Option Outcome) (main : List ℕ) (order : List Key) : Type 0 where
  pub ordered : IsElaboration lib main order
  pub placed : List Key
  pub are_placed : ArePlaced lib order placed
  pub passes : IsLinkable (objects_at f (map unit_named placed)) → ⊥

-- the objects of a partition are linked into this image with the main subprogram, and these are its bytes; they define the main
-- subprogram's code and all that their code uses
pub record IsProgram (lib : Library) (f : UnitKey → Option Outcome) (main : List ℕ) (order : List Key) (image : Image) (bytes : List ℕ) : Type 0 where
  pub ordered : IsElaboration lib main order
  pub placed : List Key
  pub are_placed : ArePlaced lib order placed
  pub linkable : IsLinkable (objects_at f (map unit_named placed))
  pub closed : AreClosed (main_symbol lib main) (linked_units (objects_at f (map unit_named placed)))
  pub image_is : image ≡ image_of (main_symbol lib main) (linked_units (objects_at f (map unit_named placed)))
  pub bytes_are : bytes ≡ image_bytes image
