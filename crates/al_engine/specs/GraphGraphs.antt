-- What depends only on the headers of a library's units, and not on the places of the names in them.
use Rattle.std.specs.Prelude.{ℕ, ◌≡◌, Bool, List, Option, map}
use Rattle.std.specs.Map.{keys_of}
use Rattle.std.specs.Option.{option_map}
use Rattle.al_base.specs.Batch.{Key}
use Rattle.al_base.specs.declared.place.Place.{Place}
use Rattle.al_unit_graph.specs.Headers.{Contents, Header, Headed, Library, Mention, Unread}
use Rattle.al_unit_graph.specs.Dependence.{direct}
use Rattle.al_unit_graph.specs.Library.{source_at, unit_at}
use Rattle.al_unit_faults.specs.GraphFaults.{file_faults}
use Rattle.al_unit_faults.specs.Reached.{IsDependenceOrder, is_faultless, is_none_found}
use Rattle.al_bind.specs.Binding.{IsBindFault, IsElaboration}
use Rattle.al_bind.specs.declared.binding.BindFault.{BindFault}

-- a place that is in no source
abbrev pub nowhere : Place
nowhere = record { line = 0; col = 0 }

abbrev pub unplaced_mention : Mention → Mention
unplaced_mention m = record m { place = nowhere }

-- a header without its places
abbrev pub unplaced : Header → Header
unplaced h = record h { place = nowhere; parent_body = option_map unplaced_mention h.parent_body; mentions = map unplaced_mention h.mentions }

-- what a file is read as, without places; if it is no unit, its error doesn't matter to other files
abbrev pub unplaced_contents : Contents → Contents
unplaced_contents (Headed h) = Headed (unplaced h)
unplaced_contents (Unread place code) = Unread nowhere 0

-- what a file is read as, except for places: a unit with its header, or no unit
abbrev pub contents_at : Library → List ℕ → Option Contents
contents_at lib file = option_map (λ source. unplaced_contents source.contents) (source_at lib file)

-- the libraries have the same files, and each is read as the same except for places, whatever else its source says
pub record HaveSameHeaders (old new : Library) : Type 0 where
  pub files : keys_of old ≡ keys_of new
  pub contents : (file : List ℕ) → contents_at old file ≡ contents_at new file

-- the libraries have the same headers, and each file breaks the same rules of the graph, at the same places
pub record HaveSameGraph (old new : Library) : Type 0 where
  pub headers : HaveSameHeaders old new
  pub faults : (file : List ℕ) → file_faults old file ≡ file_faults new file

-- what holds of the graph of one library holds of that of the other
pub record HaveOneGraph (old new : Library) : Type 0 where
  pub units : (key : Key) → option_map unplaced (unit_at old key) ≡ option_map unplaced (unit_at new key)
  pub dependences : (key : Key) → direct old key ≡ direct new key
  pub faultless : (key : Key) → is_faultless old key ≡ is_faultless new key
  -- a file breaks no rule in one library if it breaks none in the other; if it has the same source in both, it breaks the same
  -- rules at the same places
  pub breaks : (file : List ℕ) → is_none_found (file_faults old file) ≡ is_none_found (file_faults new file)
  pub faults : (file : List ℕ) → source_at old file ≡ source_at new file → file_faults old file ≡ file_faults new file
  pub dependence : (order : List Key) → IsDependenceOrder old order → IsDependenceOrder new order
  pub elaboration : (main : List ℕ) (items : List Key) → IsElaboration old main items → IsElaboration new main items
  pub bind_fault : (main : List ℕ) (fault : BindFault) → IsBindFault old main fault → IsBindFault new main fault

abbrev pub GraphsGoByHeaders : Type 0
GraphsGoByHeaders = (old new : Library) → HaveSameHeaders old new → HaveOneGraph old new
