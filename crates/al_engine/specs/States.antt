-- The value of a library.
use Rattle.std.specs.Prelude.{ℕ, ◌≡◌, Bool, false, List, [], Option, Some, None, IfSome}
use Rattle.std.specs.Option.{option_map_or}
use Rattle.al_base.specs.Files.{Texts}
use Rattle.al_base.specs.declared.unit_key.UnitKey.{UnitKey}
use Rattle.al_unit_graph.specs.Headers.{Header, Library}
use Rattle.al_unit_graph.specs.Traces.{AreReadAlike}
use Rattle.al_unit_faults.specs.Read.{AreHeaded, NameParentBodies}
use Rattle.al_query.specs.declared.answer.AnswerKind.{AnswerKind}
use Rattle.al_query.specs.declared.query.Query.{Query}
use Rattle.al_engine_refresh.specs.Settings.{ArePredefined}
use Rattle.al_engine_refresh.specs.EntryLaw.{TextMeaning}
use Rattle.al_engine_refresh.specs.Stored.{Stored}
use Rattle.al_engine.specs.UnitCache.{Kept}
use Rattle.al_query_store.specs.Keyed.{before_at, settled_at}
use Rattle.al_engine_refresh.specs.Moves.{Entries}
use Rattle.al_engine.specs.Rechecks.{AreReady, setting_of}
use Rattle.al_link.specs.Relinking.{LinkedImage}
use Rattle.al_engine.specs.Batches.{IsCompiled}
use Rattle.al_engine.specs.Patches.{linked_in}
use Rattle.al_engine.specs.declared.compiled.Compiled.{Compiled}
use Rattle.al_engine.specs.Graphs.{KeepsGraph, Remembered}
use Rattle.al_engine.specs.Rebuilds.{IsRebuilt}
use Rattle.al_engine.specs.declared.reasons.Reason.{Reason}
use Rattle.al_engine.specs.declared.rebuilding.Rebuilt.{Rebuilt}

-- the files of a build, its main unit, and its result
pub record Built : Type 0 where
  pub files : Texts
  pub main : List ℕ
  pub gave : Rebuilt

-- a library with its checker and the predefined units: the entries of its units, its files, and its last build
pub record Held (C P : Type 0) : Type 0 where
  pub cache : Kept C
  pub predefined : P
  pub files : Texts
  pub built : Option Built

-- what files are read as depends only on their sources; a checker takes as a source's header what is read in it; and exactly the
-- subunits name a parent body
pub record AreReadFor (header : List ℕ → Header) (library : Texts → Library) : Type 0 where
  pub headed : (files : Texts) → AreHeaded header (library files)
  pub bodies : (files : Texts) → NameParentBodies (library files)
  pub alike : (old new : Texts) → AreReadAlike (library old) (library new)

-- the result of the last build is that of compiling its files from nothing
abbrev pub IsBuiltRight : TextMeaning → (List ℕ → Header) → (Query → AnswerKind) → (Texts → Library) → Option Built → Type 0
IsBuiltRight meaning header predefined library built = IfSome built (λ b. IsCompiled meaning (setting_of header predefined (library b.files)) b.main b.gave.compiled)

-- the entries of the units are those that a build settled, whatever there were before it, and it reached the units that are
-- recorded as reached
pub record IsSettledBy (meaning : TextMeaning) (header : List ℕ → Header) (predefined : Query → AnswerKind) (library : Texts → Library) (store : Entries) (b : Built) : Type 0 where
  pub before : UnitKey → Option Stored
  pub rebuilt : IsRebuilt meaning header predefined (library b.files) b.main before (settled_at store) b.gave
  pub reached : (u : UnitKey) → before_at store u ≡ rebuilt.made u

-- the last build is of these files and this main unit
abbrev pub IsOfNow : Texts → List ℕ → Option Built → Type 0
IsOfNow files main None = ⊥
IsOfNow files main (Some b) = (b.files ≡ files) × (b.main ≡ main)

-- what holds of every library, beside the reads law of its entries
pub record IsRight (meaning : TextMeaning) (header : List ℕ → Header) (predefined : Query → AnswerKind) (library : Texts → Library) (files : Texts) (store : Entries) (is_edited : Bool) (graph : Option Remembered) (built : Option Built) (gave : Compiled) : Type 0 where
  pub read : AreReadFor header library
  pub predefined_units : ArePredefined predefined
  pub built_right : IsBuiltRight meaning header predefined library built
  -- the entries are those that the last build settled, and as long as no file was edited that build is of the present files
  pub settled : IfSome built (λ b. IsSettledBy meaning header predefined library store b)
  pub unedited : is_edited ≡ false → IfSome built (λ b. b.files ≡ files)
  -- no entry was made since, and the marks say which stored answers differ from those of the units that the build reached
  pub ready : AreReady predefined store
  -- the graph that is kept is that of the files of the last build
  pub keeps_graph : KeepsGraph library graph
  -- before the first build there is no image
  pub first : built ≡ None → linked_in gave ≡ None

-- the units that the last build checked
abbrev pub last_checked : Option Built → List UnitKey
last_checked built = option_map_or (λ b. b.gave.checked) built []

-- why the last build checked each of them
abbrev pub last_reasons : Option Built → List Reason
last_reasons built = option_map_or (λ b. b.gave.reasons) built []

-- how many stored answers the last build compared
abbrev pub compared_last : Option Built → ℕ
compared_last built = option_map_or (λ b. b.gave.compared) built 0

-- the number of units whose code the last build wrote into the image of the one before
abbrev pub patched_last : Option Built → ℕ
patched_last built = option_map_or (λ b. b.gave.patched) built 0

-- the image that the last build gave, if it gave one
abbrev pub linked_last : Option Built → Option LinkedImage
linked_last None = None
linked_last (Some b) = linked_in b.gave.compiled
