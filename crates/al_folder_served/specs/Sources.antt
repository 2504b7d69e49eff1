-- The sources that are read, and the files of a library.
use Rattle.std.specs.Prelude.{◌≡◌, ℕ, List, Option, Some, None, option_map}
use Rattle.al_base.specs.Batch.{Key}
use Rattle.al_base.specs.Files.{Texts}
use Rattle.al_session_served.specs.Builds.{BuildResult, image_of, order_of}
use Rattle.al_session_served.specs.Library.{State, LibraryMeaning, last_gave}

-- the library's files are those that were read, each with its source, and no others
abbrev pub Holds : State → Texts → Type 0
Holds library sources = library.now ≡ sources

-- a library that holds these sources, and whose last build is of them
abbrev pub with_build : Texts → List ℕ → BuildResult → State
with_build sources main gave = record { now = sources; built = Some (record { files = sources; main = main; gave = gave }) }

-- the library's last build is of the sources that were read and of this main unit, and gave what compiling them from nothing
-- gives
pub record IsBuiltFrom (m : LibraryMeaning) (library : State) (sources : Texts) (main : List ℕ) : Type 0 where
  pub gave : BuildResult
  pub compiles : m.compiles sources main gave
  pub is : library ≡ with_build sources main gave

-- the library's last build is of the sources that were read and of some main unit
abbrev pub IsBuilt : LibraryMeaning → State → Texts → Type 0
IsBuilt m library sources = (main : List ℕ) × IsBuiltFrom m library sources main

-- the main unit of the last build, and its result
abbrev pub gave_last : State → Option (List ℕ × BuildResult)
gave_last library = option_map last_gave library.built

-- the image of a build, if there was a build and it gave one
abbrev pub image_in : Option (List ℕ × BuildResult) → Option (List ℕ)
image_in None = None
image_in (Some gave) = image_of gave.1

-- the order of elaboration of a build, if there was a build and it gave one
abbrev pub order_in : Option (List ℕ × BuildResult) → Option (List Key)
order_in None = None
order_in (Some gave) = order_of gave.1
