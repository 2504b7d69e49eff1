-- The model of a library: its files, and its last build. Nothing else of it is visible in a reply.
use Rattle.std.specs.Prelude.{ℕ, ◌≡◌, List, [], Option, Some, None, option_map}
use Rattle.al_base.specs.Files.{Texts}
use Rattle.al_base.specs.Batch.{Key, key_of}
use Rattle.al_base.specs.declared.unit_key.UnitKey.{UnitKey}
use Rattle.al_base.specs.declared.refusal.Refusal.{Refusal}
use Rattle.al_base.specs.declared.refusal.Refusal.TheVariants.{NotBuilt, NoImage}
use Rattle.al_session_served.specs.Builds.{BuildResult, Run, image_of}

-- the files as the last build found them, its main unit, and its result
pub record LastBuild : Type 0 where
  pub files : Texts
  pub main : List ℕ
  pub gave : BuildResult

pub record State : Type 0 where
  -- the files as they are
  pub now : Texts
  pub built : Option LastBuild

-- a library with no file, and no build
abbrev pub empty : State
empty = record { now = []; built = None }

-- The meaning of a library's files. The results of compiling and running are given as relations; IsSettled says that each result is unique.
pub record LibraryMeaning : Type 1 where
  -- compiling the files from an empty library gives this for a main unit
  pub compiles : Texts → List ℕ → BuildResult → Type 0
  -- the image that compiling these files gives for a main unit prints this, with so many instructions between two ticks of the clock, in at most so
  -- many events
  pub runs : Texts → List ℕ → ℕ → ℕ → Run → Type 0
  -- each file by its name, with its unit if that is without errors
  pub units_of : Texts → List (List ℕ × Option Key)
  -- the files of a build, its result, and the files as they are: the units that are obsolete since that build (ARM 10.1.4)
  pub obsolete_of : Texts → BuildResult → Texts → List Key

-- the result of compiling is unique, and so is that of a run
pub record IsSettled (m : LibraryMeaning) : Type 0 where
  pub builds : (files : Texts) (main : List ℕ) (one two : BuildResult) → m.compiles files main one → m.compiles files main two → one ≡ two
  pub runs : (files : Texts) (main : List ℕ) (tick steps : ℕ) (one two : Run) → m.runs files main tick steps one → m.runs files main tick steps two → one ≡ two

-- The meaning of the files, and the number of instructions between two ticks of the clock.
pub record Meaning : Type 1 where
  pub library : LibraryMeaning
  pub tick : ℕ

-- the files are now these, and the last build is as it was
abbrev pub with_now : State → Texts → State
with_now state files = record state { now = files }

-- the last build is of the files as they are, and had this result
abbrev pub after_build : State → List ℕ → BuildResult → State
after_build state main gave = record state { built = Some (record { files = state.now; main = main; gave = gave }) }

-- a build sets the last build to the result of compiling the files as they are, whether they have errors or not
pub record IsBuilt (m : LibraryMeaning) (main : List ℕ) (old new : State) : Type 0 where
  pub gave : BuildResult
  pub compiles : m.compiles old.now main gave
  pub new_is : new ≡ after_build old main gave

-- why there is nothing to compare with
abbrev pub obsolete_refusal : Option LastBuild → Option Refusal
obsolete_refusal None = Some NotBuilt
obsolete_refusal (Some last) = None

-- the units that are obsolete since the last build, if there was one
abbrev pub obsolete_now : LibraryMeaning → State → Option (List Key)
obsolete_now m state = option_map (λ last. m.obsolete_of last.files last.gave state.now) state.built

-- a file's name and its unit, as the code has them
abbrev pub file_unit_of : List ℕ × Option UnitKey → List ℕ × Option Key
file_unit_of file = (file.0, option_map key_of file.1)

-- why there is nothing to run
abbrev pub image_refusal : Option (List ℕ) → Option Refusal
image_refusal None = Some NoImage
image_refusal (Some image) = None

abbrev pub run_refusal : Option LastBuild → Option Refusal
run_refusal None = Some NotBuilt
run_refusal (Some last) = image_refusal (image_of last.gave)

-- the main unit of the last build, and its result
abbrev pub last_gave : LastBuild → List ℕ × BuildResult
last_gave last = (last.main, last.gave)

-- the meaning of the files, with so many instructions between two ticks
abbrev pub with_tick : LibraryMeaning → ℕ → Meaning
with_tick library tick = record { library = library; tick = tick }
