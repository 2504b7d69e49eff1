-- The meaning of a library's files: the result of compiling them from nothing, the output of its image, their units, and which of these are
-- obsolete. It depends on no kept entry and no earlier build.
use Rattle.std.specs.Prelude.{ℕ, ◌≡◌, List, [], map, Option, option_map, IfSome}
use Rattle.std.specs.List.{fold}
use Rattle.std.specs.BTreeSet.{insert_key}
use Rattle.al_base.specs.Files.{Texts, name_cmp}
use Rattle.al_base.specs.Batch.{Key}
use Rattle.al_base.specs.declared.unit_key.UnitKey.{UnitKey}
use Rattle.al_unit_graph.specs.Headers.{Header, Library}
use Rattle.al_unit_faults.specs.Obsolete.{obsolete_of}
use Rattle.al_unit_faults.specs.Units.{units_of}
use Rattle.al_query.specs.declared.answer.AnswerKind.{AnswerKind}
use Rattle.al_query.specs.declared.query.Query.{Query}
use Rattle.al_engine_refresh.specs.EntryLaw.{TextMeaning}
use Rattle.al_engine_refresh.specs.Builds.{with_texts}
use Rattle.al_query_outcome.specs.Equations.{Solves}
use Rattle.al_query_outcome.specs.Results.{Outcome}
use Rattle.al_engine.specs.Rechecks.{setting_of}
use Rattle.al_engine.specs.Batches.{IsBatch}
use Rattle.al_engine.specs.Programs.{image_in}
use Rattle.al_engine.specs.declared.compiled.Compiled.{Compiled}
use Rattle.al_engine.specs.declared.compiled.Compiled.TheVariants.{Made}
use Rattle.al_engine.specs.declared.compiled.Program.{Program}
use Rattle.al_tasks.specs.WorldRuns.{run_of}
use Rattle.al_engine.specs.States.{Built}
use Rattle.al_session_served.specs.Builds as adds
use Rattle.al_session_served.specs.Library.{State, LastBuild, LibraryMeaning}
use Rattle.al_session.specs.Results.{result_of, run_told}

module _ (meaning : TextMeaning) (header : List ℕ → Header) (predefined : Query → AnswerKind) (library : Texts → Library) where
  -- compiling these files from nothing for the main unit, with the outcomes that alone solve the equations of the library
  pub record CompilesTo (files : Texts) (main : List ℕ) (compiled : Compiled) : Type 0 where
    pub outcomes : UnitKey → Option Outcome
    pub solves : Solves (with_texts meaning (library files)) (setting_of header predefined (library files)) outcomes
    pub only : (g : UnitKey → Option Outcome) → Solves (with_texts meaning (library files)) (setting_of header predefined (library files)) g → (u : UnitKey) → g u ≡ outcomes u
    pub is_batch : IsBatch (library files) outcomes main compiled

  -- the result of compiling
  pub record Compiles (files : Texts) (main : List ℕ) (gave : adds.BuildResult) : Type 0 where
    pub compiled : Compiled
    pub compiles : CompilesTo files main compiled
    pub gave_is : gave ≡ result_of compiled

  -- the run of the image of that result
  pub record Runs (files : Texts) (main : List ℕ) (tick steps : ℕ) (run : adds.Run) : Type 0 where
    pub program : Program
    pub compiles : CompilesTo files main (Made program)
    pub run_is : run ≡ run_told (run_of (image_in program) tick steps)

-- the files for which a build has an entry, in the order of the names
abbrev pub files_reported : adds.BuildResult → List (List ℕ)
files_reported gave = fold (insert_key name_cmp) [] (map (λ f. f.file) (adds.findings_of gave))

abbrev pub obsolete_since : (Texts → Library) → Texts → adds.BuildResult → Texts → List Key
obsolete_since library built gave now = obsolete_of (library built) (files_reported gave) (library now)

abbrev pub meaning_of : TextMeaning → (List ℕ → Header) → (Query → AnswerKind) → (Texts → Library) → LibraryMeaning
meaning_of meaning header predefined library = record {
  compiles = Compiles meaning header predefined library;
  runs = Runs meaning header predefined library;
  units_of = λ files. units_of (library files);
  obsolete_of = obsolete_since library;
}

abbrev pub last_model : Built → LastBuild
last_model b = record { files = b.files; main = b.main; gave = result_of b.gave.compiled }

abbrev pub state_of : Texts → Option Built → State
state_of now built = record { now = now; built = option_map last_model built }

-- the result of the last build is that of compiling its files, with the outcomes that alone solve their equations
abbrev pub IsLastOnly : TextMeaning → (List ℕ → Header) → (Query → AnswerKind) → (Texts → Library) → Option Built → Type 0
IsLastOnly meaning header predefined library built = IfSome built (λ b. CompilesTo meaning header predefined library b.files b.main b.gave.compiled)
