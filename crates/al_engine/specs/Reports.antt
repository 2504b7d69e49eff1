-- What is reported of the last build.
use Rattle.std.specs.Prelude.{ℕ, List, Option, Some, None, Result, Ok, Err, option_map}
use Rattle.al_base.specs.Batch.{Key}
use Rattle.al_base.specs.Files.{Texts}
use Rattle.al_base.specs.declared.diagnostic.Diagnostic.{Diagnostic}
use Rattle.al_base.specs.declared.refusal.Refusal.{Refusal}
use Rattle.al_base.specs.declared.refusal.Refusal.TheVariants.{NotBuilt, NoImage}
use Rattle.al_unit_graph.specs.Headers.{Library}
use Rattle.al_unit_faults.specs.Obsolete.{obsolete_of}
use Rattle.al_engine.specs.declared.compiled.Compiled.{Compiled}
use Rattle.al_engine.specs.Gave.{diagnostics_of, files_reported}
use Rattle.al_engine.specs.States.{Built}

abbrev pub or_no_image : {X : Type 0} → Option X → Result X Refusal
or_no_image None = Err NoImage
or_no_image (Some x) = Ok x

-- the main unit of a build, and the result of compiling
abbrev pub gave_last : Built → List ℕ × Compiled
gave_last b = (b.main, b.gave.compiled)

-- one kind of result of the last build; or that nothing was built, or that the build gave no such result
abbrev pub reported : {X : Type 0} → (Compiled → Option X) → Option Built → Result X Refusal
reported give None = Err NotBuilt
reported give (Some b) = or_no_image (give b.gave.compiled)

-- the errors that the last build found; or that nothing was built
abbrev pub found_last : Option Built → Result (List Diagnostic) Refusal
found_last None = Err NotBuilt
found_last (Some b) = Ok (diagnostics_of b.gave.compiled)

abbrev pub obsolete_refusal : Option Built → Option Refusal
obsolete_refusal None = Some NotBuilt
obsolete_refusal (Some b) = None

-- the units that are obsolete since the last build, if there was one
abbrev pub obsolete_since : (Texts → Library) → Option Built → Texts → Option (List Key)
obsolete_since library built now = option_map (λ b. obsolete_of (library b.files) (files_reported b.gave.compiled) (library now)) built
