-- The result of compiling the files of a library for a main unit, if the units have these outcomes. It depends on no entry, no
-- earlier build and no command.
use Rattle.std.specs.Prelude.{ℕ, ◌≡◌, ◌<◌, List, [], length, map, Option}
use Rattle.al_base.specs.Batch.{finding_of, key_of}
use Rattle.al_base.specs.declared.unit_key.UnitKey.{UnitKey}
use Rattle.al_unit_graph.specs.Headers.{Library}
use Rattle.al_bind.specs.Binding.{IsBindFault}
use Rattle.al_query_outcome.specs.Equations.{Setting, Solves}
use Rattle.al_query_outcome.specs.Results.{Outcome}
use Rattle.al_engine_refresh.specs.EntryLaw.{TextMeaning}
use Rattle.al_engine_refresh.specs.Builds.{with_texts}
use Rattle.al_engine_refresh.specs.Found.{findings_of}
use Rattle.al_engine.specs.Partitions.{IsProgram, IsTooLarge}
use Rattle.al_engine.specs.Programs.{bytes_in, image_in}
use Rattle.al_engine.specs.BatchRenewals.{HoldsPartition}
use Rattle.al_engine.specs.declared.compiled.Compiled.{Compiled}
use Rattle.al_engine.specs.declared.compiled.Compiled.TheVariants.{Faulty, Unbound, TooLarge, Made}

-- the errors in the files, by file, place and number; without errors, what the partition lacks or the cycle that shows that it
-- has no order of elaboration; or else the order, with the objects and the image, or without them if a limit would be passed
abbrev pub IsBatch : Library → (UnitKey → Option Outcome) → List ℕ → Compiled → Type 0
IsBatch lib f main (Faulty diagnostics) = (map finding_of diagnostics.items ≡ findings_of lib f) × (0 < length diagnostics.items)
IsBatch lib f main (Unbound fault) = (findings_of lib f ≡ []) × IsBindFault lib main fault
IsBatch lib f main (TooLarge order) = (findings_of lib f ≡ []) × IsTooLarge lib f main (map key_of order.items)
IsBatch lib f main (Made program) = (findings_of lib f ≡ []) × IsProgram lib f main (map key_of program.order.items) (image_in program) (bytes_in program) × HoldsPartition lib f main program

-- Compiling from nothing: the outcomes are the only map that solves the equations of the library for a checker.
pub record IsCompiled (meaning : TextMeaning) (s : Setting) (main : List ℕ) (compiled : Compiled) : Type 0 where
  pub outcomes : UnitKey → Option Outcome
  pub solves : Solves (with_texts meaning s.files) s outcomes
  pub is_batch : IsBatch s.files outcomes main compiled
