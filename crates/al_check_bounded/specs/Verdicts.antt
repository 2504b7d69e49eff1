-- The verdict over a unit.
use Rattle.std.specs.Prelude.{List, ⊤}
use Rattle.al_base.specs.declared.diagnostic.Diagnostic.{Diagnostic}
use Rattle.al_base.specs.declared.unit_key.UnitKey.{UnitKey}
use Rattle.al_view_typed.specs.UnitTrees.{UnitTree, unit_model}
use Rattle.al_query_outcome.specs.ReadsLaw.{FaultsFit, NamesOnly}
use Rattle.al_query_outcome.specs.Results as outcome
use Rattle.al_query_outcome.specs.Tables.{interface_of}
use Rattle.al_query_outcome.specs.declared.interface.UnitInterface.{UnitInterface}
use Rattle.al_check_promises.specs.declared.checked.SoundUnit.{SoundUnit}
use Rattle.al_check_bounded.specs.declared.finding.UnitVerdict.{UnitVerdict}
use Rattle.al_check_bounded.specs.declared.finding.UnitVerdict.TheVariants.{Faulty, Sound}

-- its errors; or what it answers to others, with its labelled tree
pub data Verdict : Type 0 where
  Wrong : List Diagnostic → Verdict
  Right : UnitInterface → UnitTree → Verdict

abbrev pub sound_of : SoundUnit → Verdict
sound_of s = Right (interface_of s.properties s.parts) (unit_model s.tree)

abbrev pub verdict_of : UnitVerdict → Verdict
verdict_of (Faulty faults) = Wrong faults
verdict_of (Sound s) = sound_of s

-- the verdict names no unit but these
abbrev pub NamesWithin : List UnitKey → Verdict → Type 0
NamesWithin units (Wrong faults) = ⊤
NamesWithin units (Right i tree) = NamesOnly units (outcome.Sound i tree)

-- a faulty unit has at least one error, and each is in its own file and has a number of the check
abbrev pub IsTold : UnitKey → Verdict → Type 0
IsTold unit (Wrong faults) = FaultsFit unit (outcome.Faulty faults)
IsTold unit (Right i tree) = ⊤
