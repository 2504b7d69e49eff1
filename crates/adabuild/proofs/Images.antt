-- The image of a session's library, in the terms of the engine.
use Rattle.std.proofs.Common.{◌≡◌, ℕ, List, Option, Some, None, Result, Ok, Err, refl, sym, ap, ◌∙◌}
use Rattle.al_base.specs.Files.{Texts}
use Rattle.al_base.specs.declared.refusal.Refusal.{Refusal}
use Rattle.al_bind.specs.declared.binding.BindFault.TheVariants.{Lacks, Cycle}
use Rattle.al_bind.specs.declared.lacking.MissingItem.TheVariants.{Main, Body, Subunit}
use Rattle.al_engine.specs.Gave.{program_of}
use Rattle.al_engine.specs.Programs.{bytes_in}
use Rattle.al_engine.specs.Reports.{or_no_image, reported}
use Rattle.al_engine.specs.States.{Built}
use Rattle.al_engine.specs.declared.compiled.Compiled.{Compiled}
use Rattle.al_engine.specs.declared.compiled.Compiled.TheVariants.{Faulty, Unbound, TooLarge, Made}
use Rattle.al_engine.specs.declared.compiled.Program.{Program}
use Rattle.al_session.specs.EngineMeanings.{state_of}
use Rattle.al_session.specs.Results.{result_of}
use Rattle.al_session_served.specs.Builds.{image_of}
use Rattle.al_folder_served.specs.Sources.{gave_last, image_in}

made : (compiled : Compiled) (program : Program) → or_no_image (program_of compiled) ≡ Ok program → image_of (result_of compiled) ≡ Some (bytes_in program)
made (Faulty found) program is = cc
made (Unbound fault) program is = cc
made (TooLarge order) program is = cc
made (Made given) program is = ap (λ (r : Result Program Refusal). elim r as (λ v. Option (List ℕ)) [ Ok p ↦ Some (bytes_in p) | Err e ↦ None ]) is

unmade : (compiled : Compiled) (e : Refusal) → or_no_image (program_of compiled) ≡ Err e → image_of (result_of compiled) ≡ None
unmade (Faulty found) e is = refl
unmade (Unbound (Lacks Main)) e is = refl
unmade (Unbound (Lacks (Body name))) e is = refl
unmade (Unbound (Lacks (Subunit name))) e is = refl
unmade (Unbound (Cycle lines)) e is = refl
unmade (TooLarge order) e is = refl
unmade (Made given) e is = cc

-- the last build gave this program, or none
pub with_image : (files : Texts) (built : Option Built) (program : Program) → reported program_of built ≡ Ok program → image_in (gave_last (state_of files built)) ≡ Some (bytes_in program)
with_image files None program is = cc
with_image files (Some b) program is = made b.gave.compiled program is

pub without_image : (files : Texts) (built : Option Built) (e : Refusal) → reported program_of built ≡ Err e → image_in (gave_last (state_of files built)) ≡ None
without_image files None e is = refl
without_image files (Some b) e is = unmade b.gave.compiled e is
