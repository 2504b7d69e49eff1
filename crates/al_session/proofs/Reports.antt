-- What a build finds wrong ascends.
use Rattle.std.proofs.Common.{◌≡◌, ℕ, List, sym, ap, subst, ◌∙◌, map}
use Rattle.std.specs.List.Sorted.{IsStrictlySortedBy}
use Rattle.std.specs.Map.{keys_of}
use Rattle.al_base.specs.Batch.{Finding, finding_of}
use Rattle.al_base.specs.FileLaws.{Ascend}
use Rattle.al_base.specs.Files.{Texts, name_cmp}
use Rattle.al_bind.specs.declared.binding.BindFault.{BindFault}
use Rattle.al_bind.specs.declared.binding.BindFault.TheVariants.{Lacks, Cycle}
use Rattle.al_bind.specs.declared.lacking.MissingItem.TheVariants.{Main, Body, Subunit}
use Rattle.al_unit_graph.specs.Headers.{Header}
use Rattle.al_unit_faults.specs.Orders.{finding_cmp}
use Rattle.al_unit.specs.Libraries.{library_of}
use Rattle.al_unit.proofs.LibraryLemmas.{names_of-library_of}
use Rattle.al_engine_refresh.specs.EntryLaw.{TextMeaning}
use Rattle.al_engine_refresh.specs.Found.{findings_of}
use Rattle.al_engine_refresh.specs.Ascending.{FindingsAscend}
use Rattle.al_engine.specs.declared.compiled.Compiled.{Compiled}
use Rattle.al_engine.specs.declared.compiled.Compiled.TheVariants as compiled
use Rattle.al_session_served.specs.Builds as adds
use Rattle.al_engine_files.specs.PredefinedUnits.{predefined_answer}
use Rattle.al_session.specs.EngineMeanings.{Compiles, CompilesTo}
use Rattle.al_session.specs.Results.{fault_result, result_of}

no_findings : (fault : BindFault) (findings : List Finding) → fault_result fault ≡ adds.Faulty findings → ⊥
no_findings (Lacks Main) findings is = cc
no_findings (Lacks (Body name)) findings is = cc
no_findings (Lacks (Subunit name)) findings is = cc
no_findings (Cycle lines) findings is = cc

module _ (findings_ascend : FindingsAscend) (meaning : TextMeaning) (header : List ℕ → Header) (files : Texts) (main : List ℕ) (ascend : Ascend files) (findings : List Finding) where
  names_ascend : IsStrictlySortedBy name_cmp (keys_of (library_of files))
  names_ascend = subst (λ (names : List (List ℕ)). IsStrictlySortedBy name_cmp names) (sym (names_of-library_of files)) ascend

  compiled_ascend : (c : Compiled) → CompilesTo meaning header predefined_answer library_of files main c → result_of c ≡ adds.Faulty findings → IsStrictlySortedBy finding_cmp findings
  compiled_ascend (compiled.Faulty diagnostics) to is =
      let same : map finding_of diagnostics.items ≡ findings = cc in
      subst (λ (fs : List Finding). IsStrictlySortedBy finding_cmp fs) (sym to.is_batch.0 ∙ same) (findings_ascend (library_of files) to.outcomes names_ascend)
  compiled_ascend (compiled.Unbound fault) to is = absurd (no_findings fault findings is)
  compiled_ascend (compiled.TooLarge order) to is = cc
  compiled_ascend (compiled.Made program) to is = cc

  pub gave_ascend : (gave : adds.BuildResult) → Compiles meaning header predefined_answer library_of files main gave → gave ≡ adds.Faulty findings → IsStrictlySortedBy finding_cmp findings
  gave_ascend gave to is = compiled_ascend to.compiled to.compiles (sym to.gave_is ∙ is)
