use Rattle.std.proofs.Common.{◌≡◌, ℕ, true, List, IfSome, ap, subst, ◌∙◌}
use Rattle.al_unit_graph.specs.Views.{source_model}
use Rattle.al_unit.specs.Libraries.{source_of}
use Rattle.al_engine_files.specs.AdaFiles.{WasKept}
use Rattle.al_engine_files.proofs.sources.held_as.Goals as goal

pub returns-clause-source : goal.returns-clause-source
returns-clause-source c =
    subst (λ (t : List ℕ). IfSome c.held_with.result (λ source. source_model source.now.value ≡ source_of t)) (c.as_slice.ensures.value ∙ ap (λ v. v.items) c.deref.ensures) c.held_with.ensures.source

pub returns-clause-kept : goal.returns-clause-kept
returns-clause-kept c =
    subst (λ (t : List ℕ). IfSome c.held_with.result (λ source. WasKept c.args.before.now c.args.file.now t true)) (c.as_slice.ensures.value ∙ ap (λ v. v.items) c.deref.ensures) c.held_with.ensures.kept
