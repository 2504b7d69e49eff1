use Rattle.std.proofs.Common.{◌≡◌, ℕ, List, ap, ◌∙◌}
use Rattle.al_unit_graph.specs.Headers.{Contents}
use Rattle.al_unit_graph.specs.Views.{contents_model, source_model}
use Rattle.al_unit.specs.Libraries.{source_of}
use Rattle.al_engine_files.proofs.OfTexts.{as_source, kept_read}
use Rattle.al_engine_files.proofs.sources.source_read.Goals as goal

pub returns-clause-source : goal.returns-clause-source
returns-clause-source c =
    let same : contents_model c.in_ok-contents.contents ≡ (source_of c.args.text.now.value.items).contents = c.in_ok-contents.ensures ∙ ap (λ (t : List ℕ). (source_of t).contents) (c.as_slice.ensures.value ∙ ap (λ v. v.items) c.deref.ensures) in
    as_source c.args.text.now.value.items (source_model c.in_ok-source.source.value) (contents_model c.in_ok-contents.contents) c.in_ok-source.ensures same

pub returns-clause-kept : goal.returns-clause-kept
returns-clause-kept c =
    let same : contents_model c.in_ok-contents.contents ≡ (source_of c.args.text.now.value.items).contents = c.in_ok-contents.ensures ∙ ap (λ (t : List ℕ). (source_of t).contents) (c.as_slice.ensures.value ∙ ap (λ v. v.items) c.deref.ensures) in
    kept_read c.args.before.now c.args.file.now c.args.text.now.value.items c.kept_as-kept.result (contents_model c.in_ok-contents.contents) same c.kept_as-kept.ensures
