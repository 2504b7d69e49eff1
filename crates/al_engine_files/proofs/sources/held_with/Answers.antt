use Rattle.std.proofs.Common.{◌≡◌, true, sym, ap, ◌∙◌, arith}
use Rattle.std.proofs.lemmas.Slice.Eq.{bytes_eq-Decides}
use Rattle.std.specs.Str.{bytes_eq}
use Rattle.al_unit_graph.specs.Views.{source_model}
use Rattle.al_engine_files.proofs.OfTexts.{held_kept, held_source}
use Rattle.al_engine_files.proofs.sources.held_with.Goals as goal

pub returns-clause-source : goal.returns-clause-source
returns-clause-source c =
    let equal : bytes_eq c.as_slice.result.now c.args.text.now ≡ true = grind arith in
    let same : c.in_ok-source.source.now.value.text.value.items ≡ c.args.text.now = sym (c.as_slice.ensures.value ∙ ap (λ v. v.items) c.deref-2.ensures ∙ ap (λ s. s.text.value.items) c.deref.ensures) ∙ (bytes_eq-Decides c.as_slice.result.now c.args.text.now).0 equal in
    held_source c.args.before.now c.args.file.now c.args.text.now (source_model c.in_ok-source.source.now.value) c.requires c.in_ok-source.ensures.source same

pub returns-clause-kept : goal.returns-clause-kept
returns-clause-kept c =
    let equal : bytes_eq c.as_slice.result.now c.args.text.now ≡ true = grind arith in
    let same : c.in_ok-source.source.now.value.text.value.items ≡ c.args.text.now = sym (c.as_slice.ensures.value ∙ ap (λ v. v.items) c.deref-2.ensures ∙ ap (λ s. s.text.value.items) c.deref.ensures) ∙ (bytes_eq-Decides c.as_slice.result.now c.args.text.now).0 equal in
    held_kept c.args.before.now c.args.file.now c.args.text.now (source_model c.in_ok-source.source.now.value) c.requires c.in_ok-source.ensures.source same
