use Rattle.std.proofs.Common.{◌≡◌, None, Some, map, ap, subst, ◌∙◌, arith}
use Rattle.std.proofs.lemmas.Grind.{common_steps}
use Rattle.std.specs.List.{Contains}
use Rattle.al_base.specs.Batch.{finding_of}
use Rattle.al_unit_graph.specs.Library.{source_at}
use Rattle.al_unit_graph.specs.Views.{header_model, source_model}
use Rattle.al_unit_faults.proofs.LawLemmas.{file_of_header, no_source, no_unit}
use Rattle.al_unit_faults.proofs.listing.add_file_faults.Goals as goal

pub returns-in_default-clause-found : goal.returns-in_default-clause-found
returns-in_default-clause-found c =
    let at : source_at c.args.sources.now c.args.file.now ≡ None = grind (arith, c.source_at.ensures, c.in_default.is) in
    let none = no_source c.args.sources.now c.args.file.now at in
    grind (arith, common_steps, none)

pub add_ascending-requires : goal.add_ascending-requires
add_ascending-requires c =
    let lib = c.args.sources.now in
    let file = c.args.file.now in
    let h = header_model c.in-Headed.header in
    let same = ap (λ ds. map finding_of ds) c.as_slice.ensures.value ∙ c.in_ok-faults-in-Headed.ensures.found in
    λ f m. file_of_header lib file h f (subst (λ fs. Contains fs f) same m)

pub returns-in-Unread-clause-found : goal.returns-in-Unread-clause-found
returns-in-Unread-clause-found c =
    let lib = c.args.sources.now in
    let source = source_model c.in-Some.source.now in
    let at : source_at lib c.args.file.now ≡ Some source = grind (arith, c.source_at.ensures, c.in-Some.is, c.in-Some.source-is) in
    let none = no_unit lib c.args.file.now source c.in-Unread.field-0 c.in-Unread.field-1 at (grind (arith, c.in-Unread.is)) in
    grind (arith, common_steps, none)
