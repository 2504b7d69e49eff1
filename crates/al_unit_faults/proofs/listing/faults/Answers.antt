use Rattle.std.proofs.Common.{◌≡◌, map, take, ap, ◌∙◌, arith}
use Rattle.std.proofs.lemmas.Grind.{common_steps}
use Rattle.std.specs.List.{flat_map}
use Rattle.std.specs.Map.{keys_of}
use Rattle.al_unit_faults.specs.GraphFaults.{file_faults}
use Rattle.al_unit_faults.proofs.LawLemmas.{told_by_files}
use Rattle.al_unit_faults.proofs.listing.faults.Goals as goal

pub returns-clause-found : goal.returns-clause-found
returns-clause-found c =
    let lib = c.args.sources.now in
    let all : map (λ n. n.now) (take c.loop-file.file-index c.as_slice-file-items.result.now) ≡ keys_of lib = grind (arith, common_steps, c.loop-file-test.false, c.as_slice-file-items.ensures.value, c.in_ok-files.ensures) in
    c.loop-file.invariant.0 ∙ ap (λ fs. flat_map (file_faults lib) fs) all ∙ told_by_files lib
