use Rattle.std.proofs.Common.{◌≡◌, ◌<◌, [], map, length, get_or, ap, subst, sym, ◌∙◌, arith}
use Rattle.std.proofs.lemmas.Grind.{common_steps}
use Rattle.std.specs.List.{Contains}
use Rattle.std.proofs.lemmas.List.Elements.{Contains-get_or}
use Rattle.al_unit_faults.specs.Numbers.{numbers_model, targets, AddsFrom, StepsBelow, IsNumbering}
use Rattle.al_unit_faults.proofs.GraphLemmas.{targets_within, steps_more}
use Rattle.al_unit_faults.proofs.cycles.graph_of.Goals as goal

pub add_steps-requires-clause-targets_in : goal.add_steps-requires-clause-targets_in
add_steps-requires-clause-targets_in c =
    let lib = c.args.sources.now in
    let files = map (λ n. n.now) c.args.files.now in
    let ns = numbers_model c.args.numbers.now in
    let file = get_or files c.loop-i.i [] in
    let many : length files ≡ length c.args.files.now = grind (arith, common_steps) in
    let numbering = subst (λ n. IsNumbering files n ns) (sym many) c.requires in
    let read : get_or files c.loop-i.i [] ≡ _ = grind (arith, common_steps, c.loop-i-test.true) in
    let same : c.as_slice.result.now ≡ targets lib ns file = c.as_slice.ensures.value ∙ c.in_ok-targets.ensures ∙ ap (λ f. targets lib ns f) (sym read) in
    λ k d l.
    let at = subst (λ ts. Contains ts (get_or c.as_slice.result.now k d)) same (Contains-get_or c.as_slice.result.now k d l) in
    let below = targets_within lib files ns numbering file (get_or c.as_slice.result.now k d) at in
    subst (λ n. get_or c.as_slice.result.now k d < n) (sym c.loop-i.invariant.nodes) below

pub loop-i-preserved : goal.loop-i-preserved
loop-i-preserved c =
    let lib = c.args.sources.now in
    let files = map (λ n. n.now) c.args.files.now in
    let ns = numbers_model c.args.numbers.now in
    let file = get_or files c.loop-i.i [] in
    let many : length files ≡ length c.args.files.now = grind (arith, common_steps) in
    let numbering = subst (λ n. IsNumbering files n ns) (sym many) c.requires in
    let read : get_or files c.loop-i.i [] ≡ _ = grind (arith, common_steps, c.loop-i-test.true) in
    let same : c.as_slice.result.now ≡ targets lib ns file = c.as_slice.ensures.value ∙ c.in_ok-targets.ensures ∙ ap (λ f. targets lib ns f) (sym read) in
    steps_more lib files ns numbering c.loop-i.i c.loop-i.graph c.add_steps.new.graph c.loop-i.invariant (subst (λ ts. AddsFrom c.loop-i.graph c.add_steps.new.graph c.loop-i.i ts) same c.in_ok-add_steps.ensures)

pub returns : goal.returns
returns c =
    let lib = c.args.sources.now in
    let files = map (λ n. n.now) c.args.files.now in
    let ns = numbers_model c.args.numbers.now in
    let ended : c.loop-i.i ≡ length c.args.files.now = omega (arith, c.loop-i-test.false, c.loop-i.auto.i-end) in
    subst (λ n. StepsBelow lib files ns n c.loop-i.graph) ended c.loop-i.invariant
