use Rattle.std.proofs.Common.{◌≡◌, ◌<◌, map, length, get_or, subst, sym, ap, arith}
use Rattle.std.proofs.lemmas.Grind.{common_steps}
use Rattle.std.specs.List.{Contains}
use Rattle.std.proofs.lemmas.List.Elements.{Contains-get_or}
use Rattle.al_unit_faults.specs.Dependents.{AreGoals}
use Rattle.al_unit_faults.specs.Numbers.{numbers_model, IsNumbering, StepsBelow}
use Rattle.al_unit_faults.proofs.DependentLemmas.{dependents_told}
use Rattle.al_unit_faults.proofs.dependents.Dependents.of.Goals as goal

pub reaching-requires : goal.reaching-requires
reaching-requires c =
    let lib = c.args.sources.now in
    let files = map (λ n. n.now) c.in_ok-files.files.items in
    let ns = numbers_model c.in_ok-numbers.numbers in
    let many : length files ≡ length c.as_slice.result.now = grind (arith, common_steps, c.as_slice.ensures.value) in
    let alike : map (λ n. n.now) c.as_slice.result.now ≡ files = ap (map (λ n. n.now)) c.as_slice.ensures.value in
    let alike2 : map (λ n. n.now) c.as_slice-2.result.now ≡ files = ap (map (λ n. n.now)) c.as_slice-2.ensures.value in
    let alike3 : map (λ n. n.now) c.as_slice-3.result.now ≡ files = ap (map (λ n. n.now)) c.as_slice-3.ensures.value in
    let goals = c.as_slice-4.result.now in
    let nodes : length c.in_ok-graph.graph ≡ length c.as_slice-3.result.now = grind (arith, common_steps, alike2, alike3, c.in_ok-graph.ensures.nodes) in
    λ k d l.
    let at = subst (λ gs. Contains gs (get_or goals k d)) c.as_slice-4.ensures.value (Contains-get_or goals k d l) in
    subst (λ n. get_or goals k d < n) (sym nodes) ((c.in_ok-goals.ensures (get_or goals k d)).0 at).0

pub returns : goal.returns
returns c =
    let lib = c.args.sources.now in
    let files = map (λ n. n.now) c.in_ok-files.files.items in
    let ns = numbers_model c.in_ok-numbers.numbers in
    let g = c.in_ok-graph.graph in
    let alike : map (λ n. n.now) c.as_slice.result.now ≡ files = ap (map (λ n. n.now)) c.as_slice.ensures.value in
    let alike2 : map (λ n. n.now) c.as_slice-2.result.now ≡ files = ap (map (λ n. n.now)) c.as_slice-2.ensures.value in
    let alike3 : map (λ n. n.now) c.as_slice-3.result.now ≡ files = ap (map (λ n. n.now)) c.as_slice-3.ensures.value in
    let many : length c.as_slice.result.now ≡ length files = grind (arith, common_steps, alike) in
    let many2 : length c.as_slice-2.result.now ≡ length files = grind (arith, common_steps, alike2) in
    let many3 : length c.as_slice-3.result.now ≡ length files = grind (arith, common_steps, alike3) in
    let numbering = subst (λ n. IsNumbering files n ns) many (subst (λ fs. IsNumbering fs (length c.as_slice.result.now) ns) alike c.in_ok-numbers.ensures) in
    let steps = subst (λ n. StepsBelow lib files ns n g) many2 (subst (λ fs. StepsBelow lib fs ns (length c.as_slice-2.result.now) g) alike2 c.in_ok-graph.ensures) in
    let goals = subst (λ n. AreGoals lib files ns c.args.flags.now n c.in_ok-goals.goals.items) many3 (subst (λ fs. AreGoals lib fs ns c.args.flags.now (length c.as_slice-3.result.now) c.in_ok-goals.goals.items) alike3 c.in_ok-goals.ensures) in
    λ marked flags_are.
    dependents_told lib files ns c.args.flags.now numbering c.in_ok-files.ensures marked flags_are g steps c.as_slice-4.result.now
    (subst (λ gs. AreGoals lib files ns c.args.flags.now (length files) gs) (sym c.as_slice-4.ensures.value) goals) c.in_ok-flags.flags.items c.in_ok-flags.ensures
