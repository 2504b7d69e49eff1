use Rattle.std.proofs.Common.{◌≡◌, ◌+◌, ◌++◌, ◌∷◌, [], map, take, ap, sym, ◌∙◌, arith}
use Rattle.std.proofs.lemmas.Grind.{common_steps}
use Rattle.std.specs.BTreeSet.{insert_key}
use Rattle.al_unit_faults.specs.Orders.{finding_cmp, ascending}
use Rattle.al_unit_faults.specs.Spots.{finding_at, spot_of}
use Rattle.al_unit_faults.proofs.OrderLemmas.{ascending-none, ascending-push, spot_added}
use Rattle.al_engine_refresh.proofs.finding.spots.Goals as goal

pub loop-d-init : goal.loop-d-init
loop-d-init c = λ file. ap (λ ks. map (finding_at file) ks) c.new-spots.ensures.empty ∙ sym ascending-none

pub loop-d-preserved : goal.loop-d-preserved
loop-d-preserved c =
    λ file.
    let d = c.d-item.result in
    let so_far = map (λ e. finding_at file (spot_of e)) (take c.loop-d.d-index c.args.found.now) in
    let one_more : map (λ e. finding_at file (spot_of e)) (take (c.loop-d.d-index + 1) c.args.found.now) ≡ so_far ++ finding_at file (spot_of d) ∷ [] = grind (arith, common_steps, c.loop-d-test.true, c.d-item.is) in
    ap (λ ks. map (finding_at file) ks) c.in_ok-insert.ensures.keys
    ∙ spot_added file c.loop-d.spots.keys (spot_of d)
    ∙ ap (λ fs. insert_key finding_cmp fs (finding_at file (spot_of d))) (c.loop-d.invariant file)
    ∙ sym (ascending-push so_far (finding_at file (spot_of d)))
    ∙ ap ascending (sym one_more)
