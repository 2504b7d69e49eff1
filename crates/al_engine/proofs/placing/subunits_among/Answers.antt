use Rattle.std.proofs.Common.{◌≡◌, ◌+◌, ◌++◌, ◌∷◌, [], map, take, ap, sym, ◌∙◌, arith}
use Rattle.std.proofs.lemmas.Grind.{common_steps}
use Rattle.al_base.specs.Batch.{key_of}
use Rattle.al_engine.specs.Placed.{subunits_among, with_subunit}
use Rattle.al_engine.proofs.PlacedLemmas.{among-more, among-none}
use Rattle.al_engine.proofs.placing.subunits_among.Goals as goal

pub loop-key-init : goal.loop-key-init
loop-key-init c = c.new-found.ensures ∙ sym among-none

pub loop-key-preserved : goal.loop-key-preserved
loop-key-preserved c =
    let key = key_of c.key-item.result in
    let so_far = map key_of (take c.loop-key.key-index c.args.keys.now) in
    let one_more : map key_of (take (c.loop-key.key-index + 1) c.args.keys.now) ≡ so_far ++ key ∷ [] = grind (arith, common_steps, c.loop-key-test.true, c.key-item.is) in
    c.in_ok-add_subunit.ensures
    ∙ ap (λ ks. with_subunit ks key) c.loop-key.invariant
    ∙ sym (among-more so_far key)
    ∙ ap subunits_among (sym one_more)
