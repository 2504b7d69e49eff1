use Rattle.std.proofs.Common.{◌≡◌, ◌+◌, ◌++◌, ◌∷◌, [], map, take, ap, sym, ◌∙◌, arith}
use Rattle.std.proofs.lemmas.Grind.{common_steps}
use Rattle.al_base.specs.Batch.{key_of}
use Rattle.al_unit_graph.specs.Closures.{is_same_key, with_item, with_items}
use Rattle.al_unit_graph.proofs.ClosureLemmas.{with_items-push}
use Rattle.al_unit_graph.proofs.key_list.KeyList.add_all.Goals as goal

pub loop-key-preserved : goal.loop-key-preserved
loop-key-preserved c =
    let old = map key_of c.args.self.now.keys.items in
    let so_far = map key_of (take c.loop-key.key-index c.args.more.now) in
    let one_more : map key_of (take (c.loop-key.key-index + 1) c.args.more.now) ≡ so_far ++ key_of c.key-item.result ∷ [] = grind (arith, common_steps, c.loop-key-test.true, c.key-item.is) in (
      c.in_ok-add.ensures.keys
          ∙ ap (λ ks. with_item is_same_key ks (key_of c.key-item.result)) c.loop-key.invariant.0
          ∙ sym (with_items-push is_same_key old so_far (key_of c.key-item.result))
          ∙ ap (λ ks. with_items is_same_key old ks) (sym one_more),
      c.in_ok-add.ensures.seen,
    )
