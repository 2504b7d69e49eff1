use Rattle.std.proofs.Common.{refl, ap, ◌∙◌}
use Rattle.std.specs.BTreeSet.{insert_key}
use Rattle.al_base.specs.Batch.{key_of}
use Rattle.al_unit_graph.specs.Orders.{key_cmp, keys_model}
use Rattle.al_unit_graph.proofs.KeySetLemmas.{keys_model-insert_key}
use Rattle.al_unit_graph.proofs.key_set.KeySet.insert.Goals as goal

pub returns : goal.returns
returns c =
    ap keys_model c.in_ok-insert.ensures.keys
    ∙ keys_model-insert_key _ (λ n m. (refl, refl, refl, refl, refl, refl, refl, refl, refl)) c.self.inside.keys.keys _
    ∙ ap (λ n. insert_key key_cmp (keys_model c.self.inside.keys.keys) (n, c.args.key.kind)) c.in_ok-name.ensures
    ∙ ap (λ ks. insert_key key_cmp ks (key_of c.args.key)) c.self.view_is
