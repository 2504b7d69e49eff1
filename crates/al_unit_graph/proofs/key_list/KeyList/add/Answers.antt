use Rattle.std.proofs.Common.{◌≡◌, List, ◌++◌, ◌∷◌, [], map, refl, sym, ap, subst, ◌∙◌, arith}
use Rattle.std.proofs.lemmas.Grind.{common_steps}
use Rattle.al_base.specs.Batch.{Key, key_of}
use Rattle.al_unit_graph.specs.Closures.{is_same_key, with_item, AreAlike}
use Rattle.al_unit_graph.proofs.SeenLemmas.{key_added}
use Rattle.al_unit_graph.proofs.key_list.KeyList.add.Goals as goal

pub returns-then-not-is_new-clause-keys : goal.returns-then-not-is_new-clause-keys
returns-then-not-is_new-clause-keys c =
    let keys = map key_of c.args.self.now.keys.items in
    let added = key_added _ c.insert.new.self.keys c.args.self.now.seen.keys (c.in_ok-name.name, c.args.key.now.kind) keys c.in_ok-is_new.is_new c.in_ok-is_new.ensures.keys c.in_ok-is_new.ensures.added (λ n m. (refl, refl, refl, refl, refl, refl, refl, refl, refl)) c.requires in
    sym (added.old c.if-not-is_new.true) ∙ ap (λ n. with_item is_same_key keys (n, c.args.key.now.kind)) (c.in_ok-name.ensures.items ∙ c.as_slice.ensures)

pub returns-clause-keys : goal.returns-clause-keys
returns-clause-keys c =
    let keys = map key_of c.args.self.now.keys.items in
    let added = key_added _ c.insert.new.self.keys c.args.self.now.seen.keys (c.in_ok-name.name, c.args.key.now.kind) keys c.in_ok-is_new.is_new c.in_ok-is_new.ensures.keys c.in_ok-is_new.ensures.added (λ n m. (refl, refl, refl, refl, refl, refl, refl, refl, refl)) c.requires in
    let name = c.in_ok-name.ensures.items ∙ c.as_slice.ensures in
    let pushed : map key_of c.push.new.self.items ≡ keys ++ key_of c.args.key.now ∷ [] = grind (arith, common_steps, c.in_ok-push.ensures.items, c.in_ok-copy.ensures) in
    pushed
    ∙ sym (ap (λ n. keys ++ (n, c.args.key.now.kind) ∷ []) name)
    ∙ sym (added.new c.if-not-is_new.false)
    ∙ ap (λ n. with_item is_same_key keys (n, c.args.key.now.kind)) name

pub returns-clause-seen : goal.returns-clause-seen
returns-clause-seen c =
    let keys = map key_of c.args.self.now.keys.items in
    let added = key_added _ c.insert.new.self.keys c.args.self.now.seen.keys (c.in_ok-name.name, c.args.key.now.kind) keys c.in_ok-is_new.is_new c.in_ok-is_new.ensures.keys c.in_ok-is_new.ensures.added (λ n m. (refl, refl, refl, refl, refl, refl, refl, refl, refl)) c.requires in
    let name = c.in_ok-name.ensures.items ∙ c.as_slice.ensures in
    let pushed : map key_of c.push.new.self.items ≡ keys ++ key_of c.args.key.now ∷ [] = grind (arith, common_steps, c.in_ok-push.ensures.items, c.in_ok-copy.ensures) in
    let same = added.new c.if-not-is_new.false ∙ ap (λ n. keys ++ (n, c.args.key.now.kind) ∷ []) name ∙ sym pushed in
    let P : List Key → Type 0 = λ ks. AreAlike is_same_key (map (λ s. (s.0.items, s.1)) c.insert.new.self.keys) ks in
    subst P same added.alike
