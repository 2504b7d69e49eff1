use Rattle.std.proofs.Common.{List, map, sym, subst, ap, ◌∙◌}
use Rattle.std.specs.List.Sorted.{IsStrictlySortedBy}
use Rattle.std.proofs.lemmas.List.Kept.{IsStrictlySortedBy-filter}
use Rattle.al_base.specs.Batch.{Key, key_of}
use Rattle.al_base.specs.declared.unit_key.UnitKey.{UnitKey}
use Rattle.al_unit_graph.specs.Orders.{key_cmp}
use Rattle.al_bind.specs.Numbers.{is_node}
use Rattle.al_bind.proofs.places.Places.end_of.Goals as goal

pub place_of-requires-2 : goal.place_of-requires-2
place_of-requires-2 c =
    let keys = map key_of c.args.self.now.keys.items in
    let is = ap (λ (ks : List UnitKey). map key_of ks) c.deref-2.ensures.value ∙ c.requires.nodes in
    subst (λ (ks : List Key). IsStrictlySortedBy key_cmp ks) (sym is) (IsStrictlySortedBy-filter key_cmp (is_node c.args.sources.now) keys c.requires.ascend)
