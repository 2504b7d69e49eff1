use Rattle.std.proofs.Common.{◌++◌, ◌∷◌, List, [], map, take, sym, ap, subst, ◌∙◌}
use Rattle.std.specs.List.{All}
use Rattle.std.proofs.lemmas.List.{map-append, take_all}
use Rattle.std.proofs.lemmas.List.Elements.{All-push}
use Rattle.al_base.specs.Batch.{Key, key_of}
use Rattle.al_base.specs.declared.unit_key.UnitKey.{UnitKey}
use Rattle.al_folder_served.specs.Reasons.{AreRight}
use Rattle.al_folder_served.specs.declared.reasons.Reasons.{Reasons}
use Rattle.al_folder_served.proofs.Gathered.{map_one_more}
use Rattle.al_folder_served.proofs.reasons.reasons_of_items.Goals as goal

pub loop-item-preserved : goal.loop-item-preserved
loop-item-preserved c = record {
  each = subst (λ (rs : List Reasons). All (AreRight c.args.sources.now) rs) (sym c.in_ok-push.ensures.items) (All-push (AreRight c.args.sources.now) c.loop-item.reasons.items c.in_ok-one.one c.loop-item.invariant.each c.in_ok-one.ensures.1);
  items =
      ap (λ (rs : List Reasons). map (λ r. key_of r.item) rs) c.in_ok-push.ensures.items
      ∙ map-append (λ (r : Reasons). key_of r.item) c.loop-item.reasons.items (c.in_ok-one.one ∷ [])
      ∙ ap (λ (ks : List Key). ks ++ key_of c.in_ok-one.one.item ∷ []) c.loop-item.invariant.items
      ∙ ap (λ (k : Key). map key_of (take c.loop-item.item-index c.args.items.now) ++ k ∷ []) c.in_ok-one.ensures.0
      ∙ sym (map_one_more key_of c.args.items.now c.loop-item.item-index c.item-item.result c.loop-item-test.true c.item-item.is);
}

pub returns : goal.returns
returns c = record {
  each = c.loop-item.invariant.each;
  items_are = c.loop-item.invariant.items ∙ ap (λ (us : List UnitKey). map key_of us) (take_all c.loop-item.item-index c.args.items.now c.loop-item-test.false);
}
