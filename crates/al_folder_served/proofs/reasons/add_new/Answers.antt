use Rattle.std.proofs.Common.{◌++◌, ◌∷◌, [], List, map, sym, ap, ◌∙◌}
use Rattle.std.proofs.lemmas.List.{map-append}
use Rattle.al_base.specs.Batch.{Key, key_of}
use Rattle.al_base.specs.declared.unit_key.UnitKey.{UnitKey}
use Rattle.std.specs.List.{list_any}
use Rattle.al_unit_graph.specs.Closures.{is_same_key}
use Rattle.al_folder_served.proofs.Gathered.{with_item_among, with_item_new}
use Rattle.al_folder_served.proofs.reasons.add_new.Goals as goal

pub returns-then-is_among : goal.returns-then-is_among
returns-then-is_among c = sym (with_item_among c.args.found.now.items (key_of c.args.key.now) (ap (λ (us : List UnitKey). list_any (λ one. is_same_key (key_of one) (key_of c.args.key.now)) us) (sym c.as_slice.ensures.value) ∙ sym c.is_among.ensures ∙ c.if-is_among.true))

pub returns : goal.returns
returns c =
    ap (λ (us : List UnitKey). map key_of us) c.in_ok-push.ensures.items
    ∙ map-append key_of c.args.found.now.items (c.in_ok-copy.copy ∷ [])
    ∙ ap (λ (k : Key). map key_of c.args.found.now.items ++ k ∷ []) c.in_ok-copy.ensures
    ∙ sym (with_item_new c.args.found.now.items (key_of c.args.key.now) (ap (λ (us : List UnitKey). list_any (λ one. is_same_key (key_of one) (key_of c.args.key.now)) us) (sym c.as_slice.ensures.value) ∙ sym c.is_among.ensures ∙ c.if-is_among.false))
