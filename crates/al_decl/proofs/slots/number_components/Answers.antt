use Rattle.std.proofs.Common.{◌≡◌, [], map, take, List, length, ap, subst, ◌∙◌, arith}
use Rattle.std.specs.Prelude.{fold}
use Rattle.std.proofs.lemmas.List.{with_items_is}
use Rattle.al_view_typed.specs.DeclarationTrees.{component_value_model}
use Rattle.al_view_typed.specs.declared.declaration.ComponentValue.{ComponentValue}
use Rattle.al_decl.proofs.Gathered.{components_end_tree, components_end_word, with_component}
use Rattle.al_decl.proofs.slots.number_components.Goals as goal

pub returns-clause-word : goal.returns-clause-word
returns-clause-word c =
    let e : c.deref_mut-value-items.result.now ≡ c.args.values.now.items = c.deref_mut-value-items.ensures.value in
    components_end_word c.args.word c.loop-value.after c.loop-value.value-index c.loop-value.value-items c.args.values.now.items
    (subst (λ (zs : List ComponentValue). (c.loop-value.after, map component_value_model (take c.loop-value.value-index c.loop-value.value-items)) ≡ fold with_component (c.args.word, []) (take c.loop-value.value-index zs)) e c.loop-value.invariant.2)
    (omega (arith, ap length e))

pub returns-clause-tree : goal.returns-clause-tree
returns-clause-tree c =
    let e : c.deref_mut-value-items.result.now ≡ c.args.values.now.items = c.deref_mut-value-items.ensures.value in
    ap (λ (zs : List ComponentValue). map component_value_model zs) (with_items_is c.args.values.now c.loop-value.value-items (omega (arith, ap length e, c.args.values.now.ok.0, c.loop-value.invariant.0)))
    ∙ components_end_tree c.args.word c.loop-value.after c.loop-value.value-index c.loop-value.value-items c.args.values.now.items
    (subst (λ (zs : List ComponentValue). (c.loop-value.after, map component_value_model (take c.loop-value.value-index c.loop-value.value-items)) ≡ fold with_component (c.args.word, []) (take c.loop-value.value-index zs)) e c.loop-value.invariant.2)
    (omega (arith, ap length e)) (omega (arith, ap length e, c.loop-value.invariant.0))
