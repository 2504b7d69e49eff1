use Rattle.std.proofs.Common.{◌≡◌, ℕ, List, map, ap, ◌∙◌}
use Rattle.std.specs.Prelude.{option_map}
use Rattle.al_decl_judged.specs.TypeLists.{joined}
use Rattle.al_view.specs.declared.types.Component.{Component}
use Rattle.al_view.specs.declared.types.TypeView.{TypeView}
use Rattle.al_view_typed.specs.DeclarationTrees.{ComponentValueTree, component_value_model}
use Rattle.al_view_typed.specs.ExpressionViews.{typed_model}
use Rattle.al_decl_protected.specs.Components.{PrivateTree, places_from, with_value, word_after}
use Rattle.al_decl_protected.proofs.Outcomes.{on_ok_both}
use Rattle.al_decl_protected.proofs.components.PrivateComponents.add.Goals as goal

abbrev tree : List Component → List TypeView → ℕ → List ComponentValueTree → PrivateTree
tree components types words values = record { components = components; types = types; words = words; values = values }

tree_so : (a b : List Component) (t u : List TypeView) (w x : ℕ) (v y : List ComponentValueTree) → a ≡ b → t ≡ u → w ≡ x → v ≡ y → tree a t w v ≡ tree b u x y
tree_so a b t u w x v y components types words values =
    ap (λ (l : List Component). tree l t w v) components
    ∙ ap (λ (l : List TypeView). tree b l w v) types
    ∙ ap (λ (n : ℕ). tree b u n v) words
    ∙ ap (λ (l : List ComponentValueTree). tree b u x l) values

pub returns : goal.returns
returns c =
    let self = c.args.self.now in
    let names = c.args.names.now in
    let of = c.args.of.now in
    let before = map component_value_model self.values.items in
    let value = option_map typed_model c.args.value in
    on_ok_both c.add_words.result _ _ _
    (λ words values.
    tree_so _ _ _ _ _ _ _ _
    (c.add_words.ensures.components ∙ c.in_ok-add_named.ensures)
    (c.add_words.ensures.types ∙ c.in_ok-add_types.ensures ∙ ap (λ (l : List TypeView). joined self.types l) c.as_slice.ensures)
    (words ∙ ap (λ (w : ℕ). word_after w self.words names) c.words_of.ensures)
    (values ∙ ap (λ (w : ℕ). with_value before of (places_from w self.words names) value) c.words_of.ensures))
    c.add_words.ensures.words c.add_words.ensures.values
