-- Values of components as they are numbered from the first on.
use Rattle.std.proofs.Common.{◌≡◌, ◌≤◌, ◌++◌, ℕ, List, [], ◌∷◌, map, length, take, refl, sym, ap, ◌∙◌}
use Rattle.std.proofs.lemmas.List.{append-nil, append_assoc, take_all}
use Rattle.std.specs.Prelude.{fold}
use Rattle.al_view_typed.specs.DeclarationTrees.{ComponentValueTree, component_value_model}
use Rattle.al_view_typed.specs.declared.declaration.ComponentValue.{ComponentValue}
use Rattle.al_overload_slots.specs.Slots.{value_after}
use Rattle.al_decl.specs.Effects.{component_numbered, components_after, components_numbered}

-- one more: the next word, and the list so far
abbrev pub with_component : ℕ × List ComponentValueTree → ComponentValue → ℕ × List ComponentValueTree
with_component so_far c = (value_after so_far.0 (component_value_model c).value, so_far.1 ++ (component_numbered so_far.0 (component_value_model c) ∷ []))

components_word : (word : ℕ) (done : List ComponentValueTree) (cs : List ComponentValue) → (fold with_component (word, done) cs).0 ≡ components_after word (map component_value_model cs)
components_word word done [] = refl
components_word word done (c ∷ cs) = components_word (value_after word (component_value_model c).value) (done ++ (component_numbered word (component_value_model c) ∷ [])) cs

components_list : (word : ℕ) (done : List ComponentValueTree) (cs : List ComponentValue) → (fold with_component (word, done) cs).1 ≡ done ++ components_numbered word (map component_value_model cs)
components_list word done [] = sym (append-nil done)
components_list word done (c ∷ cs) =
    components_list (value_after word (component_value_model c).value) (done ++ (component_numbered word (component_value_model c) ∷ [])) cs
    ∙ append_assoc done (component_numbered word (component_value_model c) ∷ []) (components_numbered (value_after word (component_value_model c).value) (map component_value_model cs))

pub components_end_word : (word after i : ℕ) (xs ys : List ComponentValue) → (after, map component_value_model (take i xs)) ≡ fold with_component (word, []) (take i ys) → length ys ≤ i
    → after ≡ components_after word (map component_value_model ys)
components_end_word word after i xs ys inv past =
    ap (λ (p : ℕ × List ComponentValueTree). p.0) inv ∙ ap (λ (l : List ComponentValue). (fold with_component (word, []) l).0) (take_all i ys past) ∙ components_word word [] ys

pub components_end_tree : (word after i : ℕ) (xs ys : List ComponentValue) → (after, map component_value_model (take i xs)) ≡ fold with_component (word, []) (take i ys) → length ys ≤ i → length xs ≤ i
    → map component_value_model xs ≡ components_numbered word (map component_value_model ys)
components_end_tree word after i xs ys inv past over =
    sym (ap (λ (l : List ComponentValue). map component_value_model l) (take_all i xs over))
    ∙ ap (λ (p : ℕ × List ComponentValueTree). p.1) inv
    ∙ ap (λ (l : List ComponentValue). (fold with_component (word, []) l).1) (take_all i ys past)
    ∙ components_list word [] ys
