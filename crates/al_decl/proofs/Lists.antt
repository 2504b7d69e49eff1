-- One more list of components.
use Rattle.std.proofs.Common.{◌≡◌, ℕ, ◌+◌, ◌<◌, List, [], ◌∷◌, ◌++◌, length, map, take, get_or, Option, Some, None, Result, Ok, Err, refl, sym, ap, ◌∙◌}
use Rattle.std.specs.Prelude.{fold}
use Rattle.std.proofs.lemmas.List.Sums.{fold_push}
use Rattle.al_decl_judged.specs.declared.record.Part.{Part}
use Rattle.al_decl_judged.proofs.NameLemmas.{front_more}
use Rattle.al_decl.proofs.Innermost.{IsInner, begun-inner, visible-inner}
use Rattle.al_decl.specs.Declaring.{begun}
use Rattle.al_decl.specs.Inner.{in_region}
use Rattle.al_decl.specs.Defining.{defining_names}
use Rattle.al_base_fault.specs.Faults.{earlier}
use Rattle.al_base_fault.specs.Judging.{map_ok, unless}
use Rattle.al_base_fault.specs.declared.fault.Fault.{Fault}
use Rattle.al_decl.specs.PartReadings.{PartReading}
use Rattle.al_query.specs.Reads.{Table}
use Rattle.al_scope.specs.Places.{Place, entered}
use Rattle.al_scope.specs.declared.region.Region.{Region}
use Rattle.al_tree_syntax.specs.DeclarationTrees.{ComponentTree}
use Rattle.al_tree.specs.DeclarationViews.{component_model}
use Rattle.al_tree.specs.declared.declaration.ComponentDeclaration.{ComponentDeclaration}
use Rattle.al_view.specs.declared.view.SubtypeView.{SubtypeView}
use Rattle.al_decl.specs.Components.{after_component, after_components, component_parts, parts_after, parts_of_both}

parts_push : (R : PartReading) (t : Table) (p : Place) (so_far : Result (List Part) Fault) (cs : List ComponentTree) (c : ComponentTree) → parts_after R t p so_far (cs ++ c ∷ []) ≡ parts_of_both (parts_after R t p so_far cs) (component_parts R t (after_components p cs) c)
parts_push R t p so_far [] c = refl
parts_push R t p so_far (x ∷ xs) c = parts_push R t (after_component p x) (parts_of_both so_far (component_parts R t p x)) xs c

map_push : (xs : List ComponentDeclaration) (x : ComponentDeclaration) → map component_model (xs ++ x ∷ []) ≡ map component_model xs ++ component_model x ∷ []
map_push [] x = refl
map_push (y ∷ ys) x = ap (λ (l : List ComponentTree). component_model y ∷ l) (map_push ys x)

seen_more : (xs : List ComponentDeclaration) (i : ℕ) (x : ComponentDeclaration) → i < length xs → x ≡ get_or xs i x → map component_model (take (i + 1) xs) ≡ map component_model (take i xs) ++ component_model x ∷ []
seen_more xs i x inside is = ap (map component_model) (front_more xs i x inside is) ∙ map_push (take i xs) x

pub more_parts : (R : PartReading) (t : Table) (p now : Place) (xs : List ComponentDeclaration) (i : ℕ) (x : ComponentDeclaration) (start before new : Result (List Part) Fault) → i < length xs → x ≡ get_or xs i x → now ≡ after_components p (map component_model (take i xs)) → before ≡ parts_after R t p start (map component_model (take i xs)) → new ≡ parts_of_both before (component_parts R t now (component_model x)) → new ≡ parts_after R t p start (map component_model (take (i + 1) xs))
more_parts R t p now xs i x start before new inside is there so_far made =
    made
    ∙ ap (λ (r : Result (List Part) Fault). parts_of_both r (component_parts R t now (component_model x))) so_far
    ∙ ap (λ (q : Place). parts_of_both (parts_after R t p start (map component_model (take i xs))) (component_parts R t q (component_model x))) there
    ∙ sym (parts_push R t p start (map component_model (take i xs)) (component_model x))
    ∙ ap (parts_after R t p start) (sym (seen_more xs i x inside is))

pub more_after : (p now new : Place) (xs : List ComponentDeclaration) (i : ℕ) (x : ComponentDeclaration) → i < length xs → x ≡ get_or xs i x → now ≡ after_components p (map component_model (take i xs)) → new ≡ after_component now (component_model x) → new ≡ after_components p (map component_model (take (i + 1) xs))
more_after p now new xs i x inside is there made =
    made
    ∙ ap (λ (q : Place). after_component q (component_model x)) there
    ∙ sym (fold_push after_component p (map component_model (take i xs)) (component_model x))
    ∙ ap (after_components p) (sym (seen_more xs i x inside is))

components-inner : (outer : List Region) (start place : Place) (cs : List ComponentTree) → IsInner outer start place → IsInner outer start (after_components place cs)
components-inner outer start place [] h = h
components-inner outer start place (c ∷ cs) h = components-inner outer start (after_component place c) cs (visible-inner outer start (begun place (defining_names c.names)) (defining_names c.names) (begun-inner outer start place (defining_names c.names) h))

pub region-inner : (place : Place) (cs : List ComponentTree) → IsInner place.regions place (after_components (in_region place) cs)
region-inner place cs = components-inner place.regions place (in_region place) cs (refl, (entered [] place.regions, refl))

-- ---- what is found

-- what may be wrong besides comes before what is made of a subtype
pub unless_model : {A B : Type 0} (d : Option Fault) (f : A → B) (r : Result A Fault) → unless d (map_ok f r) ≡ map_ok f (unless d r)
unless_model {A} {B} None f r = refl
unless_model {A} {B} (Some d) f (Ok a) = refl
unless_model {A} {B} (Some d) f (Err g) = refl

-- the parts of a subtype that is right come after those found; if something is wrong they don't matter
pub found_right : (d : Option Fault) (ps qs : List Part) → unless d (Ok (ps ++ qs)) ≡ parts_of_both (unless d (Ok ps)) (Ok qs)
found_right None ps qs = refl
found_right (Some d) ps qs = refl

pub found_wrong : (d : Option Fault) (ps : List Part) (f : Fault) → unless (earlier d (Some f)) (Ok ps) ≡ parts_of_both (unless d (Ok ps)) (Err f)
found_wrong None ps f = refl
found_wrong (Some d) ps f = refl
