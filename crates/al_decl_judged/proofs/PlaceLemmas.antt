-- The next object takes its words.
use Rattle.std.proofs.Common.{◌≡◌, ℕ, ◌+◌, ◌<◌, Bool, List, [], ◌∷◌, ◌++◌, length, take, get_or, Option, refl, sym, ◌∙◌, ap}
use Rattle.std.proofs.lemmas.List.Sums.{fold_push}
use Rattle.al_view.specs.declared.types.StaticValue.{StaticValue}
use Rattle.al_view.specs.declared.view.ObjectPlace.{ObjectPlace}
use Rattle.al_decl_judged.specs.declared.declaration.Declaration.{Declaration}
use Rattle.al_decl_judged.specs.TypeObjects.{object_view}
use Rattle.al_decl_judged.specs.TypeDeclarations.{declared_as}
use Rattle.al_decl_judged.specs.declared.new_object.NewObject.{NewObject}
use Rattle.al_decl_judged.specs.declared.progress.Progress.{Progress}
use Rattle.al_decl_judged.specs.Objects.{objects_of, places_of, with_object, with_objects}
use Rattle.al_decl_judged.specs.Progressing.{next_place}
use Rattle.al_decl_judged.proofs.NameLemmas.{front_more}

places_of-push : (p : Progress) (os : List NewObject) (o : NewObject) → places_of p (os ++ o ∷ []) ≡ places_of p os ++ next_place (with_objects p os) o.symbol ∷ []
places_of-push p [] o = refl
places_of-push p (x ∷ xs) o = ap (λ (l : List ObjectPlace). next_place p x.symbol ∷ l) (places_of-push (with_object p x) xs o)

objects_of-push : (p : Progress) (constant : Bool) (value : Option StaticValue) (os : List NewObject) (o : NewObject) → objects_of p constant value (os ++ o ∷ []) ≡ objects_of p constant value os ++ declared_as o.name (object_view o.subtype constant value (next_place (with_objects p os) o.symbol)) ∷ []
objects_of-push p constant value [] o = refl
objects_of-push p constant value (x ∷ xs) o =
    ap (λ (l : List Declaration). declared_as x.name (object_view x.subtype constant value (next_place p x.symbol)) ∷ l) (objects_of-push (with_object p x) constant value xs o)

pub taken_more : (first now new : Progress) (objects : List NewObject) (i : ℕ) (o : NewObject) → i < length objects → o ≡ get_or objects i o → new ≡ with_object now o → now ≡ with_objects first (take i objects) → new ≡ with_objects first (take (i + 1) objects)
taken_more first now new objects i o inside is taken before =
    taken
    ∙ ap (λ (p : Progress). with_object p o) before
    ∙ sym (fold_push with_object first (take i objects) o)
    ∙ ap (λ (os : List NewObject). with_objects first os) (sym (front_more objects i o inside is))

pub places_more : (first now : Progress) (objects : List NewObject) (i : ℕ) (o : NewObject) (before new : List ObjectPlace) → i < length objects → o ≡ get_or objects i o → new ≡ before ++ next_place now o.symbol ∷ [] → now ≡ with_objects first (take i objects) → before ≡ places_of first (take i objects) → new ≡ places_of first (take (i + 1) objects)
places_more first now objects i o before new inside is made so_far placed =
    made
    ∙ ap (λ (l : List ObjectPlace). l ++ next_place now o.symbol ∷ []) placed
    ∙ ap (λ (p : Progress). places_of first (take i objects) ++ next_place p o.symbol ∷ []) so_far
    ∙ sym (places_of-push first (take i objects) o)
    ∙ ap (λ (os : List NewObject). places_of first os) (sym (front_more objects i o inside is))

pub declared_more : (first now : Progress) (constant : Bool) (value : Option StaticValue) (objects : List NewObject) (i : ℕ) (o : NewObject) (before new : List Declaration) → i < length objects → o ≡ get_or objects i o → new ≡ before ++ declared_as o.name (object_view o.subtype constant value (next_place now o.symbol)) ∷ [] → now ≡ with_objects first (take i objects) → before ≡ objects_of first constant value (take i objects) → new ≡ objects_of first constant value (take (i + 1) objects)
declared_more first now constant value objects i o before new inside is made so_far declared =
    made
    ∙ ap (λ (l : List Declaration). l ++ declared_as o.name (object_view o.subtype constant value (next_place now o.symbol)) ∷ []) declared
    ∙ ap (λ (p : Progress). objects_of first constant value (take i objects) ++ declared_as o.name (object_view o.subtype constant value (next_place p o.symbol)) ∷ []) so_far
    ∙ sym (objects_of-push first constant value (take i objects) o)
    ∙ ap (λ (os : List NewObject). objects_of first constant value os) (sym (front_more objects i o inside is))
