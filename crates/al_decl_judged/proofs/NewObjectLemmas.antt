-- The next object of a declaration.
use Rattle.std.proofs.Common.{◌≡◌, ℕ, ◌+◌, ◌<◌, List, [], ◌∷◌, ◌++◌, length, take, drop, get_or, Result, Ok, Err, sym, ◌∙◌, ap}
use Rattle.std.proofs.lemmas.List.{map_push}
use Rattle.std.proofs.lemmas.List.Sums.{fold_push}
use Rattle.al_base_fault.specs.declared.fault.Fault.{Fault}
use Rattle.al_base_fault.specs.Judging.{next, map_ok}
use Rattle.al_decl_judged.specs.Homonyms.{Counts, with_name}
use Rattle.al_decl_judged.specs.TypeDeclarations.{with_names}
use Rattle.al_decl_judged.specs.declared.names.DefiningName.{DefiningName}
use Rattle.al_decl_judged.specs.declared.new_object.NewObject.{NewObject}
use Rattle.al_decl_judged.specs.declared.new_object.ObjectType.{ObjectType}
use Rattle.al_decl_judged.specs.declared.progress.Progress.{Progress}
use Rattle.al_decl_judged.specs.DefiningNames.{names_of}
use Rattle.al_decl_judged.specs.Objects.{new_object, new_objects}
use Rattle.al_decl_judged.specs.Progressing.{with_all_counted, with_counted}
use Rattle.al_decl_judged.proofs.JudgedLemmas.{seen_after}
use Rattle.al_decl_judged.proofs.NameLemmas.{front_more, rest_more}

-- the next name is counted
pub counted_more : (first now new : Progress) (names : List DefiningName) (i : ℕ) (n : DefiningName) → i < length names → n ≡ get_or names i n → new ≡ with_counted now n.name → now ≡ with_all_counted first (names_of (take i names)) → new ≡ with_all_counted first (names_of (take (i + 1) names))
counted_more first now new names i n inside is counted before =
    counted
    ∙ ap (λ (p : Progress). with_counted p n.name) before
    ∙ ap (λ (c : Counts). record first { homonyms = c }) (sym (fold_push with_name first.homonyms (names_of (take i names)) n.name))
    ∙ ap (λ (ns : List (List ℕ)). with_all_counted first ns) (sym (map_push (λ (m : DefiningName). m.name) (take i names) n))
    ∙ ap (λ (ns : List DefiningName). with_all_counted first (names_of ns)) (sym (front_more names i n inside is))

-- the next object is right
pub objects_more : (now new : Progress) (of : ObjectType) (names : List DefiningName) (i : ℕ) (n : DefiningName) (front : List NewObject) (o : NewObject) (all : Result (List NewObject) Fault) → i < length names → n ≡ get_or names i n → new ≡ with_counted now n.name → Ok o ≡ new_object now of n → map_ok (λ os. front ++ os) (new_objects now of (drop i names)) ≡ all → map_ok (λ os. (front ++ o ∷ []) ++ os) (new_objects new of (drop (i + 1) names)) ≡ all
objects_more now new of names i n front o all inside is counted right before =
    ap (λ (p : Progress). map_ok (λ os. (front ++ o ∷ []) ++ os) (new_objects p of (drop (i + 1) names))) counted
    ∙ sym (seen_after front o (new_objects (with_counted now n.name) of (drop (i + 1) names)))
    ∙ ap (λ (r : Result NewObject Fault). map_ok (λ os. front ++ os) (next r (λ x. map_ok (λ os. x ∷ os) (new_objects (with_counted now n.name) of (drop (i + 1) names))))) right
    ∙ ap (λ (ns : List DefiningName). map_ok (λ os. front ++ os) (new_objects now of ns)) (sym (rest_more names i n inside is))
    ∙ before

-- the next object has a fault
pub object_fault : (now : Progress) (of : ObjectType) (names : List DefiningName) (i : ℕ) (n : DefiningName) (front : List NewObject) (f : Fault) (all : Result (List NewObject) Fault) → i < length names → n ≡ get_or names i n → Err f ≡ new_object now of n → map_ok (λ os. front ++ os) (new_objects now of (drop i names)) ≡ all → Err f ≡ all
object_fault now of names i n front f all inside is wrong before =
    ap (λ (r : Result NewObject Fault). map_ok (λ os. front ++ os) (next r (λ x. map_ok (λ os. x ∷ os) (new_objects (with_counted now n.name) of (drop (i + 1) names))))) wrong
    ∙ ap (λ (ns : List DefiningName). map_ok (λ os. front ++ os) (new_objects now of ns)) (sym (rest_more names i n inside is))
    ∙ before
