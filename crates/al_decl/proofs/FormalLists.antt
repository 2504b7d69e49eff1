-- One more list of formals.
use Rattle.std.proofs.Common.{◌≡◌, ℕ, ◌+◌, ◌<◌, List, [], ◌∷◌, ◌++◌, length, map, take, get_or, refl, sym, ap, ◌∙◌, append_assoc, append-nil}
use Rattle.std.specs.Prelude.{fold}
use Rattle.std.proofs.lemmas.List.Sums.{fold_push}
use Rattle.al_decl_judged.proofs.NameLemmas.{front_more}
use Rattle.al_decl.specs.PartReadings.{PartReading}
use Rattle.al_scope.specs.Places.{Place, entered}
use Rattle.al_scope.specs.declared.region.Region.{Region}
use Rattle.al_decl_judged.specs.declared.heading.FormalPart.{FormalPart}
use Rattle.al_tree_syntax.specs.DeclarationTrees.{FormalTree}
use Rattle.al_tree.specs.DeclarationViews.{formal_model}
use Rattle.al_tree.specs.declared.declaration.Formal.{Formal}
use Rattle.al_decl.proofs.Innermost.{IsInner, begun-inner, visible-inner}
use Rattle.al_decl.specs.Declaring.{begun}
use Rattle.al_decl.specs.Inner.{in_region}
use Rattle.al_decl.specs.Defining.{defining_names}
use Rattle.al_decl.specs.Formals.{after_formal, after_formals, formals_read, one_read}

read_push : (R : PartReading) (p : Place) (fs : List FormalTree) (f : FormalTree) → formals_read R p (fs ++ f ∷ []) ≡ formals_read R p fs ++ one_read R (after_formals p fs) f
read_push R p [] f = append-nil (one_read R p f)
read_push R p (x ∷ xs) f =
    ap (λ (l : List FormalPart). one_read R p x ++ l) (read_push R (after_formal p x) xs f)
    ∙ sym (append_assoc (one_read R p x) (formals_read R (after_formal p x) xs) (one_read R (after_formals p (x ∷ xs)) f))

map_push : (xs : List Formal) (x : Formal) → map formal_model (xs ++ x ∷ []) ≡ map formal_model xs ++ formal_model x ∷ []
map_push [] x = refl
map_push (y ∷ ys) x = ap (λ (l : List FormalTree). formal_model y ∷ l) (map_push ys x)

seen_more : (xs : List Formal) (i : ℕ) (x : Formal) → i < length xs → x ≡ get_or xs i x → map formal_model (take (i + 1) xs) ≡ map formal_model (take i xs) ++ formal_model x ∷ []
seen_more xs i x inside is = ap (map formal_model) (front_more xs i x inside is) ∙ map_push (take i xs) x

pub more_read : (R : PartReading) (p now : Place) (xs : List Formal) (i : ℕ) (x : Formal) (start before new : List FormalPart) → i < length xs → x ≡ get_or xs i x → now ≡ after_formals p (map formal_model (take i xs)) → before ≡ start ++ formals_read R p (map formal_model (take i xs)) → new ≡ before ++ one_read R now (formal_model x) → new ≡ start ++ formals_read R p (map formal_model (take (i + 1) xs))
more_read R p now xs i x start before new inside is there so_far made =
    made
    ∙ ap (λ (l : List FormalPart). l ++ one_read R now (formal_model x)) so_far
    ∙ ap (λ (q : Place). (start ++ formals_read R p (map formal_model (take i xs))) ++ one_read R q (formal_model x)) there
    ∙ append_assoc start (formals_read R p (map formal_model (take i xs))) (one_read R (after_formals p (map formal_model (take i xs))) (formal_model x))
    ∙ ap (λ (l : List FormalPart). start ++ l) (sym (read_push R p (map formal_model (take i xs)) (formal_model x)))
    ∙ ap (λ (fs : List FormalTree). start ++ formals_read R p fs) (sym (seen_more xs i x inside is))

pub more_after : (p now new : Place) (xs : List Formal) (i : ℕ) (x : Formal) → i < length xs → x ≡ get_or xs i x → now ≡ after_formals p (map formal_model (take i xs)) → new ≡ after_formal now (formal_model x) → new ≡ after_formals p (map formal_model (take (i + 1) xs))
more_after p now new xs i x inside is there made =
    made
    ∙ ap (λ (q : Place). after_formal q (formal_model x)) there
    ∙ sym (fold_push after_formal p (map formal_model (take i xs)) (formal_model x))
    ∙ ap (after_formals p) (sym (seen_more xs i x inside is))

-- ---- what is round the region of formals is unchanged

formals-inner : (outer : List Region) (start place : Place) (fs : List FormalTree) → IsInner outer start place → IsInner outer start (after_formals place fs)
formals-inner outer start place [] h = h
formals-inner outer start place (f ∷ fs) h = formals-inner outer start (after_formal place f) fs (visible-inner outer start (begun place (defining_names f.names)) (defining_names f.names) (begun-inner outer start place (defining_names f.names) h))

pub region-inner : (place : Place) (fs : List FormalTree) → IsInner place.regions place (after_formals (in_region place) fs)
region-inner place fs = formals-inner place.regions place (in_region place) fs (refl, (entered [] place.regions, refl))
