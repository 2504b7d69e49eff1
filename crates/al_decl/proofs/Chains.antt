-- A declaration by what was asked, begun and read before it, and what was declared then.
use Rattle.std.proofs.Common.{◌≡◌, ℕ, Bool, List, [], ◌∷◌, slice_get, Option, Some, None, IfOk, Result, Ok, Err, refl, ap, ◌∙◌, rules}
use Rattle.al_decl_judged.specs.Declaring.{DeclaredTree, joined}
use Rattle.al_decl_judged.specs.DefiningNames.{names_of}
use Rattle.al_decl_judged.specs.Objects.{new_objects, objects_declared, objects_fault, placed_objects}
use Rattle.al_decl_judged.specs.Progressing.{with_all_counted}
use Rattle.al_decl_judged.specs.declared.new_object.ObjectType.{ObjectType}
use Rattle.al_decl.specs.Declaring.{begun, duplicates}
use Rattle.al_decl_judged.specs.Rules.{optional}
use Rattle.al_decl_judged.specs.declared.names.DefiningName.{DefiningName}
use Rattle.al_decl_judged.specs.declared.new_object.NewObject.{NewObject}
use Rattle.al_decl_judged.specs.declared.progress.Progress.{Progress}
use Rattle.al_decl.specs.declared.env.Environment.{Environment}
use Rattle.al_base_fault.specs.Judging.{both, next, map_ok, unless}
use Rattle.al_base_fault.specs.declared.fault.Fault.{Fault}
use Rattle.al_decl.specs.PartReadings.{PartReading}
use Rattle.al_scope.specs.Places.{Place}
use Rattle.al_query.specs.Reads.{Table}
use Rattle.al_tree_syntax.specs.DeclarationTrees.{ObjectTypeTree}
use Rattle.al_tree_syntax.specs.ExpressionTrees.{ExpressionTree}
use Rattle.al_view.specs.declared.view.ViewKind.TheVariants.{OfComponent}
use Rattle.al_view_typed.specs.DeclarationTrees.{DeclarationTree}
use Rattle.al_view_typed.specs.ExpressionTrees.{TypedTree}
use Rattle.al_decl.specs.Checking.{finished, with_progress}
use Rattle.al_decl.specs.Forms.{first_read, objects_read, type_read, value_read}

-- what follows from a value follows from a result that may have it
pub if_ok : {A E : Type 0} (r : Result A E) (P Q : A → Type 0) → ((a : A) → P a → Q a) → IfOk r P → IfOk r Q
if_ok (Ok a) P Q f h = f a h
if_ok (Err e) P Q f h = search rules

pub if_ok_both : {A E : Type 0} (r : Result A E) (P Q S : A → Type 0) → ((a : A) → P a → Q a → S a) → IfOk r P → IfOk r Q → IfOk r S
if_ok_both (Ok a) P Q S f h k = f a h k
if_ok_both (Err e) P Q S f h k = search rules

-- two that are judged are seen as one is
pub both_model : {A B C D : Type 0} (f : A → C) (g : B → D) (a : Result A Fault) (b : Result B Fault) → both (map_ok f a) (map_ok g b) ≡ map_ok (λ (p : A × B). (f p.0, g p.1)) (both a b)
both_model {A} {B} {C} {D} f g (Ok a) (Ok b) = refl
both_model {A} {B} {C} {D} f g (Ok a) (Err e) = refl
both_model {A} {B} {C} {D} f g (Err e) (Ok b) = refl
both_model {A} {B} {C} {D} f g (Err e) (Err x) = refl

-- the value of the first of several objects
pub first_is : (R : PartReading) (place : Place) (os : List NewObject) (o : NewObject) (e : ExpressionTree) → slice_get os 0 ≡ Some o → first_read R place os e ≡ Some (R.value place o.subtype e)
first_is R place [] o e h = absurd (cc)
first_is R place (x ∷ xs) o e h =
    let same : x ≡ o = cc in
    ap (λ (y : NewObject). Some (R.value place y.subtype e)) same

-- the end of a declaration at a place where something was begun
pub finishes : (inner start : Environment) (p : Progress) (J : Result DeclaredTree Fault) (D : Result (Progress × DeclaredTree) Fault) (X : Result (Environment × Option DeclarationTree) Fault) → X ≡ finished inner (joined inner.progress J) → joined inner.progress J ≡ D → with_progress inner p ≡ start → X ≡ finished start D
finishes inner start p J D X made is same = made ∙ ap (finished inner) is ∙ ap (λ (h : Environment). finished h D) same

-- objects of a faulty type declare nothing, whatever was counted
faulty : (p q : Progress) (line : ℕ) (constant : Bool) (d : Option Fault) (f : Fault) (v : Result (Option TypedTree) Fault) → map_ok (λ (o : List NewObject × Option TypedTree). placed_objects p line constant o.0 o.1) (unless d (both (Err f) v)) ≡ map_ok (λ (o : List NewObject × Option TypedTree). placed_objects q line constant o.0 o.1) (unless d (both (Err f) v))
faulty p q line constant None f (Ok v) = refl
faulty p q line constant None f (Err g) = refl
faulty p q line constant (Some d) f (Ok v) = refl
faulty p q line constant (Some d) f (Err g) = refl

-- objects that were judged, with what was counted for them
pub objects_on : (p q : Progress) (line : ℕ) (constant : Bool) (d : Option Fault) (names : List DefiningName) (os O : Result (List NewObject) Fault) (V : Result (List NewObject) Fault → Option (Result TypedTree Fault)) → joined p os ≡ map_ok (λ (x : List NewObject). (q, x)) O → objects_declared p line constant d names os (V os) ≡ objects_declared q line constant d names O (V O)
objects_on p q line constant d names (Ok a) (Ok b) V e =
    let pair : (p, a) ≡ (q, b) = cc in
    let same = ap (λ (x : Progress × List NewObject). x.0) pair in
    let objects = ap (λ (x : Progress × List NewObject). x.1) pair in
    ap (λ (r : Progress). objects_declared r line constant d names (Ok a) (V (Ok a))) same
    ∙ ap (λ (x : List NewObject). objects_declared q line constant d names (Ok x) (V (Ok x))) objects
objects_on p q line constant d names (Ok a) (Err g) V e = absurd (cc)
objects_on p q line constant d names (Err f) (Ok b) V e = absurd (cc)
objects_on p q line constant d names (Err f) (Err g) V e =
    let same : f ≡ g = cc in
    faulty p q line constant (objects_fault constant _ d names) f (optional (V (Err f)))
    ∙ ap (λ (x : Fault). objects_declared q line constant d names (Err x) (V (Err x))) same

-- the objects of a type and a value that were read
pub objects_chain : (R : PartReading) (t : Table) (h : Environment) (line : ℕ) (constant : Bool) (names : List DefiningName) (type : ObjectTypeTree) (initial : Option ExpressionTree) (place : Place) (p : Progress) (d : Option Fault) (of : Result ObjectType Fault) (os : Result (List NewObject) Fault) (X : Result (Progress × DeclaredTree) Fault)
    → X ≡ objects_declared p line constant d names os (value_read R place os initial)
    → joined p os ≡ map_ok (λ (x : List NewObject). (with_all_counted h.progress (names_of names), x)) (next of (λ (o : ObjectType). new_objects h.progress o names))
    → d ≡ duplicates t h.scope OfComponent names
    → of ≡ type_read R place type
    → place ≡ begun h.scope names
    → X ≡ objects_declared (with_all_counted h.progress (names_of names)) line constant (duplicates t h.scope OfComponent names) names (objects_read R h names type) (value_read R (begun h.scope names) (objects_read R h names type) initial)
objects_chain R t h line constant names type initial place p d of os X made counted duplicate read began =
    made
    ∙ objects_on p q line constant d names os (made_of of) (λ (x : Result (List NewObject) Fault). value_read R place x initial) counted
    ∙ ap (λ (x : Option Fault). objects_declared q line constant x names (made_of of) (value_read R place (made_of of) initial)) duplicate
    ∙ ap (λ (x : Result ObjectType Fault). objects_declared q line constant D names (made_of x) (value_read R place (made_of x) initial)) read
    ∙ ap (λ (x : Place). objects_declared q line constant D names (made_of (type_read R x type)) (value_read R x (made_of (type_read R x type)) initial)) began
  where
    q : Progress
    q = with_all_counted h.progress (names_of names)

    D : Option Fault
    D = duplicates t h.scope OfComponent names

    made_of : Result ObjectType Fault → Result (List NewObject) Fault
    made_of x = next x (λ (o : ObjectType). new_objects h.progress o names)
