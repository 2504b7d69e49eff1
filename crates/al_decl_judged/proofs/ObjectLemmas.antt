-- Objects with a value that is right or wrong.
use Rattle.std.proofs.Common.{◌≡◌, ℕ, Bool, List, Option, Some, None, option_map, Result, Ok, Err, refl, sym, ◌∙◌, ap}
use Rattle.std.specs.Prelude.{is_some}
use Rattle.al_base_fault.specs.declared.fault.Fault.{Fault}
use Rattle.al_base_fault.specs.Judging.{both, map_ok, unless}
use Rattle.al_view_typed.specs.declared.expression.Typed.{Typed}
use Rattle.al_view_typed.specs.ExpressionTrees.{TypedTree}
use Rattle.al_view_typed.specs.ExpressionViews.{typed_model}
use Rattle.al_decl_judged.specs.declared.names.DefiningName.{DefiningName}
use Rattle.al_decl_judged.specs.declared.new_object.NewObject.{NewObject}
use Rattle.al_decl_judged.specs.declared.progress.Progress.{Progress}
use Rattle.al_decl_judged.specs.Declaring.{DeclaredTree}
use Rattle.al_decl_judged.specs.Objects.{objects_declared, objects_fault, placed_objects}
use Rattle.al_decl_judged.specs.Rules.{optional}
use Rattle.al_decl_judged.proofs.JudgedLemmas.{seen_second}

same_presence : {A B : Type 0} (f : A → B) (x : Option A) → is_some (option_map f x) ≡ is_some x
same_presence f None = refl
same_presence f (Some a) = refl

abbrev placed_by : ℕ → Progress → Bool → Result (List NewObject × Option Typed) Fault → Result (Progress × DeclaredTree) Fault
placed_by line p constant checked =
    map_ok (λ (o : List NewObject × Option TypedTree). placed_objects p line constant o.0 o.1) (map_ok (λ (q : List NewObject × Option Typed). (q.0, option_map typed_model q.1)) checked)

declared_checked : (p : Progress) (line : ℕ) (constant : Bool) (duplicate : Option Fault) (names : List DefiningName) (objects : Result (List NewObject) Fault) (value : Option (Result Typed Fault)) (checked : Result (Option Typed) Fault) (fault : Option Fault) (found : Result (List NewObject × Option Typed) Fault) → map_ok (option_map typed_model) checked ≡ optional (option_map (map_ok typed_model) value) → fault ≡ objects_fault constant (is_some value) duplicate names → unless fault (both objects checked) ≡ found → objects_declared p line constant duplicate names objects (option_map (map_ok typed_model) value) ≡ placed_by line p constant found
declared_checked p line constant duplicate names objects value checked fault found seen wrong is_found =
    let made : List NewObject × Option TypedTree → Progress × DeclaredTree = λ o. placed_objects p line constant o.0 o.1 in
    let see : Option Typed → Option TypedTree = option_map typed_model in
    let given : Option (Result TypedTree Fault) = option_map (map_ok typed_model) value in
    ap (λ (b : Bool). map_ok made (unless (objects_fault constant b duplicate names) (both objects (optional given)))) (same_presence (map_ok typed_model) value)
    ∙ ap (λ (f : Option Fault). map_ok made (unless f (both objects (optional given)))) (sym wrong)
    ∙ ap (λ (r : Result (Option TypedTree) Fault). map_ok made (unless fault (both objects r))) (sym seen)
    ∙ ap (λ (r : Result (List NewObject × Option TypedTree) Fault). map_ok made r) (sym (seen_second see fault objects checked))
    ∙ ap (λ (r : Result (List NewObject × Option Typed) Fault). map_ok made (map_ok (λ (q : List NewObject × Option Typed). (q.0, see q.1)) r)) is_found

pub declared_right : (p : Progress) (line : ℕ) (constant : Bool) (duplicate : Option Fault) (names : List DefiningName) (objects : Result (List NewObject) Fault) (value : Option (Result Typed Fault)) (checked : Result (Option Typed) Fault) (fault : Option Fault) (os : List NewObject) (v : Option Typed) → map_ok (option_map typed_model) checked ≡ optional (option_map (map_ok typed_model) value) → fault ≡ objects_fault constant (is_some value) duplicate names → unless fault (both objects checked) ≡ Ok (os, v) → objects_declared p line constant duplicate names objects (option_map (map_ok typed_model) value) ≡ Ok (placed_objects p line constant os (option_map typed_model v))
declared_right p line constant duplicate names objects value checked fault os v seen wrong right = declared_checked p line constant duplicate names objects value checked fault (Ok (os, v)) seen wrong right

pub declared_wrong : (p : Progress) (line : ℕ) (constant : Bool) (duplicate : Option Fault) (names : List DefiningName) (objects : Result (List NewObject) Fault) (value : Option (Result Typed Fault)) (checked : Result (Option Typed) Fault) (fault : Option Fault) (f : Fault) → map_ok (option_map typed_model) checked ≡ optional (option_map (map_ok typed_model) value) → fault ≡ objects_fault constant (is_some value) duplicate names → unless fault (both objects checked) ≡ Err f → objects_declared p line constant duplicate names objects (option_map (map_ok typed_model) value) ≡ Err f
declared_wrong p line constant duplicate names objects value checked fault f seen wrong found = declared_checked p line constant duplicate names objects value checked fault (Err f) seen wrong found
