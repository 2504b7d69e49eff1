-- What follows from results; what changes of a place that is put in place of another one.
use Rattle.std.proofs.Common.{◌≡◌, Bool, true, false, if◌then◌else◌, List, IfOk, OnOk, Option, Some, None, Result, Ok, Err, refl, ap, ◌∙◌, rules}
use Rattle.al_check_here.specs.Faulty.{effect_settled}
use Rattle.al_check_here.specs.Standings.{with_here}
use Rattle.al_check_here.specs.declared.state.CheckState.{CheckState}
use Rattle.al_decl_judged.specs.Declaring.{DeclaredTree}
use Rattle.al_decl_judged.specs.declared.progress.Progress.{Progress}
use Rattle.al_decl.specs.declared.env.Environment.{Environment}
use Rattle.al_base_fault.specs.declared.fault.Fault.{Fault}
use Rattle.al_query.specs.declared.answer.Completion.{Completion}
use Rattle.al_scope.specs.Places.{Place}
use Rattle.al_scope.specs.declared.region.Region.{Region}
use Rattle.al_decl_judged.specs.declared.heading.Heading.{Heading}
use Rattle.al_view_typed.specs.DeclarationTrees.{DeclarationTree}
use Rattle.al_view.specs.Named.{Declarations}
use Rattle.al_view.specs.declared.symbol.Symbol.{Symbol}
use Rattle.al_base_fault.specs.Judging.{map_ok, unless}
use Rattle.al_check_here.specs.BodiesHere.{nested_entered}
use Rattle.al_check_here.specs.declared.state.AnalyzedHeading.{AnalyzedHeading}
use Rattle.al_check_here.specs.declared.state.BodyRole.{BodyRole}
use Rattle.al_check_here.specs.declared.state.OpenObject.{OpenObject}
use Rattle.al_check_declared.specs.OpenObjects.{is_of_object, renewed_in}
use Rattle.al_decl_judged.specs.Headings.{is_function}
use Rattle.al_check_declared.specs.EnteredHere.{nested_body}
use Rattle.al_decl.specs.Checking.{at_place}
use Rattle.al_decl_judged.specs.declared.names.DefiningName.{DefiningName}
use Rattle.al_decl_protected.specs.Bodies.{Named, named_model}
use Rattle.al_decl_protected.specs.declared.body.NamedBody.{NamedBody}
use Rattle.al_tree_syntax.specs.StatementTrees.{OperationBodiesTree}
use Rattle.al_view.specs.declared.view.ViewKind.{ViewKind}
use Rattle.al_check_declared.specs.HeadsHere.{head_settled, stub_settled}
use Rattle.al_check_declared.specs.ObjectsHere.{named_settled, object_settled, operation_settled}
use Rattle.al_check_declared.specs.WholeHere.{own_settled, whole_settled, with_taken}

pub if_ok : {A E : Type 0} (r : Result A E) (P Q : A → Type 0) → ((a : A) → P a → Q a) → IfOk r P → IfOk r Q
if_ok (Ok a) P Q f h = f a h
if_ok (Err e) P Q f h = search rules

pub on_ok : {A E : Type 0} (r : Result A E) (P Q : Type 0) → (P → Q) → OnOk r P → OnOk r Q
on_ok (Ok a) P Q f h = f h
on_ok (Err e) P Q f h = search rules

pub on_if_ok : {A E : Type 0} (r : Result A E) (P Q : Type 0) → (P → Q) → IfOk r (λ _. P) → OnOk r Q
on_if_ok (Ok a) P Q f h = f h
on_if_ok (Err e) P Q f h = search rules

pub place-is : (p q : Place) → p.mentioned ≡ q.mentioned → p.regions ≡ q.regions → p ≡ q
place-is p q m r =
    ap (λ (x : Declarations). record p { mentioned = x }) m ∙ ap (λ (x : List Region). record q { regions = x }) r

pub effect_same : (h : CheckState) (p : Environment) (x : Result (Environment × Option DeclarationTree) Fault) → effect_settled (with_here h p) x ≡ effect_settled h x
effect_same h p (Ok x) = refl
effect_same h p (Err f) = refl

pub stub_same : (h : CheckState) (p : Environment) (head : Heading) (x : Result (Environment × (Option DeclarationTree × Symbol)) Fault) → stub_settled (with_here h p) head x ≡ stub_settled h head x
stub_same h p head (Ok x) = refl
stub_same h p head (Err f) = refl

pub head_same : (h : CheckState) (p : Environment) (head : Heading) (x : Result (Environment × (Option DeclarationTree × Symbol)) Fault) → head_settled (with_here h p) head x ≡ head_settled h head x
head_same h p head (Ok x) = refl
head_same h p head (Err f) = refl

pub own_same : (h : CheckState) (p : Progress) (w : List Completion) (x : Result ((Progress × List Completion) × DeclaredTree) Fault)
    → own_settled (with_here h (with_taken h.env p w)) x ≡ own_settled h x
own_same h p w (Ok x) = refl
own_same h p w (Err f) = refl

pub whole_same : (h : CheckState) (p : Progress) (w : List Completion) (head : Heading) (x : Result ((Progress × List Completion) × (DeclaredTree × Symbol)) Fault)
    → whole_settled (with_here h (with_taken h.env p w)) head x ≡ whole_settled h head x
whole_same h p w head (Ok x) = refl
whole_same h p w head (Err f) = refl

pub operation_same : (h : CheckState) (p : Environment) (head : Heading) (x : Result (Environment × (Option DeclarationTree × Symbol)) Fault) → operation_settled (with_here h p) head x ≡ operation_settled h head x
operation_same h p head (Ok x) = refl
operation_same h p head (Err f) = refl

pub named_same : (h : CheckState) (p : Environment) (role : BodyRole) (n : DefiningName) (x : Result Named Fault) → named_settled (with_here h p) role n x ≡ named_settled h role n x
named_same h p role n (Ok x) = refl
named_same h p role n (Err f) = refl

pub object_same : (h : CheckState) (p : Environment) (os : OperationBodiesTree) (x : Result Named Fault) → object_settled (with_here h p) os x ≡ object_settled h os x
object_same h p os (Ok x) = refl
object_same h p os (Err f) = refl

-- with one more error, at a place
pub entry_made : (e : Environment) (wrong : Option Fault) (checked made : Result NamedBody Fault) (x : Result Named Fault)
    → made ≡ unless wrong checked → at_place e (map_ok named_model checked) ≡ x → at_place e (map_ok named_model made) ≡ unless wrong x
entry_made e wrong checked made x made_is is =
    ap (λ (m : Result NamedBody Fault). at_place e (map_ok named_model m)) made_is ∙ placed e wrong checked ∙ ap (unless wrong) is
  where
    placed : (e : Environment) (wrong : Option Fault) (checked : Result NamedBody Fault) → at_place e (map_ok named_model (unless wrong checked)) ≡ unless wrong (at_place e (map_ok named_model checked))
    placed e None checked = refl
    placed e (Some f) (Ok b) = refl
    placed e (Some f) (Err g) = refl

-- the head that was read is kept no longer than till its body is entered
pub nested_kept : (h : CheckState) (p : Option AnalyzedHeading) (read : AnalyzedHeading) → nested_body h read ≡ nested_body (record h { pending = p }) read
nested_kept h p read = by_cases (is_of_object read.role) h.object
  where
    by_cases : (b : Bool) (o : Option OpenObject)
        → nested_entered (if b then renewed_in h (is_function read.heading.returned) o else h) read
        ≡ nested_entered (if b then renewed_in (record h { pending = p }) (is_function read.heading.returned) o else record h { pending = p }) read
    by_cases false o = refl
    by_cases true None = refl
    by_cases true (Some o) = refl
