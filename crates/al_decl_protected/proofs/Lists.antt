-- Lists of operations and of components, of which a faulty one ends the rest.
use Rattle.std.proofs.Common.{◌≡◌, ℕ, ◌+◌, ◌<◌, ◌≤◌, List, ◌∷◌, length, map, drop, get_or, Result, Ok, Err, sym, ap, ◌∙◌}
use Rattle.std.proofs.lemmas.List.{at_drop_all, at_drop_more}
use Rattle.al_base_fault.specs.Judging.{next}
use Rattle.al_base_fault.specs.declared.fault.Fault.{Fault}
use Rattle.al_decl.specs.declared.env.Environment.{Environment}
use Rattle.al_decl.specs.PartReadings.{PartReading}
use Rattle.al_query.specs.Reads.{Table}
use Rattle.al_scope.specs.Places.{Place}
use Rattle.al_tree.specs.DeclarationViews.{protected_component_model, protected_operation_model}
use Rattle.al_tree.specs.declared.declaration.ProtectedComponent.{ProtectedComponent}
use Rattle.al_tree.specs.declared.declaration.ProtectedOperation.{ProtectedOperation}
use Rattle.al_view.specs.declared.symbol.Symbol.{Symbol}
use Rattle.al_view.specs.declared.view.Operation.{Operation}
use Rattle.al_decl_protected.specs.Components.{PrivateTree, after_component, component_checked, components_checked}
use Rattle.al_decl_protected.specs.Operations.{Declared, operation_checked, operations_checked}

-- ---- operations

abbrev rest_of : PartReading → Table → Environment → Symbol → List Operation → List ProtectedOperation → Result Declared Fault
rest_of R t h object operations texts = operations_checked R t h object operations (map protected_operation_model texts)

-- the first of those that are left
operations_first : (R : PartReading) (t : Table) (h : Environment) (object : Symbol) (operations : List Operation) (texts : List ProtectedOperation) (i : ℕ) (x : ProtectedOperation) → i < length texts → x ≡ get_or texts i x
    → rest_of R t h object operations (drop i texts) ≡ next (operation_checked R t h object operations (protected_operation_model x)) (λ (d : Declared). rest_of R t d.0 object d.1 (drop (i + 1) texts))
operations_first R t h object operations texts i x inside is =
    at_drop_more (rest_of R t h object operations) texts i x inside
    ∙ ap (λ (y : ProtectedOperation). rest_of R t h object operations (y ∷ drop (i + 1) texts)) (sym is)

pub operations_more : (R : PartReading) (t : Table) (h : Environment) (object : Symbol) (operations : List Operation) (texts : List ProtectedOperation) (i : ℕ) (x : ProtectedOperation) (d : Declared) → i < length texts → x ≡ get_or texts i x → Ok d ≡ operation_checked R t h object operations (protected_operation_model x)
    → rest_of R t d.0 object d.1 (drop (i + 1) texts) ≡ rest_of R t h object operations (drop i texts)
operations_more R t h object operations texts i x d inside is right =
    ap (λ (r : Result Declared Fault). next r (λ (e : Declared). rest_of R t e.0 object e.1 (drop (i + 1) texts))) right
    ∙ sym (operations_first R t h object operations texts i x inside is)

pub operations_stop : (R : PartReading) (t : Table) (h : Environment) (object : Symbol) (operations : List Operation) (texts : List ProtectedOperation) (i : ℕ) (x : ProtectedOperation) (f : Fault) → i < length texts → x ≡ get_or texts i x → Err f ≡ operation_checked R t h object operations (protected_operation_model x)
    → Err f ≡ rest_of R t h object operations (drop i texts)
operations_stop R t h object operations texts i x f inside is wrong =
    ap (λ (r : Result Declared Fault). next r (λ (e : Declared). rest_of R t e.0 object e.1 (drop (i + 1) texts))) wrong
    ∙ sym (operations_first R t h object operations texts i x inside is)

pub operations_end : (R : PartReading) (t : Table) (h : Environment) (object : Symbol) (operations : List Operation) (texts : List ProtectedOperation) (i : ℕ) → length texts ≤ i → Ok (h, operations) ≡ rest_of R t h object operations (drop i texts)
operations_end R t h object operations texts i past = sym (at_drop_all (rest_of R t h object operations) texts i past)

-- ---- components

abbrev left_of : PartReading → Table → Place → PrivateTree → List ProtectedComponent → Result PrivateTree Fault
left_of R t place so_far texts = components_checked R t place so_far (map protected_component_model texts)

components_first : (R : PartReading) (t : Table) (place : Place) (so_far : PrivateTree) (texts : List ProtectedComponent) (i : ℕ) (x : ProtectedComponent) → i < length texts → x ≡ get_or texts i x
    → left_of R t place so_far (drop i texts) ≡ next (component_checked R t place so_far (protected_component_model x)) (λ (s : PrivateTree). left_of R t (after_component place (protected_component_model x)) s (drop (i + 1) texts))
components_first R t place so_far texts i x inside is =
    at_drop_more (left_of R t place so_far) texts i x inside
    ∙ ap (λ (y : ProtectedComponent). left_of R t place so_far (y ∷ drop (i + 1) texts)) (sym is)

pub components_more : (R : PartReading) (t : Table) (place new : Place) (so_far : PrivateTree) (texts : List ProtectedComponent) (i : ℕ) (x : ProtectedComponent) (s : PrivateTree) → i < length texts → x ≡ get_or texts i x → new ≡ after_component place (protected_component_model x) → Ok s ≡ component_checked R t place so_far (protected_component_model x)
    → left_of R t new s (drop (i + 1) texts) ≡ left_of R t place so_far (drop i texts)
components_more R t place new so_far texts i x s inside is there right =
    ap (λ (p : Place). left_of R t p s (drop (i + 1) texts)) there
    ∙ ap (λ (r : Result PrivateTree Fault). next r (λ (e : PrivateTree). left_of R t (after_component place (protected_component_model x)) e (drop (i + 1) texts))) right
    ∙ sym (components_first R t place so_far texts i x inside is)

pub components_stop : (R : PartReading) (t : Table) (place : Place) (so_far : PrivateTree) (texts : List ProtectedComponent) (i : ℕ) (x : ProtectedComponent) (f : Fault) → i < length texts → x ≡ get_or texts i x → Err f ≡ component_checked R t place so_far (protected_component_model x)
    → Err f ≡ left_of R t place so_far (drop i texts)
components_stop R t place so_far texts i x f inside is wrong =
    ap (λ (r : Result PrivateTree Fault). next r (λ (e : PrivateTree). left_of R t (after_component place (protected_component_model x)) e (drop (i + 1) texts))) wrong
    ∙ sym (components_first R t place so_far texts i x inside is)

pub components_end : (R : PartReading) (t : Table) (place : Place) (so_far : PrivateTree) (texts : List ProtectedComponent) (i : ℕ) → length texts ≤ i → Ok so_far ≡ left_of R t place so_far (drop i texts)
components_end R t place so_far texts i past = sym (at_drop_all (left_of R t place so_far) texts i past)
