-- What is inside a protected object, in steps.
use Rattle.std.proofs.Common.{◌≡◌, List, Result, Ok, Err, refl, ap, ◌∙◌}
use Rattle.al_base_fault.specs.Judging.{map_ok, next}
use Rattle.al_base_fault.specs.declared.fault.Fault.{Fault}
use Rattle.al_decl.specs.declared.env.Environment.{Environment}
use Rattle.al_decl_judged.specs.declared.progress.Progress.{Progress}
use Rattle.al_decl.specs.PartReadings.{PartReading}
use Rattle.al_query.specs.Reads.{Table}
use Rattle.al_tree_syntax.specs.DeclarationTrees.{ProtectedTree}
use Rattle.al_view.specs.declared.symbol.Symbol.{Symbol}
use Rattle.al_view.specs.declared.view.Operation.{Operation}
use Rattle.al_decl_protected.specs.Checks.{left_inside, so_far}
use Rattle.al_decl_protected.specs.Components.{PrivateTree, components_checked, private_list}
use Rattle.al_decl_protected.specs.Objects.{Inside, InsideTree, components_inside, inside_after, inside_of}
use Rattle.al_decl_protected.specs.Operations.{Declared, operations_checked}

left_so : (h : Environment) (operations : List Operation) (c : PrivateTree) (checked : Result (Unit {0}) Fault) → left_inside h.progress (record { operations = operations; private_part = c }) checked ≡ map_ok (inside_of (h, operations)) (so_far c checked)
left_so h operations c (Ok u) = refl
left_so h operations c (Err f) = refl

abbrev wrong : Fault → Result Inside Fault
wrong f = Err f

-- after the operations, the components
pub inside_then : (R : PartReading) (t : Table) (h new : Environment) (symbol : Symbol) (before : InsideTree) (o : ProtectedTree) (p : Progress) (operations : List Operation) (c : PrivateTree) (checked : Result (Unit {0}) Fault)
    → p ≡ new.progress
    → so_far c checked ≡ components_checked R t new.scope before.private_part (private_list o.private_part)
    → Ok (new, operations) ≡ operations_checked R t h symbol before.operations o.operations
    → left_inside p (record { operations = operations; private_part = c }) checked ≡ inside_after R t h symbol before o
inside_then R t h new symbol before o p operations c checked same components right =
    ap (λ (q : Progress). left_inside q (record { operations = operations; private_part = c }) checked) same
    ∙ left_so new operations c checked
    ∙ ap (map_ok (inside_of (new, operations))) components
    ∙ ap (λ (r : Result Declared Fault). next r (components_inside R t before.private_part o)) right

pub inside_wrong : (R : PartReading) (t : Table) (h : Environment) (symbol : Symbol) (before : InsideTree) (o : ProtectedTree) (f : Fault)
    → Err f ≡ operations_checked R t h symbol before.operations o.operations
    → wrong f ≡ inside_after R t h symbol before o
inside_wrong R t h symbol before o f is = ap (λ (r : Result Declared Fault). next r (components_inside R t before.private_part o)) is
