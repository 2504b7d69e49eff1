-- Operations of a protected object where they are declared (ARM 9.4, 9.5.2).
use Rattle.std.specs.Prelude.{Bool, true, false, ◌&&◌, List, [], ◌∷◌, ◌++◌, Option, Some, None, Result, Ok, if◌then◌else◌}
use Rattle.std.specs.List.{list_any}
use Rattle.al_base.specs.declared.place.Place.{Place as TextPlace}
use Rattle.al_base_fault.specs.declared.check_rule.CheckRule.TheVariants.{SecondEntry}
use Rattle.al_base_fault.specs.Faults.{earlier, fault_at}
use Rattle.al_base_fault.specs.Judging.{next, unless}
use Rattle.al_base_fault.specs.declared.fault.Fault.{Fault}
use Rattle.al_decl_judged.specs.Completing.{is_entry}
use Rattle.al_decl.specs.Heads.{heading_read}
use Rattle.al_decl.specs.Declaring.{in_innermost}
use Rattle.al_decl.specs.declared.env.Environment.{Environment}
use Rattle.al_decl_judged.specs.Progressing.{symbol_of, with_counted}
use Rattle.al_decl_judged.specs.declared.names.DefiningName.{DefiningName}
use Rattle.al_decl.specs.Defining.{defined}
use Rattle.al_decl_judged.specs.Headings.{heading_fault}
use Rattle.al_decl_judged.specs.Profiles.{profile_of, profile_types}
use Rattle.al_decl_judged.specs.declared.heading.Heading.{Heading}
use Rattle.al_decl_judged.specs.declared.heading.ReturnedPart.TheVariants.{NoValue}
use Rattle.al_decl.specs.PartReadings.{PartReading}
use Rattle.al_decl.specs.Placing.{head_duplicate}
use Rattle.al_query.specs.Reads.{Table}
use Rattle.al_scope.specs.Places.{Place, with_declared}
use Rattle.al_tree_syntax.specs.DeclarationTrees.{ProtectedOperationTree}
use Rattle.al_tree_syntax.specs.DeclarationTrees.ProtectedOperationTree.{ProtectedSubprogram, EntryDeclaration}
use Rattle.al_view.specs.declared.symbol.Symbol.{Symbol}
use Rattle.al_view.specs.declared.view.CallKind.{CallKind}
use Rattle.al_view.specs.declared.view.CallKind.TheVariants as calls
use Rattle.al_view.specs.declared.view.ObjectPlace.TheVariants.{Static}
use Rattle.al_view.specs.declared.view.Operation.{Operation}
use Rattle.al_view.specs.declared.view.SubprogramView.{SubprogramView}
use Rattle.al_view.specs.declared.view.ViewKind.TheVariants.{OfSubprogram}

-- ---- heads

-- an entry has no parameters and no result
abbrev pub bare_head : DefiningName → Heading
bare_head n = record { name = n; is_dotted = false; formals = []; returned = NoValue }

abbrev pub operation_head : PartReading → Place → ProtectedOperationTree → Heading
operation_head R place (ProtectedSubprogram s) = heading_read R place s
operation_head R place (EntryDeclaration opening name) = bare_head (defined name)

abbrev pub is_entry_tree : ProtectedOperationTree → Bool
is_entry_tree (ProtectedSubprogram s) = false
is_entry_tree (EntryDeclaration opening name) = true

-- ---- views

abbrev pub call_of : Bool → CallKind
call_of true = calls.Entry
call_of false = calls.Protected

-- the flag of an operation is its object's: whether the object's body is elaborated (ARM 3.11(14))
abbrev pub operation_view : Symbol → Symbol → Bool → Heading → SubprogramView
operation_view symbol object entry head = record {
  symbol = symbol;
  profile = profile_of head;
  types = profile_types head;
  call = call_of entry;
  flag = Some (Static object 0);
}

abbrev pub operation_of : Symbol → Symbol → Bool → Heading → Operation
operation_of symbol object entry head = record { name = head.name.name; subprogram = operation_view symbol object entry head }

-- ---- rules

-- a protected object has one entry at most (ARM D.7(3))
abbrev pub second_entry : Bool → TextPlace → List Operation → Option Fault
second_entry entry place operations =
    if entry && list_any (λ (o : Operation). is_entry o.subprogram.call) operations then Some (fault_at place SecondEntry) else None

abbrev pub operation_fault : Table → Environment → Bool → Heading → List Operation → Option Fault
operation_fault t h entry head operations =
    earlier (earlier (head_duplicate t h head) (second_entry entry head.name.place operations)) (heading_fault head)

-- ---- in the object's region each is visible from its end on

abbrev pub Declared : Type 0
Declared = Environment × List Operation

abbrev pub with_operation : Environment → Symbol → Bool → Heading → Environment
with_operation h object entry head = record h {
  progress = with_counted h.progress head.name.name;
  scope = in_innermost (with_declared head.name.name (OfSubprogram (operation_view (symbol_of h.progress head.name.name) object entry head))) h.scope;
}

abbrev pub operation_added : Environment → Symbol → Bool → Heading → List Operation → Declared
operation_added h object entry head operations =
    (with_operation h object entry head, operations ++ operation_of (symbol_of h.progress head.name.name) object entry head ∷ [])

abbrev pub operation_headed : Table → Environment → Symbol → Bool → Heading → List Operation → Result Declared Fault
operation_headed t h object entry head operations =
    unless (operation_fault t h entry head operations) (Ok (operation_added h object entry head operations))

abbrev pub operation_checked : PartReading → Table → Environment → Symbol → List Operation → ProtectedOperationTree → Result Declared Fault
operation_checked R t h object operations o = operation_headed t h object (is_entry_tree o) (operation_head R h.scope o) operations

-- a faulty one ends the list
abbrev pub operations_checked : PartReading → Table → Environment → Symbol → List Operation → List ProtectedOperationTree → Result Declared Fault
operations_checked R t h object operations [] = Ok (h, operations)
operations_checked R t h object operations (o ∷ os) =
    next (operation_checked R t h object operations o) (λ (d : Declared). operations_checked R t d.0 object d.1 os)
