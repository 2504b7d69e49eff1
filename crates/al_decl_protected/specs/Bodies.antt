-- Bodies of what is named alone, tasks, protected objects and entries (ARM 9.1(8), 9.4(8), 9.5.2(8)), and the bodies for which operations wait.
use Rattle.std.specs.Prelude.{◌≡◌, ℕ, zero, suc, Bool, true, false, ◌&&◌, List, [], ◌∷◌, fold, Option, Some, None, option_map, is_some, slice_get, Result, Ok, Err, if◌then◌else◌}
use Rattle.std.specs.List.{remove}
use Rattle.std.specs.Str.{bytes_eq}
use Rattle.al_base.specs.declared.place.Place.{Place as TextPlace}
use Rattle.al_base_fault.specs.declared.check_rule.CheckRule.TheVariants.{Duplicate, NotConformant}
use Rattle.al_base_fault.specs.Faults.{fault_at}
use Rattle.al_base_fault.specs.declared.fault.Fault.{Fault}
use Rattle.al_decl_judged.specs.Completing.{is_entry}
use Rattle.al_decl_judged.specs.Uncompleted.{with_declared}
use Rattle.al_decl_judged.specs.declared.specification.BodyHead.{BodyHead}
use Rattle.al_decl_judged.specs.declared.specification.BodyHead.TheVariants as heads
use Rattle.al_decl.specs.Declaring.{duplicate}
use Rattle.al_decl.specs.declared.env.Environment.{Environment}
use Rattle.al_decl_judged.specs.declared.names.DefiningName.{DefiningName}
use Rattle.al_decl.specs.Placing.{head_duplicate, with_awaiting}
use Rattle.al_query.specs.Reads.{Table}
use Rattle.al_query.specs.declared.answer.Completion.{Completion}
use Rattle.al_view.specs.declared.view.ObjectPlace.TheVariants.{Static}
use Rattle.al_view.specs.declared.view.Operation.{Operation}
use Rattle.al_view.specs.declared.view.ViewKind.{ViewKind}
use Rattle.al_view.specs.declared.view.ViewKind.TheVariants.{OfComponent, OfProtected, OfSubprogram, OfTask}
use Rattle.al_view_typed.specs.DeclarationTrees.{DeclarationTree, Elaborated, declaration_model}
use Rattle.al_decl_protected.specs.Operations.{bare_head}
use Rattle.al_decl_protected.specs.declared.body.NamedBody.{NamedBody}

-- ---- what waits

-- the operations of a protected object wait for their bodies in its own
abbrev pub with_operation : List Completion → Operation → List Completion
with_operation uncompleted o = with_declared uncompleted o.name (OfSubprogram o.subprogram)

abbrev pub all_waiting : List Operation → List Completion
all_waiting operations = fold with_operation [] operations

abbrev pub operations_waiting : ViewKind → List Completion
operations_waiting (OfProtected p) = all_waiting p.operations
operations_waiting _ = []

-- ---- what a body completes

abbrev pub has_body : BodyHead → ViewKind → Bool
has_body heads.Entry (OfSubprogram s) = is_entry s.call
has_body heads.«Task» (OfTask k) = true
has_body heads.Protected (OfProtected p) = true
has_body _ _ = false

abbrev pub completes_named : List ℕ → BodyHead → Completion → Bool
completes_named name head c = bytes_eq c.name name && has_body head c.view

-- the number of the first that has that name and such a body, if this many come before the list
abbrev pub first_named : ℕ → List ℕ → BodyHead → List Completion → Option (ℕ × ViewKind)
first_named number name head [] = None
first_named number name head (c ∷ cs) =
    if completes_named name head c then Some (number, c.view) else first_named (suc number) name head cs

-- it is at that number, with its view
abbrev pub IsNamedFirst : List ℕ → BodyHead → List Completion → ℕ → Type 0
IsNamedFirst name head cs at = (c : Completion) × (slice_get cs at ≡ Some c) × (first_named 0 name head cs ≡ Some (at, c.view))

-- from the body of a protected object on it is elaborated (ARM 3.11(12))
abbrev pub body_effect : ℕ → ViewKind → Option DeclarationTree
body_effect line (OfProtected p) = Some (record { line = line; form = Elaborated (Static p.symbol 0) })
body_effect line _ = None

-- ---- a body that completes nothing

-- an entry is a homograph of what has no parameters and no result, the others of all that has their name (ARM 8.3(8))
abbrev pub named_duplicate : Table → Environment → DefiningName → BodyHead → Option Fault
named_duplicate t h n heads.Entry = head_duplicate t h (bare_head n)
named_duplicate t h n _ = duplicate t h.scope OfComponent n

abbrev pub lone_fault : TextPlace → Bool → Fault
lone_fault place has_homograph = if has_homograph then fault_at place Duplicate else fault_at place NotConformant

abbrev pub lone_body : Table → Environment → DefiningName → BodyHead → Fault
lone_body t h n head = lone_fault n.place (is_some (named_duplicate t h n head))

-- ---- the body

abbrev pub Named : Type 0
Named = Environment × (Option DeclarationTree × ViewKind)

abbrev pub body_by : Environment → ℕ → Fault → Option (ℕ × ViewKind) → Result Named Fault
body_by h line lone None = Err lone
body_by h line lone (Some x) = Ok (with_awaiting h (remove h.uncompleted x.0), (body_effect line x.1, x.1))

-- what waits first under that name waits no more
abbrev pub named_body : Table → Environment → ℕ → DefiningName → BodyHead → Result Named Fault
named_body t h line n head = body_by h line (lone_body t h n head) (first_named zero n.name head h.uncompleted)

abbrev pub named_model : NamedBody → Option DeclarationTree × ViewKind
named_model b = (option_map declaration_model b.effect, b.view)
