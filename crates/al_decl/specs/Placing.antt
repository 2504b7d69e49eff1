-- Subprograms at a place: their homographs, declarations, heads of bodies and stubs (ARM 6.1, 6.3, 8.3, 10.1.3).
use Rattle.std.specs.Prelude.{ℕ, Bool, true, ◌&&◌, List, Option, None, Result, is_ok, if◌then◌else◌}
use Rattle.std.specs.List.{list_all}
use Rattle.al_decl.specs.Checking.{after}
use Rattle.al_decl_judged.specs.Declaring.{DeclaredTree}
use Rattle.al_decl_judged.specs.Progressing.{symbol_of}
use Rattle.al_decl_judged.specs.declared.progress.Progress.{Progress}
use Rattle.al_decl.specs.Declaring.{duplicate, overloaded_duplicate}
use Rattle.al_decl.specs.declared.env.Environment.{Environment}
use Rattle.al_decl.specs.Heads.{heading_read}
use Rattle.al_base_fault.specs.Judging.{map_ok}
use Rattle.al_base_fault.specs.declared.fault.Fault.{Fault}
use Rattle.al_decl.specs.PartReadings.{PartReading}
use Rattle.al_query.specs.declared.answer.AnswerKind.{AnswerKind}
use Rattle.al_query.specs.declared.answer.Completion.{Completion}
use Rattle.al_query.specs.declared.query.Query.{Query}
use Rattle.al_decl_judged.specs.Bodies.{body_declared}
use Rattle.al_decl_judged.specs.Subprograms.{subprogram_declared, subprogram_view}
use Rattle.al_decl_judged.specs.declared.body.Completing.{Completing}
use Rattle.al_decl_judged.specs.declared.heading.FormalPart.{FormalPart}
use Rattle.al_decl_judged.specs.declared.heading.Heading.{Heading}
use Rattle.al_decl_judged.specs.declared.heading.ReturnedPart.{ReturnedPart}
use Rattle.al_decl_judged.specs.declared.heading.ReturnedPart.TheVariants.{NoValue, Value}
use Rattle.al_tree_syntax.specs.DeclarationTrees.{SpecificationTree}
use Rattle.al_view_typed.specs.DeclarationTrees.{DeclarationTree}
use Rattle.al_view.specs.declared.symbol.Symbol.{Symbol}
use Rattle.al_view.specs.declared.view.ViewKind.{ViewKind}

abbrev pub is_right_return : ReturnedPart → Bool
is_right_return NoValue = true
is_right_return (Value of) = is_ok of

-- no mark has a fault, so that the types are known
abbrev pub has_right_marks : Heading → Bool
has_right_marks h = list_all (λ (f : FormalPart). is_ok f.of) h.formals && is_right_return h.returned

-- a view with its types, as far as it matters for homographs
abbrev pub head_view : Environment → Heading → ViewKind
head_view h head = subprogram_view (symbol_of h.progress head.name.name) h.progress.depth None head

-- E301 at the name, if the region has a homograph; if the types aren't known, if it has what may not be overloaded
abbrev pub head_duplicate : (Query → AnswerKind) → Environment → Heading → Option Fault
head_duplicate t h head =
    if has_right_marks head then duplicate t h.scope (head_view h head) head.name
    else overloaded_duplicate t h.scope head.name

-- ---- what waits and what is declared is left at the place

abbrev pub with_awaiting : Environment → List Completion → Environment
with_awaiting h uncompleted = record h { uncompleted = uncompleted }

abbrev pub subprogram_after : Environment → (Progress × List Completion) × DeclaredTree → Environment × Option DeclarationTree
subprogram_after h d = after (with_awaiting h d.0.1) (d.0.0, d.1)

abbrev pub subprogram_placed : (Query → AnswerKind) → Environment → ℕ → Heading → Result (Environment × Option DeclarationTree) Fault
subprogram_placed t h line head = map_ok (subprogram_after h) (subprogram_declared h.progress h.uncompleted line (head_duplicate t h head) head)

-- a specification alone, whose first token is on that line
abbrev pub subprogram_checked : PartReading → (Query → AnswerKind) → Environment → ℕ → SpecificationTree → Result (Environment × Option DeclarationTree) Fault
subprogram_checked R t h line s = subprogram_placed t h line (heading_read R h.scope s)

-- ---- bodies and stubs

abbrev pub body_after : Environment → (Progress × List Completion) × (DeclaredTree × Symbol) → Environment × (Option DeclarationTree × Symbol)
body_after h d = let left = after (with_awaiting h d.0.1) (d.0.0, d.1.0) in (left.0, (left.1, d.1.1))

-- a body or stub by what it completes
abbrev pub body_placed : Environment → ℕ → Option Fault → Heading → Completing → Result (Environment × (Option DeclarationTree × Symbol)) Fault
body_placed h line stub head completing = map_ok (body_after h) (body_declared h.progress h.uncompleted line stub head completing)
