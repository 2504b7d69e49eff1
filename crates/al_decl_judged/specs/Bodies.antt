-- Bodies of subprograms, and stubs of bodies (ARM 6.3, 10.1.3).
use Rattle.std.specs.Prelude.{ℕ, ◌<◌, length, List, [], ◌∷◌, Option, Some, None, option_map, Result, Ok}
use Rattle.std.specs.List.{remove}
use Rattle.al_base_fault.specs.declared.fault.Fault.{Fault}
use Rattle.al_base_fault.specs.Faults.{earlier}
use Rattle.al_base_fault.specs.Judging.{unless}
use Rattle.al_view.specs.declared.symbol.Symbol.{Symbol}
use Rattle.al_view.specs.declared.view.ObjectPlace.{ObjectPlace}
use Rattle.al_view_typed.specs.DeclarationTrees.{DeclarationTree, Elaborated}
use Rattle.al_query.specs.declared.answer.Completion.{Completion}
use Rattle.al_decl_judged.specs.declared.declaration.Declaration.{Declaration}
use Rattle.al_decl_judged.specs.TypeDeclarations.{declared_as}
use Rattle.al_decl_judged.specs.Declaring.{DeclaredTree, declared_model}
use Rattle.al_decl_judged.specs.Progressing.{symbol_of, with_counted}
use Rattle.al_decl_judged.specs.declared.progress.Progress.{Progress}
use Rattle.al_decl_judged.specs.Headings.{heading_fault}
use Rattle.al_decl_judged.specs.Subprograms.{subprogram_view}
use Rattle.al_decl_judged.specs.declared.body.Completing.{Completing}
use Rattle.al_decl_judged.specs.declared.body.Completing.TheVariants.{Declared, Alone}
use Rattle.al_decl_judged.specs.declared.body.NewBody.{NewBody}
use Rattle.al_decl_judged.specs.declared.heading.Heading.{Heading}

-- a declaration that is completed is one of those that wait
abbrev pub IsWaiting : List Completion → Completing → Type 0
IsWaiting uncompleted (Declared at symbol flag fault) = at < length uncompleted
IsWaiting uncompleted (Alone fault) = Unit {0}

-- what a body declares and does at its place, and its symbol
abbrev pub new_body_model : NewBody → DeclaredTree × Symbol
new_body_model b = (declared_model b.declared, b.symbol)

-- what is wrong with a body as a completion: it doesn't conform to what it completes, or may not be alone
abbrev pub completing_fault : Completing → Option Fault
completing_fault (Declared at symbol flag fault) = fault
completing_fault (Alone fault) = fault

-- a body has the symbol of what it completes, or that of a declaration of its own
abbrev pub body_symbol : Progress → Heading → Completing → Symbol
body_symbol p h (Declared at symbol flag fault) = symbol
body_symbol p h (Alone fault) = symbol_of p h.name.name

abbrev pub after_body : Progress → Heading → Completing → Progress
after_body p h (Declared at symbol flag fault) = p
after_body p h (Alone fault) = with_counted p h.name.name

-- what it completes waits no more
abbrev pub left_waiting : List Completion → Completing → List Completion
left_waiting uncompleted (Declared at symbol flag fault) = remove uncompleted at
left_waiting uncompleted (Alone fault) = uncompleted

-- a body that completes nothing declares its subprogram, which has no flag (ARM 6.3(4))
abbrev pub body_declarations : Progress → Heading → Completing → List Declaration
body_declarations p h (Declared at symbol flag fault) = []
body_declarations p h (Alone fault) = declared_as h.name.name (subprogram_view (symbol_of p h.name.name) p.depth None h) ∷ []

-- from here on what it completes is elaborated (ARM 3.11(10))
abbrev pub body_effect : ℕ → Completing → Option DeclarationTree
body_effect line (Declared at symbol flag fault) = option_map (λ (f : ObjectPlace). record { line = line; form = Elaborated f }) flag
body_effect line (Alone fault) = None

-- a body that is right: what it declares and does at its place, and its symbol
abbrev pub right_body : Progress → List Completion → ℕ → Heading → Completing → (Progress × List Completion) × (DeclaredTree × Symbol)
right_body p uncompleted line h completing = (
  (after_body p h completing, left_waiting uncompleted completing),
  (
    record { declarations = body_declarations p h completing; effect = body_effect line completing },
    body_symbol p h completing,
  ),
)

-- a body or stub whose first token is on that line, and what else may be wrong with it: that a stub isn't allowed there
abbrev pub body_declared : Progress → List Completion → ℕ → Option Fault → Heading → Completing → Result ((Progress × List Completion) × (DeclaredTree × Symbol)) Fault
body_declared p uncompleted line stub h completing =
    unless (earlier stub (earlier (heading_fault h) (completing_fault completing))) (Ok (right_body p uncompleted line h completing))
