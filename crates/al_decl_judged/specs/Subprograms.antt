-- Declarations of subprograms (ARM 6.1).
use Rattle.std.specs.Prelude.{ℕ, List, [], ◌∷◌, Option, Some, None, Result, Ok, Err}
use Rattle.al_base_fault.specs.declared.fault.Fault.{Fault}
use Rattle.al_base_fault.specs.Faults.{earlier}
use Rattle.al_base_fault.specs.Judging.{unless}
use Rattle.al_view.specs.declared.symbol.Symbol.{Symbol}
use Rattle.al_view.specs.declared.view.CallKind.TheVariants as call
use Rattle.al_view.specs.declared.view.ObjectPlace.{ObjectPlace}
use Rattle.al_view.specs.declared.view.ViewKind.{ViewKind}
use Rattle.al_view.specs.declared.view.ViewKind.TheVariants.{OfSubprogram}
use Rattle.al_view_typed.specs.DeclarationTrees.{Subprogram}
use Rattle.al_query.specs.declared.answer.Completion.{Completion}
use Rattle.al_decl_judged.specs.TypeDeclarations.{declared_as}
use Rattle.al_decl_judged.specs.Uncompleted.{with_declared}
use Rattle.al_decl_judged.specs.Declaring.{DeclaredTree}
use Rattle.al_decl_judged.specs.Progressing.{after_flag, next_place, symbol_of, with_counted}
use Rattle.al_decl_judged.specs.declared.progress.Progress.{Progress}
use Rattle.al_decl_judged.specs.Headings.{heading_fault}
use Rattle.al_decl_judged.specs.Profiles.{profile_of, profile_types}
use Rattle.al_decl_judged.specs.declared.heading.Heading.{Heading}

-- what is right, with what is left after it and what waits for a body; after a fault nothing follows
abbrev pub joined_waiting : {A : Type 0} → Progress → List Completion → Result A Fault → Result ((Progress × List Completion) × A) Fault
joined_waiting p uncompleted (Ok a) = Ok ((p, uncompleted), a)
joined_waiting p uncompleted (Err f) = Err f

-- a subprogram that is declared at this depth of nesting; it has a flag if it has a declaration of its own
abbrev pub subprogram_view : Symbol → ℕ → Option ObjectPlace → Heading → ViewKind
subprogram_view symbol depth flag h = OfSubprogram (record {
  symbol = symbol;
  profile = profile_of h;
  types = profile_types h;
  call = call.Subprogram depth;
  flag = flag;
})

-- where its flag lies
abbrev pub flag_of : Progress → Heading → ObjectPlace
flag_of p h = next_place p (symbol_of p h.name.name)

abbrev pub flagged_view : Progress → Heading → ViewKind
flagged_view p h = subprogram_view (symbol_of p h.name.name) p.depth (Some (flag_of p h)) h

-- its name is counted, and its flag takes a word
abbrev pub with_subprogram : Progress → Heading → Progress
with_subprogram p h = after_flag (with_counted p h.name.name) (symbol_of p h.name.name)

-- it waits for its body, and its flag begins with no
abbrev pub right_subprogram : Progress → List Completion → ℕ → Heading → (Progress × List Completion) × DeclaredTree
right_subprogram p uncompleted line h = (
  (with_subprogram p h, with_declared uncompleted h.name.name (flagged_view p h)),
  record {
    declarations = declared_as h.name.name (flagged_view p h) ∷ [];
    effect = Some (record { line = line; form = Subprogram (flag_of p h) });
  },
)

-- a specification alone, whose first token is on that line
abbrev pub subprogram_declared : Progress → List Completion → ℕ → Option Fault → Heading → Result ((Progress × List Completion) × DeclaredTree) Fault
subprogram_declared p uncompleted line duplicate h = unless (earlier duplicate (heading_fault h)) (Ok (right_subprogram p uncompleted line h))
