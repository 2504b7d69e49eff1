-- Declarations that wait for their bodies (ARM 3.11.1(1, 6)).
use Rattle.std.specs.Prelude.{ℕ, Bool, true, false, List, [], ◌∷◌, ◌++◌, Option, Some, None, is_some, if◌then◌else◌}
use Rattle.al_base.specs.declared.place.Place.{Place}
use Rattle.al_base_fault.specs.declared.check_rule.CheckRule.TheVariants.{MissingCompletion}
use Rattle.al_base_fault.specs.Faults.{fault_at}
use Rattle.al_base_fault.specs.declared.fault.Fault.{Fault}
use Rattle.al_query.specs.declared.answer.Completion.{Completion}
use Rattle.al_view.specs.declared.view.ViewKind.{ViewKind}
use Rattle.al_view.specs.declared.view.ViewKind.TheVariants.{OfSubprogram, OfTask, OfProtected}

-- whether a declaration wants a body: a subprogram that has a declaration of its own, which has a flag, a task and a
-- protected object
abbrev pub wants_body : ViewKind → Bool
wants_body (OfSubprogram s) = is_some s.flag
wants_body (OfTask t) = true
wants_body (OfProtected p) = true
wants_body _ = false

-- one more declaration, which goes last if it wants a body
abbrev pub with_declared : List Completion → List ℕ → ViewKind → List Completion
with_declared uncompleted name view = if wants_body view then uncompleted ++ record { name = name; view = view } ∷ [] else uncompleted

-- the fault at the word `begin` or `end` after a part, if a declaration still waits
abbrev pub missing_fault : Place → List Completion → Option Fault
missing_fault place [] = None
missing_fault place (c ∷ cs) = Some (fault_at place MissingCompletion)
