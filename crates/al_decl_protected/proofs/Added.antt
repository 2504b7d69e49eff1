-- An operation that is added to others in its region.
use Rattle.std.proofs.Common.{◌≡◌, Bool, List, [], ◌∷◌, ◌++◌, Result, Ok, ap, ◌∙◌}
use Rattle.al_base_fault.specs.declared.fault.Fault.{Fault}
use Rattle.al_decl.specs.Checking.{with_progress}
use Rattle.al_decl.specs.Declaring.{in_innermost}
use Rattle.al_decl.specs.declared.env.Environment.{Environment}
use Rattle.al_decl_judged.specs.Progressing.{symbol_of, with_counted}
use Rattle.al_decl_judged.specs.declared.progress.Progress.{Progress}
use Rattle.al_decl_judged.specs.declared.heading.Heading.{Heading}
use Rattle.al_scope.specs.Places.{with_declared}
use Rattle.al_view.specs.declared.symbol.Symbol.{Symbol}
use Rattle.al_view.specs.declared.view.Operation.{Operation}
use Rattle.al_view.specs.declared.view.ViewKind.TheVariants.{OfSubprogram}
use Rattle.al_decl_protected.specs.Checks.{StaysInner}
use Rattle.al_decl_protected.specs.Operations.{Declared, operation_added, operation_of, operation_view, with_operation}
use Rattle.al_decl_protected.proofs.Inner.{stays_innermost, stays_same, stays_then}

-- with that symbol it is visible in the innermost region
abbrev pub visible : Environment → Symbol → Symbol → Bool → Heading → Environment
visible h symbol object entry head = record h { scope = in_innermost (with_declared head.name.name (OfSubprogram (operation_view symbol object entry head))) h.scope }

abbrev pub right : Declared → Result Declared Fault
right d = Ok d

pub added_so : (h new : Environment) (object : Symbol) (entry : Bool) (head : Heading) (before after : List Operation) (p : Progress) (s : Symbol) (o : Operation)
    → p ≡ with_counted h.progress head.name.name
    → s ≡ symbol_of h.progress head.name.name
    → new ≡ visible (with_progress h p) s object entry head
    → o ≡ operation_of s object entry head
    → after ≡ before ++ o ∷ []
    → (new, after) ≡ operation_added h object entry head before
added_so h new object entry head before after p s o counted named seen made pushed =
    ap (λ (e : Environment). (e, after)) (seen
    ∙ ap (λ (q : Progress). visible (with_progress h q) s object entry head) counted
    ∙ ap (λ (x : Symbol). visible (with_progress h (with_counted h.progress head.name.name)) x object entry head) named)
    ∙ ap (λ (l : List Operation). (with_operation h object entry head, l)) (pushed
    ∙ ap (λ (x : Operation). before ++ x ∷ []) (made ∙ ap (λ (x : Symbol). operation_of x object entry head) named))

pub added_outer : (h new : Environment) (object : Symbol) (entry : Bool) (head : Heading) (before after : List Operation) → (new, after) ≡ operation_added h object entry head before → StaysInner h.scope new.scope
added_outer h new object entry head before after made =
    stays_then h.scope (with_operation h object entry head).scope new.scope (stays_innermost _ h.scope) (stays_same (with_operation h object entry head).scope new.scope (ap (λ (d : Declared). d.0.scope) made))
