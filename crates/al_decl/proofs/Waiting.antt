-- What waits for a body is left at a place with what is declared there.
use Rattle.std.proofs.Common.{◌≡◌, List, Option, Result, Ok, Err, refl, sym, ap, ◌∙◌}
use Rattle.al_decl.specs.Checking.{at_place, after, finished, with_progress}
use Rattle.al_decl_judged.specs.Declaring.{DeclaredTree, joined}
use Rattle.al_decl_judged.specs.declared.progress.Progress.{Progress}
use Rattle.al_decl.specs.declared.env.Environment.{Environment}
use Rattle.al_base_fault.specs.Judging.{map_ok}
use Rattle.al_base_fault.specs.declared.fault.Fault.{Fault}
use Rattle.al_query.specs.declared.answer.Completion.{Completion}
use Rattle.al_decl_judged.specs.Subprograms.{joined_waiting}
use Rattle.al_view_typed.specs.DeclarationTrees.{DeclarationTree}
use Rattle.al_view.specs.declared.symbol.Symbol.{Symbol}
use Rattle.al_decl.specs.Placing.{body_after, subprogram_after, with_awaiting}

-- a place that another one was, with what was taken and what waits there
abbrev pub taken : Environment → Progress → List Completion → Environment
taken h p uncompleted = with_progress (with_awaiting h uncompleted) p

left_so : (start : Environment) (p : Progress) (uncompleted : List Completion) (J : Result DeclaredTree Fault) → finished (taken start p uncompleted) (joined p J) ≡ map_ok (subprogram_after start) (joined_waiting p uncompleted J)
left_so start p uncompleted (Ok d) = refl
left_so start p uncompleted (Err f) = refl

pub waits : (inner start : Environment) (J : Result DeclaredTree Fault) (D : Result ((Progress × List Completion) × DeclaredTree) Fault) (X : Result (Environment × Option DeclarationTree) Fault) → X ≡ finished inner (joined inner.progress J) → joined_waiting inner.progress inner.uncompleted J ≡ D → inner ≡ taken start inner.progress inner.uncompleted → X ≡ map_ok (subprogram_after start) D
waits inner start J D X made is same =
    made
    ∙ ap (λ (h : Environment). finished h (joined inner.progress J)) same
    ∙ left_so start inner.progress inner.uncompleted J
    ∙ ap (map_ok (subprogram_after start)) is

-- the same of a body, with its symbol
body_left_so : (start : Environment) (p : Progress) (uncompleted : List Completion) (J : Result (DeclaredTree × Symbol) Fault) → map_ok (body_after (taken start p uncompleted)) (joined_waiting p uncompleted J) ≡ map_ok (body_after start) (joined_waiting p uncompleted J)
body_left_so start p uncompleted (Ok d) = refl
body_left_so start p uncompleted (Err f) = refl

pub body_waits : (inner start : Environment) (J : Result (DeclaredTree × Symbol) Fault) (D : Result ((Progress × List Completion) × (DeclaredTree × Symbol)) Fault) (X : Result (Environment × (Option DeclarationTree × Symbol)) Fault) → X ≡ map_ok (body_after inner) (joined_waiting inner.progress inner.uncompleted J) → joined_waiting inner.progress inner.uncompleted J ≡ D → inner ≡ taken start inner.progress inner.uncompleted → X ≡ map_ok (body_after start) D
body_waits inner start J D X made is same =
    made
    ∙ ap (λ (h : Environment). map_ok (body_after h) (joined_waiting inner.progress inner.uncompleted J)) same
    ∙ body_left_so start inner.progress inner.uncompleted J
    ∙ ap (map_ok (body_after start)) is
