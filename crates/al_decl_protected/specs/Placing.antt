-- Declarations of tasks and protected objects are visible from their end on, and wait for their bodies (ARM 9.1(8), 9.4(8)).
use Rattle.std.specs.Prelude.{ℕ, List, [], ◌∷◌, Option, Some}
use Rattle.al_decl.specs.Checking.{after}
use Rattle.al_decl_judged.specs.Uncompleted.{with_declared}
use Rattle.al_decl.specs.declared.env.Environment.{Environment}
use Rattle.al_decl_judged.specs.Declaring.{DeclaredTree}
use Rattle.al_decl.specs.Placing.{with_awaiting}
use Rattle.al_decl_judged.specs.TypeDeclarations.{declared_as}
use Rattle.al_view.specs.declared.view.ViewKind.{ViewKind}
use Rattle.al_view_typed.specs.DeclarationTrees.{DeclarationTree}

-- one name, with what is done at its place
abbrev pub declares_one : List ℕ → ViewKind → DeclarationTree → DeclaredTree
declares_one name view effect = record { declarations = declared_as name view ∷ []; effect = Some effect }

abbrev pub placed : Environment → List ℕ → ViewKind → DeclarationTree → Environment × Option DeclarationTree
placed h name view effect = after (with_awaiting h (with_declared h.uncompleted name view)) (h.progress, declares_one name view effect)
