-- Which statements and declarations have code, and so an entry for their line.
use Rattle.std.specs.Prelude.{ℕ, ◌≡◌, nat_lt}
use Rattle.al_view_typed.specs.DeclarationTrees.{DeclarationFormTree}
use Rattle.al_view_typed.specs.StatementTrees.{StatementFormTree}
use Rattle.al_code.specs.Pieces.{size}
use Rattle.al_code.specs.declared.routine.Routine.{Routine}
use Rattle.al_code.specs.Declarations.{declaration_form_code}
use Rattle.al_code.specs.Marks.{declaration_has_code, has_code}
use Rattle.al_code.specs.Statements.{statement_form_code}

-- the tree shows exactly which declarations and statements have code
pub record TreesTellCode : Type 0 where
  pub statements : (r : Routine) (line : ℕ) (form : StatementFormTree) → has_code form ≡ nat_lt 0 (size (statement_form_code r line form))
  pub declarations : (depth : ℕ) (form : DeclarationFormTree) → declaration_has_code form ≡ nat_lt 0 (size (declaration_form_code depth form))
