-- Units with their labels, as plain data, and what the program's are.
use Rattle.std.specs.Prelude.{ℕ, List, Option, map, option_map}
use Rattle.al_base.specs.declared.unit_key.UnitKey.{UnitKey}
use Rattle.al_view.specs.declared.symbol.Symbol.{Symbol}
use Rattle.al_view_typed.specs.DeclarationTrees.{DeclarationTree, declaration_model}
use Rattle.al_view_typed.specs.StatementTrees.{StatementTree}
use Rattle.al_view_typed.specs.StatementViews.{statement_model}
use Rattle.al_view_typed.specs.declared.unit.BodyKind.{BodyKind}
use Rattle.al_view_typed.specs.declared.unit.DataPlace.{DataPlace}
use Rattle.al_view_typed.specs.declared.unit.Elaboration.{Elaboration}
use Rattle.al_view_typed.specs.declared.unit.FormalWords.{FormalWords}
use Rattle.al_view_typed.specs.declared.unit.ProtectedWords.{ProtectedWords}
use Rattle.al_view_typed.specs.declared.unit.TypedBody.{TypedBody}
use Rattle.al_view_typed.specs.declared.unit.TypedUnit.{TypedUnit}

-- declarations, then statements, with so many words in the frame beside the parameters
pub record ElaborationTree : Type 0 where
  pub line : ℕ
  pub frame : ℕ
  pub declarations : List DeclarationTree
  pub statements : List StatementTree

-- a body: of what, at which depth of nesting, with which parameters
pub record BodyTree : Type 0 where
  pub symbol : Symbol
  pub kind : BodyKind
  pub depth : ℕ
  pub formals : List FormalWords
  pub inside : ElaborationTree

-- a unit: its elaboration, its bodies in source order, the words of its objects, flags and protected objects
pub record UnitTree : Type 0 where
  pub unit : UnitKey
  pub elaboration : Option ElaborationTree
  pub bodies : List BodyTree
  pub words : ℕ
  pub objects : List DataPlace
  pub flags : List DataPlace
  pub protected_objects : List ProtectedWords

unfoldable pub elaboration_model : Elaboration → ElaborationTree
elaboration_model e = record { line = e.line; frame = e.frame; declarations = map declaration_model e.declarations.items; statements = map statement_model e.statements.items }

unfoldable pub body_model : TypedBody → BodyTree
body_model b = record { symbol = b.symbol; kind = b.kind; depth = b.depth; formals = b.formals; inside = elaboration_model b.inside }

unfoldable pub unit_model : TypedUnit → UnitTree
unit_model u = record {
  unit = u.unit;
  elaboration = option_map elaboration_model u.elaboration;
  bodies = map body_model u.bodies.items;
  words = u.words;
  objects = u.objects;
  flags = u.flags;
  protected_objects = u.protected_objects;
}
