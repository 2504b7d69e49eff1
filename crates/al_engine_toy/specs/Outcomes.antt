-- The outcomes of the toy checker.
use Rattle.std.specs.Prelude.{Bool, true, false, List, [], ◌∷◌, Option, Some}
use Rattle.al_base.specs.Batch.{key_of}
use Rattle.al_base.specs.FileNames.{file_name_of}
use Rattle.al_base.specs.declared.unit_key.UnitKey.{UnitKey}
use Rattle.al_view.specs.declared.symbol.Symbol.{Symbol}
use Rattle.al_view.specs.declared.view.ViewKind.TheVariants.{OfPackage}
use Rattle.al_query.specs.declared.query.Property.TheVariants as property
use Rattle.al_query.specs.declared.answer.AnswerKind.{AnswerKind}
use Rattle.al_query.specs.declared.answer.AnswerKind.TheVariants as answers
use Rattle.al_query.specs.declared.query.Query.{Query}
use Rattle.al_query.specs.declared.query.Query.TheVariants.{Named, Of}
use Rattle.al_view_typed.specs.StatementTrees.PieceTree.{TextPiece}
use Rattle.al_view_typed.specs.StatementTrees.StatementTree.{Numbered}
use Rattle.al_view_typed.specs.StatementTrees.StatementFormTree.{PutStatement}
use Rattle.al_view_typed.specs.StatementTrees.{StatementTree}
use Rattle.al_view_typed.specs.UnitTrees.{BodyTree, ElaborationTree, UnitTree}
use Rattle.al_view_typed.specs.declared.unit.BodyKind.TheVariants.{Procedure}
use Rattle.al_query_outcome.specs.Left.{last_of}
use Rattle.al_query_outcome.specs.Results.{Outcome, Faulty, Sound}
use Rattle.al_query_outcome.specs.Tables.{interface_of}
use Rattle.al_query_outcome.specs.declared.interface.Parts.{Parts}
use Rattle.al_query_outcome.specs.declared.interface.Properties.{Properties}

-- the symbol of a unit
abbrev pub own_symbol : UnitKey → Symbol
own_symbol unit = record { unit = unit; name = last_of unit.name; number = 0 }

abbrev pub properties : UnitKey → Option UnitKey → Bool → Properties
properties unit parent marked = record {
  kind = OfPackage (own_symbol unit);
  parent = parent;
  is_private = marked;
  context = record { withs = []; uses = []; uses_inside = []; private_types = [] };
  needs_body = false;
  completions = [];
}

-- nothing is declared
abbrev pub no_parts : Parts
no_parts = record { visible = []; private_part = []; body = []; stubs = [] }

-- these statements
abbrev pub does : List StatementTree → ElaborationTree
does statements = record { line = 1; frame = 0; declarations = []; statements = statements }

-- a line with the unit's name
abbrev pub puts_name : UnitKey → StatementTree
puts_name unit = Numbered 1 (PutStatement (TextPiece unit.name ∷ []) true)

-- a procedure with the unit's last name that does nothing
abbrev pub own_body : UnitKey → BodyTree
own_body unit = record { symbol = own_symbol unit; kind = Procedure 0; depth = 1; formals = []; inside = does [] }

-- the elaboration that puts its name
abbrev pub tree : UnitKey → UnitTree
tree unit = record {
  unit = unit;
  elaboration = Some (does (puts_name unit ∷ []));
  bodies = own_body unit ∷ [];
  words = 0;
  objects = [];
  flags = [];
  protected_objects = [];
}

-- a unit without errors, with this parent; it is private if its source is marked
unfoldable pub plain : UnitKey → Option UnitKey → Bool → Outcome
plain unit parent marked = Sound (interface_of (properties unit parent marked) no_parts) (tree unit)

-- an error at the first place
unfoldable pub faulty : UnitKey → Outcome
faulty unit = Faulty (record { file = file_name_of (key_of unit); place = record { line = 1; col = 1 }; code = 401 } ∷ [])

-- a predefined unit answers that it is a package, and nothing else
abbrev pub predefined_answer : Query → AnswerKind
predefined_answer (Of unit property.Kind) = answers.Kind (OfPackage (own_symbol unit))
predefined_answer (Of unit property.Parent) = answers.Nothing
predefined_answer (Of unit property.IsPrivate) = answers.Nothing
predefined_answer (Of unit property.Context) = answers.Nothing
predefined_answer (Of unit property.NeedsBody) = answers.Nothing
predefined_answer (Of unit property.Completions) = answers.Nothing
predefined_answer (Named unit part name) = answers.Views []
