-- A client of a package that asks of the package's body.
use Rattle.std.specs.Prelude.{List, [], ◌∷◌, None, true, false, codes}
use Rattle.al_query.specs.Answers.{declaration}
use Rattle.al_query.specs.Known.{body}
use Rattle.al_query.specs.declared.answer.AnswerKind.{AnswerKind}
use Rattle.al_query.specs.declared.answer.AnswerKind.TheVariants as answers
use Rattle.al_query.specs.declared.query.Property.TheVariants.{Kind, NeedsBody}
use Rattle.al_query.specs.declared.query.Query.{Query}
use Rattle.al_query.specs.declared.query.Query.TheVariants.{Of}
use Rattle.al_unit_graph.specs.Headers.{Header}
use Rattle.al_unit_graph.specs.declared.header.UnitForm.TheVariants.{SubprogramBody}
use Rattle.al_view.specs.declared.view.ViewKind.TheVariants.{OfPackage}

-- `with P; procedure M is ..`
abbrev pub client : Header
client = record {
  name = codes "m";
  place = record { line = 1; col = 9 };
  form = SubprogramBody;
  is_private = false;
  needs_body = false;
  parent_body = None;
  designator = codes "m";
  mentions = record { name = codes "p"; place = record { line = 1; col = 6 } } ∷ [];
  stubs = [];
  elaborate = [];
  elaborate_all = [];
  has_elaborate_body = false;
  is_parameterless_procedure = true;
}

-- what P is, with this answer, and then whether P's body needs a body
abbrev pub asks_body_after : AnswerKind → List (Query × AnswerKind)
asks_body_after kind = (Of (declaration (codes "p")) Kind, kind) ∷ (Of (body (codes "p")) NeedsBody, answers.NeedsBody true) ∷ []

-- P is a package with a declaration
abbrev pub asks_a_body : List (Query × AnswerKind)
asks_a_body = asks_body_after (answers.Kind (OfPackage (record { unit = declaration (codes "p"); name = codes "p"; number = 0 })))

-- P has no declaration
abbrev pub asks_an_acting_body : List (Query × AnswerKind)
asks_an_acting_body = asks_body_after answers.Nothing
