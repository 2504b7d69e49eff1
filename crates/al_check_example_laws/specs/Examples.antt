-- A membership, and the headers of two units.
use Rattle.std.specs.Prelude.{◌≡◌, ℕ, List, [], ◌∷◌, Some, None, true, false, codes}
use Rattle.al_base.specs.declared.unit_key.UnitKey.{UnitKey}
use Rattle.al_query.specs.declared.answer.AnswerKind.{AnswerKind}
use Rattle.al_query.specs.declared.query.Property.TheVariants.{Kind}
use Rattle.al_query.specs.declared.query.Query.{Query}
use Rattle.al_query.specs.declared.query.Query.TheVariants.{Of}
use Rattle.al_view_typed.specs.ExpressionTrees.{TypedTree}
use Rattle.al_view_typed.specs.ExpressionTrees.TypedTree.{Labelled}
use Rattle.al_view_typed.specs.ExpressionTrees.FormTree.{LiteralForm, MembershipForm}
use Rattle.al_view_typed.specs.Uses.{typed_uses}
use Rattle.al_view_typed.specs.declared.label.Labels.{Labels}
use Rattle.al_unit_graph.specs.Headers.{Header}
use Rattle.al_unit_graph.specs.declared.header.UnitForm.TheVariants.{PackageBody, SubunitBody}
use Rattle.al_view.specs.declared.types.StaticValue.{StaticValue}

abbrev pub number : Labels → StaticValue → TypedTree
number labels value = Labelled labels (LiteralForm value)

-- a membership of three numbers uses no link, whatever their types are
abbrev pub TypesAreNotUsed : Type 0
TypesAreNotUsed =
    (of_all of_value of_low of_high : Labels) (value low high : StaticValue) (slot : ℕ)
    → typed_uses (Labelled of_all (MembershipForm (number of_value value) false (number of_low low) (number of_high high) slot)) ≡ []

-- `package body P.C is ..`, with no with clause
abbrev pub child_body : Header
child_body = record {
  name = codes "p.c";
  place = record { line = 1; col = 14 };
  form = PackageBody;
  is_private = false;
  needs_body = false;
  parent_body = None;
  designator = codes "p.c";
  mentions = [];
  stubs = [];
  elaborate = [];
  elaborate_all = [];
  has_elaborate_body = false;
  is_parameterless_procedure = false;
}

-- `separate (P.Q) procedure S is ..`
abbrev pub inner_subunit : Header
inner_subunit = record {
  name = codes "p.q.s";
  place = record { line = 1; col = 26 };
  form = SubunitBody;
  is_private = false;
  needs_body = false;
  parent_body = Some (record { name = codes "p.q"; place = record { line = 1; col = 11 } });
  designator = codes "s";
  mentions = [];
  stubs = [];
  elaborate = [];
  elaborate_all = [];
  has_elaborate_body = false;
  is_parameterless_procedure = true;
}

-- only the question what the unit is was asked, with this answer
abbrev pub asks_form : UnitKey → AnswerKind → List (Query × AnswerKind)
asks_form unit answer = (Of unit Kind, answer) ∷ []
