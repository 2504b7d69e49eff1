-- What a unit answers to questions of it, and the table of all units' answers.
use Rattle.std.specs.Prelude.{ℕ, List, [], Option, unwrap_or}
use Rattle.std.specs.List.{find}
use Rattle.std.specs.Option.{option_map}
use Rattle.std.specs.Str.{bytes_eq}
use Rattle.al_view.specs.Interfaces.{views_of}
use Rattle.al_view.specs.Named.{Declarations}
use Rattle.al_view.specs.declared.part.Part.{Part}
use Rattle.al_view.specs.declared.part.Part.TheVariants as part
use Rattle.al_query.specs.declared.answer.AnswerKind.{AnswerKind}
use Rattle.al_query.specs.declared.answer.AnswerKind.TheVariants as answer
use Rattle.al_query.specs.declared.query.Property.{Property}
use Rattle.al_query.specs.declared.query.Property.TheVariants as property
use Rattle.al_query.specs.declared.query.Query.{Query}
use Rattle.al_query.specs.declared.query.Query.TheVariants as query
use Rattle.al_query_outcome.specs.declared.interface.Parts.{Parts}
use Rattle.al_query_outcome.specs.declared.interface.Properties.{Properties}
use Rattle.al_query_outcome.specs.declared.interface.PropertyAnswers.{PropertyAnswers}
use Rattle.al_query_outcome.specs.declared.interface.StubDeclarations.{StubDeclarations}
use Rattle.al_query_outcome.specs.declared.interface.UnitInterface.{UnitInterface}

abbrev pub properties_of : Properties → PropertyAnswers
properties_of p = record {
  is_private = p.is_private;
  needs_body = p.needs_body;
  kind = p.kind;
  parent = answer.Parent p.parent;
  context = answer.Context p.context;
  completions = answer.Completions p.completions;
}

-- the answers of a unit that says this of itself and whose parts declare this
abbrev pub interface_of : Properties → Parts → UnitInterface
interface_of properties parts = record { properties = properties_of properties; parts = parts }

abbrev pub property_of : PropertyAnswers → Property → AnswerKind
property_of p property.Kind = answer.Kind p.kind
property_of p property.Parent = p.parent
property_of p property.IsPrivate = answer.IsPrivate p.is_private
property_of p property.Context = p.context
property_of p property.NeedsBody = answer.NeedsBody p.needs_body
property_of p property.Completions = p.completions

-- what comes before the stub of a name, if there is one
abbrev pub before_stub : List StubDeclarations → List ℕ → Option Declarations
before_stub stubs name = option_map (λ s. s.before) (find (λ s. bytes_eq s.stub name) stubs)

-- what a part declares; nothing if there is no such stub
abbrev pub part_of : Parts → Part → Declarations
part_of p part.Visible = p.visible
part_of p part.Private = p.private_part
part_of p part.Body = p.body
part_of p (part.Stub name) = unwrap_or (before_stub p.stubs name) []

-- the answer to a question of a unit without faults
abbrev pub answer_of : UnitInterface → Query → AnswerKind
answer_of i (query.Named unit part name) = answer.Views (views_of (part_of i.parts part) name)
answer_of i (query.Of unit property) = property_of i.properties property

-- the answer to a question of a unit that has faults, or that isn't there
abbrev pub no_answer : Query → AnswerKind
no_answer (query.Named unit part name) = answer.Views []
no_answer (query.Of unit property) = answer.Nothing
