-- A library whose units are checked one by one.
use Rattle.std.specs.Prelude.{◌≡◌, ℕ, true, List, []}
use Rattle.std.specs.List.{Contains, list_all}
use Rattle.std.specs.Option.{option_map_or}
use Rattle.al_base.specs.Batch.{key_of}
use Rattle.al_base.specs.FileNames.{file_name_of}
use Rattle.al_base.specs.declared.unit_key.UnitKey.{UnitKey}
use Rattle.al_view.specs.declared.link.LinkSymbol.{LinkSymbol}
use Rattle.al_view.specs.declared.view.ViewKind.{ViewKind}
use Rattle.al_query.specs.Answers.{units_named}
use Rattle.al_query.specs.Known.{has_unit, predefined_units}
use Rattle.al_query.specs.Queries.{unit_of}
use Rattle.al_query.specs.declared.answer.AnswerKind.{AnswerKind}
use Rattle.al_query.specs.declared.answer.AnswerKind.TheVariants as answers
use Rattle.al_query.specs.declared.query.Property.TheVariants.{Kind}
use Rattle.al_query.specs.declared.query.Query.{Query}
use Rattle.al_query.specs.declared.query.Query.TheVariants.{Of}
use Rattle.al_unit_graph.specs.Headers.{Header, Library}
use Rattle.al_unit_graph.specs.Library.{source_at}
use Rattle.al_query_outcome.specs.Equations.{Setting}
use Rattle.al_query_outcome.specs.ReadsLaw.{answer_uses}
use Rattle.al_unit_faults.specs.Reached.{is_faultless}

-- the answers of the predefined units: they are there, name no others, and show no link
pub record ArePredefined (predefined : Query → AnswerKind) : Type 0 where
  pub packages : (u : UnitKey) → has_unit predefined_units u ≡ true → (v : ViewKind) × (predefined (Of u Kind) ≡ answers.Kind v)
  pub closed : (q : Query) → has_unit predefined_units (unit_of q) ≡ true → list_all (has_unit predefined_units) (units_named (predefined q)) ≡ true
  pub uncoded : (q : Query) (x : LinkSymbol) → has_unit predefined_units (unit_of q) ≡ true → Contains (answer_uses (predefined q)) x → ⊥

-- the source in a unit's file; no bytes if it has no file
abbrev pub text_of : Library → UnitKey → List ℕ
text_of lib u = option_map_or (λ source. source.text) (source_at lib (file_name_of (key_of u))) []

-- a library, with the headers of its sources, and its units that break no rule of the graph
abbrev pub library_setting : (List ℕ → Header) → Library → (Query → AnswerKind) → Setting
library_setting header lib predefined = record { files = lib; header_of = λ u. header (text_of lib u); is_faultless = λ u. is_faultless lib (key_of u); predefined = predefined }
