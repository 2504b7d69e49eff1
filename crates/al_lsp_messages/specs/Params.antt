-- The parameters of messages.
use Rattle.std.specs.Prelude.{ℕ, ℤ, pos, List, Bool, codes, Option, Some, None, option_map, option_and_then, unwrap_or}
use Rattle.serde_json.specs.Data.{Data, Items, no_items, item}
use Rattle.serde_json.specs.Find.{get, as_str, as_number, as_u64, as_i64, as_array}
use Rattle.al_lsp.specs.declared.position.Position.{Position}
use Rattle.al_lsp.specs.declared.edit.Range.{Range}
use Rattle.al_lsp_messages.specs.declared.params.Opened.{Opened}
use Rattle.al_lsp_messages.specs.declared.params.Change.{Change}

-- the member of a member
abbrev pub within : List ℕ → List ℕ → Data → Option Data
within outer inner d = option_and_then (get inner) (get outer d)

abbrev pub text_in : List ℕ → Data → Option (List ℕ)
text_in key d = option_and_then as_str (get key d)

abbrev pub number_in : List ℕ → Data → Option ℕ
number_in key d = option_and_then as_u64 (option_and_then as_number (get key d))

-- the URI of the document that a message is about
abbrev pub uri_in : Data → Option (List ℕ)
uri_in d = option_and_then (text_in (codes "uri")) (get (codes "textDocument") d)

-- the version of that document; 0 where none is said
abbrev pub version_in : Data → ℤ
version_in d = unwrap_or (option_and_then as_i64 (option_and_then as_number (within (codes "textDocument") (codes "version") d))) (pos 0)

-- its whole text
abbrev pub document_text : Data → Option (List ℕ)
document_text d = option_and_then (text_in (codes "text")) (get (codes "textDocument") d)

abbrev pub both : {A B C : Type 0} → (A → B → C) → Option A → Option B → Option C
both f None b = None
both f (Some a) None = None
both f (Some a) (Some b) = Some (f a b)

abbrev pub position_in : Data → Option Position
position_in d = both (λ line column. record { line = line; column = column }) (number_in (codes "line") d) (number_in (codes "character") d)

abbrev pub range_in : Data → Option Range
range_in d = both (λ from to. record { start = from; end = to }) (option_and_then position_in (get (codes "start") d)) (option_and_then position_in (get (codes "end") d))

-- a document as its client has it
pub record OpenedData : Type 0 where
  pub uri : List ℕ
  pub version : ℤ
  pub text : List ℕ

abbrev pub opened_in : Data → Option OpenedData
opened_in d = both (λ uri text. record { uri = uri; version = version_in d; text = text }) (uri_in d) (document_text d)

abbrev pub opened_model : Opened → OpenedData
opened_model o = record { uri = o.uri.now; version = o.version; text = o.text.now }

-- one change of a document: in a range, or of the whole text
pub data ChangeData : Type 0 where
  whole : List ℕ → ChangeData
  part : Range → List ℕ → ChangeData

abbrev pub change_with : List ℕ → Option Data → Option ChangeData
change_with text None = Some (whole text)
change_with text (Some range) = option_map (λ r. part r text) (range_in range)

abbrev pub change_in : Data → Option ChangeData
change_in d = option_and_then (λ text. change_with text (get (codes "range") d)) (text_in (codes "text") d)

abbrev pub change_of : Option Range → List ℕ → ChangeData
change_of None text = whole text
change_of (Some range) text = part range text

abbrev pub change_model : Change → ChangeData
change_model c = change_of c.range c.text.now
