-- What a client is told of a file.
use Rattle.std.specs.Prelude.{◌≡◌, ℕ, Bool, not, ◌&&◌, ◌||◌, ◌==◌, List, [], ◌∷◌, map, codes, unwrap_or, Vec, if◌then◌else◌}
use Rattle.std.specs.Option.{option_map_or}
use Rattle.std.specs.List.{flat_map}
use Rattle.std.specs.Str.{bytes_eq}
use Rattle.std.specs.BTreeMap.{BTreeMap}
use Rattle.al_base.specs.Batch.{Finding}
use Rattle.al_base.specs.Files.{Texts, text_of}
use Rattle.al_base_words.specs.Messages.{message_of}
use Rattle.serde_json.specs.Data.{Data, number, string, array, object, unsigned, no_members, put}
use Rattle.serde_json.specs.View.{items_of}
use Rattle.al_lsp.specs.declared.position.Counting.{Counting}
use Rattle.al_lsp.specs.declared.edit.Range.{Range}
use Rattle.al_lsp.specs.Places.{range_at}
use Rattle.al_lsp_messages.specs.Values.{range_data, with_words}
use Rattle.al_lsp_served.specs.Named.{held}
use Rattle.al_lsp_served.specs.declared.telling.Placed.{Placed}
use Rattle.al_lsp_served.specs.declared.telling.Told.{Told}

-- of a file that isn't open nothing is told that only depends on faults of others
abbrev pub is_told : Bool → ℕ → Bool
is_told is_open code = not (code == 208) || is_open

-- an information, or an error
abbrev pub severity_of : ℕ → ℕ
severity_of code = if code == 208 then 3 else 1

-- a diagnostic, of which a code, a space and words are the message
abbrev pub diagnostic_data : Range → ℕ → List ℕ → Data
diagnostic_data range severity message = object (with_words message (put (codes "range") (range_data range) (put (codes "severity") (number (unsigned severity)) (put (codes "source") (string (codes "adals")) no_members))))

abbrev pub placed_data : Placed → Data
placed_data p = diagnostic_data p.range (severity_of p.code) (message_of p.code)

-- all that is told of a file
abbrev pub list_data : List Placed → Data
list_data list = array (items_of (map placed_data list))

-- where something is found in a file with this text, as its client counts columns
abbrev pub placed : Counting → List ℕ → Finding → Placed
placed counting text f = record { range = range_at counting text (record { line = f.line; col = f.col }); code = f.code }

-- the text that a library has of a file; none where there is no such file
abbrev pub text_had : Texts → List ℕ → List ℕ
text_had texts name = unwrap_or (text_of texts name) []

abbrev pub told_one : Counting → Texts → (List ℕ → Bool) → List ℕ → Finding → List Placed
told_one counting texts is_open name f = if bytes_eq f.file name && is_told (is_open name) f.code then placed counting (text_had texts name) f ∷ [] else []

-- what is told of the file of a name, of all that is found
abbrev pub told_list : Counting → Texts → (List ℕ → Bool) → List ℕ → List Finding → List Placed
told_list counting texts is_open name found = flat_map (told_one counting texts is_open name) found

-- what was told of the file of a name; nothing where there is no entry
abbrev pub told_of : {Y : Type 0} → BTreeMap (Vec ℕ Y) Told → List ℕ → List Placed
told_of told name = option_map_or (λ t. t.list.items) (held told name) []

-- of each file that was told which is found
abbrev pub IsTold : Counting → Texts → (List ℕ → Bool) → (List ℕ → List Placed) → List Finding → Type 0
IsTold counting texts is_open told found = (name : List ℕ) → told name ≡ told_list counting texts is_open name found
