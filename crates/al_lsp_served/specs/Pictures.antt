-- What a client has of each file, by the messages that it got.
use Rattle.std.specs.Prelude.{◌≡◌, ℕ, List, fold, if◌then◌else◌}
use Rattle.std.specs.Str.{bytes_eq}
use Rattle.serde_json.specs.Data.{Data}
use Rattle.serde_json.specs.View.{view}
use Rattle.al_lsp_messages.specs.declared.outgoing.Outgoing.{Outgoing}
use Rattle.al_lsp_messages.specs.declared.outgoing.Outgoing.TheVariants as outgoing
use Rattle.al_lsp_served.specs.declared.telling.Placed.{Placed}
use Rattle.al_lsp_served.specs.Told.{list_data}

-- what it has of the file of a name after one more message: each list takes the place of the one before
abbrev pub after_message : List ℕ → Data → Outgoing → Data
after_message name had (outgoing.Response id given) = had
after_message name had (outgoing.Refusal id code) = had
after_message name had (outgoing.Notice method params) = had
after_message name had (outgoing.Publish told) = if bytes_eq told.file.items name then view told.found else had
after_message name had (outgoing.Request id method params) = had

abbrev pub after_messages : List ℕ → Data → List Outgoing → Data
after_messages name had sent = fold (after_message name) had sent

-- the messages that came tell of no file
abbrev pub TellsNothing : List Outgoing → List Outgoing → Type 0
TellsNothing old new = (name : List ℕ) (had : Data) → after_messages name had new ≡ after_messages name had old

-- where a client had of each file what it was told, it has that after the messages that came
abbrev pub KeepsPicture : List Outgoing → (List ℕ → List Placed) → List Outgoing → (List ℕ → List Placed) → Type 0
KeepsPicture old told_old new told_new = (name : List ℕ) (had : Data) → after_messages name had old ≡ list_data (told_old name) → after_messages name had new ≡ list_data (told_new name)
