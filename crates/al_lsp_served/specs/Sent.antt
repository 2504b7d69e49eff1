-- What is written of messages.
use Rattle.std.specs.Prelude.{◌≡◌, ℕ, List, [], ◌∷◌, ◌++◌, Option, Some, None}
use Rattle.std.specs.Io.KnownBytes.{Appends}
use Rattle.std.specs.Str.{IsUtf8}
use Rattle.serde_json.specs.Data.{Data, null}
use Rattle.serde_json.specs.Read.{read}
use Rattle.al_lsp.specs.Frames.{frame_of}
use Rattle.al_lsp_messages.specs.Incoming.{shape_of}
use Rattle.al_lsp_messages.specs.Outgoing.{data_of, IsBody, answered_ids}
use Rattle.al_lsp_messages.specs.declared.outgoing.Outgoing.{Outgoing}
use Rattle.al_lsp_served.specs.Answers.{due_of}
use Rattle.al_lsp_served.specs.Pictures.{KeepsPicture}
use Rattle.al_lsp_served.specs.declared.telling.Placed.{Placed}

-- the bytes are the frames of the messages, in turn
abbrev pub AreFrames : List Outgoing → List ℕ → Type 0
AreFrames [] bytes = bytes ≡ []
AreFrames (m ∷ ms) bytes = (body : List ℕ) × (rest : List ℕ) × (IsBody (data_of m) body × (AreFrames ms rest × (bytes ≡ frame_of body ++ rest)))

-- what was written ends in them
abbrev pub Writes : Option (List ℕ) → Option (List ℕ) → List Outgoing → Type 0
Writes old new messages = (bytes : List ℕ) × (AreFrames messages bytes × Appends old new bytes)

-- What is written after a body was read: messages with an answer to each request, and what the client doesn't know of files.
pub record Handles (body : List ℕ) (told told_after : List ℕ → List Placed) (old new : Option (List ℕ)) : Type 0 where
  pub sent : List Outgoing
  pub writes : Writes old new sent
  pub answers : (d : Data) → IsUtf8 body → read body ≡ Some d → answered_ids sent ≡ due_of (shape_of d)
  pub no_json : (IsUtf8 body → read body ≡ None) → answered_ids sent ≡ null ∷ []
  pub picture : KeepsPicture [] told sent told_after
