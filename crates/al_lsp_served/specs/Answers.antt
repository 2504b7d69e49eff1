-- Which answers are due.
use Rattle.std.specs.Prelude.{◌≡◌, ℕ, Bool, true, false, ◌&&◌, List, [], ◌∷◌, ◌++◌}
use Rattle.serde_json.specs.Data.{Data, null}
use Rattle.al_lsp_messages.specs.Incoming.{Shape, request, notice, answer, invalid, shape_of}
use Rattle.al_lsp_messages.specs.Methods.{notice_of}
use Rattle.al_lsp_messages.specs.Outgoing.{answered_ids}
use Rattle.al_lsp_messages.specs.declared.methods.NoticeMethod.{NoticeMethod}
use Rattle.al_lsp_messages.specs.declared.methods.NoticeMethod.TheVariants as notices
use Rattle.al_lsp_messages.specs.declared.outgoing.Outgoing.{Outgoing}
use Rattle.al_lsp_served.specs.declared.server.Phase.{Phase}
use Rattle.al_lsp_served.specs.declared.server.Phase.TheVariants.{New, Serving, ShutDown}

-- a request wants one answer with its id, and what is no message one with the id null; all else wants none
abbrev pub due_of : Shape → List Data
due_of (request id method params) = id ∷ []
due_of (notice method params) = []
due_of answer = []
due_of invalid = null ∷ []

-- all files are checked after a notice that tells of documents or files
abbrev pub is_followed : NoticeMethod → Bool
is_followed notices.Initialized = true
is_followed notices.Exit = false
is_followed notices.DidOpen = true
is_followed notices.DidChange = true
is_followed notices.DidSave = true
is_followed notices.DidClose = true
is_followed notices.DidChangeWatchedFiles = true
is_followed notices.Unknown = false

-- .. between `initialize` and `shutdown`
abbrev pub is_serving : Phase → Bool
is_serving New = false
is_serving Serving = true
is_serving ShutDown = false

abbrev pub is_checked : Phase → Shape → Bool
is_checked phase (request id method params) = false
is_checked phase (notice method params) = is_serving phase && is_followed (notice_of method)
is_checked phase answer = false
is_checked phase invalid = false

-- these answers were added, and no other
abbrev pub Adds : List Outgoing → List Outgoing → List Data → Type 0
Adds old new ids = answered_ids new ≡ answered_ids old ++ ids

-- no answer was added
abbrev pub AddsNone : List Outgoing → List Outgoing → Type 0
AddsNone old new = answered_ids new ≡ answered_ids old
