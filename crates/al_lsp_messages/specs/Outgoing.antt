-- What a server sends.
use Rattle.std.specs.Prelude.{◌≡◌, ℕ, ℤ, negsuc, List, [], ◌∷◌, ◌++◌, codes, false, string_bytes}
use Rattle.serde_json.specs.Data.{Data, number, string, object, Members, no_members, put}
use Rattle.serde_json.specs.Find.{of_integer}
use Rattle.serde_json.specs.Written.{has_float, compact_text}
use Rattle.serde_json.specs.View.{view}
use Rattle.al_lsp_messages.specs.Values.{publish_data}
use Rattle.al_lsp_messages.specs.declared.outgoing.ErrorCode.{ErrorCode}
use Rattle.al_lsp_messages.specs.declared.outgoing.ErrorCode.TheVariants.{ParseError, InvalidRequest, MethodNotFound, InvalidParams, NotInitialized}
use Rattle.al_lsp_messages.specs.declared.outgoing.Published.{Published}
use Rattle.al_lsp_messages.specs.declared.outgoing.Outgoing.{Outgoing}
use Rattle.al_lsp_messages.specs.declared.outgoing.Outgoing.TheVariants as outgoing

-- the number of each error
abbrev pub code_of : ErrorCode → ℤ
code_of ParseError = negsuc 32699
code_of InvalidRequest = negsuc 32599
code_of MethodNotFound = negsuc 32600
code_of InvalidParams = negsuc 32601
code_of NotInitialized = negsuc 32001

abbrev pub words_of : ErrorCode → List ℕ
words_of ParseError = codes "no JSON"
words_of InvalidRequest = codes "no request that is taken now"
words_of MethodNotFound = codes "no such method"
words_of InvalidParams = codes "parameters of another form"
words_of NotInitialized = codes "not initialized"

-- the member that each message has
abbrev pub with_version : Members → Members
with_version ms = put (codes "jsonrpc") (string (codes "2.0")) ms

abbrev pub with_response : Data → Data → Members → Members
with_response id result ms = put (codes "result") result (put (codes "id") id (with_version ms))

abbrev pub with_error : ErrorCode → Members → Members
with_error code ms = put (codes "message") (string (words_of code)) (put (codes "code") (number (of_integer (code_of code))) ms)

abbrev pub with_refusal : Data → ErrorCode → Members → Members
with_refusal id code ms = put (codes "error") (object (with_error code no_members)) (put (codes "id") id (with_version ms))

abbrev pub with_notice : List ℕ → Data → Members → Members
with_notice method params ms = put (codes "params") params (put (codes "method") (string method) (with_version ms))

-- what a client is told of a file
abbrev pub with_published : Published → Members → Members
with_published p ms = with_notice (codes "textDocument/publishDiagnostics") (publish_data (string_bytes p.uri) p.version (view p.found)) ms

abbrev pub with_request : List ℕ → List ℕ → Data → Members → Members
with_request id method params ms = put (codes "id") (string id) (with_notice method params ms)

-- the members of a message
abbrev pub with_message : Outgoing → Members → Members
with_message (outgoing.Response id result) ms = with_response (view id) (view result) ms
with_message (outgoing.Refusal id code) ms = with_refusal (view id) code ms
with_message (outgoing.Notice method params) ms = with_notice method.now (view params) ms
with_message (outgoing.Publish told) ms = with_published told ms
with_message (outgoing.Request id method params) ms = with_request id.now method.now (view params) ms

-- a message as JSON
abbrev pub data_of : Outgoing → Data
data_of m = object (with_message m no_members)

-- the bytes are the JSON of a message, without spaces
abbrev pub IsBody : Data → List ℕ → Type 0
IsBody message bytes = has_float message ≡ false → bytes ≡ compact_text message

-- the id of a message that answers a request
abbrev pub answered_id : Outgoing → List Data
answered_id (outgoing.Response id result) = view id ∷ []
answered_id (outgoing.Refusal id code) = view id ∷ []
answered_id (outgoing.Notice method params) = []
answered_id (outgoing.Publish told) = []
answered_id (outgoing.Request id method params) = []

-- the ids of all answers, in order
abbrev pub answered_ids : List Outgoing → List Data
answered_ids [] = []
answered_ids (m ∷ ms) = answered_id m ++ answered_ids ms
