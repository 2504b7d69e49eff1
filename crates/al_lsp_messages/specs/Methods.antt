-- The methods that a client may name.
use Rattle.std.specs.Prelude.{ℕ, List, codes, if◌then◌else◌}
use Rattle.std.specs.Str.{bytes_eq}
use Rattle.al_lsp_messages.specs.declared.methods.RequestMethod.{RequestMethod}
use Rattle.al_lsp_messages.specs.declared.methods.RequestMethod.TheVariants as request
use Rattle.al_lsp_messages.specs.declared.methods.NoticeMethod.{NoticeMethod}
use Rattle.al_lsp_messages.specs.declared.methods.NoticeMethod.TheVariants as notice

abbrev pub request_of : List ℕ → RequestMethod
request_of method =
    if bytes_eq method (codes "initialize") then request.Initialize
    else (if bytes_eq method (codes "shutdown") then request.Shutdown
    else (if bytes_eq method (codes "textDocument/documentSymbol") then request.DocumentSymbol
    else (if bytes_eq method (codes "workspace/symbol") then request.WorkspaceSymbol
    else (if bytes_eq method (codes "textDocument/definition") then request.Definition
    else (if bytes_eq method (codes "textDocument/hover") then request.Hover
    else (if bytes_eq method (codes "textDocument/references") then request.References
    else (if bytes_eq method (codes "textDocument/completion") then request.Completion
    else request.Unknown)))))))

abbrev pub document_notice : List ℕ → NoticeMethod
document_notice method =
    if bytes_eq method (codes "textDocument/didOpen") then notice.DidOpen
    else (if bytes_eq method (codes "textDocument/didChange") then notice.DidChange
    else (if bytes_eq method (codes "textDocument/didSave") then notice.DidSave
    else (if bytes_eq method (codes "textDocument/didClose") then notice.DidClose
    else notice.Unknown)))

abbrev pub notice_of : List ℕ → NoticeMethod
notice_of method =
    if bytes_eq method (codes "initialized") then notice.Initialized
    else (if bytes_eq method (codes "exit") then notice.Exit
    else (if bytes_eq method (codes "workspace/didChangeWatchedFiles") then notice.DidChangeWatchedFiles
    else document_notice method))
