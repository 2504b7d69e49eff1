-- Values of messages.
use Rattle.std.specs.Prelude.{ℕ, ℤ, List, codes, Option, Some, None, take, drop}
use Rattle.std.specs.Str.Lossy.{utf8_lossy}
use Rattle.serde_json.specs.Data.{Data, number, string, object, unsigned, Members, no_members, put}
use Rattle.serde_json.specs.Find.{of_integer}
use Rattle.al_lsp.specs.declared.position.Position.{Position}
use Rattle.al_lsp.specs.declared.position.Counting.{Counting}
use Rattle.al_lsp.specs.declared.position.Counting.TheVariants.{Utf8, Utf16, Lexer}
use Rattle.al_lsp.specs.declared.edit.Range.{Range}
use Rattle.al_lsp_messages.specs.declared.values.Shown.{Shown}

abbrev pub with_position : Position → Members → Members
with_position p ms = put (codes "character") (number (unsigned p.column)) (put (codes "line") (number (unsigned p.line)) ms)

abbrev pub position_data : Position → Data
position_data p = object (with_position p no_members)

abbrev pub with_range : Range → Members → Members
with_range r ms = put (codes "end") (position_data r.end) (put (codes "start") (position_data r.start) ms)

abbrev pub range_data : Range → Data
range_data r = object (with_range r no_members)

-- the four bytes of a code, and behind them and a space its words
abbrev pub with_words : List ℕ → Members → Members
with_words message ms = put (codes "message") (string (utf8_lossy (drop 5 message))) (put (codes "code") (string (utf8_lossy (take 4 message))) ms)

abbrev pub with_shown : Shown → Members → Members
with_shown s ms = with_words s.message.now (put (codes "range") (range_data s.range) (put (codes "severity") (number (unsigned s.severity)) (put (codes "source") (string (codes "adals")) ms)))

-- a diagnostic
abbrev pub shown_data : Shown → Data
shown_data s = object (with_shown s no_members)

abbrev pub with_version : Option ℤ → Members → Members
with_version None ms = ms
with_version (Some version) ms = put (codes "version") (number (of_integer version)) ms

abbrev pub with_publish : List ℕ → Option ℤ → Data → Members → Members
with_publish uri version found ms = put (codes "diagnostics") found (put (codes "uri") (string uri) (with_version version ms))

-- what is wrong with a file, and the version of its text where a client has it open
abbrev pub publish_data : List ℕ → Option ℤ → Data → Data
publish_data uri version found = object (with_publish uri version found no_members)

abbrev pub with_message : ℕ → List ℕ → Members → Members
with_message kind text ms = put (codes "message") (string text) (put (codes "type") (number (unsigned kind)) ms)

abbrev pub message_data : ℕ → List ℕ → Data
message_data kind text = object (with_message kind text no_members)

-- documents are opened, changed in ranges, saved and closed; and what columns count
unfoldable pub capabilities_text : Counting → List ℕ
capabilities_text Utf8 = codes "{\"capabilities\":{\"completionProvider\":{\"triggerCharacters\":[\".\"]},\"definitionProvider\":true,\"documentSymbolProvider\":true,\"hoverProvider\":true,\"referencesProvider\":true,\"positionEncoding\":\"utf-8\",\"textDocumentSync\":{\"change\":2,\"openClose\":true,\"save\":true},\"workspaceSymbolProvider\":true},\"serverInfo\":{\"name\":\"adals\"}}"
capabilities_text Utf16 = codes "{\"capabilities\":{\"completionProvider\":{\"triggerCharacters\":[\".\"]},\"definitionProvider\":true,\"documentSymbolProvider\":true,\"hoverProvider\":true,\"referencesProvider\":true,\"positionEncoding\":\"utf-16\",\"textDocumentSync\":{\"change\":2,\"openClose\":true,\"save\":true},\"workspaceSymbolProvider\":true},\"serverInfo\":{\"name\":\"adals\"}}"
capabilities_text Lexer = codes "{\"capabilities\":{\"completionProvider\":{\"triggerCharacters\":[\".\"]},\"definitionProvider\":true,\"documentSymbolProvider\":true,\"hoverProvider\":true,\"referencesProvider\":true,\"positionEncoding\":\"utf-8\",\"textDocumentSync\":{\"change\":2,\"openClose\":true,\"save\":true},\"workspaceSymbolProvider\":true},\"serverInfo\":{\"name\":\"adals\"}}"
