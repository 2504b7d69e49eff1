-- What a client asks of texts.
use Rattle.std.specs.Prelude.{ℕ, List, [], ◌∷◌, Bool, ◌||◌, length, take, unwrap_or, Vec}
use Rattle.std.specs.Str.{str_eq_ignore_ascii_case}
use Rattle.std.specs.BTreeMap.{BTreeMap}
use Rattle.al_base.specs.Files.{Texts}
use Rattle.al_lsp_served.specs.Documents.{text_at}
use Rattle.al_lsp_served.specs.Told.{text_had}
use Rattle.al_lsp_served.specs.declared.document.Document.{Document}

-- the text of a file as its client has it: the document's if it is open, else that of the library
abbrev pub text_seen : {Y : Type 0} → BTreeMap (Vec ℕ Y) Document → Texts → List ℕ → List ℕ
text_seen documents texts name = unwrap_or (text_at documents name) (text_had texts name)

-- whether a text begins with a word, in any case of letters
abbrev pub starts : List ℕ → List ℕ → Bool
starts text word = str_eq_ignore_ascii_case (take (length word) text) word

-- .. whether a word is somewhere in a name
abbrev pub holds : List ℕ → List ℕ → Bool
holds [] word = starts [] word
holds (b ∷ bs) word = starts (b ∷ bs) word || holds bs word
