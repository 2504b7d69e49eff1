-- Documents that a client changes.
use Rattle.std.specs.Prelude.{◌≡◌, ℕ, true, List, fold, Option, Some, None, option_map, IfSome, Vec}
use Rattle.std.specs.BTreeMap.{BTreeMap}
use Rattle.serde_json.specs.Data.{Data}
use Rattle.serde_json.specs.View.{view}
use Rattle.serde_json.specs.declared.value.Value.{Value}
use Rattle.al_lsp.specs.declared.position.Counting.{Counting}
use Rattle.al_lsp.specs.Edits.{edited}
use Rattle.al_lsp_messages.specs.Params.{ChangeData, whole, part, change_in}
use Rattle.al_base.specs.Files.{Texts, text_of}
use Rattle.al_lsp_served.specs.Named.{held}
use Rattle.al_lsp_served.specs.declared.document.Document.{Document}

abbrev pub changed : Counting → List ℕ → Option ChangeData → List ℕ
changed counting text None = text
changed counting text (Some (whole new)) = new
changed counting text (Some (part range new)) = edited counting text range new

-- the text after a change, as a message tells it
abbrev pub after_change : Counting → List ℕ → Data → List ℕ
after_change counting text change = changed counting text (change_in change)

-- .. after all changes of a message, each made in what the one before it left
abbrev pub after_changes : Counting → List ℕ → List Value → List ℕ
after_changes counting text changes = fold (λ so_far change. after_change counting so_far (view change)) text changes

-- the text of the document that is the file of a name, if one is open
abbrev pub text_at : {Y : Type 0} → BTreeMap (Vec ℕ Y) Document → List ℕ → Option (List ℕ)
text_at documents name = option_map (λ document. document.text.items) (held documents name)

-- each document that is open and was taken is the text of its file
abbrev pub IsOver : {Y : Type 0} → BTreeMap (Vec ℕ Y) Document → Texts → Type 0
IsOver documents texts = (name : List ℕ) → IfSome (held documents name) (λ document. document.is_taken ≡ true → text_of texts name ≡ Some document.text.items)

abbrev pub KeepsOver : {Y : Type 0} → BTreeMap (Vec ℕ Y) Document → Texts → BTreeMap (Vec ℕ Y) Document → Texts → Type 0
KeepsOver documents texts documents_after texts_after = IsOver documents texts → IsOver documents_after texts_after
