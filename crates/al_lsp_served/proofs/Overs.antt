-- Documents over files.
use Rattle.std.proofs.Common.{◌≡◌, ◌<◌, ◌≤◌, ℕ, Bool, true, false, cond, List, length, Option, Some, None, is_some, Vec, IfSome, option_map, refl, sym, ap, subst, ◌∙◌, arith}
use Rattle.std.specs.Str.{bytes_eq}
use Rattle.std.specs.BTreeMap.{BTreeMap}
use Rattle.std.proofs.lemmas.Bool.{cond-false}
use Rattle.std.proofs.lemmas.Map.Text.{is_eq-slice_cmp}
use Rattle.std.specs.Cmp.Lexicographic.{nat_list_eq_equiv}
use Rattle.al_base.specs.Files.{Texts, text_of, with_file, without_file}
use Rattle.al_base.proofs.Renames.{text_of-with_file, text_of-with_file_other, text_of-without_file_other}
use Rattle.al_lsp_served.specs.Named.{held, with_held}
use Rattle.al_lsp_served.specs.Documents.{text_at, IsOver, KeepsOver}
use Rattle.al_lsp_served.specs.Overlays.{is_open, Keeps}
use Rattle.al_lsp_served.specs.declared.document.Document.{Document}
use Rattle.al_lsp_served.proofs.ByName.{same_name}

-- the text is there
pub text_put : (texts : Texts) (name text : List ℕ) → text_of (with_file texts name text) name ≡ Some text
text_put = text_of-with_file

-- the texts of other files stay
pub text_after_put : (texts : Texts) (name text other : List ℕ) → bytes_eq name other ≡ false → text_of (with_file texts name text) other ≡ text_of texts other
text_after_put texts name text other differ = text_of-with_file_other texts name text other (is_eq-slice_cmp other name ∙ nat_list_eq_equiv.symm other name ∙ differ)

pub text_after_delete : (texts : Texts) (name other : List ℕ) → bytes_eq name other ≡ false → text_of (without_file texts name) other ≡ text_of texts other
text_after_delete texts name other differ = text_of-without_file_other texts name other (is_eq-slice_cmp other name ∙ nat_list_eq_equiv.symm other name ∙ differ)

-- a document as its file has it
abbrev pub IsFileOf : Texts → List ℕ → Document → Type 0
IsFileOf texts name document = document.is_taken ≡ true → text_of texts name ≡ Some document.text.items

carried : (texts texts_after : Texts) (name : List ℕ) (o : Option Document) → text_of texts_after name ≡ text_of texts name → IfSome o (IsFileOf texts name) → IfSome o (IsFileOf texts_after name)
carried texts texts_after name None same is = tt
carried texts texts_after name (Some d) same is = λ taken. same ∙ is taken

-- another file than those of documents changes
pub over_other : {Y : Type 0} (documents : BTreeMap (Vec ℕ Y) Document) (texts texts_after : Texts) (name : List ℕ) → held documents name ≡ None → ((other : List ℕ) → bytes_eq name other ≡ false → text_of texts_after other ≡ text_of texts other) → KeepsOver documents texts documents texts_after
over_other documents texts texts_after name none others is other = by_cases (bytes_eq name other) refl
  where
    gone : bytes_eq name other ≡ true → held documents other ≡ None
    gone same = subst (λ n. held documents n ≡ None) (same_name name other same) none

    by_cases : (b : Bool) → bytes_eq name other ≡ b → IfSome (held documents other) (IsFileOf texts_after other)
    by_cases true same = subst (λ o. IfSome o (IsFileOf texts_after other)) (sym (gone same)) tt
    by_cases false differ = carried texts texts_after other (held documents other) (others other differ) (is other)

-- a document is kept, and the texts of other files stay
pub over_kept : {Y : Type 0} (documents documents_after : BTreeMap (Vec ℕ Y) Document) (texts texts_after : Texts) (name : List ℕ) (w : Option Document) → ((other : List ℕ) → held documents_after other ≡ with_held (held documents) name w other) → IfSome w (IsFileOf texts_after name) → ((other : List ℕ) → bytes_eq name other ≡ false → text_of texts_after other ≡ text_of texts other) → KeepsOver documents texts documents_after texts_after
over_kept documents documents_after texts texts_after name w after here others is other =
    subst (λ o. IfSome o (IsFileOf texts_after other)) (sym (after other)) (by_cases (bytes_eq name other) refl)
  where
    by_cases : (b : Bool) → bytes_eq name other ≡ b → IfSome (cond b w (held documents other)) (IsFileOf texts_after other)
    by_cases true same = subst (λ n. IfSome w (IsFileOf texts_after n)) (same_name name other same) here
    by_cases false differ = carried texts texts_after other (held documents other) (others other differ) (is other)

-- the texts of documents after a change of one
pub text_at_after : {Y : Type 0} (documents documents_after : BTreeMap (Vec ℕ Y) Document) (name : List ℕ) (w : Option Document) → ((other : List ℕ) → held documents_after other ≡ with_held (held documents) name w other) → (other : List ℕ) → text_at documents_after other ≡ with_held (text_at documents) name (option_map (λ d. d.text.items) w) other
text_at_after documents documents_after name w after other = ap (option_map (λ d. d.text.items)) (after other) ∙ by_cases (bytes_eq name other)
  where
    by_cases : (b : Bool) → option_map (λ d. d.text.items) (cond b w (held documents other)) ≡ cond b (option_map (λ d. d.text.items) w) (text_at documents other)
    by_cases true = refl
    by_cases false = refl

pub over_same : {Y : Type 0} (documents documents_after : BTreeMap (Vec ℕ Y) Document) (texts texts_after : Texts) → documents_after ≡ documents → texts_after ≡ texts → IsOver documents texts → IsOver documents_after texts_after
over_same documents documents_after texts texts_after one two is = subst (λ d. IsOver d texts_after) (sym one) (subst (λ t. IsOver documents t) (sym two) is)

-- a document is taken, changed and kept
pub changed_text : {Y : Type 0} (documents removed : BTreeMap (Vec ℕ Y) Document) (name : List ℕ) (d : Document) (new : List ℕ) (change : List ℕ → List ℕ) → held documents name ≡ Some d → ((other : List ℕ) → held removed other ≡ with_held (held documents) name None other) → new ≡ change d.text.items → (other : List ℕ) → with_held (text_at removed) name (Some new) other ≡ with_held (text_at documents) name (option_map change (text_at documents name)) other
changed_text documents removed name d new change has after is other = by_cases (bytes_eq name other) refl
  where
    by_cases : (b : Bool) → bytes_eq name other ≡ b → cond b (Some new) (text_at removed other) ≡ cond b (option_map change (text_at documents name)) (text_at documents other)
    by_cases true same = ap Some is ∙ sym (ap (λ o. option_map change (option_map (λ d. d.text.items) o)) has)
    by_cases false differ = text_at_after documents removed name None after other ∙ cond-false (bytes_eq name other) None (text_at documents other) differ

-- a document is kept: files that aren't open stay
pub kept_read : {Y : Type 0} (between after : BTreeMap (Vec ℕ Y) Document) (was_open : List ℕ → Bool) (texts texts_after : Texts) (name : List ℕ) (w : Document) → ((other : List ℕ) → held after other ≡ with_held (held between) name (Some w) other) → ((other : List ℕ) → bytes_eq name other ≡ false → was_open other ≡ is_open between other) → length texts ≤ length texts_after → ((other : List ℕ) → bytes_eq name other ≡ false → text_of texts_after other ≡ text_of texts other) → Keeps was_open texts (is_open after) texts_after
kept_read between after was_open texts texts_after name w put was more others read over few other shut = by (bytes_eq name other) refl (sym (ap is_some (put other)) ∙ shut)
  where
    room : length texts < 4096
    room = omega (arith, more, few)

    by : (b : Bool) → bytes_eq name other ≡ b → is_some (cond b (Some w) (held between other)) ≡ false → text_of texts_after other ≡ text_of read other
    by true same shut = absurd (cc)
    by false differ shut = others other differ ∙ over room other (was other differ ∙ shut)

-- .. after it was taken from those that are open
pub open_apart : {Y : Type 0} (documents removed : BTreeMap (Vec ℕ Y) Document) (name : List ℕ) → ((other : List ℕ) → held removed other ≡ with_held (held documents) name None other) → (other : List ℕ) → bytes_eq name other ≡ false → is_open documents other ≡ is_open removed other
open_apart documents removed name after other differ = sym (ap is_some (after other ∙ cond-false (bytes_eq name other) None (held documents other) differ))
