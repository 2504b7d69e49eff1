-- One file with another source, among files that are unchanged.
use Rattle.std.proofs.Common.{◌≡◌, ℕ, Bool, true, false, List, [], ◌∷◌, Option, Some, None, is_some, sym, ap, subst, refl, ◌∙◌}
use Rattle.std.specs.Prelude.{IfSome}
use Rattle.std.specs.BTreeMap.{insert_entry, is_at}
use Rattle.std.specs.List.{AllByRecursion, Contains}
use Rattle.std.specs.Map.{keys_of}
use Rattle.std.specs.Option.{option_map, option_map_or}
use Rattle.std.specs.Ordering.{is_eq}
use Rattle.std.specs.declared.cmp.Ordering.{Ordering}
use Rattle.std.specs.declared.cmp.Ordering.TheVariants.{Less, Equal, Greater}
use Rattle.std.proofs.lemmas.Map.Keys.{sorted_head, sorted_tail}
use Rattle.std.proofs.lemmas.Map.Made.{lookup-map_values}
use Rattle.std.proofs.lemmas.Map.Text.{is_eq-slice_cmp}
use Rattle.std.proofs.lemmas.Slice.Eq.{bytes_eq-Decides}
use Rattle.al_base.specs.FileLaws.{Ascend}
use Rattle.al_base.specs.Files.{IsFile, Texts, name_cmp, text_of, with_file}
use Rattle.al_base.specs.Names.{is_file_name}
use Rattle.al_base_graph.proofs.Members.{first}
use Rattle.al_base.proofs.Renames.{text_of-with_file, text_of-with_file_other}
use Rattle.al_unit_graph.specs.Headers.{Library, Source}
use Rattle.al_unit_graph.specs.Library.{source_at}
use Rattle.al_unit.specs.Libraries.{library_of, source_of, texts_of}
use Rattle.al_unit.proofs.LibraryLemmas.{names_of-library_of}
use Rattle.al_engine.specs.GraphGraphs.{HaveSameHeaders, contents_at, unplaced_contents}
use Rattle.al_engine.specs.Texts.{HaveTextsBut, text_in}
use Rattle.al_engine.specs.declared.alike.Edited.{Edited}
use Rattle.al_engine.specs.Readings.{IsEditedAt}
use Rattle.al_engine_files.specs.AdaFiles.{AreOfTexts}

-- there is no source for a name below the first
text_of-above : (es : Texts) (k : List ℕ) → AllByRecursion (λ n. name_cmp k n ≡ Less) (keys_of es) → text_of es k ≡ None
text_of-above [] k below = refl
text_of-above (e ∷ es) k below = let first = below.0 in rw first (text_of-above es k below.1)

-- if the file is there, the names are unchanged
keys-stay : (es : Texts) (k v : List ℕ) → is_some (text_of es k) ≡ true → Ascend (with_file es k v) → keys_of (with_file es k v) ≡ keys_of es
keys-stay [] k v there sorted = absurd (cc)
keys-stay (e ∷ es) k v there sorted = step (name_cmp k e.0) refl (keys-stay es k v)
  where
    step : (o : Ordering) → name_cmp k e.0 ≡ o → (is_some (text_of es k) ≡ true → Ascend (with_file es k v) → keys_of (with_file es k v) ≡ keys_of es) → keys_of (with_file (e ∷ es) k v) ≡ keys_of (e ∷ es)
    step Less is rest =
        let front : with_file (e ∷ es) k v ≡ (k, v) ∷ e ∷ es = rw is refl in
        let none : text_of (e ∷ es) k ≡ None = text_of-above (e ∷ es) k (sorted_head name_cmp k (keys_of (e ∷ es)) (subst Ascend front sorted)) in
        absurd (cc)
    step Equal is rest = rw is refl
    step Greater is rest =
        let front : with_file (e ∷ es) k v ≡ e ∷ with_file es k v = rw is refl in
        let later : text_of (e ∷ es) k ≡ text_of es k = rw is refl in
        ap keys_of front ∙ ap (λ (ns : List (List ℕ)). e.0 ∷ ns) (rest (sym (ap is_some later) ∙ there) (sorted_tail name_cmp e.0 (keys_of (with_file es k v)) (subst Ascend front sorted)))

-- the name of a file that is there is the name of a file
pub named-file : (es : Texts) (k v : List ℕ) → AllByRecursion IsFile es → text_of es k ≡ Some v → is_file_name k ≡ true
named-file [] k v each has = absurd (cc)
named-file (e ∷ es) k v each has = by (is_eq (name_cmp k e.0)) refl (named-file es k v each.1)
  where
    by : (b : Bool) → is_eq (name_cmp k e.0) ≡ b → (text_of es k ≡ Some v → is_file_name k ≡ true) → is_file_name k ≡ true
    by true same rest = subst (λ (n : List ℕ). is_file_name n ≡ true) (sym ((bytes_eq-Decides k e.0).0 (sym (is_eq-slice_cmp k e.0) ∙ same))) each.0.0
    by false apart rest = let later : text_of (e ∷ es) k ≡ text_of es k = rw apart refl in rest (sym later ∙ has)

-- the library of files of which one has another source
library-with : (fs : Texts) (k t : List ℕ) → library_of (with_file fs k t) ≡ insert_entry name_cmp (library_of fs) k (source_of t)
unfolding library_of
library-with [] k t = refl
library-with (f ∷ fs) k t = step (name_cmp k f.0) refl (library-with fs k t)
  where
    step : (o : Ordering) → name_cmp k f.0 ≡ o → library_of (with_file fs k t) ≡ insert_entry name_cmp (library_of fs) k (source_of t) → library_of (with_file (f ∷ fs) k t) ≡ insert_entry name_cmp (library_of (f ∷ fs)) k (source_of t)
    step Less is rest = rw is refl
    step Equal is rest = rw is refl
    step Greater is rest = rw is (ap (λ (l : Library). (f.0, source_of f.1) ∷ l) rest)

-- the file that was edited is there
pub never-gone : (old : Texts) (name : List ℕ) (now : Texts) → IsEditedAt old name now → text_of now name ≡ None → ⊥
never-gone old name now is gone =
    let there : text_of now name ≡ Some is.1.0 = ap (λ (f : Texts). text_of f name) is.1.1 ∙ text_of-with_file old name is.1.0 in
    absurd (cc)

source_of_file : (files : Texts) (file : List ℕ) → source_at (library_of files) file ≡ option_map source_of (text_of files file)
unfolding library_of
source_of_file files file = lookup-map_values source_of (is_at (name_cmp file)) files

module _ (before : Library) (name : List ℕ) (now : Texts) (text : List ℕ) (of : AreOfTexts before) (is : IsEditedAt (texts_of before) name now) (has : text_of now name ≡ Some text) where
  its_text : text ≡ is.1.0
  its_text = let found : Some text ≡ Some is.1.0 = sym has ∙ ap (λ (f : Texts). text_of f name) is.1.1 ∙ text_of-with_file (texts_of before) name is.1.0 in cc

  pub now_is : insert_entry name_cmp before name (source_of text) ≡ library_of now
  now_is =
      ap (λ (t : List ℕ). insert_entry name_cmp before name (source_of t)) its_text
      ∙ ap (λ (l : Library). insert_entry name_cmp l name (source_of is.1.0)) of
      ∙ sym (library-with (texts_of before) name is.1.0)
      ∙ ap library_of (sym is.1.1)

  others : (file : List ℕ) → is_eq (name_cmp file name) ≡ false → source_at before file ≡ source_at (library_of now) file
  others file apart =
      ap (λ (l : Library). source_at l file) of ∙ source_of_file (texts_of before) file
      ∙ ap (option_map source_of) (sym (text_of-with_file_other (texts_of before) name is.1.0 file apart) ∙ ap (λ (f : Texts). text_of f file) (sym is.1.1))
      ∙ sym (source_of_file now file)

  at_name : (file : List ℕ) → is_eq (name_cmp file name) ≡ true → file ≡ name
  at_name file same = (bytes_eq-Decides file name).0 (sym (is_eq-slice_cmp file name) ∙ same)

  -- if the file is read as before, only its source may differ
  module _ (sorted : Ascend now) (read : contents_at before name ≡ Some (unplaced_contents (source_of text).contents)) where
    contents : (file : List ℕ) → contents_at before file ≡ contents_at (library_of now) file
    contents file = by (is_eq (name_cmp file name)) refl
      where
        there : contents_at (library_of now) name ≡ Some (unplaced_contents (source_of text).contents)
        there = ap (option_map (λ (s : Source). unplaced_contents s.contents)) (source_of_file now name ∙ ap (option_map source_of) has)

        by : (b : Bool) → is_eq (name_cmp file name) ≡ b → contents_at before file ≡ contents_at (library_of now) file
        by true same = subst (λ (f : List ℕ). contents_at before f ≡ contents_at (library_of now) f) (sym (at_name file same)) (read ∙ sym there)
        by false apart = ap (option_map (λ (s : Source). unplaced_contents s.contents)) (others file apart)

    texts : (edited : Edited) → edited.files.items ≡ name ∷ [] → HaveTextsBut before (library_of now) edited
    texts edited told file never = by (is_eq (name_cmp file name)) refl
      where
        by : (b : Bool) → is_eq (name_cmp file name) ≡ b → text_in before file ≡ text_in (library_of now) file
        by true same = absurd (never (subst (λ (files : List (List ℕ)). Contains files file) (sym told) (subst (λ (f : List ℕ). Contains (name ∷ []) f) (sym (at_name file same)) (first name []))))
        by false apart = ap (λ (o : Option Source). option_map_or (λ (s : Source). s.text) o []) (others file apart)

    pub edited_alone : (edited : Edited) → edited.files.items ≡ name ∷ [] → HaveSameHeaders before (library_of now) × HaveTextsBut before (library_of now) edited
    edited_alone edited told = (
      record {
        files = ap keys_of of ∙ names_of-library_of (texts_of before) ∙ sym (keys-stay (texts_of before) name is.1.0 is.0 (subst Ascend is.1.1 sorted)) ∙ ap keys_of (sym is.1.1) ∙ sym (names_of-library_of now);
        contents = contents;
      },
      texts edited told,
    )

  -- the edit that is found, if there is one, is that of this file
  pub edited_so : Ascend now → (found : Option Edited) → IfSome found (λ e. (e.files.items ≡ name ∷ []) × (contents_at before name ≡ Some (unplaced_contents (source_of text).contents))) → IfSome found (λ edited. HaveSameHeaders before (library_of now) × HaveTextsBut before (library_of now) edited)
  edited_so sorted None told = tt
  edited_so sorted (Some e) told = edited_alone sorted told.1 e told.0
