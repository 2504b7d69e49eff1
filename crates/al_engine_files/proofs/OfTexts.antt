-- What is held of files is what is read in their sources.
use Rattle.std.proofs.Common.{◌≡◌, ℕ, Bool, true, false, List, [], get_or, Option, Some, None, sym, ap, subst, refl, ◌∙◌}
use Rattle.std.specs.Prelude.{IfSome, IsTrue, MatchOption}
use Rattle.std.specs.BTreeMap.{is_at}
use Rattle.std.specs.List.{Contains}
use Rattle.std.specs.Map.{keys_of}
use Rattle.std.specs.Option.{is_some, option_map, option_map_or}
use Rattle.std.proofs.lemmas.Map.Lookups.{exact_bytes}
use Rattle.std.proofs.lemmas.Map.Made.{IsSome-lookup_same_keys, lookup-map_values}
use Rattle.std.proofs.lemmas.Map.Views.{Contains-from_lookup, tells_apart}
use Rattle.al_base.specs.Files.{Texts, name_cmp, text_of}
use Rattle.al_unit_graph.specs.Headers.{Contents, Library, Source}
use Rattle.al_unit_graph.specs.Library.{source_at}
use Rattle.al_unit.specs.Libraries.{library_of, source_of, texts_of}
use Rattle.al_unit.proofs.LibraryLemmas.{source_of_its_text, texts_of-library_of}
use Rattle.al_engine.specs.GraphGraphs.{HaveSameHeaders, contents_at, unplaced_contents}
use Rattle.al_engine.specs.Texts.{HaveTextsBut, may_differ, text_in}
use Rattle.al_engine.specs.declared.alike.Edited.{Edited}
use Rattle.al_engine_files.specs.AdaFiles.{AreOfTexts, IsKnown, WasKept, WereRead}

-- a library of sources is the library of its own sources
pub are_of_texts : (lib : Library) (files : Texts) → lib ≡ library_of files → AreOfTexts lib
are_of_texts lib files is = is ∙ ap library_of (sym (ap texts_of is ∙ texts_of-library_of files))

pub files_are : (lib : Library) (files : Texts) → lib ≡ library_of files → texts_of lib ≡ files
files_are lib files is = ap texts_of is ∙ texts_of-library_of files

-- what is held of a file that has this source
module _ (lib : Library) (file text : List ℕ) (source : Source) (is : AreOfTexts lib) (found : Some source ≡ source_at lib file) (same : source.text ≡ text) where
  pub held_source : source ≡ source_of text
  held_source = subst (λ (t : List ℕ). source ≡ source_of t) same (source_of_its_text lib file is source found)

  pub held_kept : WasKept lib file text true
  held_kept = (ap (option_map (λ (s : Source). unplaced_contents s.contents)) (sym found) ∙ ap (λ (s : Source). Some (unplaced_contents s.contents)) held_source, λ _. ap (λ (o : Option Source). option_map_or (λ (s : Source). s.text) o []) (sym found) ∙ same)

-- a file with this source and these contents
pub as_source : (text : List ℕ) (source : Source) (contents : Contents) → source ≡ record { text = text; contents = contents } → contents ≡ (source_of text).contents → source ≡ source_of text
as_source text source contents is same = is ∙ (λ i. record { text = text; contents = same i })

-- a file that was read again, and is read as before
pub kept_read : (before : Library) (file text : List ℕ) (kept : Option Bool) (contents : Contents) → contents ≡ (source_of text).contents → IfSome kept (λ same. (contents_at before file ≡ Some (unplaced_contents contents)) × (same ≡ false)) → IfSome kept (WasKept before file text)
kept_read before file text None contents is has = tt
kept_read before file text (Some b) contents is has = (has.0 ∙ ap (λ (k : Contents). Some (unplaced_contents k)) is, λ same. let never : true ≡ false = sym same ∙ has.1 in absurd (cc))

-- an element of a list of files
pub known_item : {A : Type 0} (f : A → List ℕ × List ℕ) (before : Library) (edited : Edited) (xs : List A) (i : ℕ) (a : A) → a ≡ get_or xs i a → IsKnown before edited (f a) → IsKnown before edited (f (get_or xs i a))
known_item {A} f before edited xs i a is known = subst (λ (x : A). IsKnown before edited (f x)) is known

-- a file stays known if more files may differ
pub more_known : (before : Library) (edited more : Edited) → ((f : List ℕ) → may_differ edited f → may_differ more f) → (file : List ℕ × List ℕ) → IsKnown before edited file → IsKnown before more file
more_known before edited more kept file known = (known.0, λ never. known.1 (λ may. never (kept file.0 may)))

-- a file is known after it was added to the edited ones
pub now_known : (before : Library) (file text : List ℕ) (kept : Option Bool) (edited : Edited) → IfSome kept (WasKept before file text) → MatchOption kept ⊥ (λ same. same ≡ false → may_differ edited file) → IsKnown before edited (file, text)
now_known before file text None edited is noted = absurd noted
now_known before file text (Some true) edited is noted = (is.0, λ never. is.1 refl)
now_known before file text (Some false) edited is noted = (is.0, λ never. absurd (never (noted refl)))

-- files of the same names, each of which is known
module _ (before : Library) (files : Texts) (edited : Edited) (names : keys_of before ≡ keys_of (library_of files)) (were : WereRead before edited files) where
  source_of_file : (file : List ℕ) → source_at (library_of files) file ≡ option_map source_of (text_of files file)
  unfolding library_of
  source_of_file file = lookup-map_values source_of (is_at (name_cmp file)) files

  was_there : (file : List ℕ) (t : Option (List ℕ)) → text_of files file ≡ t → (s : Source) → option_map source_of t ≡ Some s → (contents_at before file ≡ Some (unplaced_contents s.contents)) × ((may_differ edited file → ⊥) → text_in before file ≡ s.text)
  was_there file None none s is = absurd (cc)
  was_there file (Some t) has s is =
      let one : source_of t ≡ s = cc in
      let known = were (file, t) (Contains-from_lookup (tells_apart exact_bytes) file t files has) in
      (known.0 ∙ ap (λ (x : Source). Some (unplaced_contents x.contents)) one, λ never. known.1 never ∙ ap (λ (x : Source). x.text) one)

  as_before : (file : List ℕ) (o n : Option Source) → source_at before file ≡ o → source_at (library_of files) file ≡ n → (contents_at before file ≡ contents_at (library_of files) file) × ((may_differ edited file → ⊥) → text_in before file ≡ text_in (library_of files) file)
  as_before file o (Some s) is_old is_new =
      let was = was_there file (text_of files file) refl s (sym (source_of_file file) ∙ is_new) in
      (was.0 ∙ sym (ap (option_map (λ (x : Source). unplaced_contents x.contents)) is_new), λ never. was.1 never ∙ sym (ap (λ (p : Option Source). option_map_or (λ (x : Source). x.text) p []) is_new))
  as_before file None None is_old is_new =
      let same : source_at before file ≡ source_at (library_of files) file = is_old ∙ sym is_new in
      (ap (option_map (λ (x : Source). unplaced_contents x.contents)) same, λ never. ap (λ (p : Option Source). option_map_or (λ (x : Source). x.text) p []) same)
  as_before file (Some s) None is_old is_new =
      let there : is_some (source_at (library_of files) file) ≡ true = (IsSome-lookup_same_keys (is_at (name_cmp file)) before (library_of files) names).0 (ap is_some is_old) in
      let gone : is_some (source_at (library_of files) file) ≡ false = ap is_some is_new in
      absurd (cc)

  pub read_as_before : HaveSameHeaders before (library_of files) × HaveTextsBut before (library_of files) edited
  read_as_before =
      let at = λ (file : List ℕ). as_before file (source_at before file) (source_at (library_of files) file) refl refl in
      (record { files = names; contents = λ file. (at file).0 }, λ file never. (at file).1 never)

-- the libraries of such files have the same headers
pub edited_as : (before now : Library) → AreOfTexts before → AreOfTexts now → (found : Option Edited) → IfSome found (λ edited. HaveSameHeaders before now × HaveTextsBut before now edited) → IfSome found (λ edited. HaveSameHeaders (library_of (texts_of before)) (library_of (texts_of now)) × HaveTextsBut (library_of (texts_of before)) (library_of (texts_of now)) edited)
edited_as before now of_before of_now None is = tt
edited_as before now of_before of_now (Some edited) is =
    subst (λ (l : Library). HaveSameHeaders l (library_of (texts_of now)) × HaveTextsBut l (library_of (texts_of now)) edited) of_before
    (subst (λ (l : Library). HaveSameHeaders before l × HaveTextsBut before l edited) of_now is)
