-- A library of texts is what they are read as.
use Rattle.std.proofs.Common.{◌≡◌, ℕ, suc, ◌<◌, List, [], ◌∷◌, Option, Some, None, length, get_or, map, take, refl, sym, ap, ◌∙◌}
use Rattle.std.specs.Option.{option_map}
use Rattle.std.specs.Map.{keys_of}
use Rattle.std.specs.BTreeMap.{insert_entry, is_at}
use Rattle.std.proofs.lemmas.Map.Made.{lookup-map_values}
use Rattle.al_base.specs.FileLaws.{Ascend}
use Rattle.al_base.specs.Files.{Texts, name_cmp, text_of}
use Rattle.al_unit_graph.specs.Headers.{Source, Library}
use Rattle.al_unit_graph.specs.Library.{source_at}
use Rattle.al_unit_graph.specs.Traces.{text_at}
use Rattle.al_unit.specs.Libraries.{source_of, library_of, texts_of}
use Rattle.al_unit.specs.Laws.{TextsAreReadAlike}
use Rattle.al_unit.proofs.Ascending.{insert_next}

module _ {A : Type 0} (v : A → List ℕ × List ℕ) (xs : List A) (i : ℕ) (a : A) (sorted : Ascend (map v xs)) (within : i < length xs) (is : a ≡ get_or xs i a) where
  pub next_source : insert_entry name_cmp (library_of (map v (take i xs))) (v a).0 (source_of (v a).1) ≡ library_of (map v (take (suc i) xs))
  unfolding library_of
  next_source = insert_next v source_of xs i a sorted within is

pub no_library : library_of [] ≡ []
unfolding library_of
no_library = refl

pub texts_of-library_of : (files : Texts) → texts_of (library_of files) ≡ files
unfolding library_of
texts_of-library_of [] = refl
texts_of-library_of (f ∷ fs) = ap (λ gs. f ∷ gs) (texts_of-library_of fs)

module _ (file : List ℕ) where
  source_of_file : (files : Texts) → source_at (library_of files) file ≡ option_map source_of (text_of files file)
  unfolding library_of
  source_of_file files = lookup-map_values source_of (is_at (name_cmp file)) files

  text_of_source : (text : Option (List ℕ)) → option_map (λ s. s.text) (option_map source_of text) ≡ text
  text_of_source None = refl
  text_of_source (Some t) = refl

  text_at-library_of : (files : Texts) → text_at (library_of files) file ≡ text_of files file
  text_at-library_of files = ap (option_map (λ s. s.text)) (source_of_file files) ∙ text_of_source (text_of files file)

  alike : (old new : Texts) → text_at (library_of old) file ≡ text_at (library_of new) file → source_at (library_of old) file ≡ source_at (library_of new) file
  alike old new same =
      source_of_file old
      ∙ ap (option_map source_of) (sym (text_at-library_of old) ∙ same ∙ text_at-library_of new)
      ∙ sym (source_of_file new)

-- what the files of two libraries are read as goes by their texts
pub texts_are_read_alike : TextsAreReadAlike
texts_are_read_alike old new file = alike file old new

module _ (lib : Library) (file : List ℕ) (is_library : lib ≡ library_of (texts_of lib)) (source : Source) (found : Some source ≡ source_at lib file) where
  its_text : (text : Option (List ℕ)) → option_map source_of text ≡ Some source → source ≡ source_of source.text
  its_text None is = cc
  its_text (Some t) is =
      let whole : source_of t ≡ source = cc in
      sym whole ∙ ap (λ s. source_of s.text) whole

  -- a source that was looked up is that of the file's text
  pub source_of_its_text : source ≡ source_of source.text
  source_of_its_text =
      its_text
      (text_of (texts_of lib) file)
      (sym (found ∙ ap (λ l. source_at l file) is_library ∙ source_of_file file (texts_of lib)))

pub names_of-library_of : (files : Texts) → keys_of (library_of files) ≡ keys_of files
unfolding library_of
names_of-library_of [] = refl
names_of-library_of (f ∷ fs) = ap (λ ns. f.0 ∷ ns) (names_of-library_of fs)
