-- The files of toys.
use Rattle.std.proofs.Common.{◌≡◌, ℕ, zero, suc, ◌<◌, Bool, true, false, cond, List, [], ◌∷◌, Option, Some, None, length, get_or, map, take, refl, sym, ap, subst, ◌∙◌, arith}
use Rattle.std.specs.Option.{is_some, option_map}
use Rattle.std.specs.Ordering.{ordering_reverse}
use Rattle.std.specs.declared.cmp.Ordering.TheVariants.{Less, Greater}
use Rattle.std.specs.Cmp.Lexicographic.{nat_list_cmp_total}
use Rattle.std.specs.List.{AllByRecursion}
use Rattle.std.specs.List.Sorted.{IsStrictlySortedBy}
use Rattle.std.specs.Map.{keys_of}
use Rattle.std.specs.BTreeMap.{insert_entry, is_at}
use Rattle.std.proofs.lemmas.Map.Made.{lookup-map_values}
use Rattle.al_base.specs.FileLaws.{Ascend}
use Rattle.al_base.specs.Files.{Texts, name_cmp, text_of}
use Rattle.al_base.specs.declared.unit_key.UnitKind.TheVariants.{Sub}
use Rattle.al_unit_graph.specs.Headers.{Header, Headed, Library, Mention, Source, kind_of}
use Rattle.al_unit_graph.specs.Library.{is_kind, source_at}
use Rattle.al_unit_graph.specs.Traces.{text_at}
use Rattle.al_unit_graph.specs.declared.header.UnitForm.TheVariants.{PackageDeclaration, SubprogramBody}
use Rattle.al_unit_faults.specs.Read.{AreHeaded, NameParentBodies, NamesParentBody}
use Rattle.al_engine_toy.specs.Toys.{AreToys, ToysAreRead, header_in, header_of, is_main, source_of, texts_of, toy_library, words_from}

-- ---- files that are added by ascending names are in that order

module _ {A : Type 0} (v : A → List ℕ × List ℕ) where
  -- what holds of each name holds of the one of an item
  below_item : (xs : List A) (k : List ℕ) (i : ℕ) (a : A) → AllByRecursion (λ n. name_cmp k n ≡ Less) (keys_of (map v xs)) → i < length xs → a ≡ get_or xs i a → name_cmp k (v a).0 ≡ Less
  below_item [] k i a below within is = absurd (omega (arith, within))
  below_item (x ∷ xs) k zero a below within is = ap (λ a. name_cmp k (v a).0) is ∙ below.0
  below_item (x ∷ xs) k (suc i) a below within is = below_item xs k i a below.1 (omega (arith, within)) is

  pub next_file : (xs : List A) (i : ℕ) (a : A) → Ascend (map v xs) → i < length xs → a ≡ get_or xs i a → insert_entry name_cmp (toy_library (map v (take i xs))) (v a).0 (source_of (v a).1) ≡ toy_library (map v (take (suc i) xs))
  unfolding IsStrictlySortedBy toy_library
  next_file [] i a sorted within is = absurd (omega (arith, within))
  next_file (x ∷ xs) zero a sorted within is = ap (λ a. ((v a).0, source_of (v a).1) ∷ []) is
  next_file (x ∷ xs) (suc i) a sorted within is =
      let above : name_cmp (v a).0 (v x).0 ≡ Greater = nat_list_cmp_total.antisymm (v a).0 (v x).0 ∙ ap ordering_reverse (below_item xs (v x).0 i a sorted.0 (omega (arith, within)) is) in
      rw above (ap (λ es. ((v x).0, source_of (v x).1) ∷ es) (next_file xs i a sorted.1 (omega (arith, within)) is))

-- ---- a library and its sources

pub no_library : toy_library [] ≡ []
unfolding toy_library
no_library = refl

pub texts_of-library : (files : Texts) → texts_of (toy_library files) ≡ files
unfolding toy_library
texts_of-library [] = refl
texts_of-library (f ∷ fs) = ap (λ gs. f ∷ gs) (texts_of-library fs)

-- a library of sources is that of its own sources
pub are_toys : (lib : Library) (files : Texts) → lib ≡ toy_library files → AreToys lib
are_toys lib files is = is ∙ ap toy_library (sym (ap texts_of is ∙ texts_of-library files))

source_of_file : (files : Texts) (file : List ℕ) → source_at (toy_library files) file ≡ option_map source_of (text_of files file)
unfolding toy_library
source_of_file files file = lookup-map_values source_of (is_at (name_cmp file)) files

its_text : (source : Source) (text : Option (List ℕ)) → option_map source_of text ≡ Some source → source_of source.text ≡ source
its_text source None is = absurd (cc)
its_text source (Some t) is = let whole : source_of t ≡ source = cc in sym (ap (λ (s : Source). source_of s.text) whole) ∙ whole

-- a file that was looked up is that of its source
pub toy_at : (lib : Library) → AreToys lib → (file : List ℕ) (source : Source) → source_at lib file ≡ Some source → source_of source.text ≡ source
toy_at lib are file source is =
    its_text source (text_of (texts_of lib) file) (sym (source_of_file (texts_of lib) file) ∙ ap (λ (l : Library). source_at l file) (sym are) ∙ is)

-- ---- what is read

headed_is : (lib : Library) → AreToys lib → (file : List ℕ) (source : Source) (h : Header) → source_at lib file ≡ Some source → source.contents ≡ Headed h → header_in source.text ≡ h
headed_is lib are file source h is headed =
    let contents : Headed (header_in source.text) ≡ Headed h = ap (λ (s : Source). s.contents) (toy_at lib are file source is) ∙ headed in
    cc

pub toys_are_headed : (lib : Library) → AreToys lib → AreHeaded header_in lib
toys_are_headed lib are = headed_is lib are

kinds_by : (b : Bool) → is_kind (kind_of (cond b SubprogramBody PackageDeclaration)) Sub ≡ false
kinds_by true = refl
kinds_by false = refl

-- just the subunits name a parent body: there are none
named_in : (form : ℕ) (names : List (List ℕ)) → is_some (header_of form names).parent_body ≡ is_kind (kind_of (header_of form names).form) Sub
named_in form [] = refl
named_in form (n ∷ ns) = sym (kinds_by (is_main form))

named_by : (text : List ℕ) → is_some (header_in text).parent_body ≡ is_kind (kind_of (header_in text).form) Sub
named_by [] = refl
named_by (a ∷ []) = refl
named_by (a ∷ b ∷ rest) = named_in a (words_from [] rest)

none_in : (form : ℕ) (names : List (List ℕ)) → (header_of form names).parent_body ≡ None
none_in form [] = refl
none_in form (n ∷ ns) = refl

none_by : (text : List ℕ) → (header_in text).parent_body ≡ None
none_by [] = refl
none_by (a ∷ []) = refl
none_by (a ∷ b ∷ rest) = none_in a (words_from [] rest)

no_mention : (m : Mention) (o : Option Mention) → o ≡ None → o ≡ Some m → ⊥
no_mention m o none some = cc

names_by : (text : List ℕ) → NamesParentBody (header_in text)
names_by text = record { has = named_by text; name = λ m is. absurd (no_mention m (header_in text).parent_body (none_by text) is) }

parents_are : (lib : Library) → AreToys lib → (file : List ℕ) (source : Source) (h : Header) → source_at lib file ≡ Some source → source.contents ≡ Headed h → NamesParentBody h
parents_are lib are file source h is headed = subst (λ (x : Header). NamesParentBody x) (headed_is lib are file source h is headed) (names_by source.text)

pub toys_name_parents : (lib : Library) → AreToys lib → NameParentBodies lib
toys_name_parents lib are = parents_are lib are

text_of_source : (text : Option (List ℕ)) → option_map (λ s. s.text) (option_map source_of text) ≡ text
text_of_source None = refl
text_of_source (Some t) = refl

text_at-library : (files : Texts) (file : List ℕ) → text_at (toy_library files) file ≡ text_of files file
text_at-library files file = ap (option_map (λ s. s.text)) (source_of_file files file) ∙ text_of_source (text_of files file)

alike : (old new : Texts) (file : List ℕ) → text_at (toy_library old) file ≡ text_at (toy_library new) file → source_at (toy_library old) file ≡ source_at (toy_library new) file
alike old new file same =
    source_of_file old file
    ∙ ap (option_map source_of) (sym (text_at-library old file) ∙ same ∙ text_at-library new file)
    ∙ sym (source_of_file new file)

pub are_read : ToysAreRead
are_read = record {
  headed = λ files. toys_are_headed (toy_library files) (are_toys (toy_library files) files refl);
  bodies = λ files. toys_name_parents (toy_library files) (are_toys (toy_library files) files refl);
  alike = λ old new file. alike old new file;
}
