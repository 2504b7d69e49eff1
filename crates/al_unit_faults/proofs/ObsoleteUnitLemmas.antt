-- The units of a library are those that its files hold.
use Rattle.std.proofs.Common.{◌≡◌, ℕ, Bool, true, false, not, List, Option, Some, None, refl, ap, subst, sym, ◌∙◌, if◌then◌else◌}
use Rattle.std.specs.Option.{option_map, option_and_then}
use Rattle.std.specs.List.{Contains}
use Rattle.std.specs.Map.{keys_of}
use Rattle.std.specs.Str.{bytes_eq}
use Rattle.std.proofs.lemmas.Map.Lookups.{exact_bytes}
use Rattle.std.proofs.lemmas.Map.Views.{Contains-from_lookup, tells_apart}
use Rattle.std.proofs.lemmas.Option.{option_and_then_some}
use Rattle.std.proofs.lemmas.Slice.Eq.{bytes_eq-Decides}
use Rattle.al_base.specs.Batch.{Key}
use Rattle.al_base.specs.FileNames.{file_name_of}
use Rattle.al_base.specs.declared.unit_key.UnitKind.{UnitKind}
use Rattle.al_base.specs.declared.unit_key.UnitKind.TheVariants.{Decl, Body, Sub}
use Rattle.al_base_graph.proofs.Members.{nowhere, the_one, one, from_flat_map, into_flat_map}
use Rattle.al_unit_graph.specs.Headers.{Header, Contents, Headed, Unread, Source, Library, key_of_unit, kind_of}
use Rattle.al_unit_graph.specs.Names.{is_reserved}
use Rattle.al_unit_graph.specs.Library.{source_at, is_rightly_named, held, unit_in, is_kind, of_key, unit_at}
use Rattle.al_unit_graph.specs.Dependence.{listed}
use Rattle.al_unit_graph.specs.Closures.{is_same_key}
use Rattle.al_unit_graph.proofs.BoolLemmas.{both}
use Rattle.al_unit_graph.proofs.ClosureLemmas.{same_key}
use Rattle.al_unit_faults.specs.Units.{unit_of_file, units_of, keys_of_units, UnitsAreHeld}
use Rattle.al_unit_graph.proofs.Lists.{from_map, into_map}

is_itself : (k : UnitKind) → is_kind k k ≡ true
is_itself Decl = refl
is_itself Body = refl
is_itself Sub = refl

chosen : (b : Bool) (h u : Header) → (if b then Some h else None) ≡ Some u → (b ≡ true) × (h ≡ u)
chosen true h u is = (refl, cc)
chosen false h u is = absurd (cc)

module _ (lib : Library) where
  -- a file that is there is one of the library's
  pub source_there : (file : List ℕ) (s : Source) → source_at lib file ≡ Some s → Contains lib (file, s)
  source_there file s is = Contains-from_lookup (tells_apart exact_bytes) file s lib is

  pub file_there : (file : List ℕ) (s : Source) → source_at lib file ≡ Some s → Contains (keys_of lib) file
  file_there file s is = into_map (λ e. e.0) lib (file, s) (source_there file s is)

  held_named : (file : List ℕ) (contents : Contents) (h : Header) → held file contents ≡ Some h → is_rightly_named file h ≡ true
  held_named file (Headed g) h is = let r = chosen (is_rightly_named file g) g h is in ap (λ u. is_rightly_named file u) (sym r.1) ∙ r.0
  held_named file (Unread place code) h is = absurd (cc)

  -- the unit that a file holds has the file's name
  pub file_named : (file : List ℕ) (h : Header) → unit_in lib file ≡ Some h → file ≡ file_name_of (key_of_unit h)
  file_named file h is =
      option_and_then_some (λ source. held file source.contents) (source_at lib file) h is
      (λ s there holds.
      (bytes_eq-Decides file (file_name_of (key_of_unit h))).0
      (both (bytes_eq file (file_name_of (key_of_unit h))) (not (is_reserved h.name)) (held_named file s.contents h holds)).0)

  pub source_of_unit : (file : List ℕ) (h : Header) → unit_in lib file ≡ Some h → (s : Source) × (source_at lib file ≡ Some s)
  source_of_unit file h is = option_and_then_some (λ source. held file source.contents) (source_at lib file) h is (λ s there holds. (s, there))

  of_itself : (h : Header) → of_key (key_of_unit h) h ≡ Some h
  of_itself h = rw ((bytes_eq-Decides h.name h.name).1 refl) (rw (is_itself (kind_of h.form)) refl)

  pub unit_there : (file : List ℕ) (h : Header) → unit_in lib file ≡ Some h → unit_at lib (key_of_unit h) ≡ Some h
  unfolding unit_at
  unit_there file h is =
      let same = file_named file h is in
      ap (λ u. option_and_then (of_key (key_of_unit h)) u) (ap (λ f. unit_in lib f) (sym same) ∙ is) ∙ of_itself h

  pub unit_back : (key : Key) (h : Header) → unit_at lib key ≡ Some h → (unit_in lib (file_name_of key) ≡ Some h) × (key_of_unit h ≡ key)
  unfolding unit_at
  unit_back key h is =
      option_and_then_some (of_key key) (unit_in lib (file_name_of key)) h is
      (λ u there of.
      let r = chosen (is_same_key (key_of_unit u) key) u h of in
      (there ∙ ap (λ v. Some v) r.1, ap key_of_unit (sym r.1) ∙ same_key (key_of_unit u) key r.0))

  listed_by : (file : List ℕ) (o : Option Header) → unit_in lib file ≡ o → (key : Key) → Contains (listed (option_map key_of_unit o)) key → (h : Header) × (unit_in lib file ≡ Some h) × (key_of_unit h ≡ key)
  listed_by file None is key c = absurd (nowhere key c)
  listed_by file (Some h) is key c = (h, is, the_one (key_of_unit h) key c)

  -- the unit of a key in the list, and its file
  pub of_units : (key : Key) → Contains (keys_of_units lib) key → (h : Header) × (unit_at lib key ≡ Some h)
  unfolding units_of
  of_units key c =
      let r = from_flat_map (λ file. listed file.1) (units_of lib) key c in
      let s = from_map (unit_of_file lib) (keys_of lib) r.0 r.1 in
      let u = listed_by s.0 (unit_in lib s.0) refl key (subst (λ file. Contains (listed file.1) key) (sym s.2) r.2) in
      (u.0, subst (λ k. unit_at lib k ≡ Some u.0) u.2 (unit_there s.0 u.0 u.1))

  pub into_units : (key : Key) (h : Header) → unit_at lib key ≡ Some h → Contains (keys_of_units lib) key
  unfolding units_of
  into_units key h is =
      let b = unit_back key h is in
      let s = source_of_unit (file_name_of key) h b.0 in
      let at = into_map (unit_of_file lib) (keys_of lib) (file_name_of key) (file_there (file_name_of key) s.0 s.1) in
      into_flat_map (λ file. listed file.1) (units_of lib) (unit_of_file lib (file_name_of key)) key at
      (subst (λ o. Contains (listed (option_map key_of_unit o)) key) (sym b.0) (subst (λ k. Contains (listed (Some k)) key) (sym b.1) (one key)))

pub units_are_held : UnitsAreHeld
units_are_held lib key = (of_units lib key, λ u. into_units lib key u.0 u.1)
