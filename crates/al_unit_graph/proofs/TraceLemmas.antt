-- Traces are the same where no file that is met differs.
use Rattle.std.proofs.Common.{◌≡◌, ◌≢◌, ℕ, Bool, true, false, List, [], ◌∷◌, ◌⊎◌, inl, inr, Option, Some, None, refl, ap, subst, sym, ◌∙◌}
use Rattle.std.specs.Option.{option_map_or, option_and_then}
use Rattle.std.specs.Str.{bytes_eq}
use Rattle.std.specs.List.{Contains, flat_map}
use Rattle.std.proofs.lemmas.List.Elements.{Contains-append_left, Contains-append_right}
use Rattle.std.proofs.lemmas.Slice.Eq.{bytes_eq-Decides}
use Rattle.al_base.specs.FileNames.{file_name_of}
use Rattle.al_base.specs.declared.unit_key.UnitKind.TheVariants.{Decl, Body}
use Rattle.al_unit_graph.specs.Headers.{Mention, Header, Library, is_library_body}
use Rattle.al_unit_graph.specs.Names.{lineage, parent_of}
use Rattle.al_unit_graph.specs.Library.{source_at, is_there, unit_in, held}
use Rattle.al_unit_graph.specs.Traces.{text_at, has_no_file, declaration_files, own_files, parent_files, mention_files, wanted_files, Meets, HasSameTrace, IsTouched, AreReadAlike, TracesAreTouched}
use Rattle.al_unit_graph.specs.Traces.Meets.{itself, wanted}
use Rattle.al_base_graph.proofs.Members.{first}

same_bytes : (x y : List ℕ) (b : Bool) → bytes_eq x y ≡ b → (x ≡ y) ⊎ (x ≢ y)
same_bytes x y true is = inl ((bytes_eq-Decides x y).0 is)
same_bytes x y false is = inr (λ same. let e = (bytes_eq-Decides x y).1 same in cc)

-- texts can be compared
same_or_not : (x y : Option (List ℕ)) → (x ≡ y) ⊎ (x ≢ y)
same_or_not None None = inl refl
same_or_not None (Some y) = inr (λ same. cc)
same_or_not (Some x) None = inr (λ same. cc)
same_or_not (Some x) (Some y) =
    elim (same_bytes x y (bytes_eq x y) refl) [
      | inl same ↦ inl (ap (λ t. Some t) same)
      | inr differ ↦ inr (λ same. differ (ap (λ o. elim o as (λ _. List ℕ) [ Some t ↦ t | None ↦ [] ]) same))
    ]

flat_map_alike : {X Y : Type 0} (P : Y → Type 0) (f g : X → List Y) → ((x : X) → ((y : Y) → Contains (g x) y → P y) → f x ≡ g x) → (xs : List X) → ((y : Y) → Contains (flat_map g xs) y → P y) → flat_map f xs ≡ flat_map g xs
flat_map_alike P f g alike [] all = refl
flat_map_alike P f g alike (x ∷ xs) all =
    let here = alike x (λ y c. all y (Contains-append_left (g x) (flat_map g xs) y c)) in
    let there = flat_map_alike P f g alike xs (λ y c. all y (Contains-append_right (g x) (flat_map g xs) y c)) in
    cc

module _ (old new : Library) where
  abbrev Alike : List ℕ → Type 0
  Alike file = source_at old file ≡ source_at new file

  -- the declaration is looked for in the same files, where the first of them is alike in both
  declaration_by : (name : List ℕ) (b there : Bool) → has_no_file name ≡ b → is_there new (file_name_of (name, Decl)) ≡ there → ((y : List ℕ) → Contains (declaration_files new name) y → Alike y) → declaration_files old name ≡ declaration_files new name
  declaration_by name true there without is all = rw without refl
  declaration_by name false true without is all =
      let at_first : Contains (declaration_files new name) (file_name_of (name, Decl)) = rw without (rw is (first (file_name_of (name, Decl)) [])) in
      let same = all (file_name_of (name, Decl)) at_first in
      rw without (rw same refl)
  declaration_by name false false without is all =
      let at_first : Contains (declaration_files new name) (file_name_of (name, Decl)) = rw without (rw is (first (file_name_of (name, Decl)) (file_name_of (name, Body) ∷ []))) in
      let same = all (file_name_of (name, Decl)) at_first in
      rw without (rw same refl)

  declaration_alike : (name : List ℕ) → ((y : List ℕ) → Contains (declaration_files new name) y → Alike y) → declaration_files old name ≡ declaration_files new name
  declaration_alike name all = declaration_by name (has_no_file name) (is_there new (file_name_of (name, Decl))) refl refl all

  mention_alike : (m : Mention) → ((y : List ℕ) → Contains (mention_files new m) y → Alike y) → mention_files old m ≡ mention_files new m
  mention_alike m all = flat_map_alike Alike (declaration_files old) (declaration_files new) declaration_alike (lineage m.name) all

  own_by : (h : Header) (b : Bool) → is_library_body h.form ≡ b → ((y : List ℕ) → Contains (own_files new h) y → Alike y) → own_files old h ≡ own_files new h
  own_by h true is all = rw is (declaration_alike h.name (λ y c. all y (rw is c)))
  own_by h false is all = rw is refl

  abbrev of_parent : Library → Option (List ℕ) → List (List ℕ)
  of_parent lib parent = option_map_or (declaration_files lib) parent []

  of_parent_alike : (parent : Option (List ℕ)) → ((y : List ℕ) → Contains (of_parent new parent) y → Alike y) → of_parent old parent ≡ of_parent new parent
  of_parent_alike None all = refl
  of_parent_alike (Some name) all = declaration_alike name all

  parent_alike : (h : Header) (parent : Option Mention) → ((y : List ℕ) → Contains (parent_files new h parent) y → Alike y) → parent_files old h parent ≡ parent_files new h parent
  parent_alike h None all =
      let theirs = of_parent_alike (parent_of h.name) (λ y c. all y (Contains-append_left (of_parent new (parent_of h.name)) (own_files new h) y c)) in
      let own = own_by h (is_library_body h.form) refl (λ y c. all y (Contains-append_right (of_parent new (parent_of h.name)) (own_files new h) y c)) in
      cc
  parent_alike h (Some parent) all = refl

  wanted_alike : (h : Header) → ((y : List ℕ) → Contains (wanted_files new h) y → Alike y) → wanted_files old h ≡ wanted_files new h
  unfolding wanted_files
  wanted_alike h all =
      let mine = parent_files new h h.parent_body in
      let theirs = flat_map (mention_files new) h.mentions in
      let left = parent_alike h h.parent_body (λ y c. all y (Contains-append_left mine theirs y c)) in
      let right = flat_map_alike Alike (mention_files old) (mention_files new) mention_alike h.mentions (λ y c. all y (Contains-append_right mine theirs y c)) in
      cc

  module _ (first : List ℕ) (alike : AreReadAlike old new) (untouched : IsTouched old new first → ⊥) where
    same_text : (file : List ℕ) → Meets new first file → text_at old file ≡ text_at new file
    same_text file m =
        elim (same_or_not (text_at old file) (text_at new file)) [
          | inl same ↦ same
          | inr differ ↦ absurd (untouched (file, m, differ))
        ]

    same_wanted : (file : List ℕ) (h : Header) → Meets new first file → unit_in new file ≡ Some h → wanted_files old h ≡ wanted_files new h
    same_wanted file h m is = wanted_alike h (λ y c. alike y (same_text y (wanted m is c)))

    same_unit : (file : List ℕ) → Meets new first file → unit_in old file ≡ unit_in new file
    same_unit file m = ap (λ source. option_and_then (λ s. held file s.contents) source) (alike file (same_text file m))

    to_old : (file : List ℕ) → Meets new first file → Meets old first file
    to_old _ itself = itself
    to_old next (wanted {file = file} {h = h} m is c) =
        wanted (to_old file m) (same_unit file m ∙ is) (subst (λ files. Contains files next) (sym (same_wanted file h m is)) c)

    to_new : (file : List ℕ) → Meets old first file → Meets new first file
    to_new _ itself = itself
    to_new next (wanted {file = file} {h = h} m is c) =
        let n = to_new file m in
        let is_new = sym (same_unit file n) ∙ is in
        wanted n is_new (subst (λ files. Contains files next) (same_wanted file h n is_new) c)

    same_trace : HasSameTrace old new first
    same_trace pair = (
      (λ t. let m = to_new pair.0 t.0 in (m, sym (same_text pair.0 m) ∙ t.1)),
      (λ t. (to_old pair.0 t.0, same_text pair.0 t.0 ∙ t.1)),
    )

pub traces_are_touched : TracesAreTouched
traces_are_touched old new first alike = (
  (λ same touched. touched.2 ((same (touched.0, text_at new touched.0)).1 (touched.1, refl)).1),
  (λ untouched. same_trace old new first alike untouched),
)
