-- An object that is put in the place of another one.
use Rattle.std.proofs.Common.{◌≡◌, ℕ, zero, suc, ◌+◌, ◌*◌, ◌<◌, ◌≤◌, List, [], ◌∷◌, ◌++◌, length, take, set, get_or, map, Option, Some, None, option_map, refl, sym, ap, subst, ◌∙◌, append_assoc, arith, length-append}
use Rattle.std.specs.List.{All, flat_map}
use Rattle.std.specs.Vec.{with_items}
use Rattle.std.proofs.lemmas.List.Elements.{All-set}
use Rattle.std.proofs.lemmas.List.Sums.{sum_by-cons}
use Rattle.std.proofs.lemmas.List.{length-map, map-set}
use Rattle.al_base.specs.declared.unit_key.UnitKey.{UnitKey}
use Rattle.al_view.specs.declared.link.LinkSymbol.{LinkSymbol}
use Rattle.al_instr.specs.Codes.{code_bytes, word_bytes}
use Rattle.al_instr.specs.declared.lines.LineEntry.{LineEntry}
use Rattle.al_link_image.specs.declared.parts.ImageObject.{ImageObject}
use Rattle.al_link_image.specs.declared.parts.ImageParts.{ImageParts}
use Rattle.al_link_image.specs.declared.parts.Region.{Region}
use Rattle.al_link_image.specs.Images.{Image, front_bytes, image_bytes}
use Rattle.al_link_image.specs.Lines.{entry_bytes, lines_bytes}
use Rattle.al_link_image.specs.Parts as parts
use Rattle.al_link_image.specs.Parts.{IsCode, IsWhole, code_of}
use Rattle.al_link_image.specs.Sizes.{lines_size}
use Rattle.al_link_image.proofs.Sizes.{word_length}
use Rattle.al_link.specs.declared.bases.Bases.{Bases}
use Rattle.al_link.specs.Bases.{next_bases}
use Rattle.al_link.specs.Images.{code_linked, image_of, object_of, region_at}
use Rattle.al_link.specs.Kept.{IsKeeping, IsLinked, all_located, kept_model, starting_of}
use Rattle.al_link.specs.Linking.{places_of}
use Rattle.al_link.specs.declared.kept.KeptUnit.{KeptUnit}
use Rattle.al_link.specs.Relinking.{IsInPlace, Shape, code_size, differs, linked_units, piece, regions_from, shape_of, with_bytes}
use Rattle.al_link.specs.Symbols.{Places}
use Rattle.al_link.specs.Units.{AreWithin, Located, UnitObject, first_bases, located}
use Rattle.al_link.proofs.AgainLemmas.{linked_again, linked_located, old_size, whole_again}
use Rattle.al_link.proofs.LineLemmas.{code_after}
use Rattle.al_link.proofs.PieceLemmas.{code_exchanged, code_room, linked_code, over_within, piece_length}
use Rattle.al_link.proofs.RegionLemmas.{regions_located}
use Rattle.al_link.proofs.ShapeLemmas.{AreAlike, within_same}

-- ---- one unit of many

alike_but : (us : List UnitObject) (at : ℕ) (u : UnitObject) → shape_of u ≡ shape_of (get_or us at u) → AreAlike (set us at u) us
alike_but [] at u e = refl
alike_but (k ∷ us) zero u e = ap (λ (s : Shape). s ∷ map shape_of us) e
alike_but (k ∷ us) (suc n) u e = ap (λ (ss : List Shape). shape_of k ∷ ss) (alike_but us n u e)

regions_but : (words : ℕ) (us : List UnitObject) (at : ℕ) (u : UnitObject) → shape_of u ≡ shape_of (get_or us at u) → u.object.protected ≡ (get_or us at u).object.protected → regions_from words (set us at u) ≡ regions_from words us
regions_but words [] at u e r = refl
regions_but words (k ∷ us) zero u e r =
    let size : u.object.data_words ≡ k.object.data_words = ap (λ (s : Shape). s.data_words) e in
    rw (r, size) refl
regions_but words (k ∷ us) (suc n) u e r = ap (λ (rs : List Region). map (region_at words) k.object.protected ++ rs) (regions_but (words + k.object.data_words) us n u e r)

object_place : (b : Bases) (us : List UnitObject) (at : ℕ) (d : ImageObject) → at < length us → (get_or (map object_of (located b us)) at d).place ≡ b.code + code_size (take at us)
object_place b [] at d lt = absurd (omega arith)
object_place b (k ∷ us) zero d lt = omega arith
object_place b (k ∷ us) (suc n) d lt =
    omega (arith, object_place (next_bases b k.object) us n d (omega arith), sum_by-cons (λ x. length x.object.code) k (take n us))

located_length : (b : Bases) (us : List UnitObject) → length (map object_of (located b us)) ≡ length us
located_length b [] = refl
located_length b (u ∷ us) = ap (λ (n : ℕ). suc n) (located_length (next_bases b u.object) us)

-- a unit that is kept at a place
pub kept_there : (ks : List KeptUnit) (at : ℕ) (k : KeptUnit) (u : UnitObject) → at < length ks → k ≡ get_or ks at k → get_or (map kept_model ks) at u ≡ kept_model k
kept_there [] at k u lt e = absurd (omega arith)
kept_there (x ∷ ks) zero k u lt e = ap kept_model (sym e)
kept_there (x ∷ ks) (suc n) k u lt e = kept_there ks n k u (omega arith) e

module _ (ks : List KeptUnit) (at : ℕ) (u : UnitObject) (i : IsInPlace (map kept_model ks) at u) (k new : KeptUnit) (k_is : k ≡ get_or ks at k) (kept : kept_model new ≡ record { key = k.key; object = u.object }) where
  there : get_or (map kept_model ks) at u ≡ kept_model k
  there = kept_there ks at k u (omega (arith, i.within, length-map ks kept_model)) k_is

  new_is : kept_model new ≡ u
  new_is =
      let key_is : k.key ≡ u.key = sym (ap (λ (s : Shape). s.key) (i.shape_is ∙ ap (λ (x : UnitObject). shape_of x) there)) in
      kept ∙ ap (λ (key : UnitKey). record { key = key; object = u.object }) key_is

  pub kept_exchanged : map kept_model (set ks at new) ≡ set (map kept_model ks) at u
  kept_exchanged = map-set kept_model ks at new ∙ ap (λ (x : UnitObject). set (map kept_model ks) at x) new_is

  pub count_exchanged : (count : ℕ) → count ≡ differs (kept_model k) (kept_model new) → count ≡ differs (get_or (map kept_model ks) at u) u
  count_exchanged count e = e ∙ ap (λ (x : UnitObject). differs x (kept_model new)) (sym there) ∙ ap (λ (x : UnitObject). differs (get_or (map kept_model ks) at u) x) new_is

-- ---- an image's bytes by its code's

entry_length : (e : LineEntry) → length (entry_bytes e) ≡ 8
entry_length e = length-append (word_bytes e.place) (word_bytes e.line) ∙ omega (arith, word_length e.place, word_length e.line)

entries_length : (es : List LineEntry) → length (flat_map entry_bytes es) ≡ 8 * length es
entries_length [] = refl
entries_length (e ∷ es) = omega (arith, length-append (entry_bytes e) (flat_map entry_bytes es), entry_length e, entries_length es)

lines_length : (lines : Option (List LineEntry)) → length (lines_bytes lines) ≡ lines_size lines
lines_length None = refl
lines_length (Some es) = length-append (word_bytes (length es)) (flat_map entry_bytes es) ∙ omega (arith, word_length (length es), entries_length es)

abbrev lines_in : ImageParts → Option (List LineEntry)
lines_in p = option_map (λ v. v.items) p.lines

-- what precedes the code
abbrev before_code : ImageParts → List ℕ → List ℕ
before_code p code = front_bytes (parts.image_of p) ++ word_bytes (length code)

whole_bytes : (p : ImageParts) → IsWhole p → image_bytes (parts.image_of p) ≡ before_code p p.code.items ++ (p.code.items ++ lines_bytes (lines_in p))
unfolding image_bytes
whole_bytes p h =
    append_assoc (before_code p (code_bytes (code_of p.code.items))) (code_bytes (code_of p.code.items)) (lines_bytes (lines_in p))
    ∙ ap (λ (bs : List ℕ). before_code p bs ++ (bs ++ lines_bytes (lines_in p))) h.bytes_are

-- parts with other code
abbrev pub with_code : ImageParts → List ℕ → ImageParts
with_code p code = record { tasks = p.tasks; data_words = p.data_words; protected = p.protected; objects = p.objects; code = with_items p.code code; lines = p.lines }

-- ---- a linked image

module _ (main : LinkSymbol) (us : List UnitObject) (image : Image) (places : Places) (start : List ℕ) (p : ImageParts) (h : IsLinked main us image places start) (im : image ≡ parts.image_of p) (whole_p : IsWhole p) (at : ℕ) (u : UnitObject) (i : IsInPlace us at u) where
  abbrev units_now : List UnitObject
  units_now = set us at u

  was : parts.image_of p ≡ image_of main us
  was = sym im ∙ h.image_is

  alike : AreAlike units_now us
  alike = alike_but us at u i.shape_is

  code_was : p.code.items ≡ linked_units places start us
  code_was =
      let xs : List Located = all_located us in
      let linked_is : code_linked main xs ≡ linked_units places start us =
      linked_located (places_of xs) (starting_of main us) (first_bases us) us
      ∙ ap (λ (q : Places). linked_units q (starting_of main us) us) (sym h.places_are)
      ∙ ap (λ (bs : List ℕ). linked_units places bs us) (sym h.start_is) in
      let is : IsCode (linked_units places start us) = linked_code places start us h.start_code h.keep in
      sym whole_p.bytes_are ∙ ap (λ (j : Image). code_bytes j.code) was ∙ ap (λ (bs : List ℕ). code_bytes (code_of bs)) linked_is ∙ is.bytes_are

  start_length : length start ≡ (first_bases us).code
  start_length = omega (arith, h.size, code_after (first_bases us) us)

  pub within_exchanged : AreWithin units_now
  within_exchanged = within_same units_now us alike h.within

  pub is_there : at < length p.objects.items
  is_there =
      let n : length p.objects.items ≡ length us = ap (λ (j : Image). length j.objects) was ∙ located_length (first_bases us) us in
      omega (arith, n, i.within)

  pub place_is : (o : ImageObject) → o ≡ get_or p.objects.items at o → o.place ≡ length start + code_size (take at us)
  place_is o e =
      let place : o.place ≡ (first_bases us).code + code_size (take at us) =
      ap (λ (x : ImageObject). x.place) (e ∙ ap (λ (j : Image). get_or j.objects at o) was) ∙ object_place (first_bases us) us at o i.within in
      omega (arith, place, start_length)

  code_size_same : length u.object.code ≡ length (get_or us at u).object.code
  code_size_same = ap (λ (s : Shape). s.size) i.shape_is

  pub room_exchanged : (o : ImageObject) → o ≡ get_or p.objects.items at o → o.place + length u.object.code ≤ length p.code.items
  room_exchanged o e =
      omega (arith, place_is o e, code_room us at u i.within, code_size_same, h.size, old_size main us us image places start p h refl im whole_p)

  module _ (keeps : IsKeeping u) (o : ImageObject) (o_is : o ≡ get_or p.objects.items at o) (code : List ℕ) (stays : (with_items p.code code).items ≡ code) (same : length code ≡ length p.code.items) (written : code ≡ with_bytes p.code.items o.place (piece places u)) where
    keep_now : All IsKeeping units_now
    keep_now = All-set IsKeeping us at u keeps h.keep

    code_now : (with_code p code).code.items ≡ linked_units places start units_now
    code_now =
        stays ∙ written ∙ ap (λ (bs : List ℕ). with_bytes bs o.place (piece places u)) code_was
        ∙ ap (λ (n : ℕ). with_bytes (linked_units places start us) n (piece places u)) (place_is o o_is)
        ∙ sym (code_exchanged places start us at u i.within code_size_same)

    is_code : IsCode (with_code p code).code.items
    is_code = subst (λ (bs : List ℕ). IsCode bs) (sym code_now) (linked_code places start units_now h.start_code keep_now)

    size : length (with_code p code).code.items ≡ length p.code.items
    size = ap (λ (bs : List ℕ). length bs) stays ∙ same

    regions_now : p.protected.items ≡ regions_from 0 units_now
    regions_now = ap (λ (j : Image). j.protected) was ∙ regions_located (first_bases us) us ∙ sym (regions_but 0 us at u i.shape_is i.regions_are)

    pub whole_exchanged : IsWhole (with_code p code)
    whole_exchanged = whole_again main us units_now image places start p h alike im whole_p (with_code p code) refl refl regions_now whole_p.within.protected refl is_code size refl

    pub linked_exchanged : (new : Image) → new ≡ parts.image_of (with_code p code) → IsLinked main units_now new places start
    linked_exchanged new e = linked_again main us units_now image places start p h alike im whole_p keep_now (with_code p code) new refl refl regions_now refl code_now is_code size refl e

    pub bytes_exchanged : (bytes : List ℕ) (front : ℕ) → bytes ≡ image_bytes image → front + length p.code.items + lines_size (lines_in p) ≡ length bytes → with_bytes bytes (front + o.place) (piece places u) ≡ image_bytes (parts.image_of (with_code p code))
    bytes_exchanged bytes front b f =
        let ys : List ℕ = piece places u in
        let rest : List ℕ = lines_bytes (lines_in p) in
        let all : bytes ≡ before_code p p.code.items ++ (p.code.items ++ rest) = b ∙ ap (λ (j : Image). image_bytes j) im ∙ whole_bytes p whole_p in
        let n : length bytes ≡ length (before_code p p.code.items) + (length p.code.items + length rest) =
        ap (λ (bs : List ℕ). length bs) all ∙ length-append (before_code p p.code.items) (p.code.items ++ rest) ∙ ap (λ (m : ℕ). length (before_code p p.code.items) + m) (length-append p.code.items rest) in
        let begins : length (before_code p p.code.items) ≡ front = omega (arith, n, f, lines_length (lines_in p)) in
        let fits : o.place + length ys ≤ length p.code.items = omega (arith, room_exchanged o o_is, piece_length places u) in
        ap (λ (bs : List ℕ). with_bytes bs (front + o.place) ys) all
        ∙ over_within (before_code p p.code.items) p.code.items rest ys front o.place begins fits
        ∙ ap (λ (bs : List ℕ). before_code p p.code.items ++ (bs ++ rest)) (sym written ∙ sym stays)
        ∙ ap (λ (m : ℕ). (front_bytes (parts.image_of p) ++ word_bytes m) ++ ((with_code p code).code.items ++ rest)) (sym size)
        ∙ sym (whole_bytes (with_code p code) whole_exchanged)
