-- Images that are linked again.
use Rattle.std.proofs.Common.{◌≡◌, ℕ, ◌+◌, ◌≤◌, List, [], ◌∷◌, ◌++◌, length, map, Option, Some, option_map, refl, sym, ap, subst, ◌∙◌, arith}
use Rattle.std.specs.List.{All, flat_map}
use Rattle.al_view.specs.declared.link.LinkSymbol.{LinkSymbol}
use Rattle.al_instr.specs.declared.instruction.Instr.{Instr}
use Rattle.al_instr.specs.declared.instruction.Instr.TheVariants.{Plain}
use Rattle.al_instr.specs.declared.numbers.Plain.TheVariants as plain
use Rattle.al_instr.specs.declared.lines.LineEntry.{LineEntry}
use Rattle.al_instr.specs.Codes.{code_bytes}
use Rattle.al_instr.specs.Lines.{AreLines}
use Rattle.al_link_image.specs.declared.parts.ImageObject.{ImageObject}
use Rattle.al_link_image.specs.declared.parts.ImageParts.{ImageParts}
use Rattle.al_link_image.specs.declared.parts.Region.{Region}
use Rattle.al_link_image.specs.Images.{Image, IsObject, IsRegion}
use Rattle.al_link_image.specs.Lines.{LinesFit}
use Rattle.al_link_image.specs.Parts as parts
use Rattle.al_link_image.specs.Parts.{IsCode, IsWhole, code_of}
use Rattle.al_link.specs.declared.bases.Bases.{Bases}
use Rattle.al_link.specs.declared.prepared.Prepared.{Prepared}
use Rattle.al_link.specs.Bases.{AreSmall, next_bases}
use Rattle.al_link.specs.Images.{called, calls_of, code_linked, image_of, lines_of, object_of, regions_of}
use Rattle.al_link.specs.Kept.{IsKeeping, IsLinked, IsPrepared, all_located, starting_of}
use Rattle.al_link.specs.Linking.{linked, places_of}
use Rattle.al_link.specs.Relinking.{code_size, linked_units, regions_count, regions_from, with_unit, words_size}
use Rattle.al_link.specs.Symbols.{Places, place_in}
use Rattle.al_link.specs.Units.{AreWithin, Located, UnitObject, first_bases, located, totals}
use Rattle.al_link.proofs.ImageLemmas.{image_is, whole}
use Rattle.al_link.proofs.RegionLemmas.{regions_length, regions_located, words_after}
use Rattle.al_link.proofs.ShapeLemmas.{AreAlike, counts_same, words_same, elaborations_same, lines_same, objects_same, places_same, sizes_same, totals_same, within_same}

abbrev lines_in : ImageParts → Option (List LineEntry)
lines_in p = option_map (λ v. v.items) p.lines

-- the code of units depends only on their objects
pub linked_located : (places : Places) (start : List ℕ) (b : Bases) (us : List UnitObject) → linked places start (located b us) ≡ linked_units places start us
linked_located places start b [] = refl
linked_located places start b (u ∷ us) = linked_located places (with_unit places start u) (next_bases b u.object) us

-- parts that are those of the units' image
pub parts_linked : (main : LinkSymbol) (us : List UnitObject) (p : ImageParts) (image : Image) (places : Places) (start : List ℕ) → AreWithin us → All IsKeeping us → places ≡ places_of (all_located us) → start ≡ starting_of main us → IsCode start → length start + code_size us ≡ (totals us).code
    → p.tasks ≡ (totals us).tasks → p.data_words ≡ (totals us).words → p.protected.items ≡ flat_map regions_of (all_located us) → p.objects.items ≡ map object_of (all_located us) → p.code.items ≡ linked_units places start us → IsCode p.code.items → length p.code.items ≡ (totals us).code → lines_in p ≡ Some (flat_map lines_of (all_located us)) → image ≡ parts.image_of p → IsLinked main us image places start
parts_linked main us p image places start within keep pl st is size t w r o c code len ln im =
    let xs : List Located = all_located us in
    let linked_is : p.code.items ≡ code_linked main xs =
    c ∙ ap (λ (q : Places). linked_units q start us) pl ∙ ap (λ (bs : List ℕ). linked_units (places_of xs) bs us) st ∙ sym (linked_located (places_of xs) (starting_of main us) (first_bases us) us) in
    record {
      within = within;
      image_is = im ∙ image_is main us (first_bases us) (totals us) xs p refl refl refl t w r o linked_is ln;
      places_are = pl;
      start_is = st;
      start_code = is;
      size = size;
      image_size = ap (λ (i : Image). length (code_bytes i.code)) im ∙ ap (λ (bs : List ℕ). length bs) code.bytes_are ∙ len;
      keep = keep;
    }

-- ---- made anew

pub made_whole : (main : LinkSymbol) (us : List UnitObject) (q : Prepared) (p : ImageParts) → IsPrepared main us q → p.tasks ≡ q.totals.tasks → p.data_words ≡ q.totals.words → p.protected.items ≡ q.protected.items → p.objects.items ≡ q.objects.items → IsCode p.code.items → length p.code.items ≡ (totals us).code → lines_in p ≡ Some q.lines.items → IsWhole p
made_whole main us q p h t w r o code len ln =
    let small : AreSmall q.totals = subst (λ (b : Bases). AreSmall b) (sym h.totals_are) h.within.sums in
    let regions : All (IsRegion q.totals.words) p.protected.items = subst (λ (xs : List Region). All (IsRegion q.totals.words) xs) (sym r) h.protected_fit in
    let end : q.totals.code ≡ length p.code.items = ap (λ (b : Bases). b.code) h.totals_are ∙ sym len in
    let lines : LinesFit (length p.code.items) (lines_in p) =
    subst (λ (es : Option (List LineEntry)). LinesFit (length p.code.items) es) (sym ln) (subst (λ (n : ℕ). AreLines n q.lines.items) end h.lines_fit) in
    whole p (omega (arith, small.tasks)) (omega (arith, small.words)) (omega (arith, ap (λ (xs : List Region). length xs) r, h.protected_count)) (subst (λ (n : ℕ). All (IsRegion n) p.protected.items) (sym w) regions)
    (omega (arith, ap (λ (xs : List ImageObject). length xs) o, h.objects_count)) (subst (λ (xs : List ImageObject). All IsObject xs) (sym o) h.objects_fit) code (omega (arith, h.within.sums.code)) lines

pub made_linked : (main : LinkSymbol) (us : List UnitObject) (q : Prepared) (p : ImageParts) (image : Image) → IsPrepared main us q → All IsKeeping us → p.tasks ≡ q.totals.tasks → p.data_words ≡ q.totals.words → p.protected.items ≡ q.protected.items → p.objects.items ≡ q.objects.items → p.code.items ≡ linked_units q.places q.start.items us → IsCode p.code.items → length p.code.items ≡ (totals us).code → lines_in p ≡ Some q.lines.items → image ≡ parts.image_of p → IsLinked main us image q.places q.start.items
made_linked main us q p image h keep t w r o c code len ln im =
    parts_linked main us p image q.places q.start.items h.within keep h.places_are h.start_is h.start_code (h.size ∙ ap (λ (b : Bases). b.code) h.totals_are)
    (t ∙ ap (λ (b : Bases). b.tasks) h.totals_are) (w ∙ ap (λ (b : Bases). b.words) h.totals_are) (r ∙ h.protected_are) (o ∙ h.objects_are) c code len (ln ∙ ap (λ (es : List LineEntry). Some es) h.lines_are) im

-- ---- with other bytes of code

module _ (main : LinkSymbol) (us vs : List UnitObject) (image : Image) (places : Places) (start : List ℕ) (p : ImageParts) (h : IsLinked main us image places start) (e : AreAlike vs us) (im : image ≡ parts.image_of p) (whole_p : IsWhole p) where
  pub old_size : length p.code.items ≡ (totals us).code
  old_size = ap (λ (bs : List ℕ). length bs) (sym whole_p.bytes_are) ∙ sym (ap (λ (i : Image). length (code_bytes i.code)) im) ∙ h.image_size

  pub room_again : length start + code_size vs ≡ length p.code.items
  room_again = ap (λ (n : ℕ). length start + n) (sizes_same vs us e) ∙ h.size ∙ sym old_size

  pub small_again : length p.code.items ≤ 16777216
  small_again = omega (arith, old_size, h.within.sums.code)

  pub words_again : words_size vs ≡ p.data_words
  words_again =
      let same : p.data_words ≡ (totals us).words = ap (λ (i : Image). i.data_words) (sym im ∙ h.image_is) in
      words_same vs us e ∙ (let n = words_after (first_bases us) us in omega (arith, n)) ∙ sym same

  pub count_again : regions_count vs ≡ length p.protected.items
  count_again =
      let same : p.protected.items ≡ regions_from 0 us = ap (λ (i : Image). i.protected) (sym im ∙ h.image_is) ∙ regions_located (first_bases us) us in
      counts_same vs us e ∙ sym (regions_length 0 us) ∙ sym (ap (λ (rs : List Region). length rs) same)

  pub whole_again : (q : ImageParts) → q.tasks ≡ p.tasks → q.data_words ≡ p.data_words → q.protected.items ≡ regions_from 0 vs → All (IsRegion p.data_words) q.protected.items → q.objects.items ≡ p.objects.items → IsCode q.code.items → length q.code.items ≡ length p.code.items → lines_in q ≡ lines_in p → IsWhole q
  whole_again q t w r fit o code len ln =
      let old = whole_p.within in
      let n : length q.protected.items ≡ length p.protected.items = ap (λ (rs : List Region). length rs) r ∙ regions_length 0 vs ∙ count_again in
      let kept : LinesFit (length p.code.items) (lines_in p) = subst (λ (bs : List ℕ). LinesFit (length bs) (lines_in p)) whole_p.bytes_are old.lines in
      let lines : LinesFit (length q.code.items) (lines_in q) =
      subst (λ (es : Option (List LineEntry)). LinesFit (length q.code.items) es) (sym ln) (subst (λ (n : ℕ). LinesFit n (lines_in p)) (sym len) kept) in
      whole q (omega (arith, old.tasks)) (omega (arith, old.data_words)) (omega (arith, n, old.protected_count))
      (subst (λ (n : ℕ). All (IsRegion n) q.protected.items) (sym w) fit)
      (omega (arith, ap (λ (xs : List ImageObject). length xs) o, old.object_count)) (subst (λ (xs : List ImageObject). All IsObject xs) (sym o) old.objects) code (omega (arith, len, small_again)) lines

  pub linked_again : All IsKeeping vs → (q : ImageParts) (new : Image) → q.tasks ≡ p.tasks → q.data_words ≡ p.data_words → q.protected.items ≡ regions_from 0 vs → q.objects.items ≡ p.objects.items → q.code.items ≡ linked_units places start vs → IsCode q.code.items → length q.code.items ≡ length p.code.items → lines_in q ≡ lines_in p → new ≡ parts.image_of q → IsLinked main vs new places start
  linked_again keep q new t w r o c code len ln nm =
      let was : parts.image_of p ≡ image_of main us = sym im ∙ h.image_is in
      let same : totals us ≡ totals vs = sym (totals_same vs us e) in
      let calls : List Instr → ℕ → List ℕ = λ is m. code_bytes (is ++ (Plain plain.Go ∷ (called m ++ Plain plain.Done ∷ []))) in
      let pl : places_of (all_located us) ≡ places_of (all_located vs) = sym (places_same vs us e) in
      let st : starting_of main us ≡ starting_of main vs =
      ap (λ (is : List Instr). calls is (place_in (places_of (all_located us)) main)) (sym (elaborations_same vs us e)) ∙ ap (λ (q : Places). calls (flat_map calls_of (all_located vs)) (place_in q main)) pl in
      let sums : (totals us).code ≡ (totals vs).code = ap (λ (b : Bases). b.code) same in
      parts_linked main vs q new places start (within_same vs us e h.within) keep (h.places_are ∙ pl) (h.start_is ∙ st) h.start_code (ap (λ (n : ℕ). length start + n) (sizes_same vs us e) ∙ h.size ∙ sums)
      (t ∙ ap (λ (i : Image). i.tasks) was ∙ ap (λ (b : Bases). b.tasks) same) (w ∙ ap (λ (i : Image). i.data_words) was ∙ ap (λ (b : Bases). b.words) same)
      (r ∙ sym (regions_located (first_bases vs) vs)) (o ∙ ap (λ (i : Image). i.objects) was ∙ sym (objects_same vs us e)) c code (len ∙ old_size ∙ sums)
      (ln ∙ ap (λ (i : Image). i.lines) was ∙ ap (λ (es : List LineEntry). Some es) (sym (lines_same vs us e))) nm
