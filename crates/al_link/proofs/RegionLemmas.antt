-- The words of protected objects that are written anew.
use Rattle.std.proofs.Common.{◌≡◌, ℕ, ◌+◌, ◌<◌, List, [], ◌∷◌, ◌++◌, length, drop, get_or, map, refl, sym, ap, ◌∙◌, append_assoc, arith, length-append, IsOk, OnOk, Result, Ok, Err}
use Rattle.std.specs.List.{All, flat_map}
use Rattle.std.proofs.lemmas.List.{length-map}
use Rattle.std.proofs.lemmas.List.Sums.{sum_by-cons}
use Rattle.al_base.specs.declared.unit_key.UnitKey.{UnitKey}
use Rattle.al_code_object.specs.Objects.{CompiledCode}
use Rattle.al_link_image.specs.declared.parts.Region.{Region}
use Rattle.al_link_image.specs.Images.{IsRegion}
use Rattle.al_link.specs.declared.bases.Bases.{Bases}
use Rattle.al_link.specs.declared.linking.CompiledUnit.{CompiledUnit}
use Rattle.al_link.specs.Bases.{next_bases}
use Rattle.al_link.specs.Images.{region_at, regions_of}
use Rattle.al_link.specs.Partitions.{compiled_units}
use Rattle.al_link.specs.Relinking.{regions_count, regions_from, words_size}
use Rattle.al_link.specs.Units.{UnitObject, bases_after, located}
use Rattle.al_link.proofs.OverLemmas.{units_less, units_of}

pub regions_located : (b : Bases) (us : List UnitObject) → flat_map regions_of (located b us) ≡ regions_from b.words us
regions_located b [] = refl
regions_located b (u ∷ us) = ap (λ (rs : List Region). map (region_at b.words) u.object.protected ++ rs) (regions_located (next_bases b u.object) us)

pub words_after : (b : Bases) (us : List UnitObject) → b.words + words_size us ≡ (bases_after b us).words
words_after b [] = omega arith
words_after b (u ∷ us) = omega (arith, words_after (next_bases b u.object) us, sum_by-cons (λ x. x.object.data_words) u us)

pub regions_length : (words : ℕ) (us : List UnitObject) → length (regions_from words us) ≡ regions_count us
regions_length words [] = refl
regions_length words (u ∷ us) =
    length-append (map (region_at words) u.object.protected) (regions_from (words + u.object.data_words) us)
    ∙ ap (λ (n : ℕ). n + length (regions_from (words + u.object.data_words) us)) (length-map u.object.protected (region_at words))
    ∙ ap (λ (n : ℕ). length u.object.protected + n) (regions_length (words + u.object.data_words) us)
    ∙ sym (sum_by-cons (λ x. length x.object.protected) u us)

-- those of some units are there already
pub record FilledTo (us : List CompiledUnit) (total i words : ℕ) (regions : List Region) : Type 0 where
  pub sum : words + words_size (compiled_units (drop i us)) ≡ total
  pub value : regions ++ regions_from words (compiled_units (drop i us)) ≡ regions_from 0 (compiled_units us)
  pub fit : All (IsRegion total) regions
  pub count : length regions + regions_count (compiled_units (drop i us)) ≡ regions_count (compiled_units us)

module _ (us : List CompiledUnit) (total i words : ℕ) (regions : List Region) (h : FilledTo us total i words regions) (key : UnitKey) (o : CompiledCode) (u : CompiledUnit) (lt : i < length us) (at : u ≡ get_or us i u) (is : units_of u ≡ record { key = key; object = o } ∷ []) where
  less : compiled_units (drop i us) ≡ record { key = key; object = o } ∷ compiled_units (drop (i + 1) us)
  less = units_less us i u lt at ∙ ap (λ (xs : List UnitObject). xs ++ compiled_units (drop (i + 1) us)) is

  pub words_left : words + (o.data_words + words_size (compiled_units (drop (i + 1) us))) ≡ total
  words_left = ap (λ (n : ℕ). words + n) (sym (ap (λ (xs : List UnitObject). words_size xs) less ∙ sum_by-cons (λ x. x.object.data_words) (record { key = key; object = o }) (compiled_units (drop (i + 1) us)))) ∙ h.sum

  pub count_left : length regions + (length o.protected + regions_count (compiled_units (drop (i + 1) us))) ≡ regions_count (compiled_units us)
  count_left = ap (λ (n : ℕ). length regions + n) (sym (ap (λ (xs : List UnitObject). regions_count xs) less ∙ sum_by-cons (λ x. length x.object.protected) (record { key = key; object = o }) (compiled_units (drop (i + 1) us)))) ∙ h.count

  pub one_filled : (new : List Region) → new ≡ regions ++ map (region_at words) o.protected → All (IsRegion total) new → FilledTo us total (i + 1) (words + o.data_words) new
  one_filled new e fit = record {
    sum = omega (arith, words_left);
    value =
        ap (λ (rs : List Region). rs ++ regions_from (words + o.data_words) (compiled_units (drop (i + 1) us))) e ∙ append_assoc regions (map (region_at words) o.protected) (regions_from (words + o.data_words) (compiled_units (drop (i + 1) us)))
        ∙ ap (λ (xs : List UnitObject). regions ++ regions_from words xs) (sym less) ∙ h.value;
    fit = fit;
    count = omega (arith, count_left, ap (λ (rs : List Region). length rs) e, length-append regions (map (region_at words) o.protected), length-map o.protected (region_at words));
  }

pub none_filled : (us : List CompiledUnit) (total i words : ℕ) (regions : List Region) (u : CompiledUnit) → FilledTo us total i words regions → i < length us → u ≡ get_or us i u → units_of u ≡ [] → FilledTo us total (i + 1) words regions
none_filled us total i words regions u h lt at is =
    let same : compiled_units (drop i us) ≡ compiled_units (drop (i + 1) us) = units_less us i u lt at ∙ ap (λ (xs : List UnitObject). xs ++ compiled_units (drop (i + 1) us)) is in
    record {
      sum = ap (λ (xs : List UnitObject). words + words_size xs) (sym same) ∙ h.sum;
      value = ap (λ (xs : List UnitObject). regions ++ regions_from words xs) (sym same) ∙ h.value;
      fit = h.fit;
      count = ap (λ (xs : List UnitObject). length regions + regions_count xs) (sym same) ∙ h.count;
    }

-- what a call that succeeds leaves
pub on_ok : {X E : Type 0} (r : Result X E) (P : Type 0) → IsOk r → OnOk r P → P
on_ok (Ok x) P is h = h
on_ok (Err e) P is h = absurd cc
