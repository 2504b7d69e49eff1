-- Units that are as before but for the bytes of their code.
use Rattle.std.proofs.Common.{◌≡◌, ℕ, zero, suc, ◌+◌, ◌<◌, ◌≤◌, false, cond, List, [], ◌∷◌, ◌++◌, length, take, drop, set, get_or, map, fold, Option, Some, refl, sym, ap, subst, ◌∙◌, add-one, arith, sum_by}
use Rattle.std.specs.List.{flat_map}
use Rattle.std.proofs.lemmas.List.{length-map, take_more_set, drop-set-lt, length-set, map-append, drop-drop}
use Rattle.std.proofs.lemmas.List.Sums.{sum_by-cons}
use Rattle.std.proofs.Math.Seq.{drop-cons}
use Rattle.al_base.specs.declared.unit_key.UnitKey.{UnitKey}
use Rattle.al_code_object.specs.declared.object.Object.{Object}
use Rattle.al_code_object.specs.declared.object.Object.TheVariants as left
use Rattle.al_link.specs.declared.bases.Bases.{Bases}
use Rattle.al_link.specs.declared.kept.KeptUnit.{KeptUnit}
use Rattle.al_link.specs.declared.linking.CompiledUnit.{CompiledUnit}
use Rattle.al_link.specs.Bases.{AreSmall, next_bases}
use Rattle.al_instr.specs.Lines.{shifted}
use Rattle.al_link.specs.Images.{called, calls_of, lines_of, object_of}
use Rattle.al_link.specs.Kept.{kept_model}
use Rattle.al_link.specs.Linking.{with_address, with_defines}
use Rattle.al_link.specs.Partitions.{AreLinkable, compiled_units, is_large, some_large, with_object}
use Rattle.al_link.specs.Relinking.{Shape, code_size, regions_count, words_size, differing, differs, left_shape, shape_of, shapes_kept, shapes_left}
use Rattle.al_link.specs.Symbols.{Places}
use Rattle.al_link.specs.Units.{UnitObject, AreWithin, bases_after, call_size, first_bases, is_item, located, totals}
use Rattle.al_link.proofs.OverLemmas.{units_less, units_more}

-- items at one place of two lists that are the same as others see them
pub same_at : {A B C : Type 0} (f : A → C) (g : B → C) (xs : List A) (ys : List B) (i : ℕ) (x : A) (y : B) → i < length xs → i < length ys → x ≡ get_or xs i x → y ≡ get_or ys i y → map f xs ≡ map g ys → f x ≡ g y
same_at f g [] ys i x y lt l2 a b e = absurd (omega arith)
same_at f g (v ∷ xs) [] i x y lt l2 a b e = absurd (omega arith)
same_at f g (v ∷ xs) (w ∷ ys) zero x y lt l2 a b e =
    let heads : f v ≡ g w = cc in
    ap f a ∙ heads ∙ sym (ap g b)
same_at f g (v ∷ xs) (w ∷ ys) (suc i) x y lt l2 a b e =
    let tails : map f xs ≡ map g ys = cc in
    same_at f g xs ys i x y (omega arith) (omega arith) a b tails

-- ---- units with their objects

one_left : (key : UnitKey) (o : Object) (s : Shape) → left_shape key o ≡ Some s → map shape_of (with_object key o) ≡ s ∷ []
one_left key left.Large s e = absurd cc
one_left key (left.Compiled o) s e =
    let same : shape_of (record { key = key; object = o }) ≡ s = cc in
    ap (λ (x : Shape). x ∷ []) same

one_not_large : (key : UnitKey) (o : Object) (s : Shape) → left_shape key o ≡ Some s → is_large o ≡ false
one_not_large key left.Large s e = absurd cc
one_not_large key (left.Compiled o) s e = refl

pub left_shapes : (ls : List CompiledUnit) (us : List UnitObject) → shapes_left ls ≡ shapes_kept us → map shape_of (compiled_units ls) ≡ map shape_of us
left_shapes [] [] e = refl
left_shapes [] (u ∷ us) e = absurd cc
left_shapes (l ∷ ls) [] e = absurd cc
left_shapes (l ∷ ls) (u ∷ us) e =
    let heads : left_shape l.key.now l.object.now ≡ Some (shape_of u) = cc in
    let tails : shapes_left ls ≡ shapes_kept us = cc in
    map-append shape_of (with_object l.key.now l.object.now) (compiled_units ls)
    ∙ ap (λ (xs : List Shape). xs ++ map shape_of (compiled_units ls)) (one_left l.key.now l.object.now (shape_of u) heads)
    ∙ ap (λ (xs : List Shape). shape_of u ∷ xs) (left_shapes ls us tails)

none_large : (ls : List CompiledUnit) (us : List UnitObject) → shapes_left ls ≡ shapes_kept us → some_large ls ≡ false
none_large [] us e = refl
none_large (l ∷ ls) [] e = absurd cc
none_large (l ∷ ls) (u ∷ us) e =
    let heads : left_shape l.key.now l.object.now ≡ Some (shape_of u) = cc in
    let tails : shapes_left ls ≡ shapes_kept us = cc in
    rw (one_not_large l.key.now l.object.now (shape_of u) heads) (none_large ls us tails)

-- ---- what depends only on the shapes of units

-- what precedes the next unit
abbrev next_of : Bases → Shape → Bases
next_of b s = record { code = b.code + s.size; words = b.words + s.data_words; objects = b.objects + s.regions; tasks = b.tasks + s.tasks }

abbrev pub AreAlike : List UnitObject → List UnitObject → Type 0
AreAlike us vs = map shape_of us ≡ map shape_of vs

-- a recursion over units with what precedes them
module _ {R : Type 0} (none : R) (step : Bases → Shape → R → R) (f : Bases → List UnitObject → R)
    (ends : (b : Bases) → f b [] ≡ none) (steps : (b : Bases) (u : UnitObject) (us : List UnitObject) → f b (u ∷ us) ≡ step b (shape_of u) (f (next_of b (shape_of u)) us)) where
  same_along : (b : Bases) (us vs : List UnitObject) → AreAlike us vs → f b us ≡ f b vs
  same_along b [] [] e = refl
  same_along b [] (v ∷ vs) e = absurd cc
  same_along b (u ∷ us) [] e = absurd cc
  same_along b (u ∷ us) (v ∷ vs) e =
      let heads : shape_of u ≡ shape_of v = cc in
      let tails : AreAlike us vs = cc in
      steps b u us ∙ ap (λ (r : R). step b (shape_of u) r) (same_along (next_of b (shape_of u)) us vs tails)
      ∙ ap (λ (s : Shape). step b s (f (next_of b s) vs)) heads ∙ sym (steps b v vs)

nowhere : Bases
nowhere = record { code = 0; words = 0; objects = 0; tasks = 0 }

calls_same : (us vs : List UnitObject) → AreAlike us vs → sum_by call_size us ≡ sum_by call_size vs
calls_same us vs e =
    same_along 0 (λ b s n. cond (is_item s.key.kind) 10 0 + n) (λ b xs. sum_by call_size xs) (λ b. refl) (λ b x xs. sum_by-cons call_size x xs) nowhere us vs e

pub sizes_same : (us vs : List UnitObject) → AreAlike us vs → code_size us ≡ code_size vs
sizes_same us vs e =
    same_along 0 (λ b s n. s.size + n) (λ b xs. code_size xs) (λ b. refl) (λ b x xs. sum_by-cons (λ y. length y.object.code) x xs) nowhere us vs e

pub first_same : (us vs : List UnitObject) → AreAlike us vs → first_bases us ≡ first_bases vs
first_same us vs e = ap (λ (n : ℕ). record { code = n + 12; words = 0; objects = 0; tasks = 0 }) (calls_same us vs e)

after_same : (b : Bases) (us vs : List UnitObject) → AreAlike us vs → bases_after b us ≡ bases_after b vs
after_same b [] [] e = refl
after_same b [] (v ∷ vs) e = absurd cc
after_same b (u ∷ us) [] e = absurd cc
after_same b (u ∷ us) (v ∷ vs) e =
    let heads : shape_of u ≡ shape_of v = cc in
    let tails : AreAlike us vs = cc in
    after_same (next_bases b u.object) us vs tails ∙ ap (λ (s : Shape). bases_after (next_of b s) vs) heads

places_along : (ps : Places) (b : Bases) (us vs : List UnitObject) → AreAlike us vs → fold with_defines ps (located b us) ≡ fold with_defines ps (located b vs)
places_along ps b [] [] e = refl
places_along ps b [] (v ∷ vs) e = absurd cc
places_along ps b (u ∷ us) [] e = absurd cc
places_along ps b (u ∷ us) (v ∷ vs) e =
    let heads : shape_of u ≡ shape_of v = cc in
    let tails : AreAlike us vs = cc in
    places_along (fold (with_address b) ps u.object.defines) (next_bases b u.object) us vs tails
    ∙ ap (λ (s : Shape). fold with_defines (fold (with_address b) ps s.defines) (located (next_of b s) vs)) heads

pub totals_same : (us vs : List UnitObject) → AreAlike us vs → totals us ≡ totals vs
totals_same us vs e = after_same (first_bases us) us vs e ∙ ap (λ (b : Bases). bases_after b vs) (first_same us vs e)

pub places_same : (us vs : List UnitObject) → AreAlike us vs → fold with_defines [] (located (first_bases us) us) ≡ fold with_defines [] (located (first_bases vs) vs)
places_same us vs e = places_along [] (first_bases us) us vs e ∙ ap (λ (b : Bases). fold with_defines [] (located b vs)) (first_same us vs e)

pub elaborations_same : (us vs : List UnitObject) → AreAlike us vs → flat_map calls_of (located (first_bases us) us) ≡ flat_map calls_of (located (first_bases vs) vs)
elaborations_same us vs e =
    same_along [] (λ b s is. cond (is_item s.key.kind) (called b.code) [] ++ is) (λ b xs. flat_map calls_of (located b xs)) (λ b. refl) (λ b x xs. refl) (first_bases us) us vs e
    ∙ ap (λ (b : Bases). flat_map calls_of (located b vs)) (first_same us vs e)

pub objects_same : (us vs : List UnitObject) → AreAlike us vs → map object_of (located (first_bases us) us) ≡ map object_of (located (first_bases vs) vs)
objects_same us vs e =
    same_along [] (λ b s os. record { kind = s.key.kind; name = s.key.name; place = b.code } ∷ os) (λ b xs. map object_of (located b xs)) (λ b. refl) (λ b x xs. refl) (first_bases us) us vs e
    ∙ ap (λ (b : Bases). map object_of (located b vs)) (first_same us vs e)

pub lines_same : (us vs : List UnitObject) → AreAlike us vs → flat_map lines_of (located (first_bases us) us) ≡ flat_map lines_of (located (first_bases vs) vs)
lines_same us vs e =
    same_along [] (λ b s es. shifted b.code s.lines ++ es) (λ b xs. flat_map lines_of (located b xs)) (λ b. refl) (λ b x xs. refl) (first_bases us) us vs e
    ∙ ap (λ (b : Bases). flat_map lines_of (located b vs)) (first_same us vs e)

pub counts_same : (us vs : List UnitObject) → AreAlike us vs → regions_count us ≡ regions_count vs
counts_same us vs e =
    same_along 0 (λ b s n. s.regions + n) (λ b xs. regions_count xs) (λ b. refl) (λ b x xs. sum_by-cons (λ y. length y.object.protected) x xs) nowhere us vs e

pub words_same : (us vs : List UnitObject) → AreAlike us vs → words_size us ≡ words_size vs
words_same us vs e =
    same_along 0 (λ b s n. s.data_words + n) (λ b xs. words_size xs) (λ b. refl) (λ b x xs. sum_by-cons (λ y. y.object.data_words) x xs) nowhere us vs e

pub within_same : (us vs : List UnitObject) → AreAlike us vs → AreWithin vs → AreWithin us
within_same us vs e h =
    let n : length us ≡ length vs = sym (length-map us shape_of) ∙ ap (λ (xs : List Shape). length xs) e ∙ length-map vs shape_of in
    record { count = omega (arith, h.count); sums = subst (λ (b : Bases). AreSmall b) (sym (totals_same us vs e)) h.sums }

pub linkable_same : (ls : List CompiledUnit) (us : List UnitObject) → shapes_left ls ≡ shapes_kept us → AreWithin us → AreLinkable ls
linkable_same ls us e h = record { none_large = none_large ls us e; within = within_same (compiled_units ls) us (left_shapes ls us e) h }

-- ---- keeping the code of units

-- so many units are kept already, of which so many differed
pub record KeptTo (first : List KeptUnit) (units : List CompiledUnit) (i count : ℕ) (kept : List KeptUnit) : Type 0 where
  pub size : length kept ≡ length first
  pub units_size : length units ≡ length first
  pub few : count ≤ i
  pub done : map kept_model (take i kept) ≡ compiled_units (take i units)
  pub later : drop i kept ≡ drop i first
  pub sum : count + differing (map kept_model (drop i first)) (compiled_units (drop i units)) ≡ differing (map kept_model first) (compiled_units units)
  pub shapes : shapes_left (drop i units) ≡ shapes_kept (map kept_model (drop i first))

pub none_kept : (first : List KeptUnit) (units : List CompiledUnit) → shapes_left units ≡ shapes_kept (map kept_model first) → KeptTo first units 0 0 first
none_kept first units e =
    let n : length units ≡ length first = sym (length-map units (λ u. left_shape u.key.now u.object.now)) ∙ ap (λ (xs : List (Option Shape)). length xs) e ∙ length-map (map kept_model first) (λ u. Some (shape_of u)) ∙ length-map first kept_model in
    record { size = refl; units_size = n; few = omega arith; done = refl; later = refl; sum = omega arith; shapes = e }

module _ (first : List KeptUnit) (units : List CompiledUnit) (i count : ℕ) (kept : List KeptUnit) (h : KeptTo first units i count kept) (k : KeptUnit) (u : CompiledUnit) (lt : i < length kept) (k_is : k ≡ get_or kept i k) (u_is : u ≡ get_or units i u) where
  first_cons : drop i first ≡ k ∷ drop (i + 1) first
  first_cons =
      let more : drop i kept ≡ k ∷ drop (i + 1) kept = drop-cons kept i k lt ∙ ap (λ (n : ℕ). get_or kept i k ∷ drop n kept) (sym (add-one i)) ∙ ap (λ (x : KeptUnit). x ∷ drop (i + 1) kept) (sym k_is) in
      let tails : drop (i + 1) kept ≡ drop (i + 1) first = sym (drop-drop 1 i kept) ∙ ap (λ (xs : List KeptUnit). drop 1 xs) h.later ∙ drop-drop 1 i first in
      sym h.later ∙ more ∙ ap (λ (xs : List KeptUnit). k ∷ xs) tails

  units_cons : drop i units ≡ u ∷ drop (i + 1) units
  units_cons = drop-cons units i u (omega (arith, h.size, h.units_size)) ∙ ap (λ (n : ℕ). get_or units i u ∷ drop n units) (sym (add-one i)) ∙ ap (λ (x : CompiledUnit). x ∷ drop (i + 1) units) (sym u_is)

  shapes_cons : left_shape u.key.now u.object.now ∷ shapes_left (drop (i + 1) units) ≡ Some (shape_of (kept_model k)) ∷ shapes_kept (map kept_model (drop (i + 1) first))
  shapes_cons = sym (ap (λ (xs : List CompiledUnit). shapes_left xs) units_cons) ∙ h.shapes ∙ ap (λ (xs : List KeptUnit). shapes_kept (map kept_model xs)) first_cons

  pub shape_here : left_shape u.key.now u.object.now ≡ Some (shape_of (kept_model k))
  shape_here = let e = shapes_cons in cc

  pub one_kept : (new : KeptUnit) (n : ℕ) → with_object u.key.now u.object.now ≡ kept_model new ∷ [] → n ≡ differs (kept_model k) (kept_model new) → n ≤ 1 → KeptTo first units (i + 1) (count + n) (set kept i new)
  one_kept new n w d small =
      let lt2 : i < length units = omega (arith, h.size, h.units_size) in
      let rest_shapes : shapes_left (drop (i + 1) units) ≡ shapes_kept (map kept_model (drop (i + 1) first)) = let e = shapes_cons in cc in
      let units_here : compiled_units (drop i units) ≡ kept_model new ∷ compiled_units (drop (i + 1) units) = units_less units i u lt2 u_is ∙ ap (λ (xs : List UnitObject). xs ++ compiled_units (drop (i + 1) units)) w in
      let now : differing (map kept_model (drop i first)) (compiled_units (drop i units)) ≡ differs (kept_model k) (kept_model new) + differing (map kept_model (drop (i + 1) first)) (compiled_units (drop (i + 1) units)) =
      ap (λ (xs : List KeptUnit). differing (map kept_model xs) (compiled_units (drop i units))) first_cons ∙ ap (λ (xs : List UnitObject). differing (kept_model k ∷ map kept_model (drop (i + 1) first)) xs) units_here in
      record {
        size = length-set kept i new ∙ h.size;
        units_size = h.units_size;
        few = omega (arith, h.few);
        done =
            ap (λ (xs : List KeptUnit). map kept_model xs) (take_more_set kept i new lt) ∙ map-append kept_model (take i kept) (new ∷ [])
            ∙ ap (λ (xs : List UnitObject). xs ++ kept_model new ∷ []) h.done
            ∙ sym (units_more units i u lt2 u_is ∙ ap (λ (xs : List UnitObject). compiled_units (take i units) ++ xs) w);
        later = drop-set-lt (i + 1) kept i new (omega arith) ∙ sym (drop-drop 1 i kept) ∙ ap (λ (xs : List KeptUnit). drop 1 xs) h.later ∙ drop-drop 1 i first;
        sum = omega (arith, h.sum, now, d);
        shapes = rest_shapes;
      }
