-- The lines of units whose code is one after the other.
use Rattle.std.proofs.Common.{◌≡◌, ℕ, ◌+◌, ◌<◌, ◌≤◌, ◌^◌, leb, ltb, ◌&&◌, true, List, [], ◌∷◌, ◌++◌, length, take, map, get_or, refl, sym, ap, subst, ◌∙◌, append-nil, arith}
use Rattle.std.specs.List.{All, flat_map}
use Rattle.std.proofs.lemmas.Bool.{ltb-true}
use Rattle.std.proofs.lemmas.Grind.{flat_map-append}
use Rattle.std.proofs.lemmas.List.{map-append, take_more}
use Rattle.std.proofs.lemmas.List.Elements.{All-append, All-cons, All-head, All-map, All-nil, All-push, All-tail, All-weaker}
use Rattle.std.proofs.lemmas.List.Sums.{sum_by-cons}
use Rattle.al_instr.specs.declared.lines.LineEntry.{LineEntry}
use Rattle.al_instr.specs.Lines.{AreLines, IsLineEntry, rise, shifted}
use Rattle.al_instr.proofs.LineLemmas.{both_true, rise_append, rise_shifted}
use Rattle.al_link.specs.declared.bases.Bases.{Bases}
use Rattle.al_link.specs.Bases.{next_bases}
use Rattle.al_link.specs.Images.{lines_of}
use Rattle.al_link.specs.Relinking.{code_size}
use Rattle.al_link.specs.Units.{UnitObject, Located, located, located_model, bases_after}
use Rattle.al_link.specs.declared.units.Located.{Located as LocatedUnit}

-- ---- one unit

places_below : (es : List LineEntry) (lowest end : ℕ) → rise lowest end es ≡ true → All (λ e. e.place < end) es
places_below [] lowest end h = All-nil (λ e. e.place < end)
places_below (e ∷ es) lowest end h =
    let r = both_true ((leb lowest e.place && ltb e.place end) && leb 1 e.line) (rise (e.place + 1) end es) h in
    let k = both_true (leb lowest e.place && ltb e.place end) (leb 1 e.line) r.0 in
    let m = both_true (leb lowest e.place) (ltb e.place end) k.0 in
    All-cons (λ x. x.place < end) e es (ltb-true e.place end m.1) (places_below es (e.place + 1) end r.1)

-- the places in the image's code fit in words
pub places_small : (start : ℕ) (es : List LineEntry) (end : ℕ) → start + end ≤ 16777216 → AreLines end es → All (λ e. start + e.place < 2 ^ 32) es
places_small start es end fits h =
    All-weaker (λ e. e.place < end) (λ e. start + e.place < 2 ^ 32) (λ e lt. omega arith) es (places_below es 0 end h.rise_in)

-- ---- all units

abbrev pub HasLines : Located → Type 0
HasLines l = AreLines (length l.object.code) l.object.lines

abbrev IsWordLine : LineEntry → Type 0
IsWordLine e = e.line < 0x1_0000_0000

pub code_after : (b : Bases) (us : List UnitObject) → b.code + code_size us ≡ (bases_after b us).code
code_after b [] = omega arith
code_after b (u ∷ us) =
    let ih = code_after (next_bases b u.object) us in
    let e = sum_by-cons (λ x. length x.object.code) u us in
    omega (arith, ih, e)

rise_located : (b : Bases) (us : List UnitObject) → All HasLines (located b us) → rise b.code (bases_after b us).code (flat_map lines_of (located b us)) ≡ true
rise_located b [] all = refl
rise_located b (u ∷ us) all =
    let next : Bases = next_bases b u.object in
    let first : Located = record { key = u.key; object = u.object; before = b } in
    let head : AreLines (length u.object.code) u.object.lines = All-head HasLines first (located next us) all in
    let at : b.code + 0 ≡ b.code = omega arith in
    let own : rise b.code (b.code + length u.object.code) (shifted b.code u.object.lines) ≡ true =
    subst (λ (n : ℕ). rise n (b.code + length u.object.code) (shifted b.code u.object.lines) ≡ true) at (rise_shifted u.object.lines 0 (length u.object.code) b.code head.rise_in) in
    let more : b.code + length u.object.code ≤ (bases_after next us).code = omega (arith, code_after next us) in
    rise_append (shifted b.code u.object.lines) (flat_map lines_of (located next us)) b.code (b.code + length u.object.code) (bases_after next us).code (omega arith) more own (rise_located next us (All-tail HasLines first (located next us) all))

lines_in_words : (b : Bases) (us : List UnitObject) → All HasLines (located b us) → All IsWordLine (flat_map lines_of (located b us))
lines_in_words b [] all = All-nil IsWordLine
lines_in_words b (u ∷ us) all =
    let next : Bases = next_bases b u.object in
    let first : Located = record { key = u.key; object = u.object; before = b } in
    let head : AreLines (length u.object.code) u.object.lines = All-head HasLines first (located next us) all in
    let placed : LineEntry → LineEntry = λ e. record { place = b.code + e.place; line = e.line } in
    let own : All IsWordLine (shifted b.code u.object.lines) = All-map IsWordLine placed u.object.lines (All-weaker IsLineEntry IsWordLine (λ e h. h.1) u.object.lines head.fit) in
    All-append IsWordLine (shifted b.code u.object.lines) (flat_map lines_of (located next us)) own (lines_in_words next us (All-tail HasLines first (located next us) all))

entries : (end : ℕ) (es : List LineEntry) → end ≤ 16777216 → All (λ e. e.place < end) es → All IsWordLine es → All IsLineEntry es
entries end [] small places lines = All-nil IsLineEntry
entries end (e ∷ es) small places lines =
    let place : e.place < end = All-head (λ x. x.place < end) e es places in
    let line : IsWordLine e = All-head IsWordLine e es lines in
    All-cons IsLineEntry e es (omega arith, line) (entries end es small (All-tail (λ x. x.place < end) e es places) (All-tail IsWordLine e es lines))

-- the lines of all units are those of code that ends where all of it ends
pub lines_located : (b : Bases) (us : List UnitObject) → (bases_after b us).code ≤ 16777216 → All HasLines (located b us) → AreLines (bases_after b us).code (flat_map lines_of (located b us))
lines_located b us small all =
    let end : ℕ = (bases_after b us).code in
    let es : List LineEntry = flat_map lines_of (located b us) in
    let h : rise b.code end es ≡ true = rise_located b us all in
    record {
      rise_in = rise_append [] es 0 b.code end (omega arith) (omega (arith, code_after b us)) refl h;
      fit = entries end es small (places_below es b.code end h) (lines_in_words b us all);
    }

-- ---- the lines of one unit more

module _ (xs : List LocatedUnit) (i : ℕ) (x : LocatedUnit) (lt : i < length xs) (at : x ≡ get_or xs i x) where
  one_more : take (i + 1) xs ≡ take i xs ++ x ∷ []
  one_more = take_more xs i x lt ∙ ap (λ (y : LocatedUnit). take i xs ++ y ∷ []) (sym at)

  pub lines_more : (before after : List LineEntry) → before ≡ flat_map lines_of (map located_model (take i xs)) → after ≡ before ++ lines_of (located_model x) → after ≡ flat_map lines_of (map located_model (take (i + 1) xs))
  lines_more before after b a =
      let front : List Located = map located_model (take i xs) in
      let here : List LineEntry = lines_of (located_model x) in
      let seen : map located_model (take (i + 1) xs) ≡ front ++ located_model x ∷ [] = ap (λ (ys : List LocatedUnit). map located_model ys) one_more ∙ map-append located_model (take i xs) (x ∷ []) in
      let all : flat_map lines_of (map located_model (take (i + 1) xs)) ≡ flat_map lines_of front ++ here =
      ap (λ (ls : List Located). flat_map lines_of ls) seen ∙ flat_map-append lines_of front (located_model x ∷ []) ∙ ap (λ (es : List LineEntry). flat_map lines_of front ++ es) (append-nil here) in
      a ∙ ap (λ (es : List LineEntry). es ++ here) b ∙ sym all

  pub each_more : (P : LocatedUnit → Type 0) → All P (take i xs) → P x → All P (take (i + 1) xs)
  each_more P all one = subst (λ (ys : List LocatedUnit). All P ys) (sym one_more) (All-push P (take i xs) x all one)
