-- A search outward gives what all regions would.
use Rattle.std.proofs.Common.{◌≡◌, ℕ, ◌+◌, ◌-◌, ◌<◌, ◌≤◌, List, [], ◌∷◌, ◌++◌, Bool, true, false, cond, not, ◌||◌, filter, map, take, length, get_or, refl, sym, ◌∙◌, ap, subst, arith}
use Rattle.std.proofs.lemmas.List.{take_all, take_more}
use Rattle.std.specs.List.{list_any}
use Rattle.std.proofs.lemmas.List.Folds.{list_any-append}
use Rattle.al_view.specs.declared.view.ViewKind.{ViewKind}
use Rattle.al_view.specs.Named.{Declarations}
use Rattle.al_query.specs.Reads.{FromAnswers, HoldsBy, Log, Table}
use Rattle.al_scope.specs.Asked.{AsksParts}
use Rattle.al_scope.specs.declared.hiding.RegionEntry.{RegionEntry}
use Rattle.al_scope.specs.declared.hiding.Search.{Search}
use Rattle.al_scope.specs.declared.region.Region.{Region}
use Rattle.al_scope.specs.Places.{region_parts, use_parts, uses_at}
use Rattle.al_scope.specs.Searches.{IsSearch, LocalNamesAskNothing, any_decides, searched, searched_parts}
use Rattle.al_scope.specs.Visible.{clash, decides, direct, found_in, shuts_out, use_visible}
use Rattle.al_scope.proofs.DecideLemmas.{any-decided, filter-none}
use Rattle.al_scope.proofs.HidingLemmas.{append-none}
use Rattle.al_scope.proofs.PartLemmas.{or-left, or-right, parts-none, parts-nothing, parts-of, parts-right, parts-turned}

or-turned : (a b : Bool) → (a || b) ≡ (b || a)
or-turned true true = refl
or-turned true false = refl
or-turned false true = refl
or-turned false false = refl

or-none : (a : Bool) → (a || false) ≡ a
or-none true = refl
or-none false = refl

filter-same : (p q : ViewKind → Bool) → ((v : ViewKind) → p v ≡ q v) → (xs : List ViewKind) → filter (λ x. not (p x)) xs ≡ filter (λ x. not (q x)) xs
filter-same p q h [] = refl
filter-same p q h (x ∷ xs) =
    ap (λ b. cond (not b) (x ∷ filter (λ y. not (p y)) xs) (filter (λ y. not (p y)) xs)) (h x)
    ∙ ap (λ l. cond (not (q x)) (x ∷ l) l) (filter-same p q h xs)

-- one region further out
pub outward-more : (fs : List RegionEntry) (f : RegionEntry) (old new : Search) (seen : List ViewKind) → IsSearch fs old → seen ≡ filter (λ v. not (list_any (shuts_out v) old.founds.items)) f.views → new.direct ≡ old.direct ++ seen → new.is_decided ≡ (old.is_decided || decides f) → new.founds.items ≡ old.founds.items ++ f ∷ [] → IsSearch (f ∷ fs) new
outward-more fs f old new seen s left direct-is decided-is founds-is = record {
  views = direct-is
      ∙ ap (λ l. l ++ seen) s.views
      ∙ ap (λ l. direct fs ++ l) (left ∙ filter-same (λ v. list_any (shuts_out v) old.founds.items) (λ v. list_any (shuts_out v) fs) s.shuts f.views);
  decided = decided-is ∙ ap (λ b. b || decides f) s.decided ∙ or-turned (list_any decides fs) (decides f);
  shuts = λ v. ap (list_any (shuts_out v)) founds-is
      ∙ list_any-append (shuts_out v) old.founds.items (f ∷ [])
      ∙ ap (λ b. b || list_any (shuts_out v) (f ∷ [])) (s.shuts v)
      ∙ ap (λ b. list_any (shuts_out v) fs || b) (or-none (shuts_out v f))
      ∙ or-turned (list_any (shuts_out v) fs) (shuts_out v f);
}

-- if a region decides, those further out make no difference
pub outward-decided : (fs : List RegionEntry) (f : RegionEntry) (s : Search) → IsSearch fs s → s.is_decided ≡ true → IsSearch (f ∷ fs) s
outward-decided fs f s is h =
    let one : list_any decides fs ≡ true = sym is.decided ∙ h in
    record {
      views = is.views
          ∙ sym (append-none (direct fs))
          ∙ ap (λ l. direct fs ++ l) (sym (filter-none (λ v. list_any (shuts_out v) fs) (λ v. any-decided v fs one) f.views));
      decided = h ∙ sym (or-right (decides f) (list_any decides fs) one);
      shuts = λ v. is.shuts v ∙ any-decided v fs one ∙ sym (or-right (shuts_out v f) (list_any (shuts_out v) fs) (any-decided v fs one));
    }

-- what is use-visible beside what is shut out by the same
pub use_visible-same : (fs gs : List RegionEntry) (vs : List ViewKind) → ((v : ViewKind) → list_any (shuts_out v) fs ≡ list_any (shuts_out v) gs) → use_visible fs vs ≡ use_visible gs vs
use_visible-same fs gs vs h = ap (λ l. cond (clash vs) [] l) (filter-same (λ v. list_any (shuts_out v) fs) (λ v. list_any (shuts_out v) gs) h vs)

-- which regions are looked into
any-false : (a b : Bool) → (a || b) ≡ false → b ≡ false
any-false true b h = absurd (cc)
any-false false b h = h

pub searched-all : (t : Table) (m : Declarations) (name : List ℕ) (rs : List Region) → any_decides t m name rs ≡ false → searched t m name rs ≡ rs
searched-all t m name [] h = refl
searched-all t m name (r ∷ inner) h = ap (λ b. cond b (searched t m name inner) (r ∷ inner)) (any-false (decides (found_in t m name r)) (any_decides t m name inner) h)

pub searched-stop : (t : Table) (m : Declarations) (name : List ℕ) (r : Region) (inner : List Region) → any_decides t m name inner ≡ true → region_parts (searched t m name (r ∷ inner)) ≡ region_parts (searched t m name inner)
searched-stop t m name r inner h = ap (λ b. region_parts (cond b (searched t m name inner) (r ∷ inner))) h

pub searched-more : (t : Table) (m : Declarations) (name : List ℕ) (r : Region) (inner : List Region) → any_decides t m name inner ≡ false → region_parts (searched t m name (r ∷ inner)) ≡ r.parts ++ region_parts (searched t m name inner)
searched-more t m name r inner h =
    ap (λ b. region_parts (cond b (searched t m name inner) (r ∷ inner))) h
    ∙ ap (λ l. r.parts ++ region_parts l) (sym (searched-all t m name inner h))

-- the last region and those round it
pub last_split : (xs : List Region) (x : Region) → 1 ≤ length xs → x ≡ get_or xs (length xs - 1) x → xs ≡ take (length xs - 1) xs ++ x ∷ []
last_split xs x some is =
    let within : length xs - 1 < length xs = omega (arith, some) in
    let more : length xs ≡ (length xs - 1) + 1 = omega (arith, some) in
    sym (take_all (length xs) xs (omega arith))
    ∙ ap (λ (n : ℕ). take n xs) more
    ∙ take_more xs (length xs - 1) x within
    ∙ ap (λ (y : Region). take (length xs - 1) xs ++ y ∷ []) (sym is)

pub none_left : (xs : List Region) → length xs ≡ 0 → xs ≡ []
none_left [] none = refl
none_left (x ∷ xs) none = absurd (cc)

-- ---- a search, of which these regions have been looked into

pub record IsLooking (m : Declarations) (name : List ℕ) (done : List Region) (before now : Log) (s : Search) : Type 0 where
  pub answered : FromAnswers before now (λ t. IsSearch (map (found_in t m name) done) s)
  pub asks : AsksParts (region_parts done) name before now
  pub stops : HoldsBy now (λ t. AsksParts (region_parts (searched t m name done)) name before now)

pub looking_nowhere : (m : Declarations) (name : List ℕ) (log : Log) (s : Search) → IsSearch [] s → IsLooking m name [] log log s
looking_nowhere m name log s is = record { answered = λ t h. (h, is); asks = parts-none [] name log; stops = λ t h. parts-none [] name log }

pub looking_outward : (m : Declarations) (name : List ℕ) (x : Region) (done : List Region) (before mid now : Log) (s next : Search) (found : RegionEntry)
    → IsLooking m name done before mid s → s.is_decided ≡ false → FromAnswers mid now (λ t. found ≡ found_in t m name x) → AsksParts x.parts name mid now
    → ((founds : List RegionEntry) → IsSearch founds s → IsSearch (found ∷ founds) next) → IsLooking m name (x ∷ done) before now next
looking_outward m name x done before mid now s next found known goes_on from asks more = record {
  answered = λ t h.
      let f = from t h in
      let a = known.answered t f.0 in
      (a.0, subst (λ (e : RegionEntry). IsSearch (e ∷ map (found_in t m name) done) next) f.1 (more (map (found_in t m name) done) a.1));
  asks = parts-turned (region_parts done) x.parts name before mid now known.asks asks;
  stops = λ t h.
      let f = from t h in
      let a = known.answered t f.0 in
      let none : any_decides t m name done ≡ false = sym a.1.decided ∙ goes_on in
      parts-of (x.parts ++ region_parts (searched t m name done)) (region_parts (searched t m name (x ∷ done))) name before now (sym (searched-more t m name x done none))
      (parts-turned (region_parts (searched t m name done)) x.parts name before mid now (known.stops t f.0) asks);
}

-- if one of them decides, those further out make no difference
pub looking_ended : (m : Declarations) (name : List ℕ) (outer done : List Region) (before now : Log) (s : Search) → IsLooking m name done before now s → s.is_decided ≡ true → IsLooking m name (outer ++ done) before now s
looking_ended m name [] done before now s known decided = known
looking_ended m name (x ∷ outer) done before now s known decided =
    let rest = looking_ended m name outer done before now s known decided in
    record {
      answered = λ t h. let a = rest.answered t h in (a.0, outward-decided (map (found_in t m name) (outer ++ done)) (found_in t m name x) s a.1 decided);
      asks = parts-right x.parts (region_parts (outer ++ done)) name before now rest.asks;
      stops = λ t h.
          let a = rest.answered t h in
          let one : any_decides t m name (outer ++ done) ≡ true = sym a.1.decided ∙ decided in
          parts-of (region_parts (searched t m name (outer ++ done))) (region_parts (searched t m name (x ∷ (outer ++ done)))) name before now (sym (searched-stop t m name x (outer ++ done) one)) (rest.stops t h);
    }

-- a region that decides alone, innermost
last-decides : (t : Table) (m : Declarations) (name : List ℕ) (outer : List Region) (r : Region) → decides (found_in t m name r) ≡ true → any_decides t m name (outer ++ r ∷ []) ≡ true
last-decides t m name [] r h = or-left (decides (found_in t m name r)) false h
last-decides t m name (q ∷ outer) r h = or-right (decides (found_in t m name q)) (any_decides t m name (outer ++ r ∷ [])) (last-decides t m name outer r h)

last-parts : (t : Table) (m : Declarations) (name : List ℕ) (outer : List Region) (r : Region) → r.parts ≡ [] → decides (found_in t m name r) ≡ true → region_parts (searched t m name (outer ++ r ∷ [])) ≡ []
last-parts t m name [] r e h = append-none r.parts ∙ e
last-parts t m name (q ∷ outer) r e h = searched-stop t m name q (outer ++ r ∷ []) (last-decides t m name outer r h) ∙ last-parts t m name outer r e h

pub local-names : LocalNamesAskNothing
local-names t name m outer r before now e h a =
    let regions = outer ++ r ∷ [] in
    let none : searched_parts t name (record { mentioned = m; regions = regions }) ≡ [] =
    ap (λ l. l ++ cond (any_decides t m name regions) [] (use_parts (uses_at regions))) (last-parts t m name outer r e h)
    ∙ ap (λ b. cond b [] (use_parts (uses_at regions))) (last-decides t m name outer r h) in
    parts-nothing name before now (parts-of (searched_parts t name (record { mentioned = m; regions = regions })) [] name before now none a)
