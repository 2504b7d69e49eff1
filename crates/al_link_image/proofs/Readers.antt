-- Readers of the parts of images: what is read is what was written, and what was written is read again.
use Rattle.std.proofs.Common.{◌≡◌, ℕ, zero, suc, ◌+◌, ◌-◌, ◌<◌, ◌≤◌, Bool, true, false, leb, List, [], ◌∷◌, ◌++◌, length, Option, Some, None, refl, sym, ap, subst, ◌∙◌, append_assoc, append-nil, arith}
use Rattle.std.specs.List.{All, flat_map}
use Rattle.std.proofs.lemmas.Bool.{leb-true, le-leb}
use Rattle.std.proofs.lemmas.List.{length-append}
use Rattle.std.proofs.lemmas.List.Elements.{All-nil, All-cons, All-head, All-tail}
use Rattle.al_instr.specs.Codes.{word_bytes}
use Rattle.al_instr.specs.Reading.{word_at}
use Rattle.al_instr.proofs.Fields.{IsBytes, Takes, Takes-then, bind_some, word_again, word_takes}
use Rattle.al_link_image.specs.Reading.{checked, limited_at, more_at, counted_at}

pub record Reads {A : Type 0} (at : List ℕ → Option (A × List ℕ)) (written : A → List ℕ) (P : A → Type 0) : Type 0 where
  pub takes : (bytes : List ℕ) (x : A) (rest : List ℕ) → IsBytes bytes → at bytes ≡ Some (x, rest) → Takes bytes (written x) rest × P x
  pub again : (x : A) (rest : List ℕ) → P x → at (written x ++ rest) ≡ Some (x, rest)

-- a test that was passed
pub checked_some : {A : Type 0} (b : Bool) (x y : A) → checked b x ≡ Some y → (b ≡ true) × (x ≡ y)
checked_some true x y e = (refl, cc)
checked_some false x y e = absurd cc

-- ---- numbers

limited_takes : (limit : ℕ) (bytes : List ℕ) (x : ℕ) (rest : List ℕ) → IsBytes bytes → limited_at limit bytes ≡ Some (x, rest) → Takes bytes (word_bytes x) rest × (x ≤ limit)
unfolding limited_at
limited_takes limit bytes x rest fits e =
    let f : ℕ × List ℕ → Option (ℕ × List ℕ) = λ n. checked (leb n.0 limit) n in
    let b = bind_some (word_at bytes) f (x, rest) e in
    let g = checked_some (leb b.0.0 limit) b.0 (x, rest) b.2 in
    let t = word_takes bytes b.0.0 b.0.1 fits b.1 in
    subst (λ (p : ℕ × List ℕ). Takes bytes (word_bytes p.0) p.1 × (p.0 ≤ limit)) g.1 (t.0, leb-true b.0.0 limit g.0)

limited_again : (limit x : ℕ) (rest : List ℕ) → limit < 0x1_0000_0000 → x ≤ limit → limited_at limit (word_bytes x ++ rest) ≡ Some (x, rest)
unfolding limited_at
limited_again limit x rest lt le =
    let below : x < 0x1_0000_0000 = omega arith in
    rw (word_again x rest below, le-leb x limit le) refl

pub limited_read : (limit : ℕ) → limit < 0x1_0000_0000 → Reads (limited_at limit) word_bytes (λ n. n ≤ limit)
limited_read limit lt = record { takes = limited_takes limit; again = λ x rest p. limited_again limit x rest lt p }

-- ---- several

-- what was found, after what was there
record More {A : Type 0} (written : A → List ℕ) (P : A → Type 0) (xs : List A) (n : ℕ) (bytes : List ℕ) (all : List A) (rest : List ℕ) : Type 0 where
  more : List A
  all_is : all ≡ xs ++ more
  count : length more ≡ n
  takes : Takes bytes (flat_map written more) rest
  each : All P more

module _ {A : Type 0} (at : List ℕ → Option (A × List ℕ)) (written : A → List ℕ) (P : A → Type 0) (r : Reads at written P) where
  more_takes : (xs : List A) (n : ℕ) (bytes : List ℕ) (all : List A) (rest : List ℕ) → IsBytes bytes → more_at at xs n bytes ≡ Some (all, rest) → More written P xs n bytes all rest
  unfolding more_at
  more_takes xs zero bytes all rest fits e =
      let same : (xs, bytes) ≡ (all, rest) = cc in
      subst (λ (p : List A × List ℕ). More written P xs 0 bytes p.0 p.1) same (record { more = []; all_is = sym (append-nil xs); count = refl; takes = record { parts = refl; rest_fits = fits }; each = All-nil P })
  more_takes xs (suc n) bytes all rest fits e =
      let b = bind_some (at bytes) (λ x. more_at at (xs ++ x.0 ∷ []) n x.1) (all, rest) e in
      let t = r.takes bytes b.0.0 b.0.1 fits b.1 in
      let later = more_takes (xs ++ b.0.0 ∷ []) n b.0.1 all rest t.0.rest_fits b.2 in
      record {
        more = b.0.0 ∷ later.more;
        all_is = later.all_is ∙ append_assoc xs (b.0.0 ∷ []) later.more;
        count = ap suc later.count;
        takes = Takes-then bytes (written b.0.0) b.0.1 (flat_map written later.more) rest t.0 later.takes;
        each = All-cons P b.0.0 later.more t.1 later.each;
      }

  more_again : (xs more : List A) (rest : List ℕ) → All P more → more_at at xs (length more) (flat_map written more ++ rest) ≡ Some (xs ++ more, rest)
  unfolding more_at
  more_again xs [] rest each = rw append-nil refl
  more_again xs (x ∷ more) rest each =
      rw (append_assoc (written x) (flat_map written more) rest, r.again x (flat_map written more ++ rest) (All-head P x more each))
      (more_again (xs ++ x ∷ []) more rest (All-tail P x more each) ∙ ap (λ (ys : List A). Some (ys, rest)) (append_assoc xs (x ∷ []) more))

  abbrev counted : List A → List ℕ
  counted xs = word_bytes (length xs) ++ flat_map written xs

  abbrev IsCounted : ℕ → List A → Type 0
  IsCounted limit xs = (length xs ≤ limit) × All P xs

  counted_takes : (limit : ℕ) (bytes : List ℕ) (xs : List A) (rest : List ℕ) → IsBytes bytes → counted_at limit at bytes ≡ Some (xs, rest) → Takes bytes (counted xs) rest × IsCounted limit xs
  unfolding counted_at
  counted_takes limit bytes xs rest fits e =
      let b = bind_some (limited_at limit bytes) (λ n. more_at at [] n.0 n.1) (xs, rest) e in
      let t = limited_takes limit bytes b.0.0 b.0.1 fits b.1 in
      let m = more_takes [] b.0.0 b.0.1 xs rest t.0.rest_fits b.2 in
      let all_is : xs ≡ m.more = m.all_is in
      let size : b.0.0 ≡ length m.more = sym m.count in
      let number : word_bytes b.0.0 ≡ word_bytes (length m.more) = ap word_bytes size in
      let both = Takes-then bytes (word_bytes b.0.0) b.0.1 (flat_map written m.more) rest t.0 m.takes in
      let named : Takes bytes (counted m.more) rest = subst (λ (ws : List ℕ). Takes bytes (ws ++ flat_map written m.more) rest) number both in
      let few : length m.more ≤ limit = subst (λ n. n ≤ limit) size t.1 in
      subst (λ (ys : List A). Takes bytes (counted ys) rest × IsCounted limit ys) (sym all_is) (named, (few, m.each))

  counted_again : (limit : ℕ) (xs : List A) (rest : List ℕ) → limit < 0x1_0000_0000 → IsCounted limit xs → counted_at limit at (counted xs ++ rest) ≡ Some (xs, rest)
  unfolding counted_at
  counted_again limit xs rest lt h =
      rw (append_assoc (word_bytes (length xs)) (flat_map written xs) rest, limited_again limit (length xs) (flat_map written xs ++ rest) lt h.0) (more_again [] xs rest h.1)

  pub counted_read : (limit : ℕ) → limit < 0x1_0000_0000 → Reads (counted_at limit at) (λ xs. word_bytes (length xs) ++ flat_map written xs) (λ xs. (length xs ≤ limit) × All P xs)
  counted_read limit lt = record { takes = counted_takes limit; again = λ xs rest h. counted_again limit xs rest lt h }

-- ---- loops

-- some of so many are read from the front already
pub record SoFar {A : Type 0} (at : List ℕ → Option (A × List ℕ)) (xs : List A) (index count : ℕ) (rest bytes : List ℕ) : Type 0 where
  pub number : length xs ≡ index
  pub later : more_at at xs (count - index) rest ≡ more_at at [] count bytes

count_less : (count index : ℕ) → index < count → count - index ≡ suc (count - (index + 1))
count_less count index lt = omega arith

module _ {A : Type 0} (at : List ℕ → Option (A × List ℕ)) (xs : List A) (index count : ℕ) (rest bytes : List ℕ) (h : SoFar at xs index count rest bytes) where
  after : (x : A) (behind : List ℕ) → index < count → at rest ≡ Some (x, behind) → more_at at (xs ++ x ∷ []) (count - (index + 1)) behind ≡ more_at at [] count bytes
  unfolding more_at
  after x behind lt e =
      let now : more_at at xs (suc (count - (index + 1))) rest ≡ more_at at (xs ++ x ∷ []) (count - (index + 1)) behind = rw e refl in
      sym now ∙ ap (λ n. more_at at xs n rest) (sym (count_less count index lt)) ∙ h.later

  pub one_more : (x : A) (behind : List ℕ) → index < count → at rest ≡ Some (x, behind) → SoFar at (xs ++ x ∷ []) (index + 1) count behind bytes
  one_more x behind lt e = record { number = omega (arith, length-append xs (x ∷ []), h.number); later = after x behind lt e }

  pub no_more : index < count → at rest ≡ None → more_at at [] count bytes ≡ None
  unfolding more_at
  no_more lt e =
      let now : more_at at xs (suc (count - (index + 1))) rest ≡ None = rw e refl in
      sym h.later ∙ ap (λ n. more_at at xs n rest) (count_less count index lt) ∙ now

  pub all_there : count ≤ index → more_at at [] count bytes ≡ Some (xs, rest)
  unfolding more_at
  all_there le =
      let none : count - index ≡ 0 = omega arith in
      sym h.later ∙ ap (λ n. more_at at xs n rest) none
