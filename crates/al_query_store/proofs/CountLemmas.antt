-- Counts.
use Rattle.std.proofs.Common.{◌≡◌, ◌≤◌, ◌+◌, ℕ, Bool, true, false, ◌&&◌, ◌||◌, List, [], ◌∷◌, ◌++◌, refl, sym, ◌∙◌, ap, length, length-append, filter, cond, nat_eq, arith}
use Rattle.std.specs.List.{AllByRecursion, IsDistinct, list_any}
use Rattle.std.specs.List.Sorted.{IsStrictlySortedBy}
use Rattle.std.specs.Cmp.{IsEquivalence}
use Rattle.std.specs.Ordering.{is_eq}
use Rattle.std.specs.declared.cmp.Ordering.TheVariants.{Less}
use Rattle.std.proofs.lemmas.Bool.{eq-eqb, true≢false}
use Rattle.std.proofs.lemmas.List.Folds.{list_any-append}
use Rattle.std.proofs.lemmas.Map.Made.{length-from_same_keys, length-le_from_is_member}
use Rattle.al_query_store.specs.declared.place.Place.{Place}
use Rattle.al_query_store.specs.Reads.{place_cmp, same_place}
use Rattle.al_query_store.proofs.PlaceLemmas.{tells}
use Rattle.al_query_store.specs.Counting.{IsCount}

all_apart : (x : Place) (xs : List Place) → AllByRecursion (λ y. place_cmp x y ≡ Less) xs → AllByRecursion (λ y. same_place x y ≡ false) xs
all_apart x [] h = tt
all_apart x (y ∷ ys) h = (sym (tells place_cmp (λ a b. refl) x y) ∙ ap is_eq h.0, all_apart x ys h.1)

-- places in order are distinct
pub sorted_distinct : (xs : List Place) → IsStrictlySortedBy place_cmp xs → IsDistinct same_place xs
unfolding IsStrictlySortedBy IsDistinct
sorted_distinct [] h = tt
sorted_distinct (x ∷ xs) h = (all_apart x xs h.0, sorted_distinct xs h.1)

module _ {X : Type 0} (same : X → X → Bool) (equiv : IsEquivalence same) (one_of : (a b : X) → same a b ≡ true → a ≡ b) where
  all_filter : (P : X → Type 0) (test : X → Bool) (xs : List X) → AllByRecursion P xs → AllByRecursion P (filter test xs)
  all_filter P test [] h = tt
  all_filter P test (x ∷ xs) h = by (test x) (all_filter P test xs h.1)
    where
      by : (b : Bool) → AllByRecursion P (filter test xs) → AllByRecursion P (cond b (x ∷ filter test xs) (filter test xs))
      by true rest = (h.0, rest)
      by false rest = rest

  pub filter_distinct : (test : X → Bool) (xs : List X) → IsDistinct same xs → IsDistinct same (filter test xs)
  unfolding IsDistinct
  filter_distinct test [] h = tt
  filter_distinct test (x ∷ xs) h = by (test x) (filter_distinct test xs h.1)
    where
      by : (b : Bool) → IsDistinct same (filter test xs) → IsDistinct same (cond b (x ∷ filter test xs) (filter test xs))
      by true rest = (all_filter (λ y. same x y ≡ false) test xs h.0, rest)
      by false rest = rest

  member_filter : (test : X → Bool) (xs : List X) (q : X) → list_any (same q) (filter test xs) ≡ (list_any (same q) xs && test q)
  member_filter test [] q = refl
  member_filter test (x ∷ xs) q = by (test x) refl (same q x) refl (member_filter test xs q)
    where
      by : (b : Bool) → test x ≡ b → (s : Bool) → same q x ≡ s → list_any (same q) (filter test xs) ≡ (list_any (same q) xs && test q) → list_any (same q) (cond b (x ∷ filter test xs) (filter test xs)) ≡ ((s || list_any (same q) xs) && test q)
      by true h true j rest =
          let yes : test q ≡ true = ap test (one_of q x j) ∙ h in
          ap (λ (b : Bool). b || list_any (same q) (filter test xs)) j ∙ sym yes
      by true h false j rest = ap (λ (b : Bool). b || list_any (same q) (filter test xs)) j ∙ rest
      by false h true j rest =
          let out : test q ≡ false = ap test (one_of q x j) ∙ h in
          rest ∙ ap (λ (b : Bool). list_any (same q) xs && b) out ∙ and_no (list_any (same q) xs) ∙ sym out
        where
          and_no : (b : Bool) → (b && false) ≡ false
          and_no true = refl
          and_no false = refl
      by false h false j rest = rest

  module _ (test : X → Bool) (xs : List X) (whole : (p : X) → test p ≡ true → list_any (same p) xs ≡ true) where
    pub member_is : (q : X) → list_any (same q) (filter test xs) ≡ test q
    member_is q = member_filter test xs q ∙ by (test q) refl
      where
        and_no : (b : Bool) → (b && false) ≡ false
        and_no true = refl
        and_no false = refl

        by : (b : Bool) → test q ≡ b → (list_any (same q) xs && b) ≡ b
        by true h = ap (λ (c : Bool). c && true) (whole q h)
        by false h = and_no (list_any (same q) xs)

  pub one_count : (test : X → Bool) (m n : ℕ) → IsCount same test m → IsCount same test n → m ≡ n
  one_count test m n a b =
      a.counted
      ∙ length-from_same_keys equiv (filter test a.items) (filter test b.items)
      (filter_distinct test a.items a.apart) (filter_distinct test b.items b.apart)
      (λ q. member_is test a.items a.whole q ∙ sym (member_is test b.items b.whole q))
      ∙ sym b.counted

  pub fewer_count : (few many : X → Bool) (m n : ℕ) → ((p : X) → few p ≡ true → many p ≡ true) → IsCount same few m → IsCount same many n → m ≤ n
  fewer_count few many m n within a b =
      let le = length-le_from_is_member equiv (filter few a.items) (filter many b.items)
      (filter_distinct few a.items a.apart)
      (λ q h. member_is many b.items b.whole q ∙ within q (sym (member_is few a.items a.whole q) ∙ h)) in
      omega (arith, le, a.counted, b.counted)

  lengths : (one two all : X → Bool) (xs : List X) → ((p : X) → all p ≡ (one p || two p)) → ((p : X) → one p ≡ true → two p ≡ false) → length (filter all xs) ≡ length (filter one xs) + length (filter two xs)
  lengths one two all [] both apart = refl
  lengths one two all (x ∷ xs) both apart = ap (λ (b : Bool). length (cond b (x ∷ filter all xs) (filter all xs))) (both x) ∙ by (one x) refl (two x) refl (lengths one two all xs both apart)
    where
      by : (b : Bool) → one x ≡ b → (c : Bool) → two x ≡ c → length (filter all xs) ≡ length (filter one xs) + length (filter two xs) → length (cond (b || c) (x ∷ filter all xs) (filter all xs)) ≡ length (cond b (x ∷ filter one xs) (filter one xs)) + length (cond c (x ∷ filter two xs) (filter two xs))
      by true h true j rest = absurd (true≢false (sym j ∙ apart x h))
      by true h false j rest = omega (arith, rest)
      by false h true j rest = omega (arith, rest)
      by false h false j rest = rest

  pub both_count : (one two all : X → Bool) (m n k : ℕ) → ((p : X) → all p ≡ (one p || two p)) → ((p : X) → one p ≡ true → two p ≡ false) → IsCount same one m → IsCount same two n → IsCount same all k → k ≡ m + n
  both_count one two all m n k both apart a b c =
      c.counted ∙ lengths one two all c.items both apart ∙ ap (λ (x : ℕ). x + length (filter two c.items)) (sym first) ∙ ap (λ (x : ℕ). m + x) (sym second)
    where
      yes : (b : Bool) → (b || true) ≡ true
      yes true = refl
      yes false = refl

      first : m ≡ length (filter one c.items)
      first = one_count one m (length (filter one c.items)) a (record { items = c.items; apart = c.apart; whole = λ p h. c.whole p (both p ∙ ap (λ (x : Bool). x || two p) h); counted = refl })

      second : n ≡ length (filter two c.items)
      second = one_count two n (length (filter two c.items)) b (record { items = c.items; apart = c.apart; whole = λ p h. c.whole p (both p ∙ ap (λ (x : Bool). one p || x) h ∙ yes (one p)); counted = refl })

  all_of : (test : X → Bool) (xs : List X) → AllByRecursion (λ x. test x ≡ true) (filter test xs)
  all_of test [] = tt
  all_of test (x ∷ xs) = by (test x) refl (all_of test xs)
    where
      by : (b : Bool) → test x ≡ b → AllByRecursion (λ y. test y ≡ true) (filter test xs) → AllByRecursion (λ y. test y ≡ true) (cond b (x ∷ filter test xs) (filter test xs))
      by true e rest = (e, rest)
      by false e rest = rest

  whole_filter : (test : X → Bool) (xs : List X) → AllByRecursion (λ x. test x ≡ true) xs → filter test xs ≡ xs
  whole_filter test [] a = refl
  whole_filter test (x ∷ xs) a = ap (λ (b : Bool). cond b (x ∷ filter test xs) (filter test xs)) a.0 ∙ ap (λ (l : List X). x ∷ l) (whole_filter test xs a.1)

  all_append : (P : X → Type 0) (xs ys : List X) → AllByRecursion P xs → AllByRecursion P ys → AllByRecursion P (xs ++ ys)
  all_append P [] ys a b = b
  all_append P (x ∷ xs) ys a b = (a.0, all_append P xs ys a.1 b)

  any_left : (q : X) (xs ys : List X) → list_any (same q) xs ≡ true → list_any (same q) (xs ++ ys) ≡ true
  any_left q xs ys h = list_any-append (same q) xs ys ∙ ap (λ (b : Bool). b || list_any (same q) ys) h

  any_right : (q : X) (xs ys : List X) → list_any (same q) ys ≡ true → list_any (same q) (xs ++ ys) ≡ true
  any_right q xs ys h = list_any-append (same q) xs ys ∙ ap (λ (b : Bool). list_any (same q) xs || b) h ∙ or_true (list_any (same q) xs)
    where
      or_true : (b : Bool) → (b || true) ≡ true
      or_true true = refl
      or_true false = refl

  module _ (one two : X → Bool) (apart : (p : X) → one p ≡ true → two p ≡ false) where
    not_same : (x y : X) → one x ≡ true → two y ≡ true → (b : Bool) → same x y ≡ b → b ≡ false
    not_same x y a b false e = refl
    not_same x y a b true e = absurd (true≢false (sym b ∙ ap two (sym (one_of x y e)) ∙ apart x a))

    other_all : (x : X) → one x ≡ true → (ys : List X) → AllByRecursion (λ y. two y ≡ true) ys → AllByRecursion (λ y. same x y ≡ false) ys
    other_all x h [] a = tt
    other_all x h (y ∷ ys) a = (not_same x y h a.0 (same x y) refl, other_all x h ys a.1)

    append_distinct : (xs ys : List X) → AllByRecursion (λ x. one x ≡ true) xs → AllByRecursion (λ y. two y ≡ true) ys → IsDistinct same xs → IsDistinct same ys → IsDistinct same (xs ++ ys)
    unfolding IsDistinct
    append_distinct [] ys a b d e = e
    append_distinct (x ∷ xs) ys a b d e = (all_append (λ z. same x z ≡ false) xs ys d.0 (other_all x a.0 ys b), append_distinct xs ys a.1 b d.1 e)

    -- what holds for so many of one kind and so many of another holds for all of them together
    pub sum_count : (all : X → Bool) (m n : ℕ) → ((p : X) → all p ≡ (one p || two p)) → IsCount same one m → IsCount same two n → IsCount same all (m + n)
    sum_count all m n both a b = record {
      items = xs ++ ys;
      apart = append_distinct xs ys (all_of one a.items) (all_of two b.items) (filter_distinct one a.items a.apart) (filter_distinct two b.items b.apart);
      whole = λ p h. whole p (one p) refl (sym (both p) ∙ h);
      counted = ap (λ (x : ℕ). x + n) a.counted ∙ ap (λ (x : ℕ). length xs + x) b.counted ∙ sym (length-append xs ys) ∙ ap length (sym (whole_filter all (xs ++ ys) (all_append (λ x. all x ≡ true) xs ys (holds one left xs (all_of one a.items)) (holds two right ys (all_of two b.items)))));
    }
      where
        xs : List X
        xs = filter one a.items

        ys : List X
        ys = filter two b.items

        left : (p : X) → one p ≡ true → all p ≡ true
        left p h = both p ∙ ap (λ (x : Bool). x || two p) h

        right : (p : X) → two p ≡ true → all p ≡ true
        right p h = both p ∙ ap (λ (x : Bool). one p || x) h ∙ or_true (one p)
          where
            or_true : (x : Bool) → (x || true) ≡ true
            or_true true = refl
            or_true false = refl

        holds : (test : X → Bool) → ((p : X) → test p ≡ true → all p ≡ true) → (zs : List X) → AllByRecursion (λ x. test x ≡ true) zs → AllByRecursion (λ x. all x ≡ true) zs
        holds test f [] c = tt
        holds test f (z ∷ zs) c = (f z c.0, holds test f zs c.1)

        whole : (p : X) (o : Bool) → one p ≡ o → (o || two p) ≡ true → list_any (same p) (xs ++ ys) ≡ true
        whole p true e h = any_left p xs ys (member_is one a.items a.whole p ∙ e)
        whole p false e h = any_right p xs ys (member_is two b.items b.whole p ∙ h)

  -- a test that holds for the same holds for as many
  pub same_count : (one two : X → Bool) (n : ℕ) → ((p : X) → two p ≡ one p) → IsCount same one n → IsCount same two n
  same_count one two n alike a = record {
    items = a.items;
    apart = a.apart;
    whole = λ p h. a.whole p (sym (alike p) ∙ h);
    counted = a.counted ∙ ap length (same_filter a.items);
  }
    where
      same_filter : (xs : List X) → filter one xs ≡ filter two xs
      same_filter [] = refl
      same_filter (x ∷ xs) = ap (λ (b : Bool). cond b (x ∷ filter one xs) (filter one xs)) (sym (alike x)) ∙ ap (λ (l : List X). cond (two x) (x ∷ l) l) (same_filter xs)

  -- a narrower test holds for some number too
  pub some_count : (many few : X → Bool) (n : ℕ) → ((p : X) → few p ≡ true → many p ≡ true) → IsCount same many n → (m : ℕ) × IsCount same few m
  some_count many few n within a = (
    length (filter few a.items),
    record { items = a.items; apart = a.apart; whole = λ p h. a.whole p (within p h); counted = refl },
  )
