-- Numbers of labellings, capped at two.
use Rattle.std.proofs.Common.{◌≡◌, ℕ, zero, suc, ◌+◌, ◌*◌, ◌<◌, ◌≤◌, min, Bool, true, false, ◌&&◌, ◌||◌, not, List, [], ◌∷◌, ◌++◌, map, length, take, get_or, if◌then◌else◌, refl, sym, ◌∙◌, ap, subst, nat_lt, add-one, mul_comm, arith}
use Rattle.std.proofs.lemmas.List.{length-map, length-append, append-nil, take_more}
use Rattle.std.proofs.lemmas.Bool.Decides.{nat_tests}
use Rattle.std.proofs.lemmas.List.Sums.{sum_by-cons, sum_by_push}
use Rattle.std.specs.List.{flat_map}
use mathlib.Core.Bool.{beq}
use Rattle.al_overload.specs.declared.term.Candidate.{Candidate}
use Rattle.al_overload.specs.declared.term.Choice.{Choice}
use Rattle.al_overload.specs.declared.types.Expected.{Expected}
use Rattle.al_overload.specs.declared.term.Term.{Term, Head}
use Rattle.al_overload.specs.declared.term.Terms.{Terms, NoTerms, MoreTerms'}
use Rattle.al_overload.specs.Labelling.{Node, Trees, Label, NodeAs, Labels, labellings, acceptable, preferred, preferred_all, suits, pairs, numbered, heads, of_kind, under, same_bool, is_some_of}
use Rattle.al_overload.specs.declared.count.Count.{Count}
use Rattle.al_overload.specs.declared.count.Count.TheVariants as ways
use Rattle.al_overload.specs.Counts.{IsHead, held_in, ways_of, size, candidates, counted, counted_all, share, tally, plain, plain_all, held, held_all, IsCounted, AreCounted}
use Rattle.al_overload.proofs.Lists.{none-any, flat-cong}
use Rattle.al_overload.proofs.Preferred.{some_root, chosen, is_some-flat, any-cong, acceptable_is_preferred}

pub size-of : (n : ℕ) → size (ways_of n) ≡ min n 2
size-of zero = refl
size-of (suc zero) = refl
size-of (suc (suc n)) = omega arith

pub ways-same : (a b : ℕ) → min a 2 ≡ min b 2 → ways_of a ≡ ways_of b
ways-same zero zero e = refl
ways-same zero (suc b) e = absurd (omega arith)
ways-same (suc zero) zero e = absurd (omega arith)
ways-same (suc zero) (suc zero) e = refl
ways-same (suc zero) (suc (suc b)) e = absurd (omega arith)
ways-same (suc (suc a)) zero e = absurd (omega arith)
ways-same (suc (suc a)) (suc zero) e = absurd (omega arith)
ways-same (suc (suc a)) (suc (suc b)) e = refl

-- the cap goes through a product and a sum
pub cap-mul : (a b : ℕ) → min (min a 2 * min b 2) 2 ≡ min (a * b) 2
cap-mul zero b = omega arith
cap-mul (suc zero) b = omega arith
cap-mul (suc (suc a)) zero = omega arith
cap-mul (suc (suc a)) (suc zero) = omega arith
cap-mul (suc (suc a)) (suc (suc b)) =
    let e : min (suc (suc a)) 2 ≡ 2 = omega arith in
    let f : min (suc (suc b)) 2 ≡ 2 = omega arith in
    rw (e, f) (omega arith)

cap-add : (a b c d : ℕ) → min a 2 ≡ min c 2 → min b 2 ≡ min d 2 → min (a + b) 2 ≡ min (c + d) 2
cap-add a b c d e f = omega arith

one-factor : (a b : ℕ) → a * b ≡ 1 → a ≡ 1
one-factor zero b e = absurd (omega arith)
one-factor (suc zero) b e = refl
one-factor (suc (suc a)) zero e = absurd (omega arith)
one-factor (suc (suc a)) (suc b) e = absurd (omega arith)

pub length-pairs : (xs : List Label) (ys : List Labels) → length (pairs xs ys) ≡ length xs * length ys
length-pairs [] ys = omega arith
length-pairs (x ∷ xs) ys = simp (length-append, length-map, length-pairs xs ys) (omega arith)

-- The root type's operators alone, if one of them fits; else the other declarations.
root-is : (b : Bool) (xs : List Label) → is_some_of (if same_bool b true then xs else []) ≡ (b && is_some_of xs)
root-is true xs = refl
root-is false xs = refl

roots-are : (args : Trees) (t : Expected) (ds : List (ℕ × Candidate)) →
    is_some_of (flat_map (of_kind args t true) ds) ≡ some_root (preferred_all args) t ds
roots-are args t ds =
    is_some-flat (of_kind args t true) ds
    ∙ any-cong (λ d. is_some_of (of_kind args t true d)) (λ d. d.1.is_root && is_some_of (heads (preferred_all args) t d)) ds
    (λ d. root-is d.1.is_root (heads (preferred_all args) t d))

none-of : {A : Type 0} (xs : List A) → is_some_of xs ≡ false → xs ≡ []
none-of [] h = refl
none-of (x ∷ xs) h = cc

kept-root : (b s : Bool) (xs : List Label) → s ≡ true → (if b || not s then xs else []) ≡ (if same_bool b true then xs else [])
kept-root true s xs e = refl
kept-root false s xs e = rw e refl

kept-other : (b s : Bool) (xs : List Label) → s ≡ false → (b && is_some_of xs) ≡ false → (if b || not s then xs else []) ≡ (if same_bool b false then xs else [])
kept-other true s xs e h = none-of xs h
kept-other false s xs e h = rw e refl

pub preferred-roots : (cs : List Candidate) (args : Trees) (t : Expected) → is_some_of (under args t true cs) ≡ true → preferred (Node cs args) t ≡ under args t true cs
preferred-roots cs args t e =
    let ds = numbered 0 cs in
    let g = preferred_all args in
    flat-cong (chosen g t ds) (of_kind args t true) ds
    (λ d h. kept-root d.1.is_root (some_root g t ds) (heads g t d) (sym (roots-are args t ds) ∙ e))

pub preferred-others : (cs : List Candidate) (args : Trees) (t : Expected) → is_some_of (under args t true cs) ≡ false → preferred (Node cs args) t ≡ under args t false cs
preferred-others cs args t e =
    let ds = numbered 0 cs in
    let g = preferred_all args in
    let none = sym (roots-are args t ds) ∙ e in
    flat-cong (chosen g t ds) (of_kind args t false) ds
    (λ d h. kept-other d.1.is_root (some_root g t ds) (heads g t d) none
    (none-any (λ v. v.1.is_root && is_some_of (heads g t v)) ds d none h))

-- Counts

share-at : (b s : Bool) (n : ℕ) (r : Bool) (xs : List Labels) →
    min (if b then (if s then size (ways_of (length xs)) else 0) else 0) 2 ≡ min (length (if b then (if s then map (NodeAs n r) xs else []) else [])) 2
share-at true true n r xs = simp length-map (rw (size-of (length xs)) (omega arith))
share-at true false n r xs = refl
share-at false s n r xs = refl

tally-cons : (root : Bool) (t : Expected) (c : Choice) (cs : List Choice) → tally root t (c ∷ cs) ≡ share root t c + tally root t cs
tally-cons root t c cs = sum_by-cons (share root t) c cs

tally-from : (n : ℕ) (cs : List Candidate) (args : Trees) (t : Expected) (root : Bool) →
    min (tally root t (counted_all args cs)) 2 ≡ min (length (flat_map (of_kind args t root) (numbered n cs))) 2
tally-from n [] args t root = refl
tally-from n (c ∷ cs) args t root =
    simp length-append
    (rw (tally-cons root t (counted args c) (counted_all args cs))
    (cap-add _ _ _ _ (share-at (same_bool c.is_root root) (suits c t) n c.is_root (preferred_all args c.operands)) (tally-from (suc n) cs args t root)))

pub tally-counts : (choices : List Choice) (args : Terms) (t : Expected) (root : Bool) → choices ≡ counted_all (plain_all args) (candidates choices) →
    min (tally root t choices) 2 ≡ min (length (under (plain_all args) t root (candidates choices))) 2
tally-counts choices args t root e = ap (λ (l : List Choice). min (tally root t l) 2) e ∙ tally-from 0 (candidates choices) (plain_all args) t root

held-at : (roots others whole : List Label) (a c : ℕ) → min a 2 ≡ min (length roots) 2 → min c 2 ≡ min (length others) 2 →
    (is_some_of roots ≡ true → whole ≡ roots) → (is_some_of roots ≡ false → whole ≡ others) →
    (if nat_lt 0 a then ways_of a else ways_of c) ≡ ways_of (length whole)
held-at [] others whole a c ea ec f g =
    let z : nat_lt 0 a ≡ false = grind (arith, nat_tests) in
    rw (z, g refl) (ways-same c (length others) ec)
held-at (x ∷ xs) others whole a c ea ec f g =
    let z : nat_lt 0 a ≡ true = grind (arith, nat_tests) in
    rw (z, f refl) (ways-same a (length (x ∷ xs)) ea)

pub held-counts : (m : Term) (t : Expected) → IsCounted m → held m t ≡ ways_of (length (preferred (plain m) t))
held-counts (Head choices args) t h =
    held-at (under (plain_all args) t true (candidates choices)) (under (plain_all args) t false (candidates choices))
    (preferred (plain (Head choices args)) t) (tally true t choices) (tally false t choices)
    (tally-counts choices args t true h.0) (tally-counts choices args t false h.0)
    (preferred-roots (candidates choices) (plain_all args) t) (preferred-others (candidates choices) (plain_all args) t)

product : (a b : ℕ) → ways_of (size (ways_of a) * size (ways_of b)) ≡ ways_of (a * b)
product a b = ways-same (size (ways_of a) * size (ways_of b)) (a * b) (rw (size-of a, size-of b) (cap-mul a b))

pub held_all_counts : (args : Terms) (ts : List Expected) → AreCounted args → held_all args ts ≡ ways_of (length (preferred_all (plain_all args) ts))
held_all_counts NoTerms [] h = refl
held_all_counts NoTerms (t ∷ ts) h = refl
held_all_counts (MoreTerms' p a q more) [] h = refl
held_all_counts (MoreTerms' p a q more) (t ∷ ts) h =
    let xs = preferred (plain a) t in
    let ys = preferred_all (plain_all more) ts in
    rw (held-counts a t h.0, held_all_counts more ts h.1)
    (product (length xs) (length ys) ∙ ap ways_of (sym (length-pairs xs ys)))

-- operands with one choice have one labelling each
pub first_one : (xs : List Label) (ys : List Labels) → length (pairs xs ys) ≡ 1 → length xs ≡ 1
first_one xs ys e = one-factor (length xs) (length ys) (sym (length-pairs xs ys) ∙ e)

pub others_one : (xs : List Label) (ys : List Labels) → length (pairs xs ys) ≡ 1 → length ys ≡ 1
others_one xs ys e = one-factor (length ys) (length xs) (mul_comm (length ys) (length xs) ∙ (sym (length-pairs xs ys) ∙ e))

-- the one candidate of a kind that fits

alone : {A : Type 0} (xs ys : List A) → 0 < length xs → length (xs ++ ys) ≡ 1 → xs ++ ys ≡ xs
alone xs [] h e = append-nil xs
alone xs (y ∷ ys) h e = absurd (omega (arith, length-append xs (y ∷ ys)))

none-in : {A : Type 0} (xs ys : List A) → xs ++ ys ≡ [] → (xs ≡ []) × (ys ≡ [])
none-in [] ys e = (refl, e)
none-in (x ∷ xs) ys e = cc

none-join : {A : Type 0} (xs ys : List A) → xs ≡ [] → ys ≡ [] → xs ++ ys ≡ []
none-join [] ys e f = f
none-join (x ∷ xs) ys e f = cc

-- one more candidate that gives no labelling
pub none-more : (args : Trees) (t : Expected) (root : Bool) (n : ℕ) (choices : List Choice) (i : ℕ) (d : Choice) → i < length choices →
    flat_map (of_kind args t root) (numbered n (candidates (take i choices))) ≡ [] → of_kind args t root (n + i, (get_or choices i d).candidate) ≡ [] →
    flat_map (of_kind args t root) (numbered n (candidates (take (suc i) choices))) ≡ []
none-more args t root n [] i d h none here = absurd (omega arith)
none-more args t root n (c ∷ cs) zero d h none here =
    let e : n + 0 ≡ n = omega arith in
    none-join (of_kind args t root (n, c.candidate)) [] (ap (λ k. of_kind args t root (k, c.candidate)) (sym e) ∙ here) refl
none-more args t root n (c ∷ cs) (suc i) d h none here =
    let parts = none-in (of_kind args t root (n, c.candidate)) (flat_map (of_kind args t root) (numbered (suc n) (candidates (take i cs)))) none in
    let e : n + suc i ≡ suc n + i = omega arith in
    none-join (of_kind args t root (n, c.candidate)) (flat_map (of_kind args t root) (numbered (suc n) (candidates (take (suc i) cs)))) parts.0
    (none-more args t root (suc n) cs i d (omega arith) parts.1 (ap (λ k. of_kind args t root (k, (get_or cs i d).candidate)) (sym e) ∙ here))

pub none-next : (args : Trees) (t : Expected) (root : Bool) (choices : List Choice) (i : ℕ) (d : Choice) → i < length choices →
    flat_map (of_kind args t root) (numbered 0 (candidates (take i choices))) ≡ [] → of_kind args t root (i, (get_or choices i d).candidate) ≡ [] →
    flat_map (of_kind args t root) (numbered 0 (candidates (take (i + 1) choices))) ≡ []
none-next args t root choices i d h none here =
    let z : 0 + i ≡ i = omega arith in
    rw (add-one) (none-more args t root 0 choices i d h none (ap (λ k. of_kind args t root (k, (get_or choices i d).candidate)) z ∙ here))

only-here : (args : Trees) (t : Expected) (root : Bool) (n : ℕ) (choices : List Choice) (i : ℕ) (d : Choice) → i < length choices →
    flat_map (of_kind args t root) (numbered n (candidates (take i choices))) ≡ [] → 0 < length (of_kind args t root (n + i, (get_or choices i d).candidate)) →
    length (flat_map (of_kind args t root) (numbered n (candidates choices))) ≡ 1 →
    flat_map (of_kind args t root) (numbered n (candidates choices)) ≡ of_kind args t root (n + i, (get_or choices i d).candidate)
only-here args t root n [] i d h none some one = absurd (omega arith)
only-here args t root n (c ∷ cs) zero d h none some one =
    let e : n + 0 ≡ n = omega arith in
    rw e (alone (of_kind args t root (n, c.candidate)) (flat_map (of_kind args t root) (numbered (suc n) (candidates cs))) (rw e at some) one)
only-here args t root n (c ∷ cs) (suc i) d h none some one =
    let parts = none-in (of_kind args t root (n, c.candidate)) (flat_map (of_kind args t root) (numbered (suc n) (candidates (take i cs)))) none in
    let e : n + suc i ≡ suc n + i = omega arith in
    rw (parts.0, e)
    (only-here args t root (suc n) cs i d (omega arith) parts.1 (rw e at some) (rw parts.0 at one))

ways-at : (args : Trees) (choices : List Choice) (i : ℕ) (d : Choice) → i < length choices → choices ≡ counted_all args (candidates choices) →
    (get_or choices i d).ways ≡ ways_of (length (preferred_all args (get_or choices i d).candidate.operands))
ways-at args [] i d h e = absurd (omega arith)
ways-at args (c ∷ cs) zero d h e = let f : c ≡ counted args c.candidate = cc in ap (λ (x : Choice). x.ways) f
ways-at args (c ∷ cs) (suc i) d h e = let f : cs ≡ counted_all args (candidates cs) = cc in ways-at args cs i d (omega arith) f

bool-alike : (a b : Bool) → a ≡ b → same_bool a b ≡ true
bool-alike true true h = refl
bool-alike true false h = cc
bool-alike false true h = cc
bool-alike false false h = refl

bool-apart : (a b : Bool) → (a ≡ b → ⊥) → same_bool a b ≡ false
bool-apart true true h = absurd (h refl)
bool-apart true false h = refl
bool-apart false true h = refl
bool-apart false false h = absurd (h refl)

pub beq-is : (a b : Bool) → beq a b ≡ true → a ≡ b
beq-is true true h = refl
beq-is true false h = cc
beq-is false true h = cc
beq-is false false h = refl

pub beq-not : (a b : Bool) → beq a b ≡ false → a ≡ b → ⊥
beq-not true true h e = cc
beq-not true false h e = cc
beq-not false true h e = cc
beq-not false false h e = cc

-- a candidate of the other kind, of another type or whose operands don't fit gives nothing
pub kind-apart : (args : Trees) (t : Expected) (root : Bool) (n : ℕ) (c : Candidate) → (c.is_root ≡ root → ⊥) → of_kind args t root (n, c) ≡ []
kind-apart args t root n c h = let e = bool-apart c.is_root root h in rw e refl

kind-if : {A : Type 0} (b : Bool) (xs : List A) → xs ≡ [] → (if b then xs else []) ≡ []
kind-if true xs e = e
kind-if false xs e = refl

pub kind-elsewhere : (args : Trees) (t : Expected) (root : Bool) (n : ℕ) (c : Candidate) → suits c t ≡ false → of_kind args t root (n, c) ≡ []
kind-elsewhere args t root n c h =
    let e : heads (preferred_all args) t (n, c) ≡ [] = rw h refl in
    kind-if (same_bool c.is_root root) (heads (preferred_all args) t (n, c)) e

empty-map : {A B : Type 0} (f : A → B) (xs : List A) → min (length xs) 2 ≡ 0 → map f xs ≡ []
empty-map f [] h = refl
empty-map f (x ∷ xs) h = absurd (omega arith)

not-above : (n : ℕ) → nat_lt 0 n ≡ false → n ≡ 0
not-above zero h = refl
not-above (suc n) h = let e : nat_lt 0 (suc n) ≡ true = grind (arith, nat_tests) in cc

above : (n : ℕ) → nat_lt 0 n ≡ true → 0 < n
above zero h = let e : nat_lt 0 0 ≡ false = grind (arith, nat_tests) in cc
above (suc n) h = omega arith

pub kind-unfit : (args : Trees) (t : Expected) (root : Bool) (choices : List Choice) (i : ℕ) (d : Choice) → i < length choices → choices ≡ counted_all args (candidates choices) →
    nat_lt 0 (size (get_or choices i d).ways) ≡ false → of_kind args t root (i, (get_or choices i d).candidate) ≡ []
kind-unfit args t root choices i d h counts none =
    let c = (get_or choices i d).candidate in
    let w = ways-at args choices i d h counts in
    let z = size-of (length (preferred_all args c.operands)) in
    let e : size (get_or choices i d).ways ≡ min (length (preferred_all args c.operands)) 2 = ap size w ∙ z in
    let none' : size (get_or choices i d).ways ≡ 0 = not-above _ none in
    kind-if (same_bool c.is_root root) (heads (preferred_all args) t (i, c))
    (kind-if (suits c t) (map (NodeAs i c.is_root) (preferred_all args c.operands)) (empty-map (NodeAs i c.is_root) (preferred_all args c.operands) (omega arith)))

pub only-choice : (args : Trees) (t : Expected) (root : Bool) (choices : List Choice) (i : ℕ) (d : Choice) → i < length choices → choices ≡ counted_all args (candidates choices) →
    flat_map (of_kind args t root) (numbered 0 (candidates (take i choices))) ≡ [] →
    (get_or choices i d).candidate.is_root ≡ root → suits (get_or choices i d).candidate t ≡ true → nat_lt 0 (size (get_or choices i d).ways) ≡ true →
    length (under args t root (candidates choices)) ≡ 1 →
    (under args t root (candidates choices) ≡ map (NodeAs i root) (preferred_all args (get_or choices i d).candidate.operands))
    × (length (preferred_all args (get_or choices i d).candidate.operands) ≡ 1)
only-choice args t root choices i d h counts none kind type some one =
    let c = (get_or choices i d).candidate in
    let filled = preferred_all args c.operands in
    let w = ways-at args choices i d h counts in
    let k : size (get_or choices i d).ways ≡ min (length filled) 2 = ap size w ∙ size-of (length filled) in
    let more = above _ some in
    let same = bool-alike c.is_root root kind in
    let shape : of_kind args t root (i, c) ≡ map (NodeAs i c.is_root) filled = rw (same, type) refl in
    let size : length (of_kind args t root (i, c)) ≡ length filled = rw shape (length-map filled (NodeAs i c.is_root)) in
    let z : i ≡ 0 + i = omega arith in
    let here : 0 < length (of_kind args t root (i, c)) = omega arith in
    let there : 0 < length (of_kind args t root (0 + i, c)) = subst (λ (k : ℕ). 0 < length (of_kind args t root (k, c))) z here in
    let whole : under args t root (candidates choices) ≡ of_kind args t root (i, c) =
    only-here args t root 0 choices i d h none there one ∙ ap (λ k. of_kind args t root (k, c)) (sym z) in
    (whole ∙ shape ∙ ap (λ (r : Bool). map (NodeAs i r) filled) kind, sym size ∙ (sym (ap length whole) ∙ one))

long-some : (xs : List Label) → 0 < length xs → is_some_of xs ≡ true
long-some [] h = absurd (omega arith)
long-some (x ∷ xs) h = refl

short-none : (xs : List Label) → length xs ≤ 0 → is_some_of xs ≡ false
short-none [] h = refl
short-none (x ∷ xs) h = absurd (omega arith)

-- whether one of the root type's operators fits
pub with-root : (choices : List Choice) (args : Terms) (t : Expected) → choices ≡ counted_all (plain_all args) (candidates choices) →
    0 < tally true t choices → preferred (Node (candidates choices) (plain_all args)) t ≡ under (plain_all args) t true (candidates choices)
with-root choices args t e h =
    let k = tally-counts choices args t true e in
    preferred-roots (candidates choices) (plain_all args) t (long-some (under (plain_all args) t true (candidates choices)) (omega arith))

pub without-root : (choices : List Choice) (args : Terms) (t : Expected) → choices ≡ counted_all (plain_all args) (candidates choices) →
    tally true t choices ≤ 0 → preferred (Node (candidates choices) (plain_all args)) t ≡ under (plain_all args) t false (candidates choices)
without-root choices args t e h =
    let k = tally-counts choices args t true e in
    preferred-others (candidates choices) (plain_all args) t (short-none (under (plain_all args) t true (candidates choices)) (omega arith))

pub count-acceptable : (choices : List Choice) (args : Terms) (t : Expected) → IsHead choices args →
    held_in choices t ≡ ways_of (length (acceptable (labellings (Node (candidates choices) (plain_all args)) t)))
count-acceptable choices args t k =
    held-counts (Head choices args) t k ∙ ap (λ v. ways_of (length v)) (sym (acceptable_is_preferred (Node (candidates choices) (plain_all args)) t))

pub none-is : (n : ℕ) → ways_of n ≡ ways.None → n ≡ 0
none-is zero e = refl
none-is (suc zero) e = cc
none-is (suc (suc n)) e = cc

pub one-is : (n : ℕ) → ways_of n ≡ ways.One → n ≡ 1
one-is zero e = cc
one-is (suc zero) e = refl
one-is (suc (suc n)) e = cc

pub several-is : (n : ℕ) → ways_of n ≡ ways.Several → 2 ≤ n
several-is zero e = cc
several-is (suc zero) e = cc
several-is (suc (suc n)) e = omega arith

pub empty-of : {A : Type 0} (xs : List A) → length xs ≡ 0 → xs ≡ []
empty-of [] h = refl
empty-of (x ∷ xs) h = absurd (omega arith)

pub candidates_counted : (args : Trees) (cs : List Candidate) → candidates (counted_all args cs) ≡ cs
candidates_counted args [] = refl
candidates_counted args (c ∷ cs) = ap (λ (l : List Candidate). c ∷ l) (candidates_counted args cs)

-- one more candidate, counted
pub counted_more : (args : Trees) (choices : List Choice) (c : Candidate) → choices ≡ counted_all args (candidates choices) →
    (candidates (choices ++ counted args c ∷ []) ≡ candidates choices ++ c ∷ [])
    × (choices ++ counted args c ∷ [] ≡ counted_all args (candidates (choices ++ counted args c ∷ [])))
counted_more args [] c h = (refl, refl)
counted_more args (d ∷ ds) c h =
    let e : d ≡ counted args d.candidate = cc in
    let f : ds ≡ counted_all args (candidates ds) = cc in
    let r = counted_more args ds c f in (
      ap (λ (l : List Candidate). d.candidate ∷ l) r.0,
      ap (λ (x : Choice). x ∷ (ds ++ counted args c ∷ [])) e ∙ ap (λ (l : List Choice). counted args d.candidate ∷ l) r.1,
    )

-- one more choice of a loop
pub tally-next : (root : Bool) (t : Expected) (choices : List Choice) (i : ℕ) (c d : Choice) (a b : Count) → i < length choices → c ≡ get_or choices i d →
    a ≡ ways_of (tally root t (take i choices)) → b ≡ ways_of (share root t c) →
    ways_of (size a + size b) ≡ ways_of (tally root t (take (i + 1) choices))
tally-next root t choices i c d a b h e ea eb =
    let n = tally root t (take i choices) in
    let k = share root t c in
    let f : tally root t (take (i + 1) choices) ≡ n + k =
    ap (tally root t) (take_more choices i d h) ∙ (sum_by_push (share root t) (take i choices) (get_or choices i d) ∙ ap (λ (x : Choice). n + share root t x) (sym e)) in
    rw (ea, eb, f, size-of n, size-of k) (ways-same (min n 2 + min k 2) (n + k) (omega arith))

-- whether the root type's operators are what is preferred
pub prefers : (choices : List Choice) (args : Terms) (t : Expected) (r : Bool) (w : Count) → choices ≡ counted_all (plain_all args) (candidates choices) →
    w ≡ ways_of (tally true t choices) → r ≡ nat_lt 0 (size w) →
    preferred (Node (candidates choices) (plain_all args)) t ≡ under (plain_all args) t r (candidates choices)
prefers choices args t true w e p q =
    let k : size w ≡ min (tally true t choices) 2 = ap size p ∙ size-of (tally true t choices) in
    let m = above (size w) (sym q) in
    with-root choices args t e (omega arith)
prefers choices args t false w e p q =
    let k : size w ≡ min (tally true t choices) 2 = ap size p ∙ size-of (tally true t choices) in
    let m = not-above (size w) (sym q) in
    without-root choices args t e (omega arith)

-- ---- one operand after the other

-- ways of operands that were counted, with those of the next one and of the rest
pub with_more : (x y z : Count) → ways_of (size (ways_of (size x * size y)) * size z) ≡ ways_of (size x * size (ways_of (size y * size z)))
with_more ways.None ways.None ways.None = refl
with_more ways.None ways.None ways.One = refl
with_more ways.None ways.None ways.Several = refl
with_more ways.None ways.One ways.None = refl
with_more ways.None ways.One ways.One = refl
with_more ways.None ways.One ways.Several = refl
with_more ways.None ways.Several ways.None = refl
with_more ways.None ways.Several ways.One = refl
with_more ways.None ways.Several ways.Several = refl
with_more ways.One ways.None ways.None = refl
with_more ways.One ways.None ways.One = refl
with_more ways.One ways.None ways.Several = refl
with_more ways.One ways.One ways.None = refl
with_more ways.One ways.One ways.One = refl
with_more ways.One ways.One ways.Several = refl
with_more ways.One ways.Several ways.None = refl
with_more ways.One ways.Several ways.One = refl
with_more ways.One ways.Several ways.Several = refl
with_more ways.Several ways.None ways.None = refl
with_more ways.Several ways.None ways.One = refl
with_more ways.Several ways.None ways.Several = refl
with_more ways.Several ways.One ways.None = refl
with_more ways.Several ways.One ways.One = refl
with_more ways.Several ways.One ways.Several = refl
with_more ways.Several ways.Several ways.None = refl
with_more ways.Several ways.Several ways.One = refl
with_more ways.Several ways.Several ways.Several = refl

pub with_no_more : (x : Count) → ways_of (size x * 1) ≡ x
with_no_more ways.None = refl
with_no_more ways.One = refl
with_no_more ways.Several = refl

pub with_misfit : (x : Count) → ways_of (size x * 0) ≡ ways.None
with_misfit ways.None = refl
with_misfit ways.One = refl
with_misfit ways.Several = refl

pub with_first : (x : Count) → ways_of (size ways.One * size x) ≡ x
with_first ways.None = refl
with_first ways.One = refl
with_first ways.Several = refl
