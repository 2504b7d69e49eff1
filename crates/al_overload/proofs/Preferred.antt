-- What no other labelling beats is what the recursion with a preference at each head gives.
use Rattle.std.proofs.Common.{◌≡◌, ℕ, suc, ◌≤◌, Bool, true, false, not, ◌==◌, ◌&&◌, ◌||◌, inl, inr, List, [], ◌∷◌, ◌++◌, map, if◌then◌else◌, refl, sym, ◌∙◌, ap, subst, arith}
use Rattle.std.specs.List.{flat_map, filter, list_any}
use Rattle.std.proofs.lemmas.Bool.Decides.{nat_tests}
use Rattle.al_overload.specs.declared.term.Candidate.{Candidate}
use Rattle.al_overload.specs.declared.types.Expected.{Expected}
use Rattle.al_overload.specs.Labelling.{Tree, Node, Trees, NoTree, MoreTrees, Label, NodeAs, Labels, NoLabel, MoreLabels, labellings, fillings, preferred, preferred_all, acceptable, acceptable_all, beats, beats_all, covers, covers_all, suits, is_some_of, pairs, numbered, heads}
use Rattle.al_overload.proofs.Lists.{In, in-flat, flat-in, in-map, map-in, any-in, any-none, none-any, any-some, filter-cong, filter-map, filter-flat, flat-cong, filter-none, flat-filter}

-- Tests

and-true : (a b : Bool) → (a && b) ≡ true → (a ≡ true) × (b ≡ true)
and-true true b e = (refl, e)
and-true false b e = cc

not-true : (b : Bool) → not b ≡ true → b ≡ false
not-true true e = cc
not-true false e = refl

eq-self : (n : ℕ) → (n == n) ≡ true
eq-self n = grind (arith, nat_tests)

eq-is : (m n : ℕ) → (m == n) ≡ true → m ≡ n
eq-is m n h = grind (arith, nat_tests)

-- Numbers

-- each is from the first number on
from-first : (n : ℕ) (cs : List Candidate) (d : ℕ × Candidate) → In d (numbered n cs) → n ≤ d.0
from-first n [] d h = absurd h
from-first n (c ∷ cs) d (inl e) = let f : d.0 ≡ n = ap (λ (x : ℕ × Candidate). x.0) e in omega arith
from-first n (c ∷ cs) d (inr h) = let f = from-first (suc n) cs d h in omega arith

-- one number, one candidate
pub one-number : (n : ℕ) (cs : List Candidate) (d e : ℕ × Candidate) → In d (numbered n cs) → In e (numbered n cs) → d.0 ≡ e.0 → d ≡ e
one-number n [] d e h k p = absurd h
one-number n (c ∷ cs) d e (inl a) (inl b) p = a ∙ sym b
one-number n (c ∷ cs) d e (inl a) (inr k) p =
    let f : d.0 ≡ n = ap (λ (x : ℕ × Candidate). x.0) a in
    let g = from-first (suc n) cs e k in
    absurd (omega arith)
one-number n (c ∷ cs) d e (inr h) (inl b) p =
    let f : e.0 ≡ n = ap (λ (x : ℕ × Candidate). x.0) b in
    let g = from-first (suc n) cs d h in
    absurd (omega arith)
one-number n (c ∷ cs) d e (inr h) (inr k) p = one-number (suc n) cs d e h k p

apart-at : (n : ℕ) (cs : List Candidate) (d e : ℕ × Candidate) → In d (numbered n cs) → In e (numbered n cs) → (b : Bool) → (d.0 == e.0) ≡ b → (d.1.is_root ≡ e.1.is_root → ⊥) → (d.0 == e.0) ≡ false
apart-at n cs d e h k true p q = absurd (q (ap (λ (x : ℕ × Candidate). x.1.is_root) (one-number n cs d e h k (eq-is d.0 e.0 p))))
apart-at n cs d e h k false p q = p

-- A labelling covers itself.
mutual
  covers-self : (m : Label) → covers m m ≡ true
  covers-self (NodeAs n r xs) = rw (eq-self n) (covers_all-self xs)

  covers_all-self : (m : Labels) → covers_all m m ≡ true
  covers_all-self NoLabel = refl
  covers_all-self (MoreLabels x xs) = rw (covers-self x) (covers_all-self xs)

-- Lists

is_some-in : {A : Type 0} (x : A) (xs : List A) → In x xs → is_some_of xs ≡ true
is_some-in x [] h = absurd h
is_some-in x (y ∷ ys) h = refl

some-in : {A : Type 0} (xs : List A) → is_some_of xs ≡ true → (x : A) × In x xs
some-in [] h = cc
some-in (x ∷ xs) h = (x, inl refl)

is_some-map : {A B : Type 0} (g : A → B) (xs : List A) → is_some_of (map g xs) ≡ is_some_of xs
is_some-map g [] = refl
is_some-map g (x ∷ xs) = refl

is_some-append : {A : Type 0} (xs ys : List A) → is_some_of (xs ++ ys) ≡ (is_some_of xs || is_some_of ys)
is_some-append [] ys = refl
is_some-append (x ∷ xs) ys = refl

pub is_some-flat : {A B : Type 0} (f : A → List B) (ds : List A) → is_some_of (flat_map f ds) ≡ list_any (λ d. is_some_of (f d)) ds
is_some-flat f [] = refl
is_some-flat f (d ∷ ds) = is_some-append (f d) (flat_map f ds) ∙ ap (λ b. is_some_of (f d) || b) (is_some-flat f ds)

pub any-cong : {A : Type 0} (p q : A → Bool) (xs : List A) → ((x : A) → p x ≡ q x) → list_any p xs ≡ list_any q xs
any-cong p q [] f = refl
any-cong p q (x ∷ xs) f = rw (f x, any-cong p q xs f) refl

in-if : {A : Type 0} (b : Bool) (xs : List A) (o : A) → In o (if b then xs else []) → (b ≡ true) × In o xs
in-if true xs o h = (refl, h)
in-if false xs o h = absurd h

if-in : {A : Type 0} (b : Bool) (xs : List A) (o : A) → b ≡ true → In o xs → In o (if b then xs else [])
if-in true xs o e h = h
if-in false xs o e h = cc

-- Operands

both-beat : (a b p q : Bool) → (a && not p) ≡ false → (b && not q) ≡ false → ((a && b) && not (p && q)) ≡ false
both-beat false b p q h k = refl
both-beat true false p q h k = refl
both-beat true true true q h k = k
both-beat true true false q h k = cc

left-beats : (x o : Label) (y : Labels) → beats o x ≡ true → beats_all (MoreLabels o y) (MoreLabels x y) ≡ true
left-beats x o y h =
    let k = and-true (covers o x) (not (covers x o)) h in
    let e = not-true (covers x o) k.1 in
    let s = covers_all-self y in
    rw (k.0, s, e) refl

right-beats : (x : Label) (y o : Labels) → beats_all o y ≡ true → beats_all (MoreLabels x o) (MoreLabels x y) ≡ true
right-beats x y o h =
    let k = and-true (covers_all o y) (not (covers_all y o)) h in
    let e = not-true (covers_all y o) k.1 in
    let s = covers-self x in
    rw (s, k.0, e) refl

abbrev beaten : List Label → Label → Bool
beaten all m = list_any (λ o. beats o m) all

abbrev beaten_all : List Labels → Labels → Bool
beaten_all all m = list_any (λ o. beats_all o m) all

in-pairs : (xs : List Label) (ys : List Labels) (x : Label) (y : Labels) → In x xs → In y ys → In (MoreLabels x y) (pairs xs ys)
in-pairs xs ys x y h k = in-flat (λ z. map (MoreLabels z) ys) x xs (MoreLabels x y) h (in-map (MoreLabels x) y ys k)

pair-free : (xs : List Label) (ys : List Labels) (x : Label) (y : Labels) → beaten xs x ≡ false → beaten_all ys y ≡ false →
    (o : Labels) → In o (pairs xs ys) → beats_all o (MoreLabels x y) ≡ false
pair-free xs ys x y h k o i =
    let r = flat-in (λ z. map (MoreLabels z) ys) xs o i in
    let s = map-in (MoreLabels r.0) ys o r.2 in
    rw s.2
    (both-beat (covers r.0 x) (covers_all s.0 y) (covers x r.0) (covers_all y s.0)
    (none-any (λ v. beats v x) xs r.0 h r.1) (none-any (λ v. beats_all v y) ys s.0 k s.1))

pair-beaten-at : (xs : List Label) (ys : List Labels) (x : Label) (y : Labels) (a b : Bool) → In x xs → In y ys → beaten xs x ≡ a → beaten_all ys y ≡ b →
    beaten_all (pairs xs ys) (MoreLabels x y) ≡ (a || b)
pair-beaten-at xs ys x y true b hx hy ea eb =
    let r = any-some (λ o. beats o x) xs ea in
    any-in (λ o. beats_all o (MoreLabels x y)) (MoreLabels r.0 y) (pairs xs ys) (in-pairs xs ys r.0 y r.1 hy) (left-beats x r.0 y r.2)
pair-beaten-at xs ys x y false true hx hy ea eb =
    let r = any-some (λ o. beats_all o y) ys eb in
    any-in (λ o. beats_all o (MoreLabels x y)) (MoreLabels x r.0) (pairs xs ys) (in-pairs xs ys x r.0 hx r.1) (right-beats x y r.0 r.2)
pair-beaten-at xs ys x y false false hx hy ea eb =
    any-none (λ o. beats_all o (MoreLabels x y)) (pairs xs ys) (pair-free xs ys x y ea eb)

rest-if : {A : Type 0} (a : Bool) (q : A → Bool) (xs : List A) →
    filter (λ x. not (a || q x)) xs ≡ (if not a then filter (λ x. not (q x)) xs else [])
rest-if true q xs = filter-none xs
rest-if false q xs = refl

map-if : {A B : Type 0} (b : Bool) (g : A → B) (xs : List A) → map g (if b then xs else []) ≡ (if b then map g xs else [])
map-if true g xs = refl
map-if false g xs = refl

pairs-row : (xs : List Label) (ys : List Labels) (x : Label) → In x xs →
    filter (λ m. not (beaten_all (pairs xs ys) m)) (map (MoreLabels x) ys) ≡ (if not (beaten xs x) then map (MoreLabels x) (acceptable_all ys) else [])
pairs-row xs ys x h =
    filter-map (MoreLabels x) (λ m. not (beaten_all (pairs xs ys) m)) ys
    ∙ (ap (map (MoreLabels x))
    (filter-cong (λ y. not (beaten_all (pairs xs ys) (MoreLabels x y))) (λ y. not (beaten xs x || beaten_all ys y)) ys
    (λ y k. ap not (pair-beaten-at xs ys x y (beaten xs x) (beaten_all ys y) h k refl refl))
    ∙ rest-if (beaten xs x) (beaten_all ys) ys)
    ∙ map-if (not (beaten xs x)) (MoreLabels x) (acceptable_all ys))

acceptable-pairs : (xs : List Label) (ys : List Labels) → acceptable_all (pairs xs ys) ≡ pairs (acceptable xs) (acceptable_all ys)
acceptable-pairs xs ys =
    filter-flat (λ x. map (MoreLabels x) ys) (λ m. not (beaten_all (pairs xs ys) m)) xs
    ∙ (flat-cong (λ x. filter (λ m. not (beaten_all (pairs xs ys) m)) (map (MoreLabels x) ys))
    (λ x. if not (beaten xs x) then map (MoreLabels x) (acceptable_all ys) else []) xs (pairs-row xs ys)
    ∙ flat-filter (λ x. not (beaten xs x)) (λ x. map (MoreLabels x) (acceptable_all ys)) xs)

-- Heads

-- the root type's operator fits
abbrev pub some_root : (List Expected → List Labels) → Expected → List (ℕ × Candidate) → Bool
some_root f t ds = list_any (λ e. e.1.is_root && is_some_of (heads f t e)) ds

abbrev pub chosen : (List Expected → List Labels) → Expected → List (ℕ × Candidate) → ℕ × Candidate → List Label
chosen f t ds d = if d.1.is_root || not (some_root f t ds) then heads f t d else []

same-heads : (d : ℕ × Candidate) (ys xs : Labels) → beats (NodeAs d.0 d.1.is_root ys) (NodeAs d.0 d.1.is_root xs) ≡ beats_all ys xs
same-heads d ys xs = rw (eq-self d.0) refl

other-way : (m n : ℕ) → (m == n) ≡ false → (n == m) ≡ false
other-way m n h = grind (arith, nat_tests)

root-beats : (e d : ℕ × Candidate) (ys xs : Labels) → (e.0 == d.0) ≡ false → e.1.is_root ≡ true → d.1.is_root ≡ false → beats (NodeAs e.0 e.1.is_root ys) (NodeAs d.0 d.1.is_root xs) ≡ true
root-beats e d ys xs a h k =
    let b = other-way e.0 d.0 a in
    rw (a, b, h, k) refl

and-false-right : (b : Bool) → (b && false) ≡ false
and-false-right true = refl
and-false-right false = refl

other-free : (e d : ℕ × Candidate) (ys xs : Labels) → (e.0 == d.0) ≡ false → (e.1.is_root && not d.1.is_root) ≡ false → beats (NodeAs e.0 e.1.is_root ys) (NodeAs d.0 d.1.is_root xs) ≡ false
other-free e d ys xs h k = rw (h, k) refl

no-root : (b c : Bool) (s : Bool) → (not b && s) ≡ false → (s ≡ false → c ≡ false) → (c && not b) ≡ false
no-root true c s h f = and-false-right c
no-root false c s h f = rw (f h) refl

pub and-left-false : (a b : Bool) → (a && b) ≡ false → b ≡ true → a ≡ false
and-left-false true b h k = let q : true ≡ false = sym k ∙ h in cc
and-left-false false b h k = refl

abbrev node : ℕ × Candidate → Labels → Label
node d xs = NodeAs d.0 d.1.is_root xs

head-free-at : (f : List Expected → List Labels) (t : Expected) (cs : List Candidate) (d : ℕ × Candidate) (xs : Labels) → In d (numbered 0 cs) →
    beaten_all (f d.1.operands) xs ≡ false → (not d.1.is_root && some_root f t (numbered 0 cs)) ≡ false →
    (e : ℕ × Candidate) (ys : Labels) → In e (numbered 0 cs) → In ys (f e.1.operands) → In (node e ys) (heads f t e) → (b : Bool) → (e.0 == d.0) ≡ b →
    beats (node e ys) (node d xs) ≡ false
head-free-at f t cs d xs hd none s e ys he hy ho true k =
    let p : e ≡ d = one-number 0 cs e d he hd (eq-is e.0 d.0 k) in
    let P : ℕ × Candidate → Type 0 = λ v. In ys (f v.1.operands) in
    let Q : ℕ × Candidate → Type 0 = λ v. beats (node v ys) (node d xs) ≡ false in
    subst Q (sym p) (same-heads d ys xs ∙ none-any (λ o. beats_all o xs) (f d.1.operands) ys none (subst P p hy))
head-free-at f t cs d xs hd none s e ys he hy ho false k =
    other-free e d ys xs k (no-root d.1.is_root e.1.is_root (some_root f t (numbered 0 cs)) s
    (λ g. and-left-false e.1.is_root (is_some_of (heads f t e)) (none-any (λ v. v.1.is_root && is_some_of (heads f t v)) (numbered 0 cs) e g he)
    (is_some-in (node e ys) (heads f t e) ho)))

head-free : (f : List Expected → List Labels) (t : Expected) (cs : List Candidate) (d : ℕ × Candidate) (xs : Labels) → In d (numbered 0 cs) →
    beaten_all (f d.1.operands) xs ≡ false → (not d.1.is_root && some_root f t (numbered 0 cs)) ≡ false →
    (o : Label) → In o (flat_map (heads f t) (numbered 0 cs)) → beats o (node d xs) ≡ false
head-free f t cs d xs hd none s o h =
    let r = flat-in (heads f t) (numbered 0 cs) o h in
    let i = in-if (suits r.0.1 t) (map (node r.0) (f r.0.1.operands)) o r.2 in
    let m = map-in (node r.0) (f r.0.1.operands) o i.1 in
    let P : Label → Type 0 = λ v. In v (heads f t r.0) in
    let Q : Label → Type 0 = λ v. beats v (node d xs) ≡ false in
    subst Q (sym m.2) (head-free-at f t cs d xs hd none s r.0 m.0 r.1 m.1 (subst P m.2 r.2) (r.0.0 == d.0) refl)

head-beaten-at : (f : List Expected → List Labels) (t : Expected) (cs : List Candidate) (d : ℕ × Candidate) (xs : Labels) (a b : Bool) →
    In d (numbered 0 cs) → suits d.1 t ≡ true → beaten_all (f d.1.operands) xs ≡ a → (not d.1.is_root && some_root f t (numbered 0 cs)) ≡ b →
    beaten (flat_map (heads f t) (numbered 0 cs)) (node d xs) ≡ (b || a)
head-beaten-at f t cs d xs a true hd hs ea eb =
    let k = and-true (not d.1.is_root) (some_root f t (numbered 0 cs)) eb in
    let r = any-some (λ e. e.1.is_root && is_some_of (heads f t e)) (numbered 0 cs) k.1 in
    let q = and-true r.0.1.is_root (is_some_of (heads f t r.0)) r.2 in
    let o = some-in (heads f t r.0) q.1 in
    let i = in-if (suits r.0.1 t) (map (node r.0) (f r.0.1.operands)) o.0 o.1 in
    let m = map-in (node r.0) (f r.0.1.operands) o.0 i.1 in
    let g = not-true d.1.is_root k.0 in
    let other = apart-at 0 cs r.0 d r.1 hd (r.0.0 == d.0) refl (λ p. let w : true ≡ false = sym q.0 ∙ (p ∙ g) in cc) in
    let Q : Label → Type 0 = λ v. beats v (node d xs) ≡ true in
    any-in (λ v. beats v (node d xs)) o.0 (flat_map (heads f t) (numbered 0 cs)) (in-flat (heads f t) r.0 (numbered 0 cs) o.0 r.1 o.1)
    (subst Q (sym m.2) (root-beats r.0 d m.0 xs other q.0 g))
head-beaten-at f t cs d xs true false hd hs ea eb =
    let r = any-some (λ o. beats_all o xs) (f d.1.operands) ea in
    any-in (λ v. beats v (node d xs)) (node d r.0) (flat_map (heads f t) (numbered 0 cs))
    (in-flat (heads f t) d (numbered 0 cs) (node d r.0) hd
    (if-in (suits d.1 t) (map (node d) (f d.1.operands)) (node d r.0) hs (in-map (node d) r.0 (f d.1.operands) r.1)))
    (same-heads d r.0 xs ∙ r.2)
head-beaten-at f t cs d xs false false hd hs ea eb =
    any-none (λ v. beats v (node d xs)) (flat_map (heads f t) (numbered 0 cs)) (head-free f t cs d xs hd ea eb)

if-same : {A : Type 0} (b : Bool) (xs : List A) → xs ≡ [] → (if b then xs else []) ≡ []
if-same true xs e = e
if-same false xs e = refl

de-morgan : (b s : Bool) → not (not b && s) ≡ (b || not s)
de-morgan true s = refl
de-morgan false s = refl

head-row-at : (f g : List Expected → List Labels) (t : Expected) (cs : List Candidate) (d : ℕ × Candidate) (b : Bool) → suits d.1 t ≡ b → In d (numbered 0 cs) →
    acceptable_all (f d.1.operands) ≡ g d.1.operands → some_root f t (numbered 0 cs) ≡ some_root g t (numbered 0 cs) →
    filter (λ m. not (beaten (flat_map (heads f t) (numbered 0 cs)) m)) (heads f t d) ≡ chosen g t (numbered 0 cs) d
head-row-at f g t cs d true hs hd e s =
    let ds = numbered 0 cs in
    let all = flat_map (heads f t) ds in
    let shape : heads f t d ≡ map (node d) (f d.1.operands) = rw hs refl in
    let shape' : heads g t d ≡ map (node d) (g d.1.operands) = rw hs refl in
    ap (filter (λ m. not (beaten all m))) shape
    ∙ (filter-map (node d) (λ m. not (beaten all m)) (f d.1.operands)
    ∙ (ap (map (node d))
    (filter-cong (λ ys. not (beaten all (node d ys))) (λ ys. not ((not d.1.is_root && some_root f t ds) || beaten_all (f d.1.operands) ys)) (f d.1.operands)
    (λ ys k. ap not (head-beaten-at f t cs d ys (beaten_all (f d.1.operands) ys) (not d.1.is_root && some_root f t ds) hd hs refl refl))
    ∙ rest-if (not d.1.is_root && some_root f t ds) (beaten_all (f d.1.operands)) (f d.1.operands))
    ∙ (map-if (not (not d.1.is_root && some_root f t ds)) (node d) (acceptable_all (f d.1.operands))
    ∙ (ap (λ v. if v then map (node d) (acceptable_all (f d.1.operands)) else []) (de-morgan d.1.is_root (some_root f t ds) ∙ ap (λ v. d.1.is_root || not v) s)
    ∙ ap (λ v. if d.1.is_root || not (some_root g t ds) then v else []) (ap (map (node d)) e ∙ sym shape')))))
head-row-at f g t cs d false hs hd e s =
    let ds = numbered 0 cs in
    let all = flat_map (heads f t) ds in
    let shape : heads f t d ≡ [] = rw hs refl in
    let shape' : heads g t d ≡ [] = rw hs refl in
    ap (filter (λ m. not (beaten all m))) shape
    ∙ sym (if-same (d.1.is_root || not (some_root g t ds)) (heads g t d) shape')

is_some-if : {A B : Type 0} (b : Bool) (xs : List A) (ys : List B) → is_some_of xs ≡ is_some_of ys →
    is_some_of (if b then xs else []) ≡ is_some_of (if b then ys else [])
is_some-if true xs ys e = e
is_some-if false xs ys e = refl

some-heads : (f g : List Expected → List Labels) (t : Expected) → ((p : List Expected) → is_some_of (f p) ≡ is_some_of (g p)) → (d : ℕ × Candidate) →
    is_some_of (heads f t d) ≡ is_some_of (heads g t d)
some-heads f g t h d =
    is_some-if (suits d.1 t) (map (node d) (f d.1.operands)) (map (node d) (g d.1.operands))
    (is_some-map (node d) (f d.1.operands) ∙ (h d.1.operands ∙ sym (is_some-map (node d) (g d.1.operands))))

some-roots : (f g : List Expected → List Labels) (t : Expected) → ((p : List Expected) → is_some_of (f p) ≡ is_some_of (g p)) → (ds : List (ℕ × Candidate)) →
    some_root f t ds ≡ some_root g t ds
some-roots f g t h ds =
    any-cong (λ e. e.1.is_root && is_some_of (heads f t e)) (λ e. e.1.is_root && is_some_of (heads g t e)) ds
    (λ e. ap (λ v. e.1.is_root && v) (some-heads f g t h e))

all-kept : {A : Type 0} (b s : Bool) (xs : List A) → s ≡ false → (if b || not s then xs else []) ≡ xs
all-kept true s xs e = refl
all-kept false s xs e = rw e refl

is_some-pairs : (xs : List Label) (ys : List Labels) → is_some_of (pairs xs ys) ≡ (is_some_of xs && is_some_of ys)
is_some-pairs [] ys = refl
is_some-pairs (x ∷ xs) [] = is_some-pairs xs [] ∙ and-false-right (is_some_of xs)
is_some-pairs (x ∷ xs) (y ∷ ys) = refl

kept-if : {A : Type 0} (b s : Bool) (xs : List A) → b ≡ true → is_some_of xs ≡ true → is_some_of (if b || not s then xs else []) ≡ true
kept-if true s xs e k = k
kept-if false s xs e k = cc

-- the declarations that are left give a labelling if any gives one
some-chosen-at : (g : List Expected → List Labels) (t : Expected) (ds : List (ℕ × Candidate)) (b : Bool) → some_root g t ds ≡ b →
    is_some_of (flat_map (heads g t) ds) ≡ is_some_of (flat_map (chosen g t ds) ds)
some-chosen-at g t ds true e =
    let r = any-some (λ v. v.1.is_root && is_some_of (heads g t v)) ds e in
    let q = and-true r.0.1.is_root (is_some_of (heads g t r.0)) r.2 in
    let kept : is_some_of (chosen g t ds r.0) ≡ true = kept-if r.0.1.is_root (some_root g t ds) (heads g t r.0) q.0 q.1 in
    (is_some-flat (heads g t) ds ∙ any-in (λ d. is_some_of (heads g t d)) r.0 ds r.1 q.1)
    ∙ sym (is_some-flat (chosen g t ds) ds ∙ any-in (λ d. is_some_of (chosen g t ds d)) r.0 ds r.1 kept)
some-chosen-at g t ds false e =
    ap is_some_of (flat-cong (heads g t) (chosen g t ds) ds (λ d h. sym (all-kept d.1.is_root (some_root g t ds) (heads g t d) e)))

-- The two laws, by induction on the expression
mutual
  some-preferred : (e : Tree) (t : Expected) → is_some_of (labellings e t) ≡ is_some_of (preferred e t)
  some-preferred (Node cs args) t =
      let ds = numbered 0 cs in
      let f = fillings args in
      let g = preferred_all args in
      (is_some-flat (heads f t) ds
      ∙ (any-cong (λ d. is_some_of (heads f t d)) (λ d. is_some_of (heads g t d)) ds
      (some-heads f g t (some-preferred-all args))
      ∙ sym (is_some-flat (heads g t) ds)))
      ∙ some-chosen-at g t ds (some_root g t ds) refl

  some-preferred-all : (args : Trees) (p : List Expected) → is_some_of (fillings args p) ≡ is_some_of (preferred_all args p)
  some-preferred-all NoTree [] = refl
  some-preferred-all NoTree (t ∷ ts) = refl
  some-preferred-all (MoreTrees a more) [] = refl
  some-preferred-all (MoreTrees a more) (t ∷ ts) =
      is_some-pairs (labellings a t) (fillings more ts)
      ∙ (ap (λ v. v && is_some_of (fillings more ts)) (some-preferred a t)
      ∙ (ap (λ v. is_some_of (preferred a t) && v) (some-preferred-all more ts)
      ∙ sym (is_some-pairs (preferred a t) (preferred_all more ts))))

mutual
  pub acceptable_is_preferred : (e : Tree) (t : Expected) → acceptable (labellings e t) ≡ preferred e t
  acceptable_is_preferred (Node cs args) t =
      let ds = numbered 0 cs in
      let f = fillings args in
      let g = preferred_all args in
      filter-flat (heads f t) (λ m. not (beaten (flat_map (heads f t) ds) m)) ds
      ∙ flat-cong (λ d. filter (λ m. not (beaten (flat_map (heads f t) ds) m)) (heads f t d)) (chosen g t ds) ds
      (λ d h. head-row-at f g t cs d (suits d.1 t) refl h (acceptable_all_is_preferred args d.1.operands)
      (some-roots f g t (some-preferred-all args) ds))

  acceptable_all_is_preferred : (args : Trees) (p : List Expected) → acceptable_all (fillings args p) ≡ preferred_all args p
  acceptable_all_is_preferred NoTree [] = refl
  acceptable_all_is_preferred NoTree (t ∷ ts) = refl
  acceptable_all_is_preferred (MoreTrees a more) [] = refl
  acceptable_all_is_preferred (MoreTrees a more) (t ∷ ts) =
      acceptable-pairs (labellings a t) (fillings more ts)
      ∙ (ap (λ v. pairs v (acceptable_all (fillings more ts))) (acceptable_is_preferred a t)
      ∙ ap (λ v. pairs (preferred a t) v) (acceptable_all_is_preferred more ts))
