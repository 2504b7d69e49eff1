-- Pieces that are written one after the other.
use Rattle.std.proofs.Common.{◌≡◌, ℕ, ◌+◌, ◌<◌, ◌≤◌, true, false, leb, List, [], ◌∷◌, ◌++◌, length, take, get_or, Option, Some, None, refl, sym, ap, ◌∙◌, append_assoc, arith, length-append, append-nil, inl, inr}
use Rattle.std.specs.List.{flat_map}
use Rattle.std.proofs.lemmas.Grind.{flat_map-append}
use Rattle.std.proofs.lemmas.List.{take_more, take_all}
use Rattle.std.proofs.lemmas.Bool.Decides.{nat_tests}
use Rattle.std.proofs.lemmas.Bool.{cases_lt}
use Rattle.al_code.specs.Pieces.{Piece, piece_bytes, piece_size, bytes_of, size, noted_from, use_at, definition_at, leave_at, line_at}
use Rattle.al_code.specs.Written.{Buffer, empty, grown, with_piece, written}
use Rattle.al_code.specs.Laws.{WritesAll}

pub bytes_append : (p q : List Piece) → bytes_of (p ++ q) ≡ bytes_of p ++ bytes_of q
bytes_append p q = flat_map-append piece_bytes p q

pub size_append : (p q : List Piece) → size (p ++ q) ≡ size p + size q
size_append p q = ap length (bytes_append p q) ∙ length-append (bytes_of p) (bytes_of q)

pub size_cons : (x : Piece) (p : List Piece) → size (x ∷ p) ≡ piece_size x + size p
size_cons x p = length-append (piece_bytes x) (bytes_of p)

pub noted_append : {X : Type 0} (note : ℕ → Piece → List X) (from : ℕ) (p q : List Piece) → noted_from note from (p ++ q) ≡ noted_from note from p ++ noted_from note (from + size p) q
noted_append note from [] q = ap (λ (n : ℕ). noted_from note n q) (omega arith)
noted_append {X = X} note from (x ∷ p) q =
    let e : (from + piece_size x) + size p ≡ from + size (x ∷ p) = omega (arith, size_cons x p) in
    ap (λ (us : List X). note from x ++ us) (noted_append note (from + piece_size x) p q ∙ ap (λ (n : ℕ). noted_from note (from + piece_size x) p ++ noted_from note n q) e)
    ∙ sym (append_assoc (note from x) (noted_from note (from + piece_size x) p) (noted_from note (from + size (x ∷ p)) q))

-- what was noted before, and of what is after it
pub noted_more : {X : Type 0} (note : ℕ → Piece → List X) (before : List X) (from end : ℕ) (p q : List Piece) → end ≡ from + size p → (before ++ noted_from note from p) ++ noted_from note end q ≡ before ++ noted_from note from (p ++ q)
noted_more {X = X} note before from end p q at =
    append_assoc before (noted_from note from p) (noted_from note end q)
    ∙ ap (λ (us : List X). before ++ us) (ap (λ (n : ℕ). noted_from note from p ++ noted_from note n q) at ∙ sym (noted_append note from p q))

grown_append : (b : Buffer) (p q : List Piece) → grown (grown b p) q ≡ grown b (p ++ q)
grown_append b p q =
    let end : length (b.code ++ bytes_of p) ≡ length b.code + size p = length-append b.code (bytes_of p) in
    let code : (b.code ++ bytes_of p) ++ bytes_of q ≡ b.code ++ bytes_of (p ++ q) = append_assoc b.code (bytes_of p) (bytes_of q) ∙ ap (λ (xs : List ℕ). b.code ++ xs) (sym (bytes_append p q)) in
    let uses = noted_more use_at b.uses (length b.code) (length (b.code ++ bytes_of p)) p q end in
    let defines = noted_more definition_at b.defines (length b.code) (length (b.code ++ bytes_of p)) p q end in
    let lines = noted_more line_at b.lines (length b.code) (length (b.code ++ bytes_of p)) p q end in
    let leaves = noted_more leave_at b.leaving (length b.code) (length (b.code ++ bytes_of p)) p q end in
    cc

pub written_append : (w : Option Buffer) (p q : List Piece) → written (written w p) q ≡ written w (p ++ q)
unfolding written
written_append w [] q = refl
written_append w (x ∷ p) q = written_append (with_piece w x) p q

pub written_none : (p : List Piece) → written None p ≡ None
unfolding written with_piece
written_none [] = refl
written_none (x ∷ p) = written_none p

pub written_nothing : (w : Option Buffer) → written w [] ≡ w
unfolding written
written_nothing w = refl

pub written_one : (w : Option Buffer) (x : Piece) → written w (x ∷ []) ≡ with_piece w x
unfolding written
written_one w x = refl

pub grown_none : (b : Buffer) → grown b [] ≡ b
grown_none b = simp append-nil

-- one more piece
pub piece_within : (b : Buffer) (x : Piece) → length b.code + piece_size x ≤ 16777216 → with_piece (Some b) x ≡ Some (grown b (x ∷ []))
unfolding with_piece
piece_within b x h = let t : leb (length b.code + piece_size x) 16777216 ≡ true = grind (arith, nat_tests) in rw t refl

pub piece_beyond : (b : Buffer) (x : Piece) → 16777216 < length b.code + piece_size x → with_piece (Some b) x ≡ None
unfolding with_piece
piece_beyond b x h = let t : leb (length b.code + piece_size x) 16777216 ≡ false = grind (arith, nat_tests) in rw t refl

one_size : (x : Piece) → size (x ∷ []) ≡ piece_size x
one_size x = omega (arith, size_cons x [])

grown_size : (b : Buffer) (p : List Piece) → length (grown b p).code ≡ length b.code + size p
grown_size b p = length-append b.code (bytes_of p)

-- if all fits, the buffer has grown by the pieces
pub written_within : (b : Buffer) (p : List Piece) → length b.code + size p ≤ 16777216 → written (Some b) p ≡ Some (grown b p)
unfolding written
written_within b [] h = ap (λ (c : Buffer). Some c) (sym (grown_none b))
written_within b (x ∷ p) h =
    let s = size_cons x p in
    let g = grown_size b (x ∷ []) in
    let one = one_size x in
    ap (λ (w : Option Buffer). written w p) (piece_within b x (omega arith))
    ∙ written_within (grown b (x ∷ [])) p (omega arith)
    ∙ ap (λ (c : Buffer). Some c) (grown_append b (x ∷ []) p)

-- if not, none is left
pub written_beyond : (b : Buffer) (x : Piece) (p : List Piece) → 16777216 < length b.code + size (x ∷ p) → written (Some b) (x ∷ p) ≡ None
unfolding written
written_beyond b x [] h = let one = one_size x in piece_beyond b x (omega arith)
written_beyond b x (y ∷ p) h =
    let s = size_cons x (y ∷ p) in
    let g = grown_size b (x ∷ []) in
    let one = one_size x in
    elim (cases_lt 16777216 (length b.code + piece_size x)) [
      | inl lt ↦ ap (λ (w : Option Buffer). written w (y ∷ p)) (piece_beyond b x lt) ∙ written_none (y ∷ p)
      | inr le ↦ ap (λ (w : Option Buffer). written w (y ∷ p)) (piece_within b x le) ∙ written_beyond (grown b (x ∷ [])) y p (omega arith)
    ]

-- ---- loops over what has code

-- after one more turn
pub written_more : {A : Type 0} (f : A → List Piece) (w now next : Option Buffer) (xs : List A) (i : ℕ) (x : A) → now ≡ written w (flat_map f (take i xs)) → next ≡ written now (f x) → x ≡ get_or xs i x → i < length xs → next ≡ written w (flat_map f (take (i + 1) xs))
written_more {A = A} f w now next xs i x e step is less =
    step ∙ ap (λ (v : Option Buffer). written v (f x)) e ∙ written_append w (flat_map f (take i xs)) (f x)
    ∙ ap (λ (ps : List Piece). written w ps) (sym
    (ap (λ (ys : List A). flat_map f ys) (take_more xs i x less ∙ ap (λ (y : A). take i xs ++ y ∷ []) (sym is))
    ∙ flat_map-append f (take i xs) (x ∷ []) ∙ ap (λ (ps : List Piece). flat_map f (take i xs) ++ ps) (append-nil (f x))))

-- after all turns
pub written_all : {A : Type 0} (f : A → List Piece) (w now : Option Buffer) (xs : List A) (i : ℕ) → now ≡ written w (flat_map f (take i xs)) → length xs ≤ i → now ≡ written w (flat_map f xs)
written_all {A = A} f w now xs i e le = e ∙ ap (λ (ys : List A). written w (flat_map f ys)) (take_all i xs le)

beyond_empty : (p : List Piece) → 16777216 < size p → written (Some empty) p ≡ None
beyond_empty [] lt = absurd (omega arith)
beyond_empty (x ∷ p) lt = written_beyond empty x p (omega arith)

pub writes_all : WritesAll
writes_all p =
    elim (cases_lt 16777216 (size p)) [
      | inl lt ↦ let t : leb (size p) 16777216 ≡ false = grind (arith, nat_tests) in rw t (beyond_empty p lt)
      | inr le ↦ let t : leb (size p) 16777216 ≡ true = grind (arith, nat_tests) in rw t (written_within empty p (omega arith))
    ]
