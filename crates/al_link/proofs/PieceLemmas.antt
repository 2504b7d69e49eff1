-- A unit's code depends only on the places and the unit, wherever it is.
use Rattle.std.proofs.Common.{◌≡◌, ℕ, zero, suc, ◌+◌, ◌-◌, ◌%◌, ◌^◌, ◌<◌, ◌≤◌, Bool, true, false, cond, leb, List, [], ◌∷◌, ◌++◌, length, take, drop, set, get_or, refl, sym, ap, ◌∙◌, append_assoc, append-nil, arith, length-append, length-drop}
use Rattle.std.specs.List.{All, flat_map}
use Rattle.std.proofs.Math.Seq.{take-append-add, drop-append-add}
use Rattle.std.proofs.lemmas.Bool.{leb-true}
use Rattle.std.proofs.lemmas.Bool.Decides.{nat_tests}
use Rattle.std.proofs.lemmas.List.{take_at, drop_at, length-take-le, take-append-drop, drop-drop}
use Rattle.std.proofs.lemmas.List.Elements.{All-head, All-tail}
use Rattle.std.proofs.lemmas.List.Sums.{sum_by-cons}
use borrow.Rule.Slice.PartMut.{put_mid}
use Rattle.al_instr.specs.Codes.{word_bytes}
use Rattle.al_code_object.specs.declared.object.Relocation.{Relocation}
use Rattle.al_link_image.specs.Parts.{IsCode}
use Rattle.al_link.specs.Kept.{IsKeeping}
use Rattle.al_link.specs.Linking.{number_at, patched, with_word}
use Rattle.al_link.specs.Relinking.{code_size, linked_units, piece, with_bytes, with_unit}
use Rattle.al_link.specs.Symbols.{Places, place_in}
use Rattle.al_link.specs.Units.{UnitObject}
use Rattle.al_link.proofs.CodeLemmas.{linked_is_code}

-- ---- a number that is written

four : (n : ℕ) → length (word_bytes n) ≡ 4
unfolding word_bytes
four n = refl

joined : (t : Bool) (a xs ys : List ℕ) → cond t (a ++ xs) (a ++ ys) ≡ a ++ cond t xs ys
joined true a xs ys = refl
joined false a xs ys = refl

-- .. after other bytes
word_after : (a b : List ℕ) (place n : ℕ) → with_word (a ++ b) (length a + place) n ≡ a ++ with_word b place n
unfolding with_word
word_after a b place n =
    let test : leb ((length a + place) + 4) (length (a ++ b)) ≡ leb (place + 4) (length b) = grind (arith, nat_tests, length-append a b) in
    let front : take (length a + place) (a ++ b) ≡ a ++ take place b = take-append-add a b place in
    let sum : (length a + place) + 4 ≡ length a + (place + 4) = omega arith in
    let back : drop ((length a + place) + 4) (a ++ b) ≡ drop (place + 4) b = ap (λ (m : ℕ). drop m (a ++ b)) sum ∙ drop-append-add a b (place + 4) in
    let other : List ℕ = word_bytes n ++ drop (place + 4) b in
    ap (λ (t : Bool). cond t (take (length a + place) (a ++ b) ++ (word_bytes n ++ drop ((length a + place) + 4) (a ++ b))) (a ++ b)) test
    ∙ ap (λ (xs : List ℕ). cond (leb (place + 4) (length b)) (xs ++ (word_bytes n ++ drop ((length a + place) + 4) (a ++ b))) (a ++ b)) front
    ∙ ap (λ (xs : List ℕ). cond (leb (place + 4) (length b)) ((a ++ take place b) ++ (word_bytes n ++ xs)) (a ++ b)) back
    ∙ ap (λ (xs : List ℕ). cond (leb (place + 4) (length b)) xs (a ++ b)) (append_assoc a (take place b) other)
    ∙ joined (leb (place + 4) (length b)) a (take place b ++ other) b

chosen : (t : Bool) (xs ys : List ℕ) → (t ≡ true → length xs ≡ length ys) → length (cond t xs ys) ≡ length ys
chosen true xs ys h = h refl
chosen false xs ys h = refl

-- .. leaves as many bytes
word_same : (code : List ℕ) (place n : ℕ) → length (with_word code place n) ≡ length code
unfolding with_word
word_same code place n =
    chosen (leb (place + 4) (length code)) (take place code ++ (word_bytes n ++ drop (place + 4) code)) code
    (λ e.
    let le : place + 4 ≤ length code = leb-true (place + 4) (length code) e in
    let a = length-append (take place code) (word_bytes n ++ drop (place + 4) code) in
    let b = length-append (word_bytes n) (drop (place + 4) code) in
    let c = length-take-le place code (omega arith) in
    let d = length-drop (place + 4) code in
    omega (arith, a, b, c, d, four n))

-- ---- a unit's code

patched_after : (places : Places) (from a : List ℕ) (us : List Relocation) (b : List ℕ) → patched places from (length a) (a ++ b) us ≡ a ++ patched places from 0 b us
patched_after places from a [] b = refl
patched_after places from a (u ∷ us) b =
    let n : ℕ = (number_at from u.place + place_in places u.symbol) % 2 ^ 32 in
    ap (λ (xs : List ℕ). patched places from (length a) xs us) (word_after a b u.place n)
    ∙ patched_after places from a us (with_word b u.place n)
    ∙ ap (λ (m : ℕ). a ++ patched places from 0 (with_word b m n) us) (let zero_more : u.place ≡ 0 + u.place = omega arith in zero_more)

patched_same : (places : Places) (from : List ℕ) (base : ℕ) (us : List Relocation) (b : List ℕ) → length (patched places from base b us) ≡ length b
patched_same places from base [] b = refl
patched_same places from base (u ∷ us) b =
    let n : ℕ = (number_at from u.place + place_in places u.symbol) % 2 ^ 32 in
    patched_same places from base us (with_word b (base + u.place) n) ∙ word_same b (base + u.place) n

pub piece_length : (places : Places) (u : UnitObject) → length (piece places u) ≡ length u.object.code
piece_length places u = patched_same places u.object.code 0 u.object.uses u.object.code

unit_piece : (places : Places) (code : List ℕ) (u : UnitObject) → with_unit places code u ≡ code ++ piece places u
unit_piece places code u = patched_after places u.object.code code u.object.uses u.object.code

pieces : (places : Places) (start : List ℕ) (us : List UnitObject) → linked_units places start us ≡ start ++ flat_map (piece places) us
pieces places start [] = sym (append-nil start)
pieces places start (u ∷ us) =
    pieces places (with_unit places start u) us
    ∙ ap (λ (xs : List ℕ). xs ++ flat_map (piece places) us) (unit_piece places start u)
    ∙ append_assoc start (piece places u) (flat_map (piece places) us)

-- ---- bytes that are written over others

-- bytes that are between others
over_middle : (a b c ys : List ℕ) (place : ℕ) → length a ≡ place → length ys ≡ length b → with_bytes (a ++ (b ++ c)) place ys ≡ a ++ (ys ++ c)
over_middle a b c ys place at same =
    let front : take place (a ++ (b ++ c)) ≡ a = take_at a (b ++ c) place at in
    let n : length (a ++ b) ≡ place + length ys = omega (arith, length-append a b) in
    let back : drop (place + length ys) (a ++ (b ++ c)) ≡ c = ap (λ (xs : List ℕ). drop (place + length ys) xs) (sym (append_assoc a b c)) ∙ drop_at (a ++ b) c (place + length ys) n in
    ap (λ (xs : List ℕ). xs ++ (ys ++ drop (place + length ys) (a ++ (b ++ c)))) front ∙ ap (λ (xs : List ℕ). a ++ (ys ++ xs)) back

-- bytes in a list that is between others
pub over_within : (front code rest ys : List ℕ) (at place : ℕ) → length front ≡ at → place + length ys ≤ length code → with_bytes (front ++ (code ++ rest)) (at + place) ys ≡ front ++ (with_bytes code place ys ++ rest)
over_within front code rest ys at place is fits =
    let a : List ℕ = take place code in
    let b : List ℕ = take (length ys) (drop place code) in
    let c : List ℕ = drop (place + length ys) code in
    let n : length a ≡ place = length-take-le place code (omega arith) in
    let m : length b ≡ length ys = length-take-le (length ys) (drop place code) (let d = length-drop place code in omega (arith, d)) in
    let halves : code ≡ a ++ (b ++ c) =
    sym (take-append-drop place code)
    ∙ ap (λ (xs : List ℕ). a ++ xs) (sym (take-append-drop (length ys) (drop place code)) ∙ ap (λ (xs : List ℕ). b ++ xs) (drop-drop (length ys) place code)) in
    let whole : front ++ (code ++ rest) ≡ (front ++ a) ++ (b ++ (c ++ rest)) =
    ap (λ (xs : List ℕ). front ++ (xs ++ rest)) halves
    ∙ ap (λ (xs : List ℕ). front ++ xs) (append_assoc a (b ++ c) rest ∙ ap (λ (xs : List ℕ). a ++ xs) (append_assoc b c rest))
    ∙ sym (append_assoc front a (b ++ (c ++ rest))) in
    let size : length (front ++ a) ≡ at + place = omega (arith, length-append front a) in
    ap (λ (xs : List ℕ). with_bytes xs (at + place) ys) whole
    ∙ over_middle (front ++ a) b (c ++ rest) ys (at + place) size (sym m)
    ∙ append_assoc front a (ys ++ (c ++ rest))
    ∙ ap (λ (xs : List ℕ). front ++ xs) (ap (λ (xs : List ℕ). a ++ xs) (sym (append_assoc ys c rest)) ∙ sym (append_assoc a (ys ++ c) rest))

-- a part of a list that is written over
pub part_over : (code ys : List ℕ) (place stop : ℕ) → stop ≡ place + length ys → put_mid place (stop - place) code ys ≡ with_bytes code place ys
part_over code ys place stop e =
    let n : stop - place ≡ length ys = omega arith in
    ap (λ (m : ℕ). take place code ++ (ys ++ drop m (drop place code))) n ∙ ap (λ (xs : List ℕ). take place code ++ (ys ++ xs)) (drop-drop (length ys) place code)

-- ---- the code of units of which one has another object

pub code_room : (us : List UnitObject) (at : ℕ) (d : UnitObject) → at < length us → code_size (take at us) + length (get_or us at d).object.code ≤ code_size us
code_room [] at d lt = absurd (omega arith)
code_room (u ∷ us) zero d lt = omega (arith, sum_by-cons (λ x. length x.object.code) u us)
code_room (u ∷ us) (suc n) d lt =
    omega (arith, code_room us n d (omega arith), sum_by-cons (λ x. length x.object.code) u us, sum_by-cons (λ x. length x.object.code) u (take n us))

pub code_exchanged : (places : Places) (start : List ℕ) (us : List UnitObject) (at : ℕ) (u : UnitObject) → at < length us → length u.object.code ≡ length (get_or us at u).object.code
    → linked_units places start (set us at u) ≡ with_bytes (linked_units places start us) (length start + code_size (take at us)) (piece places u)
code_exchanged places start [] at u lt same = absurd (omega arith)
code_exchanged places start (k ∷ us) zero u lt same =
    let rest : List ℕ = flat_map (piece places) us in
    let n : length (piece places u) ≡ length (piece places k) = piece_length places u ∙ same ∙ sym (piece_length places k) in
    pieces places start (u ∷ us)
    ∙ sym (over_middle start (piece places k) rest (piece places u) (length start + 0) (omega arith) n)
    ∙ ap (λ (xs : List ℕ). with_bytes xs (length start + 0) (piece places u)) (sym (pieces places start (k ∷ us)))
code_exchanged places start (k ∷ us) (suc m) u lt same =
    let next : List ℕ = with_unit places start k in
    let n : length next ≡ length start + length k.object.code = ap (λ (xs : List ℕ). length xs) (unit_piece places start k) ∙ length-append start (piece places k) ∙ ap (λ (i : ℕ). length start + i) (piece_length places k) in
    let sum : length next + code_size (take m us) ≡ length start + code_size (k ∷ take m us) = omega (arith, n, sum_by-cons (λ x. length x.object.code) k (take m us)) in
    code_exchanged places next us m u (omega arith) same ∙ ap (λ (i : ℕ). with_bytes (linked_units places next us) i (piece places u)) sum

-- code it stays
pub linked_code : (places : Places) (start : List ℕ) (us : List UnitObject) → IsCode start → All IsKeeping us → IsCode (linked_units places start us)
linked_code places start [] is all = is
linked_code places start (u ∷ us) is all =
    linked_code places (with_unit places start u) us (linked_is_code places start u.object (with_unit places start u) is (All-head IsKeeping u us all) refl) (All-tail IsKeeping u us all)
