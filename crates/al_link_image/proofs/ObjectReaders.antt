-- Readers of protected objects and of units' objects.
use Rattle.std.proofs.Common.{◌≡◌, ℕ, suc, ◌+◌, ◌<◌, ◌≤◌, ◌==◌, Bool, true, false, cond, leb, ltb, ◌&&◌, List, [], ◌∷◌, ◌++◌, length, take, drop, Option, Some, None, refl, sym, ap, subst, ◌∙◌, append_assoc, arith, inl, inr}
use Rattle.std.specs.Prelude.{IsTrue}
use Rattle.std.specs.List.{list_all}
use Rattle.std.proofs.lemmas.Bool.{leb-true, le-leb, ltb-false, le-ltb}
use Rattle.std.proofs.lemmas.Bool.Decides.{nat_tests}
use Rattle.std.proofs.lemmas.List.{take_at, drop_at, take-append-drop, length-append, length-take}
use Rattle.al_base.specs.declared.unit_key.UnitKind.{UnitKind}
use Rattle.al_base.specs.declared.unit_key.UnitKind.TheVariants.{Decl, Body, Sub}
use Rattle.al_instr.specs.Codes.{word_bytes}
use Rattle.al_instr.specs.Reading.{◌>>=◌, word_at}
use Rattle.al_instr.proofs.Fields.{IsBytes, IsBytes-drop, Takes, Takes-then, bind_some, chosen, word_again, word_takes}
use Rattle.al_link_image.specs.declared.parts.Region.{Region}
use Rattle.al_link_image.specs.declared.parts.ImageObject.{ImageObject}
use Rattle.al_link_image.specs.Images.{IsRegion, IsUnitName, IsObject, is_name_byte, kind_number, region_bytes, object_bytes}
use Rattle.al_link_image.specs.Reading.{checked, region_at, kind_of_number, kind_at, name_at, object_at}
use Rattle.al_link_image.proofs.Readers.{Reads, checked_some}

-- ---- protected objects

both_true : (a b : Bool) → (a && b) ≡ true → (a ≡ true) × (b ≡ true)
both_true true true e = (refl, refl)
both_true true false e = absurd cc
both_true false b e = absurd cc

region_takes : (count : ℕ) (bytes : List ℕ) (r : Region) (rest : List ℕ) → IsBytes bytes → region_at count bytes ≡ Some (r, rest) → Takes bytes (region_bytes r) rest × IsRegion count r
unfolding region_at
region_takes count bytes r rest fits e =
    let last : ℕ × List ℕ → ℕ × List ℕ → ℕ × List ℕ → Option (Region × List ℕ) = λ a w c. checked (leb (a.0 + w.0) count && leb c.0 30) (record { address = a.0; words = w.0; ceiling = c.0 }, c.1) in
    let a = bind_some (word_at bytes) (λ a. word_at a.1 >>= λ w. word_at w.1 >>= λ c. last a w c) (r, rest) e in
    let w = bind_some (word_at a.0.1) (λ w. word_at w.1 >>= λ c. last a.0 w c) (r, rest) a.2 in
    let c = bind_some (word_at w.0.1) (λ c. last a.0 w.0 c) (r, rest) w.2 in
    let g = checked_some (leb (a.0.0 + w.0.0) count && leb c.0.0 30) (record { address = a.0.0; words = w.0.0; ceiling = c.0.0 }, c.0.1) (r, rest) c.2 in
    let tests = both_true (leb (a.0.0 + w.0.0) count) (leb c.0.0 30) g.0 in
    let ta = (word_takes bytes a.0.0 a.0.1 fits a.1).0 in
    let tw = (word_takes a.0.1 w.0.0 w.0.1 ta.rest_fits w.1).0 in
    let tc = (word_takes w.0.1 c.0.0 c.0.1 tw.rest_fits c.1).0 in
    let two = Takes-then bytes (word_bytes a.0.0) a.0.1 (word_bytes w.0.0) w.0.1 ta tw in
    let three = Takes-then bytes (word_bytes a.0.0 ++ word_bytes w.0.0) w.0.1 (word_bytes c.0.0) c.0.1 two tc in
    subst (λ (p : Region × List ℕ). Takes bytes (region_bytes p.0) p.1 × IsRegion count p.0) g.1 (three, (leb-true _ _ tests.0, leb-true _ _ tests.1))

three_words : (a b c d : List ℕ) → ((a ++ b) ++ c) ++ d ≡ a ++ (b ++ (c ++ d))
three_words a b c d = simp append_assoc

region_again : (count : ℕ) (r : Region) (rest : List ℕ) → count ≤ 1048576 → IsRegion count r → region_at count (region_bytes r ++ rest) ≡ Some (r, rest)
unfolding region_at
region_again count r rest few h =
    let a : r.address < 0x1_0000_0000 = omega (arith, h.0) in
    let w : r.words < 0x1_0000_0000 = omega (arith, h.0) in
    let c : r.ceiling < 0x1_0000_0000 = omega (arith, h.1) in
    rw (three_words (word_bytes r.address) (word_bytes r.words) (word_bytes r.ceiling) rest, word_again r.address (word_bytes r.words ++ (word_bytes r.ceiling ++ rest)) a, word_again r.words (word_bytes r.ceiling ++ rest) w, word_again r.ceiling rest c, le-leb (r.address + r.words) count h.0, le-leb r.ceiling 30 h.1) refl

pub region_read : (count : ℕ) → count ≤ 1048576 → Reads (region_at count) region_bytes (IsRegion count)
region_read count few = record { takes = region_takes count; again = λ r rest h. region_again count r rest few h }

-- ---- units' objects

same_number : (m n : ℕ) → (m == n) ≡ true → m ≡ n
same_number m n e = grind (arith, nat_tests)

kind_is : (n : ℕ) (kind : UnitKind) → kind_of_number n ≡ Some kind → n ≡ kind_number kind
kind_is n kind e =
    elim (chosen (n == 0) (Some Decl) _ (Some kind) e) [
      | inl h ↦ let same : Decl ≡ kind = cc in same_number n 0 h.0 ∙ ap kind_number same
      | inr g ↦
          elim (chosen (n == 1) (Some Body) _ (Some kind) g.1) [
            | inl h ↦ let same : Body ≡ kind = cc in same_number n 1 h.0 ∙ ap kind_number same
            | inr k ↦
                elim (chosen (n == 2) (Some Sub) _ (Some kind) k.1) [
                  | inl h ↦ let same : Sub ≡ kind = cc in same_number n 2 h.0 ∙ ap kind_number same
                  | inr h ↦ absurd (let bad : None ≡ Some kind = h.1 in cc)
                ]
          ]
    ]

kind_takes : (bytes : List ℕ) (kind : UnitKind) (rest : List ℕ) → IsBytes bytes → kind_at bytes ≡ Some (kind, rest) → Takes bytes (kind_number kind ∷ []) rest
unfolding kind_at
kind_takes [] kind rest fits e = absurd cc
kind_takes (n ∷ bytes) kind rest fits e =
    let k = bind_some (kind_of_number n) (λ k. Some (k, bytes)) (kind, rest) e in
    let same : (k.0, bytes) ≡ (kind, rest) = cc in
    let start : Takes (n ∷ bytes) (kind_number k.0 ∷ []) bytes = record { parts = ap (λ m. m ∷ bytes) (kind_is n k.0 k.1); rest_fits = λ i. fits (suc i) } in
    subst (λ (p : UnitKind × List ℕ). Takes (n ∷ bytes) (kind_number p.0 ∷ []) p.1) same start

kind_again : (kind : UnitKind) → kind_of_number (kind_number kind) ≡ Some kind
kind_again Decl = refl
kind_again Body = refl
kind_again Sub = refl

name_takes : (bytes name rest : List ℕ) → IsBytes bytes → name_at bytes ≡ Some (name, rest) → Takes bytes (length name ∷ name) rest × IsUnitName name
unfolding name_at
name_takes [] name rest fits e = absurd cc
name_takes (n ∷ bytes) name rest fits e =
    let byte : n < 256 = fits 0 in
    let behind : IsBytes bytes = λ i. fits (suc i) in
    let g = guard_none (n == 0) (if_long n bytes) (name, rest) e in
    let h = guard_none (ltb (length bytes) n) (if_named n bytes) (name, rest) g.1 in
    let k = checked_some (list_all is_name_byte (take n bytes)) (take n bytes, drop n bytes) (name, rest) h.1 in
    let some : 0 < n = not_zero n g.0 in
    let long : n ≤ length bytes = ltb-false _ _ h.0 in
    let len : length (take n bytes) ≡ n = omega (arith, length-take n bytes) in
    let parts : n ∷ bytes ≡ (length (take n bytes) ∷ take n bytes) ++ drop n bytes = ap (λ (xs : List ℕ). n ∷ xs) (sym (take-append-drop n bytes)) ∙ ap (λ m. m ∷ (take n bytes ++ drop n bytes)) (sym len) in
    let named : IsTrue (list_all is_name_byte (take n bytes)) = k.0 in
    subst (λ (p : List ℕ × List ℕ). Takes (n ∷ bytes) (length p.0 ∷ p.0) p.1 × IsUnitName p.0) k.1 (record { parts = parts; rest_fits = IsBytes-drop n bytes behind }, (omega arith, omega arith, named))
  where
    if_named : ℕ → List ℕ → Option (List ℕ × List ℕ)
    if_named n bytes = checked (list_all is_name_byte (take n bytes)) (take n bytes, drop n bytes)

    if_long : ℕ → List ℕ → Option (List ℕ × List ℕ)
    if_long n bytes = cond (ltb (length bytes) n) None (if_named n bytes)

    guard_none : {A : Type 0} (b : Bool) (x : Option A) (y : A) → cond b None x ≡ Some y → (b ≡ false) × (x ≡ Some y)
    guard_none true x y e = absurd cc
    guard_none false x y e = (refl, e)

    not_zero : (n : ℕ) → (n == 0) ≡ false → 0 < n
    not_zero n e = grind (arith, nat_tests)

name_again : (name rest : List ℕ) → IsUnitName name → name_at ((length name ∷ name) ++ rest) ≡ Some (name, rest)
unfolding name_at
name_again name rest h =
    let some : (length name == 0) ≡ false = not_zero (length name) h.0 in
    let long : ltb (length (name ++ rest)) (length name) ≡ false = le-ltb _ _ (omega (arith, length-append name rest)) in
    rw (some, long, take_at name rest (length name) refl, drop_at name rest (length name) refl, h.2) refl
  where
    not_zero : (n : ℕ) → 0 < n → (n == 0) ≡ false
    not_zero n lt = grind (arith, nat_tests)

object_takes : (bytes : List ℕ) (o : ImageObject) (rest : List ℕ) → IsBytes bytes → object_at bytes ≡ Some (o, rest) → Takes bytes (object_bytes o) rest × IsObject o
unfolding object_at
object_takes bytes o rest fits e =
    let last : UnitKind × List ℕ → List ℕ × List ℕ → ℕ × List ℕ → Option (ImageObject × List ℕ) = λ k n p. Some (record { kind = k.0; name = n.0; place = p.0 }, p.1) in
    let k = bind_some (kind_at bytes) (λ k. name_at k.1 >>= λ n. word_at n.1 >>= λ p. last k n p) (o, rest) e in
    let n = bind_some (name_at k.0.1) (λ n. word_at n.1 >>= λ p. last k.0 n p) (o, rest) k.2 in
    let p = bind_some (word_at n.0.1) (λ p. last k.0 n.0 p) (o, rest) n.2 in
    let same : (record { kind = k.0.0; name = n.0.0; place = p.0.0 }, p.0.1) ≡ (o, rest) = cc in
    let tk = kind_takes bytes k.0.0 k.0.1 fits k.1 in
    let tn = name_takes k.0.1 n.0.0 n.0.1 tk.rest_fits n.1 in
    let tp = word_takes n.0.1 p.0.0 p.0.1 tn.0.rest_fits p.1 in
    let two = Takes-then bytes (kind_number k.0.0 ∷ []) k.0.1 (length n.0.0 ∷ n.0.0) n.0.1 tk tn.0 in
    let three = Takes-then bytes (kind_number k.0.0 ∷ length n.0.0 ∷ n.0.0) n.0.1 (word_bytes p.0.0) p.0.1 two tp.0 in
    subst (λ (x : ImageObject × List ℕ). Takes bytes (object_bytes x.0) x.1 × IsObject x.0) same (three, (tn.1, tp.1))

object_from : (o : ImageObject) (rest : List ℕ) (n : ℕ) → IsObject o → kind_of_number n ≡ Some o.kind → object_at (n ∷ ((length o.name ∷ o.name) ++ (word_bytes o.place ++ rest))) ≡ Some (o, rest)
unfolding object_at kind_at
object_from o rest n h e = rw (e, name_again o.name (word_bytes o.place ++ rest) h.0, word_again o.place rest h.1) refl

object_again : (o : ImageObject) (rest : List ℕ) → IsObject o → object_at (object_bytes o ++ rest) ≡ Some (o, rest)
object_again o rest h =
    ap object_at (append_assoc (kind_number o.kind ∷ length o.name ∷ o.name) (word_bytes o.place) rest)
    ∙ object_from o rest (kind_number o.kind) h (kind_again o.kind)

pub object_read : Reads object_at object_bytes IsObject
object_read = record { takes = object_takes; again = object_again }
