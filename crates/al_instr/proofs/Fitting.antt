-- The operands of an instruction that is read have bytes.
use Rattle.std.proofs.Common.{◌≡◌, ℕ, zero, suc, ◌+◌, ◌<◌, ◌≤◌, ◌==◌, Bool, cond, ltb, List, [], ◌∷◌, ◌++◌, length, get_or, take, drop, Option, Some, None, refl, sym, subst, arith, inl, inr}
use Rattle.std.specs.Prelude.{ℤ, FitsSigned, ◌⊎◌, IfOk, Result, Ok, Err}
use Rattle.std.specs.Borrow.{Bor}
use Rattle.std.specs.Int.{w32, w64, from_be_bytes, cast_signed}
use Rattle.std.specs.List.{All}
use Rattle.std.proofs.lemmas.List.{length-append, length-take}
use Rattle.std.proofs.lemmas.List.Elements.{All-nil, All-push}
use Rattle.std.proofs.Math.Facts.{sfits_to_z}
use Rattle.al_instr.specs.declared.fault.DecodeFault.{DecodeFault}
use Rattle.al_instr.specs.declared.instruction.Instr.{Instr}
use Rattle.al_instr.specs.declared.instruction.Instr.TheVariants.{Plain, Sized, Protected, Const, Frame, Global, Check, Index, Jump, JumpZero, Call, PutText, PutName, Task, Seed}
use Rattle.al_instr.specs.Numbers.{plain_of, sized_of, protected_of}
use Rattle.al_instr.specs.Codes.{IsInstr, IsWord, IsName}
use Rattle.al_instr.specs.Reading.{Gives, ◌>>=◌, or_else, word_at, jump_at, double_at, long_at, text_at, name_at, names_after, names_at, with_one, with_two, with_three, found_with, other, numbered, decoded}
use Rattle.al_instr.proofs.Fields.{IsBytes, IsBytes-drop, IsBytes-take, bind_some, or_else_some, chosen, guard_some, wide64, word_takes, jump_takes, long_takes, text_takes}

record IsFit {A : Type 0} (at : List ℕ → Option (A × List ℕ)) (P : A → Type 0) : Type 0 where
  fit : (bytes : List ℕ) (x : A) (rest : List ℕ) → IsBytes bytes → at bytes ≡ Some (x, rest) → P x × IsBytes rest

word_fits : (bytes : List ℕ) (n : ℕ) (rest : List ℕ) → IsBytes bytes → word_at bytes ≡ Some (n, rest) → IsWord n × IsBytes rest
word_fits bytes n rest fits e = let t = word_takes bytes n rest fits e in (t.1, t.0.rest_fits)

jump_fits : (bytes : List ℕ) (z : ℤ) (rest : List ℕ) → IsBytes bytes → jump_at bytes ≡ Some (z, rest) → FitsSigned w32 z × IsBytes rest
unfolding jump_at
jump_fits bytes z rest fits e =
    let b = bind_some (word_at bytes) (λ n. Some (cast_signed w32 n.0, n.1)) (z, rest) e in
    let t = word_takes bytes b.0.0 b.0.1 fits b.1 in
    let pair : (cast_signed w32 b.0.0, b.0.1) ≡ (z, rest) = cc in
    subst (λ (p : ℤ × List ℕ). FitsSigned w32 p.0 × IsBytes p.1) pair (sfits_to_z (record { fits = t.1 }), t.0.rest_fits)

double_fits : (bytes : List ℕ) (n : ℕ) (rest : List ℕ) → IsBytes bytes → double_at bytes ≡ Some (n, rest) → (n < 0x1_0000_0000_0000_0000) × IsBytes rest
unfolding double_at
double_fits bytes n rest fits e =
    let g = guard_some (ltb (length bytes) 8) (from_be_bytes w64 (take 8 bytes), drop 8 bytes) (n, rest) e in
    subst (λ (p : ℕ × List ℕ). (p.0 < 0x1_0000_0000_0000_0000) × IsBytes p.1) g.1 (wide64.below (take 8 bytes) (IsBytes-take 8 bytes fits), IsBytes-drop 8 bytes fits)

long_fits : (bytes : List ℕ) (z : ℤ) (rest : List ℕ) → IsBytes bytes → long_at bytes ≡ Some (z, rest) → FitsSigned w64 z × IsBytes rest
unfolding long_at
long_fits bytes z rest fits e =
    let b = bind_some (double_at bytes) (λ n. Some (cast_signed w64 n.0, n.1)) (z, rest) e in
    let t = double_fits bytes b.0.0 b.0.1 fits b.1 in
    let pair : (cast_signed w64 b.0.0, b.0.1) ≡ (z, rest) = cc in
    subst (λ (p : ℤ × List ℕ). FitsSigned w64 p.0 × IsBytes p.1) pair (sfits_to_z (record { fits = t.0 }), t.1)

text_fits : (bytes text rest : List ℕ) → IsBytes bytes → text_at bytes ≡ Some (text, rest) → IsWord (length text) × IsBytes rest
unfolding text_at
text_fits bytes text rest fits e =
    let b = bind_some (word_at bytes) (λ n. cond (ltb (length n.1) n.0) None (Some (take n.0 n.1, drop n.0 n.1))) (text, rest) e in
    let n = b.0 in
    let t = word_fits bytes n.0 n.1 fits b.1 in
    let g = guard_some (ltb (length n.1) n.0) (take n.0 n.1, drop n.0 n.1) (text, rest) b.2 in
    let short : length (take n.0 n.1) < 0x1_0000_0000 = omega (arith, length-take n.0 n.1) in
    subst (λ (p : List ℕ × List ℕ). IsWord (length p.0) × IsBytes p.1) g.1 (short, IsBytes-drop n.0 n.1 t.1)

name_fits : (bytes name rest : List ℕ) → IsBytes bytes → name_at bytes ≡ Some (name, rest) → IsName name × IsBytes rest
unfolding name_at
name_fits [] name rest fits e = absurd cc
name_fits (n ∷ bytes) name rest fits e =
    let after : IsBytes bytes = λ k. fits (suc k) in
    let byte : n < 256 = fits 0 in
    let g = guard_some (ltb (length bytes) n) (take n bytes, drop n bytes) (name, rest) e in
    let short : length (take n bytes) < 256 = omega (arith, length-take n bytes) in
    subst (λ (p : List ℕ × List ℕ). IsName p.0 × IsBytes p.1) g.1 (short, IsBytes-drop n bytes after)

more_fit : (names : List (List ℕ)) (n : ℕ) (bytes : List ℕ) (all : List (List ℕ)) (rest : List ℕ) → IsBytes bytes → All IsName names → names_after names n bytes ≡ Some (all, rest) → (length all ≡ length names + n) × All IsName all × IsBytes rest
unfolding names_after
more_fit names zero bytes all rest fits h e =
    let same : (names, bytes) ≡ (all, rest) = cc in
    subst (λ (p : List (List ℕ) × List ℕ). (length p.0 ≡ length names + 0) × All IsName p.0 × IsBytes p.1) same (omega arith, h, fits)
more_fit names (suc n) bytes all rest fits h e =
    let b = bind_some (name_at bytes) (λ x. names_after (names ++ x.0 ∷ []) n x.1) (all, rest) e in
    let t = name_fits bytes b.0.0 b.0.1 fits b.1 in
    let later = more_fit (names ++ b.0.0 ∷ []) n b.0.1 all rest t.1 (All-push IsName names b.0.0 h t.0) b.2 in
    (omega (arith, later.0, length-append names (b.0.0 ∷ [])), later.1, later.2)

names_fit : (bytes : List ℕ) (names : List (List ℕ)) (rest : List ℕ) → IsBytes bytes → names_at bytes ≡ Some (names, rest) → (IsWord (length names) × All IsName names) × IsBytes rest
unfolding names_at
names_fit bytes names rest fits e =
    let b = bind_some (word_at bytes) (λ n. names_after [] n.0 n.1) (names, rest) e in
    let t = word_fits bytes b.0.0 b.0.1 fits b.1 in
    let m = more_fit [] b.0.0 b.0.1 names rest t.1 (All-nil IsName) b.2 in
    ((omega (arith, m.0), m.1), m.2)

words : IsFit word_at IsWord
words = record { fit = word_fits }

jumps : IsFit jump_at (FitsSigned w32)
jumps = record { fit = jump_fits }

longs : IsFit long_at (FitsSigned w64)
longs = record { fit = long_fits }

texts : IsFit text_at (λ text. IsWord (length text))
texts = record { fit = text_fits }

lists_of_names : IsFit names_at (λ names. IsWord (length names) × All IsName names)
lists_of_names = record { fit = names_fit }

module _ {A : Type 0} (at : List ℕ → Option (A × List ℕ)) (P : A → Type 0) (f : IsFit at P) where
  one_fits : (make : A → Instr) (bytes : List ℕ) (i : Instr) (rest : List ℕ) → IsBytes bytes → ((x : A) → P x → IsInstr (make x)) → with_one at make bytes ≡ Some (i, rest) → IsInstr i
  one_fits make bytes i rest fits is e =
      let g : A × List ℕ → Option (Instr × List ℕ) = λ x. Some (make x.0, x.1) in
      let b = bind_some (at bytes) g (i, rest) e in
      let t = f.fit bytes b.0.0 b.0.1 fits b.1 in
      let same : (make b.0.0, b.0.1) ≡ (i, rest) = cc in
      subst (λ (p : Instr × List ℕ). IsInstr p.0) same (is b.0.0 t.0)

module _ {A B : Type 0} (at : List ℕ → Option (A × List ℕ)) (P : A → Type 0) (f : IsFit at P) (then_at : List ℕ → Option (B × List ℕ)) (Q : B → Type 0) (h : IsFit then_at Q) where
  two_fit : (make : A → B → Instr) (bytes : List ℕ) (i : Instr) (rest : List ℕ) → IsBytes bytes → ((x : A) (y : B) → P x → Q y → IsInstr (make x y)) → with_two at then_at make bytes ≡ Some (i, rest) → IsInstr i
  two_fit make bytes i rest fits is e =
      let g : A × List ℕ → Option (Instr × List ℕ) = λ x. with_one then_at (make x.0) x.1 in
      let b = bind_some (at bytes) g (i, rest) e in
      let t = f.fit bytes b.0.0 b.0.1 fits b.1 in
      one_fits then_at Q h (make b.0.0) b.0.1 i rest t.1 (λ y q. is b.0.0 y t.0 q) b.2

index_fits : (bytes : List ℕ) (i : Instr) (rest : List ℕ) → IsBytes bytes → with_three long_at long_at word_at Index bytes ≡ Some (i, rest) → IsInstr i
index_fits bytes i rest fits e =
    let g : ℤ × List ℕ → Option (Instr × List ℕ) = λ x. with_two long_at word_at (Index x.0) x.1 in
    let b = bind_some (long_at bytes) g (i, rest) e in
    let t = long_fits bytes b.0.0 b.0.1 fits b.1 in
    two_fit long_at (FitsSigned w64) longs word_at IsWord words (Index b.0.0) b.0.1 i rest t.1 (λ x y p q. (t.0, p, q)) b.2

-- one step of the choice by number
step : (b : Bool) (x y : Option (Instr × List ℕ)) (i : Instr) (rest : List ℕ) → cond b x y ≡ Some (i, rest) → (x ≡ Some (i, rest) → IsInstr i) → (y ≡ Some (i, rest) → IsInstr i) → IsInstr i
step b x y i rest e here later =
    elim (chosen b x y (Some (i, rest)) e) [
      | inl h ↦ here h.1
      | inr h ↦ later h.1
    ]

other_fits : (number : ℕ) (bytes : List ℕ) (i : Instr) (rest : List ℕ) → IsBytes bytes → other number bytes ≡ Some (i, rest) → IsInstr i
unfolding other
other_fits number bytes i rest fits e =
    step (number == 0x00) (with_one long_at Const bytes) _ i rest e (one_fits long_at (FitsSigned w64) longs Const bytes i rest fits (λ x p. p)) (λ e.
    step (number == 0x01) (with_two word_at word_at Frame bytes) _ i rest e (two_fit word_at IsWord words word_at IsWord words Frame bytes i rest fits (λ x y p q. (p, q))) (λ e.
    step (number == 0x02) (with_one word_at Global bytes) _ i rest e (one_fits word_at IsWord words Global bytes i rest fits (λ x p. p)) (λ e.
    step (number == 0x08) (with_two long_at long_at Check bytes) _ i rest e (two_fit long_at (FitsSigned w64) longs long_at (FitsSigned w64) longs Check bytes i rest fits (λ x y p q. (p, q))) (λ e.
    step (number == 0x09) (with_three long_at long_at word_at Index bytes) _ i rest e (index_fits bytes i rest fits) (λ e.
    step (number == 0x0b) (with_one jump_at Jump bytes) _ i rest e (one_fits jump_at (FitsSigned w32) jumps Jump bytes i rest fits (λ x p. p)) (λ e.
    step (number == 0x0c) (with_one jump_at JumpZero bytes) _ i rest e (one_fits jump_at (FitsSigned w32) jumps JumpZero bytes i rest fits (λ x p. p)) (λ e.
    step (number == 0x32) (with_two word_at word_at Call bytes) _ i rest e (two_fit word_at IsWord words word_at IsWord words Call bytes i rest fits (λ x y p q. (p, q))) (λ e.
    step (number == 0x40) (with_one text_at PutText bytes) _ i rest e (one_fits text_at (λ text. IsWord (length text)) texts PutText bytes i rest fits (λ x p. p)) (λ e.
    step (number == 0x42) (with_two word_at names_at PutName bytes) _ i rest e (two_fit word_at IsWord words names_at (λ names. IsWord (length names) × All IsName names) lists_of_names PutName bytes i rest fits (λ x y p q. (p, q.0, q.1))) (λ e.
    step (number == 0x50) (with_two word_at word_at Task bytes) _ i rest e (two_fit word_at IsWord words word_at IsWord words Task bytes i rest fits (λ x y p q. (p, q))) (λ e.
    step (number == 0x5c) (with_two word_at word_at Seed bytes) _ i rest e (two_fit word_at IsWord words word_at IsWord words Seed bytes i rest fits (λ x y p q. (p, q))) (λ e.
    absurd cc))))))))))))

decoded_fits : (bytes : List ℕ) (i : Instr) (rest : List ℕ) → IsBytes bytes → decoded bytes ≡ Some (i, rest) → IsInstr i
unfolding numbered
decoded_fits [] i rest fits e = absurd cc
decoded_fits (number ∷ bytes) i rest fits e =
    let later : IsBytes bytes = λ k. fits (suc k) in
    elim (or_else_some (plain_of number) (λ p. found_with (Plain p) bytes) _ (i, rest) e) [
      | inl h ↦ let same : (Plain h.0, bytes) ≡ (i, rest) = cc in
          subst (λ (p : Instr × List ℕ). IsInstr p.0) same tt
      | inr g ↦
          elim (or_else_some (sized_of number) (λ s. with_one word_at (Sized s) bytes) _ (i, rest) g.1) [
            | inl h ↦ one_fits word_at IsWord words (Sized h.0) bytes i rest later (λ x p. p) h.2
            | inr k ↦
                elim (or_else_some (protected_of number) (λ a. with_one word_at (Protected a) bytes) _ (i, rest) k.1) [
                  | inl h ↦ one_fits word_at IsWord words (Protected h.0) bytes i rest later (λ x p. p) h.2
                  | inr h ↦ other_fits number bytes i rest later h.1
                ]
          ]
    ]

pub read_fits : (bytes : List ℕ) (r : Result (Instr × Bor (List ℕ)) DecodeFault) → IsBytes bytes → Gives (λ x. (x.0, x.1.now)) r (decoded bytes) → IfOk r (λ x. IsInstr x.0)
read_fits bytes (Ok x) fits e = decoded_fits bytes x.0 x.1.now fits e
read_fits bytes (Err f) fits e = tt
