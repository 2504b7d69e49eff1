-- An instruction that is read is the one that was written, and what was written is read again.
use Rattle.std.proofs.Common.{◌≡◌, ℕ, suc, ◌<◌, ◌==◌, Bool, true, List, [], ◌∷◌, ◌++◌, length, Option, Some, None, refl, sym, ap, subst, ◌∙◌, append_assoc, arith, inl, inr}
use Rattle.std.specs.Prelude.{ℤ, IfOk, Result, Ok, Err}
use Rattle.std.specs.Borrow.{Bor}
use Rattle.al_instr.specs.declared.fault.DecodeFault.{DecodeFault}
use Rattle.std.specs.List.{find}
use Rattle.std.specs.Prelude.{if◌then◌else◌}
use Rattle.std.proofs.lemmas.Bool.Decides.{nat_tests}
use Rattle.al_instr.specs.declared.numbers.Sized.{Sized as SizedOne}
use Rattle.al_instr.specs.declared.numbers.Protected.{Protected as ProtectedOne}
use Rattle.al_instr.specs.declared.numbers.Sized.TheVariants as sized
use Rattle.al_instr.specs.declared.numbers.Protected.TheVariants as protected
use Rattle.al_instr.specs.declared.numbers.TheConstants.{PLAIN_ONES, SIZED_ONES, PROTECTED_ONES}
use Rattle.al_instr.specs.declared.instruction.Instr.{Instr}
use Rattle.al_instr.specs.declared.instruction.Instr.TheVariants.{Plain, Sized, Protected, Const, Frame, Global, Check, Index, Jump, JumpZero, Call, PutText, PutName, Task, Seed}
use Rattle.al_instr.specs.Numbers.{plain_number, sized_number, protected_number, plain_of, sized_of, protected_of}
use Rattle.al_instr.specs.Codes.{word_bytes, jump_bytes, long_bytes, names_bytes, encoded, IsInstr}
use Rattle.al_instr.specs.Reading.{Gives, word_at, jump_at, long_at, text_at, names_at, with_one, with_two, with_three, found_with, other, numbered, decoded}
use Rattle.al_instr.proofs.NumberLemmas.{plain_again, sized_again, protected_again}
use Rattle.al_instr.proofs.Fields.{IsBytes, bind_some, or_else_some, chosen, word_again, jump_again, long_again, text_again, IsReader, words_read, jumps_read, longs_read, texts_read}
use Rattle.al_instr.proofs.NameFields.{names_again, names_read}

sized_not_plain : (s : SizedOne) → plain_of (sized_number s) ≡ None
sized_not_plain sized.Load = refl
sized_not_plain sized.Store = refl
sized_not_plain sized.Zero = refl
sized_not_plain sized.Same = refl
sized_not_plain sized.Drop = refl
sized_not_plain sized.Field = refl
sized_not_plain sized.Mark = refl
sized_not_plain sized.Enter = refl
sized_not_plain sized.Return = refl
sized_not_plain sized.Raise = refl
sized_not_plain sized.PutInteger = refl

protected_not_plain : (a : ProtectedOne) → plain_of (protected_number a) ≡ None
protected_not_plain protected.Enter = refl
protected_not_plain protected.EnterEntry = refl
protected_not_plain protected.Waiting = refl
protected_not_plain protected.Wake = refl
protected_not_plain protected.Block = refl

protected_not_sized : (a : ProtectedOne) → sized_of (protected_number a) ≡ None
protected_not_sized protected.Enter = refl
protected_not_sized protected.EnterEntry = refl
protected_not_sized protected.Waiting = refl
protected_not_sized protected.Wake = refl
protected_not_sized protected.Block = refl

with_word_again : (make : ℕ → Instr) (n : ℕ) (rest : List ℕ) → n < 0x1_0000_0000 → with_one word_at make (word_bytes n ++ rest) ≡ Some (make n, rest)
with_word_again make n rest lt = rw (word_again n rest lt) refl

with_words_again : (make : ℕ → ℕ → Instr) (m n : ℕ) (rest : List ℕ) → m < 0x1_0000_0000 → n < 0x1_0000_0000 → with_two word_at word_at make ((word_bytes m ++ word_bytes n) ++ rest) ≡ Some (make m n, rest)
with_words_again make m n rest p q = rw (append_assoc (word_bytes m) (word_bytes n) rest, word_again m (word_bytes n ++ rest) p, word_again n rest q) refl

-- what was written is read again
pub decoded_again : (i : Instr) (rest : List ℕ) → IsInstr i → decoded (encoded i ++ rest) ≡ Some (i, rest)
unfolding encoded numbered other
decoded_again (Plain p) rest h = rw (plain_again p) refl
decoded_again (Sized s n) rest h = rw (sized_not_plain s, sized_again s) (with_word_again (Sized s) n rest h)
decoded_again (Protected a n) rest h = rw (protected_not_plain a, protected_not_sized a, protected_again a) (with_word_again (Protected a) n rest h)
decoded_again (Const c) rest h = rw (long_again c rest h) refl
decoded_again (Frame depth word) rest h = with_words_again Frame depth word rest h.0 h.1
decoded_again (Global place) rest h = with_word_again Global place rest h
decoded_again (Check low high) rest h = rw (append_assoc (long_bytes low) (long_bytes high) rest, long_again low (long_bytes high ++ rest) h.0, long_again high rest h.1) refl
decoded_again (Index low high words) rest h =
    rw (append_assoc (long_bytes low ++ long_bytes high) (word_bytes words) rest, append_assoc (long_bytes low) (long_bytes high) (word_bytes words ++ rest), long_again low (long_bytes high ++ (word_bytes words ++ rest)) h.0, long_again high (word_bytes words ++ rest) h.1) (with_word_again (Index low high) words rest h.2)
decoded_again (Jump distance) rest h = rw (jump_again distance rest h) refl
decoded_again (JumpZero distance) rest h = rw (jump_again distance rest h) refl
decoded_again (Call place words) rest h = with_words_again Call place words rest h.0 h.1
decoded_again (PutText text) rest h = rw (text_again text rest h) refl
decoded_again (PutName below names) rest h = rw (append_assoc (word_bytes below) (names_bytes names) rest, word_again below (names_bytes names ++ rest) h.0, names_again names rest h.1) refl
decoded_again (Task place priority) rest h = with_words_again Task place priority rest h.0 h.1
decoded_again (Seed place words) rest h = with_words_again Seed place words rest h.0 h.1

-- ---- what is read is written so

find_passes : {A : Type 0} (t : A → Bool) (xs : List A) (x : A) → find t xs ≡ Some x → t x ≡ true
find_passes t [] x e = absurd cc
find_passes t (y ∷ ys) x e =
    elim (chosen (t y) (Some y) (find t ys) (Some x) e) [
      | inl h ↦ let same : y ≡ x = cc in subst (λ z. t z ≡ true) same h.0
      | inr h ↦ find_passes t ys x h.1
    ]

-- the bytes after what was read already are those of the instruction, and the rest
abbrev Reads : List ℕ → List ℕ → Instr → List ℕ → Type 0
Reads front bytes i rest = front ++ bytes ≡ encoded i ++ rest

module _ {A : Type 0} (at : List ℕ → Option (A × List ℕ)) (written : A → List ℕ) (r : IsReader at written) where
  one_takes : (make : A → Instr) (front bytes : List ℕ) (i : Instr) (rest : List ℕ) → IsBytes bytes → ((x : A) → encoded (make x) ≡ front ++ written x) → with_one at make bytes ≡ Some (i, rest) → Reads front bytes i rest
  one_takes make front bytes i rest fits is e =
      let f : A × List ℕ → Option (Instr × List ℕ) = λ x. Some (make x.0, x.1) in
      let b = bind_some (at bytes) f (i, rest) e in
      let t = r.takes bytes b.0.0 b.0.1 fits b.1 in
      let start : front ++ bytes ≡ encoded (make b.0.0) ++ b.0.1 = ap (λ (xs : List ℕ). front ++ xs) t.parts ∙ sym (append_assoc front (written b.0.0) b.0.1) ∙ ap (λ (xs : List ℕ). xs ++ b.0.1) (sym (is b.0.0)) in
      let same : (make b.0.0, b.0.1) ≡ (i, rest) = cc in
      subst (λ (p : Instr × List ℕ). front ++ bytes ≡ encoded p.0 ++ p.1) same start

module _ {A B : Type 0} (at : List ℕ → Option (A × List ℕ)) (written : A → List ℕ) (r : IsReader at written) (then_at : List ℕ → Option (B × List ℕ)) (then_written : B → List ℕ) (s : IsReader then_at then_written) where
  two_takes : (make : A → B → Instr) (front bytes : List ℕ) (i : Instr) (rest : List ℕ) → IsBytes bytes → ((x : A) (y : B) → encoded (make x y) ≡ (front ++ written x) ++ then_written y) → with_two at then_at make bytes ≡ Some (i, rest) → Reads front bytes i rest
  two_takes make front bytes i rest fits is e =
      let f : A × List ℕ → Option (Instr × List ℕ) = λ x. with_one then_at (make x.0) x.1 in
      let b = bind_some (at bytes) f (i, rest) e in
      let t = r.takes bytes b.0.0 b.0.1 fits b.1 in
      ap (λ (xs : List ℕ). front ++ xs) t.parts ∙ sym (append_assoc front (written b.0.0) b.0.1)
      ∙ one_takes then_at then_written s (make b.0.0) (front ++ written b.0.0) b.0.1 i rest t.rest_fits (is b.0.0) b.2

index_takes : (bytes : List ℕ) (i : Instr) (rest : List ℕ) → IsBytes bytes → with_three long_at long_at word_at Index bytes ≡ Some (i, rest) → Reads (0x09 ∷ []) bytes i rest
unfolding encoded
index_takes bytes i rest fits e =
    let f : ℤ × List ℕ → Option (Instr × List ℕ) = λ x. with_two long_at word_at (Index x.0) x.1 in
    let b = bind_some (long_at bytes) f (i, rest) e in
    let t = longs_read.takes bytes b.0.0 b.0.1 fits b.1 in
    ap (λ (xs : List ℕ). 0x09 ∷ xs) t.parts
    ∙ two_takes long_at long_bytes longs_read word_at word_bytes words_read (Index b.0.0) (0x09 ∷ long_bytes b.0.0) b.0.1 i rest t.rest_fits (λ x y. refl) b.2

same_number : (m n : ℕ) → (m == n) ≡ true → m ≡ n
same_number m n e = grind (arith, nat_tests)

-- one step of the choice by number
step : (number k : ℕ) (x y : Option (Instr × List ℕ)) (bytes : List ℕ) (i : Instr) (rest : List ℕ) → (if number == k then x else y) ≡ Some (i, rest) → (x ≡ Some (i, rest) → Reads (k ∷ []) bytes i rest) → (y ≡ Some (i, rest) → Reads (number ∷ []) bytes i rest) → Reads (number ∷ []) bytes i rest
step number k x y bytes i rest e here later =
    elim (chosen (number == k) x y (Some (i, rest)) e) [
      | inl h ↦ let same : k ≡ number = sym (same_number number k h.0) in subst (λ (n : ℕ). Reads (n ∷ []) bytes i rest) same (here h.1)
      | inr h ↦ later h.1
    ]

other_takes : (number : ℕ) (bytes : List ℕ) (i : Instr) (rest : List ℕ) → IsBytes bytes → other number bytes ≡ Some (i, rest) → Reads (number ∷ []) bytes i rest
unfolding other encoded
other_takes number bytes i rest fits e =
    step number 0x00 (with_one long_at Const bytes) _ bytes i rest e (one_takes long_at long_bytes longs_read Const (0x00 ∷ []) bytes i rest fits (λ x. refl)) (λ e.
    step number 0x01 (with_two word_at word_at Frame bytes) _ bytes i rest e (two_takes word_at word_bytes words_read word_at word_bytes words_read Frame (0x01 ∷ []) bytes i rest fits (λ x y. refl)) (λ e.
    step number 0x02 (with_one word_at Global bytes) _ bytes i rest e (one_takes word_at word_bytes words_read Global (0x02 ∷ []) bytes i rest fits (λ x. refl)) (λ e.
    step number 0x08 (with_two long_at long_at Check bytes) _ bytes i rest e (two_takes long_at long_bytes longs_read long_at long_bytes longs_read Check (0x08 ∷ []) bytes i rest fits (λ x y. refl)) (λ e.
    step number 0x09 (with_three long_at long_at word_at Index bytes) _ bytes i rest e (index_takes bytes i rest fits) (λ e.
    step number 0x0b (with_one jump_at Jump bytes) _ bytes i rest e (one_takes jump_at jump_bytes jumps_read Jump (0x0b ∷ []) bytes i rest fits (λ x. refl)) (λ e.
    step number 0x0c (with_one jump_at JumpZero bytes) _ bytes i rest e (one_takes jump_at jump_bytes jumps_read JumpZero (0x0c ∷ []) bytes i rest fits (λ x. refl)) (λ e.
    step number 0x32 (with_two word_at word_at Call bytes) _ bytes i rest e (two_takes word_at word_bytes words_read word_at word_bytes words_read Call (0x32 ∷ []) bytes i rest fits (λ x y. refl)) (λ e.
    step number 0x40 (with_one text_at PutText bytes) _ bytes i rest e (one_takes text_at (λ text. word_bytes (length text) ++ text) texts_read PutText (0x40 ∷ []) bytes i rest fits (λ x. refl)) (λ e.
    step number 0x42 (with_two word_at names_at PutName bytes) _ bytes i rest e (two_takes word_at word_bytes words_read names_at names_bytes names_read PutName (0x42 ∷ []) bytes i rest fits (λ x y. refl)) (λ e.
    step number 0x50 (with_two word_at word_at Task bytes) _ bytes i rest e (two_takes word_at word_bytes words_read word_at word_bytes words_read Task (0x50 ∷ []) bytes i rest fits (λ x y. refl)) (λ e.
    step number 0x5c (with_two word_at word_at Seed bytes) _ bytes i rest e (two_takes word_at word_bytes words_read word_at word_bytes words_read Seed (0x5c ∷ []) bytes i rest fits (λ x y. refl)) (λ e.
    absurd cc))))))))))))

pub decoded_takes : (bytes : List ℕ) (i : Instr) (rest : List ℕ) → IsBytes bytes → decoded bytes ≡ Some (i, rest) → bytes ≡ encoded i ++ rest
unfolding numbered encoded
decoded_takes [] i rest fits e = absurd cc
decoded_takes (number ∷ bytes) i rest fits e =
    let later : IsBytes bytes = λ k. fits (suc k) in
    elim (or_else_some (plain_of number) (λ p. found_with (Plain p) bytes) _ (i, rest) e) [
      | inl h ↦
          let is : plain_number h.0 ≡ number = same_number _ _ (find_passes (λ p. plain_number p == number) PLAIN_ONES h.0 h.1) in
          let same : (Plain h.0, bytes) ≡ (i, rest) = cc in
          subst (λ (p : Instr × List ℕ). number ∷ bytes ≡ encoded p.0 ++ p.1) same (ap (λ (n : ℕ). n ∷ bytes) (sym is))
      | inr g ↦
          elim (or_else_some (sized_of number) (λ s. with_one word_at (Sized s) bytes) _ (i, rest) g.1) [
            | inl h ↦
                let is : sized_number h.0 ≡ number = same_number _ _ (find_passes (λ p. sized_number p == number) SIZED_ONES h.0 h.1) in
                one_takes word_at word_bytes words_read (Sized h.0) (number ∷ []) bytes i rest later (λ n. ap (λ (k : ℕ). k ∷ word_bytes n) is) h.2
            | inr k ↦
                elim (or_else_some (protected_of number) (λ a. with_one word_at (Protected a) bytes) _ (i, rest) k.1) [
                  | inl h ↦
                      let is : protected_number h.0 ≡ number = same_number _ _ (find_passes (λ p. protected_number p == number) PROTECTED_ONES h.0 h.1) in
                      one_takes word_at word_bytes words_read (Protected h.0) (number ∷ []) bytes i rest later (λ n. ap (λ (k : ℕ). k ∷ word_bytes n) is) h.2
                  | inr h ↦ other_takes number bytes i rest later h.1
                ]
          ]
    ]

pub read_so : (bytes : List ℕ) (r : Result (Instr × Bor (List ℕ)) DecodeFault) → IsBytes bytes → Gives (λ x. (x.0, x.1.now)) r (decoded bytes) → IfOk r (λ x. bytes ≡ encoded x.0 ++ x.1.now)
read_so bytes (Ok x) fits e = decoded_takes bytes x.0 x.1.now fits e
read_so bytes (Err f) fits e = tt
