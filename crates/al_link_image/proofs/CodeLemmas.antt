-- Codes are the bytes of instructions, and of no other ones.
use Rattle.std.proofs.Common.{◌≡◌, ℕ, zero, suc, ◌<◌, ◌≤◌, List, [], ◌∷◌, ◌++◌, length, Some, None, refl, sym, ap, subst, ◌∙◌, append_assoc, append-nil, arith}
use Rattle.std.specs.List.{All}
use Rattle.std.specs.Prelude.{Result, Ok, Err}
use Rattle.std.specs.Borrow.{Bor}
use Rattle.std.proofs.lemmas.List.{length-append}
use Rattle.std.proofs.lemmas.List.Elements.{All-nil, All-head, All-tail, All-push}
use Rattle.al_instr.specs.declared.instruction.Instr.{Instr}
use Rattle.al_instr.specs.declared.instruction.Instr.TheVariants.{Plain, Sized, Protected, Const, Frame, Global, Check, Index, Jump, JumpZero, Call, PutText, PutName, Task, Seed}
use Rattle.al_instr.specs.declared.fault.DecodeFault.{DecodeFault}
use Rattle.al_instr.specs.declared.fault.DecodeFault.TheVariants as decode_faults
use Rattle.al_instr.specs.Codes.{encoded, code_bytes, IsInstr}
use Rattle.al_instr.specs.Reading.{Gives, found_with}
use Rattle.al_instr.proofs.RoundTrip.{decoded_again}
use Rattle.std.specs.Result.{IsErrAnd}
use Rattle.al_link_image.specs.declared.fault.LinkFault.{LinkFault}
use Rattle.al_link_image.specs.Faults.{decode_fault}
use Rattle.al_link_image.specs.Images.{IsNotDamaged, IsNoDamage}
use Rattle.al_link_image.specs.Parts.{instructions_in, code_of, IsCode}

pub encoded_some : (i : Instr) → 0 < length (encoded i)
unfolding encoded
encoded_some (Plain p) = omega arith
encoded_some (Sized s n) = omega arith
encoded_some (Protected a n) = omega arith
encoded_some (Const c) = omega arith
encoded_some (Frame depth word) = omega arith
encoded_some (Global place) = omega arith
encoded_some (Check low high) = omega arith
encoded_some (Index low high words) = omega arith
encoded_some (Jump distance) = omega arith
encoded_some (JumpZero distance) = omega arith
encoded_some (Call place words) = omega arith
encoded_some (PutText text) = omega arith
encoded_some (PutName below names) = omega arith
encoded_some (Task place priority) = omega arith
encoded_some (Seed place words) = omega arith

-- each instruction has a byte
fewer : (code : List Instr) → length code ≤ length (code_bytes code)
fewer [] = omega arith
fewer (i ∷ code) = omega (arith, fewer code, encoded_some i, length-append (encoded i) (code_bytes code))

in_again : (code : List Instr) (n : ℕ) → All IsInstr code → length code ≤ n → instructions_in n (code_bytes code) ≡ code
unfolding instructions_in
in_again [] zero fit le = refl
in_again [] (suc n) fit le = refl
in_again (i ∷ code) zero fit le = absurd (omega arith)
in_again (i ∷ code) (suc n) fit le =
    let short : length code ≤ n = omega arith in
    rw (decoded_again i (code_bytes code) (All-head IsInstr i code fit)) (ap (λ (is : List Instr). i ∷ is) (in_again code n (All-tail IsInstr i code fit) short))

-- the instructions of the bytes of instructions are these
pub code_again : (code : List Instr) → All IsInstr code → code_of (code_bytes code) ≡ code
code_again code fit = in_again code (length (code_bytes code)) fit (fewer code)

pub is_code : (bytes : List ℕ) (code : List Instr) → All IsInstr code → bytes ≡ code_bytes code → IsCode bytes
is_code bytes code fit e =
    let same : code_of (code_bytes code) ≡ code = code_again code fit in
    let whole : IsCode (code_bytes code) = record { are = subst (All IsInstr) (sym same) fit; bytes_are = ap code_bytes same } in
    subst IsCode (sym e) whole

pub code_bytes-append : (xs ys : List Instr) → code_bytes (xs ++ ys) ≡ code_bytes xs ++ code_bytes ys
code_bytes-append [] ys = refl
code_bytes-append (x ∷ xs) ys = ap (λ (bs : List ℕ). encoded x ++ bs) (code_bytes-append xs ys) ∙ sym (append_assoc (encoded x) (code_bytes xs) (code_bytes ys))

-- ---- reading to the end

-- the instructions that were read, in front of the rest; and where the whole is a code, the rest is one
pub record CodeSoFar (bytes : List ℕ) (read : List Instr) (rest : List ℕ) : Type 0 where
  pub fit : All IsInstr read
  pub bytes_are : bytes ≡ code_bytes read ++ rest
  pub later : (code : List Instr) → All IsInstr code → bytes ≡ code_bytes code → (more : List Instr) × All IsInstr more × (rest ≡ code_bytes more)

pub none_read : (bytes : List ℕ) → CodeSoFar bytes [] bytes
none_read bytes = record { fit = All-nil IsInstr; bytes_are = refl; later = λ code fit e. (code, fit, e) }

-- what reading the first instruction of a code gives
abbrev pub DecodedAgain : List ℕ → Result (Instr × Bor (List ℕ)) DecodeFault → Type 0
DecodedAgain bytes r = (i : Instr) (rest : List ℕ) → IsInstr i → bytes ≡ encoded i ++ rest → Gives (λ x. (x.0, x.1.now)) r (found_with i rest)

-- the rest of a code after its first instruction
tail_of : (rest : List ℕ) (first : Instr) (behind : List ℕ) → 0 < length rest → ((i : Instr) (after : List ℕ) → IsInstr i → rest ≡ encoded i ++ after → ◌≡◌ {A = Instr × List ℕ} (i, after) (first, behind)) → (more : List Instr) → All IsInstr more → rest ≡ code_bytes more → (tail : List Instr) × All IsInstr tail × (behind ≡ code_bytes tail)
tail_of rest first behind some again [] fit e = absurd (omega (arith, ap length e))
tail_of rest first behind some again (i ∷ tail) fit e =
    let same : ◌≡◌ {A = Instr × List ℕ} (i, code_bytes tail) (first, behind) = again i (code_bytes tail) (All-head IsInstr i tail fit) e in
    (tail, All-tail IsInstr i tail fit, sym (ap (λ (p : Instr × List ℕ). p.1) same))

-- two readings that are there
some_same : (x y : Instr × List ℕ) → Some x ≡ Some y → x ≡ y
some_same x y e = cc

pub one_read : (bytes : List ℕ) (read : List Instr) (rest : List ℕ) (x : Instr × Bor (List ℕ)) → CodeSoFar bytes read rest → 0 < length rest → rest ≡ encoded x.0 ++ x.1.now → IsInstr x.0 → DecodedAgain rest (Ok x) → CodeSoFar bytes (read ++ x.0 ∷ []) x.1.now
one_read bytes read rest x h some e fits again = record {
  fit = All-push IsInstr read x.0 h.fit fits;
  bytes_are =
      h.bytes_are ∙ ap (λ (bs : List ℕ). code_bytes read ++ bs) e ∙ sym (append_assoc (code_bytes read) (encoded x.0) x.1.now)
      ∙ ap (λ (bs : List ℕ). bs ++ x.1.now) (ap (λ (bs : List ℕ). code_bytes read ++ bs) (sym (append-nil (encoded x.0))) ∙ sym (code_bytes-append read (x.0 ∷ [])));
  later = λ code fit same.
      let m = h.later code fit same in
      tail_of rest x.0 x.1.now some (λ i after is begins. some_same (i, after) (x.0, x.1.now) (again i after is begins)) m.0 m.1 m.2;
}

pub all_read : (bytes : List ℕ) (read : List Instr) (rest : List ℕ) → CodeSoFar bytes read rest → length rest ≡ 0 → bytes ≡ code_bytes read
all_read bytes read [] h e = h.bytes_are ∙ append-nil (code_bytes read)
all_read bytes read (b ∷ rest) h e = absurd (omega arith)

pub read_is_code : (bytes : List ℕ) (read : List Instr) (rest : List ℕ) → CodeSoFar bytes read rest → length rest ≡ 0 → IsCode bytes
read_is_code bytes read rest h e = is_code bytes read h.fit (all_read bytes read rest h e)

pub read_is : (bytes : List ℕ) (read : List Instr) (rest : List ℕ) → CodeSoFar bytes read rest → length rest ≡ 0 → read ≡ code_of bytes
read_is bytes read rest h e = sym (code_again read h.fit) ∙ ap code_of (sym (all_read bytes read rest h e))

-- what doesn't begin with an instruction is no code
no_code : (rest : List ℕ) (more : List Instr) → 0 < length rest → DecodedAgain rest (Err decode_faults.Damaged) → All IsInstr more → rest ≡ code_bytes more → ⊥
no_code rest [] some again fit e = omega (arith, ap length e)
no_code rest (i ∷ more) some again fit e = none_some (i, code_bytes more) (again i (code_bytes more) (All-head IsInstr i more fit) e)
  where
    none_some : (x : Instr × List ℕ) → Some x ≡ None → ⊥
    none_some x e = absurd cc

pub is_not_code : (bytes : List ℕ) (read : List Instr) (rest : List ℕ) → CodeSoFar bytes read rest → 0 < length rest → DecodedAgain rest (Err decode_faults.Damaged) → (code : List Instr) → All IsInstr code → bytes ≡ code_bytes code → ⊥
is_not_code bytes read rest h some again code fit e =
    let m = h.later code fit e in
    no_code rest m.0 some again m.1 m.2

-- ---- faults

pub passed_on : {X : Type 0} (r : Result X LinkFault) (fault : LinkFault) → IsErrAnd r (λ e. e ≡ fault) → IsNoDamage fault → IsNotDamaged r
passed_on (Ok x) fault h k = absurd h
passed_on (Err e) fault h k = subst IsNoDamage (sym h) k

pub code_fault : (bytes : List ℕ) (read : List Instr) (rest : List ℕ) (fault : DecodeFault) → CodeSoFar bytes read rest → 0 < length rest → DecodedAgain rest (Err fault) → (code : List Instr) → All IsInstr code → bytes ≡ code_bytes code → IsNoDamage (decode_fault fault)
code_fault bytes read rest decode_faults.Damaged h some again code fit e = is_not_code bytes read rest h some again code fit e
code_fault bytes read rest decode_faults.NoMemory h some again code fit e = tt
