-- Filling in the operands of instructions.
use Rattle.std.proofs.Common.{◌≡◌, ℕ, ◌+◌, ◌<◌, ◌%◌, ◌^◌, true, leb, List, [], ◌∷◌, ◌++◌, length, drop, map, refl, sym, ap, ◌∙◌, append_assoc, append-nil, arith, length-append}
use Rattle.std.specs.Int.{w32, from_be_bytes}
use Rattle.std.proofs.lemmas.Bool.Decides.{nat_tests}
use Rattle.std.specs.List.{All}
use Rattle.std.proofs.lemmas.List.{take_at, drop_at}
use Rattle.std.proofs.lemmas.List.Elements.{All-head, All-tail}
use Rattle.std.proofs.lemmas.Nat.{from_be_bytes-to_be_bytes_4}
use Rattle.al_instr.specs.declared.instruction.Instr.{Instr}
use Rattle.al_instr.specs.Codes.{encoded, word_bytes}
use Rattle.al_instr.specs.declared.instruction.Instr.TheVariants as instr
use Rattle.al_instr.specs.Numbers.{protected_number}
use Rattle.al_instr.specs.Codes.{IsInstr}
use Rattle.al_view.specs.declared.link.LinkKind.{LinkKind}
use Rattle.al_view.specs.declared.link.LinkSymbol.{LinkSymbol}
use Rattle.al_code_object.specs.declared.object.Relocation.{Relocation}
use Rattle.al_code_object.specs.Parts.{Part, Whole, Using, code_of, uses_from, IsPart, MayUse}
use Rattle.al_link.specs.Symbols.{Places, place_in}
use Rattle.al_link.specs.Linking.{number_at, patched, with_word}
use Rattle.al_link.specs.LinkedParts.{shifted, linked_part, LinksParts}

-- an instruction whose first operand is a number in four bytes
pub record HasWord (i : Instr) : Type 0 where
  pub op : ℕ
  pub number : ℕ
  pub tail : List ℕ
  pub fits : number < 0x1_0000_0000
  pub is : encoded i ≡ op ∷ (word_bytes number ++ tail)
  pub moves : (v : ℕ) → encoded (shifted v i) ≡ op ∷ (word_bytes ((number + v) % 2 ^ 32) ++ tail)

word_length : (n : ℕ) → length (word_bytes n) ≡ 4
unfolding word_bytes
word_length n = refl

word_back : (n : ℕ) → n < 0x1_0000_0000 → from_be_bytes w32 (word_bytes n) ≡ n
unfolding word_bytes
word_back n lt = from_be_bytes-to_be_bytes_4 n lt

-- a number after so many bytes
number_there : (start rest : List ℕ) (n place : ℕ) → place ≡ length start → n < 0x1_0000_0000 → number_at (start ++ (word_bytes n ++ rest)) place ≡ n
unfolding number_at
number_there start rest n place at lt =
    let len = word_length n in
    let total : length (start ++ (word_bytes n ++ rest)) ≡ length start + (4 + length rest) = omega (arith, length-append start (word_bytes n ++ rest), length-append (word_bytes n) rest) in
    let test : leb (place + 4) (length (start ++ (word_bytes n ++ rest))) ≡ true = grind (arith, nat_tests) in
    rw (test, drop_at start (word_bytes n ++ rest) place (sym at), take_at (word_bytes n) rest 4 len) (word_back n lt)

-- another number there
word_written : (start old rest : List ℕ) (n place : ℕ) → place ≡ length start → length old ≡ 4 → with_word (start ++ (old ++ rest)) place n ≡ start ++ (word_bytes n ++ rest)
unfolding with_word
word_written start old rest n place at len =
    let total : length (start ++ (old ++ rest)) ≡ length start + (4 + length rest) = omega (arith, length-append start (old ++ rest), length-append old rest) in
    let test : leb (place + 4) (length (start ++ (old ++ rest))) ≡ true = grind (arith, nat_tests) in
    let late : start ++ (old ++ rest) ≡ (start ++ old) ++ rest = sym (append_assoc start old rest) in
    let n2 : length (start ++ old) ≡ place + 4 = omega (arith, length-append start old) in
    let last : drop (place + 4) (start ++ (old ++ rest)) ≡ rest = ap (λ (xs : List ℕ). drop (place + 4) xs) late ∙ drop_at (start ++ old) rest (place + 4) n2 in
    rw (test, take_at start (old ++ rest) place (sym at), last) refl

-- the place of the operand in an instruction's bytes
split : (start : List ℕ) (op : ℕ) (word tail rest : List ℕ) → start ++ ((op ∷ (word ++ tail)) ++ rest) ≡ (start ++ op ∷ []) ++ (word ++ (tail ++ rest))
split start op word tail rest = ap (λ (xs : List ℕ). start ++ op ∷ xs) (append_assoc word tail rest) ∙ sym (append_assoc start (op ∷ []) (word ++ (tail ++ rest)))

word_of : (i : Instr) (k : LinkKind) → IsInstr i → MayUse i k → HasWord i
unfolding encoded
word_of (instr.Global place) k fit may = record {
  op = 0x02;
  number = place;
  tail = [];
  fits = fit;
  is = ap (λ (xs : List ℕ). 0x02 ∷ xs) (sym (append-nil (word_bytes place)));
  moves = λ v. ap (λ (xs : List ℕ). 0x02 ∷ xs) (sym (append-nil (word_bytes ((place + v) % 2 ^ 32))));
}
word_of (instr.Call place words) k fit may = record { op = 0x32; number = place; tail = word_bytes words; fits = fit.0; is = refl; moves = λ v. refl }
word_of (instr.Task place priority) k fit may = record { op = 0x50; number = place; tail = word_bytes priority; fits = fit.0; is = refl; moves = λ v. refl }
word_of (instr.Seed place words) k fit may = record { op = 0x5c; number = place; tail = word_bytes words; fits = fit.0; is = refl; moves = λ v. refl }
word_of (instr.Protected action object) k fit may = record {
  op = protected_number action;
  number = object;
  tail = [];
  fits = fit;
  is = ap (λ (xs : List ℕ). protected_number action ∷ xs) (sym (append-nil (word_bytes object)));
  moves = λ v. ap (λ (xs : List ℕ). protected_number action ∷ xs) (sym (append-nil (word_bytes ((object + v) % 2 ^ 32))));
}
word_of (instr.Plain p) k fit may = absurd may
word_of (instr.Sized s n) k fit may = absurd may
word_of (instr.Const c) k fit may = absurd may
word_of (instr.Frame depth word) k fit may = absurd may
word_of (instr.Check low high) k fit may = absurd may
word_of (instr.Index low high words) k fit may = absurd may
word_of (instr.Jump distance) k fit may = absurd may
word_of (instr.JumpZero distance) k fit may = absurd may
word_of (instr.PutText text) k fit may = absurd may
word_of (instr.PutName below names) k fit may = absurd may

-- what uses a symbol has such an operand
pub has_word : (i : Instr) (symbol : LinkSymbol) → IsPart (Using i symbol) → HasWord i
has_word i symbol h = word_of i symbol.kind h.0 h.1

-- one operand
operand_linked : (places : Places) (before after done rest_after : List ℕ) (base k : ℕ) (u : Relocation) (i : Instr) (h : HasWord i) → length done ≡ base + k → length before ≡ k → u.place ≡ k + 1
    → with_word (done ++ (encoded i ++ rest_after)) (base + u.place) ((number_at (before ++ (encoded i ++ after)) u.place + place_in places u.symbol) % 2 ^ 32) ≡ done ++ (encoded (shifted (place_in places u.symbol) i) ++ rest_after)
operand_linked places before after done rest_after base k u i h dl bl ul =
    let v = place_in places u.symbol in
    let one : number_at (before ++ (encoded i ++ after)) u.place ≡ h.number =
    ap (λ (xs : List ℕ). number_at (before ++ (xs ++ after)) u.place) h.is
    ∙ ap (λ (xs : List ℕ). number_at xs u.place) (split before h.op (word_bytes h.number) h.tail after)
    ∙ number_there (before ++ h.op ∷ []) (h.tail ++ after) h.number u.place (omega (arith, length-append before (h.op ∷ []))) h.fits in
    ap (λ (m : ℕ). with_word (done ++ (encoded i ++ rest_after)) (base + u.place) ((m + v) % 2 ^ 32)) one
    ∙ ap (λ (xs : List ℕ). with_word (done ++ (xs ++ rest_after)) (base + u.place) ((h.number + v) % 2 ^ 32)) h.is
    ∙ ap (λ (xs : List ℕ). with_word xs (base + u.place) ((h.number + v) % 2 ^ 32)) (split done h.op (word_bytes h.number) h.tail rest_after)
    ∙ word_written (done ++ h.op ∷ []) (word_bytes h.number) (h.tail ++ rest_after) ((h.number + v) % 2 ^ 32) (base + u.place) (omega (arith, length-append done (h.op ∷ []))) (word_length h.number)
    ∙ sym (split done h.op (word_bytes ((h.number + v) % 2 ^ 32)) h.tail rest_after)
    ∙ ap (λ (xs : List ℕ). done ++ (xs ++ rest_after)) (sym (h.moves v))

pub shifted_length : (i : Instr) (h : HasWord i) (v : ℕ) → length (encoded (shifted v i)) ≡ length (encoded i)
shifted_length i h v =
    ap length (h.moves v) ∙ omega (arith, length-append (word_bytes ((h.number + v) % 2 ^ 32)) h.tail, length-append (word_bytes h.number) h.tail, word_length ((h.number + v) % 2 ^ 32), word_length h.number) ∙ sym (ap length h.is)

-- the first piece's bytes, on either side of the place that linking has reached
moved : (places : Places) (base : ℕ) (before done rest_after x y : List ℕ) (us : List Relocation) (ps : List Part) (qs : List ℕ)
    → patched places ((before ++ x) ++ code_of ps) base ((done ++ y) ++ (code_of ps ++ rest_after)) us ≡ (done ++ y) ++ (qs ++ rest_after)
    → patched places (before ++ (x ++ code_of ps)) base (done ++ ((y ++ code_of ps) ++ rest_after)) us ≡ done ++ ((y ++ qs) ++ rest_after)
moved places base before done rest_after x y us ps qs ih =
    ap (λ (xs : List ℕ). patched places xs base (done ++ ((y ++ code_of ps) ++ rest_after)) us) (sym (append_assoc before x (code_of ps)))
    ∙ ap (λ (xs : List ℕ). patched places ((before ++ x) ++ code_of ps) base xs us) (ap (λ (xs : List ℕ). done ++ xs) (append_assoc y (code_of ps) rest_after) ∙ sym (append_assoc done y (code_of ps ++ rest_after)))
    ∙ ih ∙ append_assoc done y (qs ++ rest_after) ∙ ap (λ (xs : List ℕ). done ++ xs) (sym (append_assoc y qs rest_after))

-- after what is linked already
rest_linked : (places : Places) (base : ℕ) (rest_after before done : List ℕ) (ps : List Part) → length done ≡ base + length before → All IsPart ps → patched places (before ++ code_of ps) base (done ++ (code_of ps ++ rest_after)) (uses_from (length before) ps) ≡ done ++ (code_of (map (linked_part places) ps) ++ rest_after)
rest_linked places base rest_after before done [] len all = refl
rest_linked places base rest_after before done (Whole i ∷ ps) len all =
    let b : length (before ++ encoded i) ≡ length before + length (encoded i) = length-append before (encoded i) in
    let d : length (done ++ encoded i) ≡ length done + length (encoded i) = length-append done (encoded i) in
    let ih = rest_linked places base rest_after (before ++ encoded i) (done ++ encoded i) ps (omega arith) (All-tail IsPart (Whole i) ps all) in
    moved places base before done rest_after (encoded i) (encoded i) (uses_from (length before + length (encoded i)) ps) ps (code_of (map (linked_part places) ps)) (rw b at ih)
rest_linked places base rest_after before done (Using i symbol ∷ ps) len all =
    let v = place_in places symbol in
    let u : Relocation = record { place = length before + 1; symbol = symbol } in
    let y : List ℕ = encoded (shifted v i) in
    let same : length y ≡ length (encoded i) = shifted_length i (has_word i symbol (All-head IsPart (Using i symbol) ps all)) v in
    let b : length (before ++ encoded i) ≡ length before + length (encoded i) = length-append before (encoded i) in
    let d : length (done ++ y) ≡ length done + length y = length-append done y in
    let ih = rest_linked places base rest_after (before ++ encoded i) (done ++ y) ps (omega arith) (All-tail IsPart (Using i symbol) ps all) in
    let first : with_word (done ++ ((encoded i ++ code_of ps) ++ rest_after)) (base + (length before + 1)) ((number_at (before ++ (encoded i ++ code_of ps)) (length before + 1) + v) % 2 ^ 32) ≡ done ++ ((y ++ code_of ps) ++ rest_after) =
    ap (λ (xs : List ℕ). with_word (done ++ xs) (base + (length before + 1)) ((number_at (before ++ (encoded i ++ code_of ps)) (length before + 1) + v) % 2 ^ 32)) (append_assoc (encoded i) (code_of ps) rest_after)
    ∙ operand_linked places before (code_of ps) done (code_of ps ++ rest_after) base (length before) u i (has_word i symbol (All-head IsPart (Using i symbol) ps all)) len refl refl
    ∙ ap (λ (xs : List ℕ). done ++ xs) (sym (append_assoc y (code_of ps) rest_after)) in
    ap (λ (xs : List ℕ). patched places (before ++ (encoded i ++ code_of ps)) base xs (uses_from (length before + length (encoded i)) ps)) first
    ∙ moved places base before done rest_after (encoded i) y (uses_from (length before + length (encoded i)) ps) ps (code_of (map (linked_part places) ps)) (rw b at ih)

pub links_parts : LinksParts
links_parts places start rest_after ps all = rest_linked places (length start) rest_after [] start ps (omega arith) all
