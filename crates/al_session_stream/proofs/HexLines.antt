-- The lines of hexadecimal digits, one after the other.
use Rattle.std.proofs.Common.{◌≡◌, ℕ, suc, ◌+◌, ◌*◌, ◌/◌, ◌%◌, ◌<◌, ◌≤◌, min, List, [], ◌∷◌, ◌++◌, length, take, drop, set, get_or, refl, sym, ap, ◌∙◌, arith, inl, inr, append_assoc, append-nil, length-append, length-set}
use Rattle.std.specs.List.{flat_map}
use Rattle.std.specs.Simd.{first_chunks}
use Rattle.std.specs.Slice.Iter.{chunk_count}
use Rattle.std.proofs.lemmas.Bool.{cases_lt}
use Rattle.std.proofs.lemmas.List.{nil_from_length, take_all, take_at, drop_at, take_more, take_more_set}
use Rattle.std.proofs.lemmas.Grind.{flat_map-append}
use Rattle.al_session_stream.specs.Hexadecimal.{hex_digits, hex_of, hex_line, hex_lines}

pub hex_lines-none : hex_lines [] ≡ []
unfolding hex_lines
hex_lines-none = refl

-- one line, and those of the other bytes
pub hex_lines-more : (chunk rest : List ℕ) → 0 < length chunk → length chunk ≡ min 32 (length (chunk ++ rest)) → hex_lines (chunk ++ rest) ≡ hex_line chunk ++ hex_lines rest
unfolding hex_lines
hex_lines-more chunk rest some size =
    let total = length-append chunk rest in
    let count : chunk_count (length (chunk ++ rest)) 32 ≡ suc (chunk_count (length rest) 32) = omega (arith, total, size, some) in
    ap (λ (n : ℕ). flat_map hex_line (first_chunks 32 n (chunk ++ rest))) count
    ∙ elim (cases_lt (length (chunk ++ rest)) 32) [
      | inl short ↦
          let none : rest ≡ [] = nil_from_length rest (omega (arith, total, size, short)) in
          short_line none (omega (arith, total, size, short))
      | inr long ↦
          let whole : length chunk ≡ 32 = omega (arith, size, long) in
          ap (λ (line : List ℕ). hex_line line ++ flat_map hex_line (first_chunks 32 (chunk_count (length rest) 32) (drop 32 (chunk ++ rest)))) (take_at chunk rest 32 whole)
          ∙ ap (λ (others : List ℕ). hex_line chunk ++ flat_map hex_line (first_chunks 32 (chunk_count (length rest) 32) others)) (drop_at chunk rest 32 whole)
    ]
  where
    short_line : rest ≡ [] → length chunk ≤ 32 → flat_map hex_line (first_chunks 32 (suc (chunk_count (length rest) 32)) (chunk ++ rest)) ≡ hex_line chunk ++ flat_map hex_line (first_chunks 32 (chunk_count (length rest) 32) rest)
    short_line none le = rw none (ap (λ (line : List ℕ). hex_line line ++ []) (ap (take 32) (append-nil chunk) ∙ take_all 32 chunk le))

-- the same where the bytes are told apart from their parts
pub hex_lines-first : (all chunk rest : List ℕ) (size : ℕ) → all ≡ chunk ++ rest → 0 < length all → size ≡ 32 → length chunk ≡ min size (length all) → hex_lines all ≡ hex_line chunk ++ hex_lines rest
hex_lines-first all chunk rest size parts some is_32 short =
    let long = ap length parts in
    ap hex_lines parts ∙ hex_lines-more chunk rest (omega (arith, short, some, is_32)) (omega (arith, long, short, is_32))

-- the digits of one more byte in an array
pub hex_more : (text bytes : List ℕ) (i : ℕ) → i < length bytes → 2 * i + 1 < length text → take (2 * i) text ≡ flat_map hex_of (take i bytes)
    → take (2 * (i + 1)) (set (set text (2 * i) (get_or hex_digits (get_or bytes i 0 / 16) 0)) (2 * i + 1) (get_or hex_digits (get_or bytes i 0 % 16) 0)) ≡ flat_map hex_of (take (i + 1) bytes)
hex_more text bytes i there room so_far =
    let high = get_or hex_digits (get_or bytes i 0 / 16) 0 in
    let low = get_or hex_digits (get_or bytes i 0 % 16) 0 in
    let next : 2 * (i + 1) ≡ 2 * i + 1 + 1 = omega arith in
    let first = take_more_set text (2 * i) high (omega (arith, room)) in
    let second = take_more_set (set text (2 * i) high) (2 * i + 1) low (rw length-set room) in
    rw next (second ∙ ap (λ (t : List ℕ). t ++ low ∷ []) (first ∙ ap (λ (t : List ℕ). t ++ high ∷ []) so_far) ∙ append_assoc (flat_map hex_of (take i bytes)) (high ∷ []) (low ∷ [])
    ∙ sym (ap (flat_map hex_of) (take_more bytes i 0 there) ∙ flat_map-append hex_of (take i bytes) (get_or bytes i 0 ∷ [])))

-- all digits, and a line end after them
pub hex_ends : (text bytes : List ℕ) → 2 * length bytes < length text → take (2 * length bytes) text ≡ flat_map hex_of bytes → take (2 * length bytes + 1) (set text (2 * length bytes) 10) ≡ hex_line bytes
unfolding hex_line
hex_ends text bytes room so_far = take_more_set text (2 * length bytes) 10 room ∙ ap (λ (t : List ℕ). t ++ 10 ∷ []) so_far
