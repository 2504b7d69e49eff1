-- Runs of bytes of one kind.
use Rattle.std.proofs.Common.{ℕ, ◌≡◌, ◌==◌, ◌<◌, Bool, true, false, refl, List, [], ◌∷◌, get_or, arith, ◌||◌, ◌&&◌, eqb-true}
use Rattle.std.specs.Char.{is_ascii_alphabetic, is_ascii_alphanumeric}
use Rattle.std.specs.Int.{is_in_range}
use Rattle.std.specs.List.{prefix_len}
use Rattle.std.proofs.lemmas.Bool.{or_left}
use Rattle.al_base.specs.Identifiers.{is_word_byte}
use Rattle.al_lex.specs.Bytes.{is_inside_line}
use Rattle.al_lex.proofs.Joined.{both_left}

ors : (p q r : Bool) → (q || r) ≡ true → ((p || q) || r) ≡ true
ors true q r h = refl
ors false q r h = h

pub letter_in_word : (b : ℕ) → is_ascii_alphabetic b ≡ true → is_word_byte b ≡ true
letter_in_word b h = or_left (is_ascii_alphanumeric b) (b == 95) (ors (is_in_range 48 57 b) (is_in_range 65 90 b) (is_in_range 97 122 b) h)

-- a word has a byte at least
pub some_word : (bs : List ℕ) → is_ascii_alphabetic (get_or bs 0 0) ≡ true → 0 < prefix_len is_word_byte bs
some_word [] h = absurd (cc)
some_word (b ∷ bs) h = let w : is_word_byte b ≡ true = letter_in_word b h in rw w (omega arith)

-- a comment too
pub some_comment : (bs : List ℕ) → (get_or bs 0 0 == 45 && get_or bs 1 0 == 45) ≡ true → 0 < prefix_len is_inside_line bs
some_comment [] h = absurd (cc)
some_comment (b ∷ bs) h = let e : b ≡ 45 = eqb-true b 45 (both_left _ _ h) in rw e (omega arith)
