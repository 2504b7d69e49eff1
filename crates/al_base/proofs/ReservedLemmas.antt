-- Each reserved word is found by its spelling.
use Rattle.std.proofs.Common.{◌≡◌, ◌≢◌, ℕ, Bool, true, false, cond, map, List, [], ◌∷◌, length, get_or, slice_index, nat_lt, Option, Some, None, refl, sym, ap, ◌∙◌}
use Rattle.std.specs.Prelude.{IfSome, IfNone}
use Rattle.std.specs.List.{find}
use Rattle.std.specs.Char.{to_ascii_lowercase}
use Rattle.std.specs.Str.{bytes_eq}
use Rattle.std.proofs.lemmas.Slice.Eq.{bytes_eq-Decides}
use Rattle.al_base.specs.declared.reserved.ReservedWord.{ReservedWord}
use Rattle.al_base.specs.declared.reserved.ReservedWord.TheVariants.{Abort}
use Rattle.al_base.specs.ReservedPlaces.{place_of}
use Rattle.al_base.specs.ReservedWords.{spelling, reserved_words, reserved_at}

pub reserved_at-spelling : (w : ReservedWord) → reserved_at (spelling w) ≡ Some w
unfolding reserved_at reserved_words spelling
reserved_at-spelling Abort = refl
reserved_at-spelling w = refl

find-true : {X : Type 0} (p : X → Bool) (xs : List X) (x : X) → find p xs ≡ Some x → p x ≡ true
find-true p [] x is = cc
find-true {X = X} p (y ∷ xs) x is = step (p y) refl is (find-true p xs x)
  where
    step : (b : Bool) → p y ≡ b → cond b (Some y) (find p xs) ≡ Some x → (find p xs ≡ Some x → p x ≡ true) → p x ≡ true
    step true here is rest = cc
    step false here is rest = rest is

-- what is found is spelled so
pub IfSome-reserved_at : (r : Option ReservedWord) (text : List ℕ) → r ≡ reserved_at text → IfSome r (λ w. spelling w ≡ text)
unfolding reserved_at
IfSome-reserved_at None text is = tt
IfSome-reserved_at (Some w) text is = (bytes_eq-Decides (spelling w) text).0 (find-true (λ v. bytes_eq (spelling v) text) reserved_words w (sym is))

-- where none is found, no word is spelled so
pub IfNone-reserved_at : (r : Option ReservedWord) (text : List ℕ) → r ≡ reserved_at text → IfNone r ((w : ReservedWord) → spelling w ≢ text)
IfNone-reserved_at None text is = λ w same. let found = reserved_at-spelling w in let again = ap reserved_at same in cc
IfNone-reserved_at (Some w) text is = tt

-- where none is spelled so, none is found
pub reserved_at-none : (text : List ℕ) → ((w : ReservedWord) → spelling w ≢ text) → reserved_at text ≡ None
reserved_at-none text off = step (reserved_at text) refl
  where
    step : (r : Option ReservedWord) → reserved_at text ≡ r → r ≡ None
    step None is = refl
    step (Some w) is = absurd (off w (IfSome-reserved_at (Some w) text (sym is)))

-- a spelling is in lower case
pub lowercase-spelling : (w : ReservedWord) → map to_ascii_lowercase (spelling w) ≡ spelling w
unfolding spelling
lowercase-spelling Abort = refl
lowercase-spelling w = refl

-- the one word that may be spelled so is found where it is spelled so
pub reserved_at-same : (w : ReservedWord) (text : List ℕ) → map to_ascii_lowercase (spelling w) ≡ text → Some w ≡ reserved_at text
reserved_at-same w text same = sym (reserved_at-spelling w) ∙ ap reserved_at (sym (lowercase-spelling w) ∙ same)

-- and where it isn't, no word is
pub reserved_at-other : (w : ReservedWord) (text : List ℕ) → ((v : ReservedWord) → spelling v ≡ text → Some w ≡ Some v) → map to_ascii_lowercase (spelling w) ≢ text → None ≡ reserved_at text
reserved_at-other w text one other = sym (reserved_at-none text (λ v same. other (lowercase-spelling w ∙ ap spelling (some (one v same)) ∙ same)))
  where
    some : {v : ReservedWord} → Some w ≡ Some v → w ≡ v
    some is = cc

-- by a spelling's place, where the word stands by the alphabet
unfoldable pub numbers : List ℕ
numbers =
    73 ∷ 73 ∷ 18 ∷ 73 ∷ 73 ∷ 73 ∷ 73 ∷ 68 ∷ 73 ∷ 73 ∷ 73 ∷ 22 ∷ 73 ∷ 73 ∷ 73 ∷ 32 ∷ 73 ∷ 2 ∷ 73 ∷ 73 ∷ 73 ∷ 73 ∷ 73 ∷ 73 ∷
    73 ∷ 24 ∷ 45 ∷ 73 ∷ 73 ∷ 20 ∷ 73 ∷ 73 ∷ 53 ∷ 60 ∷ 44 ∷ 73 ∷ 36 ∷ 27 ∷ 73 ∷ 73 ∷ 73 ∷ 73 ∷ 15 ∷ 1 ∷ 73 ∷ 67 ∷ 73 ∷ 73 ∷
    34 ∷ 73 ∷ 14 ∷ 73 ∷ 73 ∷ 43 ∷ 73 ∷ 73 ∷ 73 ∷ 6 ∷ 73 ∷ 73 ∷ 54 ∷ 73 ∷ 73 ∷ 73 ∷ 73 ∷ 7 ∷ 73 ∷ 73 ∷ 73 ∷ 21 ∷ 38 ∷ 73 ∷
    11 ∷ 9 ∷ 73 ∷ 13 ∷ 73 ∷ 73 ∷ 73 ∷ 73 ∷ 73 ∷ 73 ∷ 73 ∷ 73 ∷ 48 ∷ 73 ∷ 46 ∷ 73 ∷ 73 ∷ 73 ∷ 73 ∷ 73 ∷ 73 ∷ 59 ∷ 73 ∷ 73 ∷
    73 ∷ 73 ∷ 73 ∷ 73 ∷ 73 ∷ 73 ∷ 73 ∷ 73 ∷ 73 ∷ 35 ∷ 26 ∷ 73 ∷ 73 ∷ 73 ∷ 51 ∷ 61 ∷ 73 ∷ 73 ∷ 73 ∷ 42 ∷ 73 ∷ 73 ∷ 25 ∷ 73 ∷
    50 ∷ 73 ∷ 47 ∷ 73 ∷ 56 ∷ 73 ∷ 73 ∷ 4 ∷ 73 ∷ 73 ∷ 73 ∷ 73 ∷ 73 ∷ 73 ∷ 73 ∷ 73 ∷ 72 ∷ 73 ∷ 73 ∷ 73 ∷ 73 ∷ 41 ∷ 73 ∷ 73 ∷
    62 ∷ 28 ∷ 55 ∷ 73 ∷ 73 ∷ 73 ∷ 73 ∷ 71 ∷ 73 ∷ 73 ∷ 16 ∷ 73 ∷ 73 ∷ 73 ∷ 73 ∷ 73 ∷ 73 ∷ 73 ∷ 73 ∷ 73 ∷ 73 ∷ 3 ∷ 73 ∷ 73 ∷
    73 ∷ 73 ∷ 73 ∷ 73 ∷ 52 ∷ 73 ∷ 73 ∷ 73 ∷ 73 ∷ 73 ∷ 66 ∷ 73 ∷ 73 ∷ 29 ∷ 73 ∷ 57 ∷ 73 ∷ 73 ∷ 73 ∷ 39 ∷ 73 ∷ 0 ∷ 73 ∷ 73 ∷
    33 ∷ 73 ∷ 73 ∷ 73 ∷ 73 ∷ 30 ∷ 73 ∷ 73 ∷ 73 ∷ 73 ∷ 37 ∷ 73 ∷ 73 ∷ 73 ∷ 73 ∷ 8 ∷ 73 ∷ 73 ∷ 73 ∷ 40 ∷ 65 ∷ 5 ∷ 73 ∷ 69 ∷
    73 ∷ 73 ∷ 73 ∷ 73 ∷ 73 ∷ 73 ∷ 73 ∷ 31 ∷ 73 ∷ 73 ∷ 73 ∷ 73 ∷ 73 ∷ 73 ∷ 73 ∷ 73 ∷ 73 ∷ 58 ∷ 63 ∷ 73 ∷ 49 ∷ 73 ∷ 64 ∷ 73 ∷
    73 ∷ 70 ∷ 17 ∷ 73 ∷ 73 ∷ 12 ∷ 73 ∷ 19 ∷ 73 ∷ 23 ∷ 10 ∷ 73 ∷ 73 ∷ 73 ∷ 73 ∷ 73 ∷ []

pub number-below : (w : ReservedWord) → nat_lt (slice_index numbers (place_of (spelling w))) 73 ≡ true
unfolding numbers place_of spelling
number-below Abort = refl
number-below w = refl

pub number-word : (w : ReservedWord) → get_or reserved_words (slice_index numbers (place_of (spelling w))) Abort ≡ w
unfolding numbers place_of spelling reserved_words
number-word Abort = refl
number-word w = refl

pub places-apart : (v w : ReservedWord) → place_of (spelling v) ≡ place_of (spelling w) → v ≡ w
places-apart v w same = sym (number-word v) ∙ ap (λ p. get_or reserved_words (slice_index numbers p) Abort) same ∙ number-word w

pub spelling-some : (w : ReservedWord) → nat_lt 0 (length (spelling w)) ≡ true
unfolding spelling
spelling-some Abort = refl
spelling-some w = refl
