-- What is read as a unit, and what isn't.
use Rattle.std.proofs.Common.{◌≡◌, ◌∙◌, ◌≤◌, ◌<◌, ℕ, Bool, true, false, List, Option, Some, None, length, nat_le, refl, sym, ap, if◌then◌else◌, arith}
use Rattle.std.proofs.lemmas.Bool.Decides.{nat_tests}
use Rattle.al_tree_syntax.specs.UnitTrees.{CompilationUnitTree}
use Rattle.al_unit.specs.Readings.{Reading, reading_of, unit_read}
use Rattle.al_unit.specs.Readings.Reading.{Sentence, Fails}
use Rattle.al_unit.specs.Texts.{HeadersAreRead, UnitsAreRead, header_if_read, header_in, unit_in}

pub headers_read : HeadersAreRead
unfolding header_in
headers_read text tree is = ap header_if_read is

le_test : (a b : ℕ) → a ≤ b → nat_le a b ≡ true
le_test a b h = grind (arith, nat_tests)

gt_test : (a b : ℕ) → b < a → nat_le a b ≡ false
gt_test a b h = grind (arith, nat_tests)

le_is : (a b : ℕ) → nat_le a b ≡ true → a ≤ b
le_is a b h = grind (arith, nat_tests)

if_fits : (text : List ℕ) → nat_le (length text) 4294967294 ≡ true → unit_in text ≡ unit_read (reading_of text)
unfolding unit_in
if_fits text h = ap (λ (b : Bool). let unit : Option CompilationUnitTree = if b then unit_read (reading_of text) else None in unit) h

if_long : (text : List ℕ) → nat_le (length text) 4294967294 ≡ false → unit_in text ≡ None
unfolding unit_in
if_long text h = ap (λ (b : Bool). let unit : Option CompilationUnitTree = if b then unit_read (reading_of text) else None in unit) h

-- of a text that can be read it is that of the reading
pub fits : (text : List ℕ) → length text ≤ 4294967294 → (reading : Reading) → reading ≡ reading_of text → unit_read reading ≡ unit_in text
fits text h reading is = ap unit_read is ∙ sym (if_fits text (le_test (length text) 4294967294 h))

pub is_long : (text : List ℕ) → 4294967294 < length text → None ≡ unit_in text
is_long text h = sym (if_long text (gt_test (length text) 4294967294 h))

a_sentence : (reading : Reading) (tree : CompilationUnitTree) → unit_read reading ≡ Some tree → reading ≡ Sentence tree
a_sentence (Sentence found) tree is = let same : found ≡ tree = cc in ap Sentence same
a_sentence (Fails place code) tree is = cc

pub units_read : UnitsAreRead
units_read text tree is = at (nat_le (length text) 4294967294) refl
  where
    at : (b : Bool) → nat_le (length text) 4294967294 ≡ b → (length text ≤ 4294967294) × (reading_of text ≡ Sentence tree)
    at true h = (le_is (length text) 4294967294 h, a_sentence (reading_of text) tree (sym (if_fits text h) ∙ is))
    at false h = let none : None ≡ Some tree = sym (if_long text h) ∙ is in absurd (cc)
