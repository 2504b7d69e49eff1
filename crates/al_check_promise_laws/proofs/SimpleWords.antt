-- The identifiers of a source have no dots.
use Rattle.std.proofs.Common.{◌≡◌, refl, sym, subst, ◌∙◌, ap, arith, true≢false, ℕ, suc, ◌+◌, Bool, true, false, List, [], ◌∷◌, drop, map, take, Option, Some, None, Ok, if◌then◌else◌}
use Rattle.std.specs.Bool.{⊤}
use Rattle.std.specs.Char.{is_ascii_alphabetic, is_ascii_digit, to_ascii_lowercase}
use Rattle.std.specs.List.{list_all, prefix_len}
use Rattle.std.specs.Prelude.{◌==◌, ◌&&◌, cond, nat_le, nat_lt, not, length, slice_index, Result, Err}
use Rattle.std.proofs.Math.Seq.{drop-drop}
use Rattle.al_base.specs.Identifiers.{has_bad_underscore, is_word_byte}
use Rattle.al_base.specs.ReservedWords.{reserved_at}
use Rattle.al_base.specs.declared.place.Place.{Place}
use Rattle.al_base.specs.declared.reserved.ReservedWord.{ReservedWord}
use Rattle.al_base.specs.declared.reserved.ReservedWord.TheVariants as words
use Rattle.al_lex.proofs.Cutting.{tokens_are_cut}
use Rattle.al_lex.specs.Bytes.{is_blank, is_line_end}
use Rattle.al_lex.specs.Delimiters.{double, single}
use Rattle.al_lex.specs.Numbers.{number as number_front, number_at, number_len, number_piece, parts_of}
use Rattle.al_lex.specs.Pieces.{delimiter, front_piece, lone, paired}
use Rattle.al_lex.specs.Strings.{body_len, string_piece}
use Rattle.al_lex.specs.Tokens.{Cut, Ending, lexed, with_piece}
use Rattle.al_lex.specs.Tokens.Cut.{ended, malformed, next}
use Rattle.al_lex.specs.Words.{kind_of, word as word_piece, word_kind}
use Rattle.al_lex.specs.declared.delimiter.Delimiter.{Delimiter}
use Rattle.al_lex.specs.declared.delimiter.Delimiter.TheVariants as delimiters
use Rattle.al_lex.specs.declared.token.Kind.{Kind}
use Rattle.al_lex.specs.declared.token.Kind.TheVariants as kinds
use Rattle.al_lex.specs.declared.token.LexFault.{LexFault}
use Rattle.al_lex.specs.declared.token.Token.{Token}
use Rattle.al_query_outcome.specs.Defines.{is_simple}
use Rattle.al_tree.proofs.Labels.{identifier_label_of}
use Rattle.al_tree.specs.Lexemes.{has_text, label_of, lexeme_as, lexeme_of, lexemes}
use Rattle.al_tree.specs.Spellings.{text_of}
use Rattle.al_tree.specs.Symbols.{delimiter_symbol, kind_symbol, reserved_symbol, symbol_of}
use Rattle.al_tree_grammar.specs.Grammar.{Label, Lexeme, kind}
use Rattle.al_tree_syntax.proofs.Laws.{symbols_numbered}
use Rattle.al_tree_syntax.proofs.TreeLaws.{trees_found}
use Rattle.al_tree_syntax.specs.Symbols.{Symbol, Symbol as symbols, is_labelled, number, symbol_at}
use Rattle.al_tree_syntax.specs.TreeLaws.{unit_of}
use Rattle.al_tree_syntax.specs.UnitTrees.{CompilationUnitTree, tokens_of}
use Rattle.al_tree_syntax.specs.Words.{labelled, word}
use Rattle.al_unit.specs.Readings.{by_tokens, by_unit, reading_of, unit_read}
use Rattle.al_unit.specs.Texts.{unit_in}
use Rattle.al_view.proofs.SymbolLemmas.{and_both, both}
use Rattle.al_check_promise_laws.proofs.AllLemmas.{All}

-- ---- tokens are spelt as their kinds say

abbrev OfKind : Kind → List ℕ → Type 0
OfKind kinds.Identifier text = list_all is_word_byte text ≡ true
OfKind kinds.Number text = ⊤
OfKind kinds.Str text = ⊤
OfKind (kinds.Reserved w) text = ⊤
OfKind (kinds.Delimiter d) text = ⊤

abbrev pub IsSpelt : List ℕ → Token → Type 0
IsSpelt text t = OfKind t.kind (text_of text t.span)

word-of-kind : (text : List ℕ) (o : Option ReservedWord) → list_all is_word_byte text ≡ true → OfKind (kind_of o) text
word-of-kind text None e = e
word-of-kind text (Some w) e = tt

word-bytes : (p : ℕ → Bool) (xs : List ℕ) → list_all p (take (prefix_len p xs) xs) ≡ true
word-bytes p [] = refl
word-bytes p (x ∷ xs) = by (p x) refl (word-bytes p xs)
  where
    by : (b : Bool) → p x ≡ b → list_all p (take (prefix_len p xs) xs) ≡ true → list_all p (take (cond b (1 + prefix_len p xs) 0) (x ∷ xs)) ≡ true
    by true e more =
        let one : suc (prefix_len p xs) ≡ 1 + prefix_len p xs = omega arith in
        subst (λ (m : ℕ). list_all p (take m (x ∷ xs)) ≡ true) one (and_both (p x) (list_all p (take (prefix_len p xs) xs)) e more)
    by false e more = refl

-- the type of something: al_lex doesn't export those of pieces
abbrev TypeOf : {A : Type 0} → A → Type 0
TypeOf {A = A} a = A

abbrev Front : Type 0
Front = TypeOf (front_piece [])

-- the tokens after a piece at the front of what comes after so many bytes
module _ (text : List ℕ) (at : ℕ) (p : Place) (ts : List Token) (e : Ending) (rest : All (IsSpelt text) ts) where
  abbrev Fine : Front → Type 0
  Fine r = All (IsSpelt text) (with_piece at p r (λ q. record { tokens = ts; ending = e })).tokens

  chosen : (b : Bool) (x y : Front) → Fine x → Fine y → Fine (if b then x else y)
  chosen true x y f g = f
  chosen false x y f g = g

  fine-word : (bs : List ℕ) → bs ≡ drop at text → Fine (word_piece bs)
  unfolding word_piece
  fine-word bs is =
      let n = prefix_len is_word_byte bs in
      chosen (has_bad_underscore (take n bs)) _ _ tt (chosen (nat_lt 200 n) _ _ tt (subst (λ (l : List ℕ). OfKind (word_kind (take n bs)) (take n l)) is (word-of-kind (take n bs) (reserved_at (map to_ascii_lowercase (take n bs))) (word-bytes is_word_byte bs)), rest))

  fine-string : (o : Option ℕ) → Fine (string_piece o)
  fine-string None = tt
  fine-string (Some n) = (tt, rest)

  fine-number : (bs : List ℕ) → Fine (number_front bs)
  unfolding number_front
  fine-number bs = by (number_at (parts_of bs) bs)
    where
      by : (r : TypeOf (number_at (parts_of bs) bs)) → Fine (number_piece (number_len (parts_of bs)) r)
      by (Ok n) = (tt, rest)
      by (Err c) = tt

  fine-lone : (b : ℕ) (bs : List ℕ) → b ∷ bs ≡ drop at text → (o : Option Delimiter) → single b ≡ o → Fine (lone o)
  fine-lone b bs is None i = tt
  fine-lone b bs is (Some d) i = (tt, rest)

  fine-delimiter : (bs : List ℕ) → bs ≡ drop at text → Fine (delimiter bs)
  fine-delimiter [] is = tt
  fine-delimiter (b ∷ []) is = fine-lone b [] is (single b) refl
  fine-delimiter (b ∷ c ∷ bs) is = by (double b c) refl
    where
      by : (o : Option Delimiter) → double b c ≡ o → Fine (paired o (single b))
      by None i = fine-lone b (c ∷ bs) is (single b) refl
      by (Some d) i = (tt, rest)

  fine-front : (bs : List ℕ) → bs ≡ drop at text → Fine (front_piece bs)
  unfolding front_piece
  fine-front bs is =
      let b = slice_index bs 0 in
      let c = slice_index bs 1 in
      chosen (is_blank b) _ _ rest
      (chosen (b == 13 && c == 10) _ _ rest
      (chosen (is_line_end b) _ _ rest
      (chosen (b == 45 && c == 45) _ _ rest
      (chosen (is_ascii_alphabetic b) _ _ (fine-word bs is)
      (chosen (b == 34) _ _ (fine-string (body_len (drop 1 bs)))
      (chosen (is_ascii_digit b) _ _ (fine-number bs) (fine-delimiter bs is)))))))

cut-spelt : (text : List ℕ) {at : ℕ} {p : Place} {bs : List ℕ} {ts : List Token} {e : Ending} → bs ≡ drop at text → Cut at p bs ts e → All (IsSpelt text) ts
cut-spelt text is ended = tt
cut-spelt text is (malformed h) = tt
cut-spelt text {at = at} {p = p} {e = e} is (next {b = b} {bs = bs} {ts = ts} q h rest) =
    let after_it = cut-spelt text (ap (drop q.len) is ∙ drop-drop q.len at text) rest in
    subst (λ r. All (IsSpelt text) (with_piece at p r (λ q'. record { tokens = ts; ending = e })).tokens) h (fine-front text at p ts e after_it (b ∷ bs) is)

tokens-spelt : (text : List ℕ) (tokens : List Token) → lexed text ≡ Ok tokens → All (IsSpelt text) tokens
tokens-spelt text tokens is = cut-spelt text refl ((tokens_are_cut text tokens).0 is)

-- ---- no dot

low : (b : ℕ) → to_ascii_lowercase b ≡ 46 → b ≡ 46
low b e = at (nat_lt b 65) (nat_lt b 91) refl refl e
  where
    at : (c d : Bool) → nat_lt b 65 ≡ c → nat_lt b 91 ≡ d → cond c b (cond d (b + 32) b) ≡ 46 → b ≡ 46
    at true d i j k = k
    at false true i j k = absurd (grind (arith, i, k))
    at false false i j k = k

no-dot : (b : ℕ) → is_word_byte b ≡ true → not (to_ascii_lowercase b == 46) ≡ true
no-dot b w = at (to_ascii_lowercase b == 46) refl
  where
    at : (c : Bool) → (to_ascii_lowercase b == 46) ≡ c → not c ≡ true
    at false e = refl
    at true e =
        let same : to_ascii_lowercase b ≡ 46 = grind (arith, e) in
        let dot : is_word_byte 46 ≡ true = subst (λ (n : ℕ). is_word_byte n ≡ true) (low b same) w in
        absurd (true≢false (sym dot))

no-dots : (bs : List ℕ) → list_all is_word_byte bs ≡ true → is_simple (map to_ascii_lowercase bs) ≡ true
no-dots [] w = refl
no-dots (b ∷ bs) w =
    let m = both (is_word_byte b) (list_all is_word_byte bs) w in and_both (not (to_ascii_lowercase b == 46)) (is_simple (map to_ascii_lowercase bs)) (no-dot b m.0) (no-dots bs m.1)

-- ---- each lexeme

word-plain : (w : ReservedWord) → has_text (reserved_symbol w) ≡ false
word-plain words.Abort = refl
word-plain _ = refl

delimiter-plain : (d : Delimiter) → has_text (delimiter_symbol d) ≡ false
delimiter-plain delimiters.Plus = refl
delimiter-plain _ = refl

module _ (text : List ℕ) where
  -- a lexeme is that of a token
  pub record Of (x : Lexeme) : Type 0 where
    pub token : Token
    pub spelt : IsSpelt text token
    pub is : lexeme_of text token ≡ x

  one-symbol : (r s : Symbol) → number r ≡ number s → r ≡ s
  one-symbol r s e = sym (symbols_numbered r) ∙ ap symbol_at e ∙ symbols_numbered s

  kind-is : (s : Symbol) (l : Label) → kind (lexeme_as s l) ≡ number s
  kind-is s l = at (is_labelled s)
    where
      at : (b : Bool) → kind (if b then labelled s l else word s) ≡ number s
      at true = refl
      at false = refl

  symbol-is : (x : Lexeme) (s : Symbol) → kind x ≡ number s → (o : Of x) → symbol_of o.token ≡ s
  symbol-is x s e o = one-symbol (symbol_of o.token) s (sym (kind-is (symbol_of o.token) (label_of text o.token)) ∙ ap kind o.is ∙ e)

  label-is : (l x : Label) → labelled symbols.Identifier l ≡ labelled symbols.Identifier x → l ≡ x
  label-is l x e = cc

  -- a token with the symbol of identifiers is one
  identifier-kind : (k : Kind) → kind_symbol k ≡ symbols.Identifier → k ≡ kinds.Identifier
  identifier-kind kinds.Identifier e = refl
  identifier-kind kinds.Number e = absurd (cc)
  identifier-kind kinds.Str e = absurd (cc)
  identifier-kind (kinds.Reserved w) e = absurd (true≢false (sym (ap has_text e) ∙ word-plain w))
  identifier-kind (kinds.Delimiter d) e = absurd (true≢false (sym (ap has_text e) ∙ delimiter-plain d))

  pub identifier-simple : (x : Label) → Of (labelled symbols.Identifier x) → is_simple x.text ≡ true
  unfolding symbol_of
  identifier-simple x o =
      let i = symbol-is (labelled symbols.Identifier x) symbols.Identifier refl o in
      let l = label-is (label_of text o.token) x (ap (λ s. lexeme_as s (label_of text o.token)) (sym i) ∙ o.is) in
      let w : list_all is_word_byte (text_of text o.token.span) ≡ true = subst (λ (k : Kind). OfKind k (text_of text o.token.span)) (identifier-kind o.token.kind i) o.spelt in
      subst (λ (n : List ℕ). is_simple n ≡ true) (ap (λ (y : Label). y.text) (sym (identifier_label_of text o.token i) ∙ l)) (no-dots (text_of text o.token.span) w)

  each : (ts : List Token) → All (IsSpelt text) ts → All Of (lexemes text ts)
  each [] a = tt
  each (t ∷ ts) a = (record { token = t; spelt = a.0; is = refl }, each ts a.1)

-- ---- a source that is read as a unit has tokens, whose lexemes are the tree's

abbrev HasTokens : List ℕ → CompilationUnitTree → Type 0
HasTokens text tree = (tokens : List Token) × (lexed text ≡ Ok tokens) × (tokens_of tree ≡ lexemes text tokens)

from-unit : (text : List ℕ) (tree : CompilationUnitTree) (tokens : List Token) → lexed text ≡ Ok tokens → (o : Option CompilationUnitTree) → unit_of (lexemes text tokens) ≡ o → unit_read (by_unit text tokens o) ≡ Some tree → HasTokens text tree
from-unit text tree tokens l (Some u) e i = (tokens, l, ((trees_found (lexemes text tokens) tree).0 (e ∙ i)).0)
from-unit text tree tokens l None e i = absurd (cc)

from-tokens : (text : List ℕ) (tree : CompilationUnitTree) (r : Result (List Token) LexFault) → lexed text ≡ r → unit_read (by_tokens text r) ≡ Some tree → HasTokens text tree
from-tokens text tree (Ok tokens) l i = from-unit text tree tokens l (unit_of (lexemes text tokens)) refl i
from-tokens text tree (Err f) l i = absurd (cc)

has-tokens : (text : List ℕ) (tree : CompilationUnitTree) → unit_in text ≡ Some tree → HasTokens text tree
unfolding unit_in reading_of
has-tokens text tree i = at (nat_le (length text) 4294967294) i
  where
    at : (b : Bool) → (if b then unit_read (reading_of text) else None) ≡ Some tree → HasTokens text tree
    at true e = from-tokens text tree (lexed text) refl e
    at false e = absurd (cc)

-- all lexemes of the tree are lexemes of the text
pub tree-lexemes : (text : List ℕ) (tree : CompilationUnitTree) → unit_in text ≡ Some tree → All (Of text) (tokens_of tree)
tree-lexemes text tree i =
    let has = has-tokens text tree i in subst (λ (xs : List Lexeme). All (Of text) xs) (sym has.2) (each text has.0 (tokens-spelt text has.0 has.1))
