-- What the lexemes of a text spell is among the text's words.
use Rattle.std.proofs.Common.{◌≡◌, refl, sym, subst, ◌∙◌, ap, true≢false, ℕ, Bool, true, false, ◌||◌, List, [], ◌∷◌, ◌++◌, drop, map, take, Option, Some, None, Ok, codes, if◌then◌else◌}
use Rattle.std.specs.Bool.{⊤}
use Rattle.std.specs.Char.{is_ascii_alphabetic, is_ascii_digit, to_ascii_lowercase}
use Rattle.std.specs.List.{find, list_any, prefix_len}
use Rattle.std.specs.Prelude.{◌==◌, ◌&&◌, nat_lt, slice_index, Result, Err}
use Rattle.std.specs.Str.{bytes_eq}
use Rattle.std.proofs.Math.Seq.{drop-drop}
use Rattle.std.proofs.lemmas.Slice.Eq.{bytes_eq-Decides}
use Rattle.indexmap.specs.IndexSet.{insert_all, insert_key}
use Rattle.al_base.specs.ReservedWords.{reserved_at, spelling}
use Rattle.al_base.specs.declared.place.Place.{Place}
use Rattle.al_base.specs.declared.reserved.ReservedWord.{ReservedWord}
use Rattle.al_base.specs.declared.reserved.ReservedWord.TheVariants as words
use Rattle.al_lex.proofs.Cutting.{tokens_are_cut}
use Rattle.al_lex.specs.Delimiters.{double, single, written}
use Rattle.al_lex.specs.Bytes.{is_blank, is_line_end}
use Rattle.al_lex.specs.Numbers.{number as number_front, number_at, number_len, number_piece, parts_of}
use Rattle.al_lex.specs.Pieces.{delimiter, front_piece, lone, paired}
use Rattle.al_lex.specs.Strings.{body_len, string_piece}
use Rattle.al_lex.specs.Words.{kind_of, word as word_piece, word_kind}
use Rattle.al_lex.proofs.Written.{double_written, single_written}
use Rattle.al_base.specs.Identifiers.{has_bad_underscore, is_word_byte}
use Rattle.al_lex.specs.Tokens.{Cut, Ending, lexed, with_piece}
use Rattle.al_lex.specs.Tokens.Cut.{ended, malformed, next}
use Rattle.al_lex.specs.declared.delimiter.Delimiter.{Delimiter}
use Rattle.al_lex.specs.declared.delimiter.Delimiter.TheVariants as delimiters
use Rattle.al_lex.specs.declared.token.Kind.{Kind}
use Rattle.al_lex.specs.declared.token.Kind.TheVariants as kinds
use Rattle.al_lex.specs.declared.token.LexFault.{LexFault}
use Rattle.al_lex.specs.declared.token.Token.{Token}
use Rattle.al_query_outcome.specs.Words.{word_of, words_if, words_of}
use Rattle.al_tree.proofs.Labels.{identifier_label_of}
use Rattle.al_tree.specs.Lexemes.{label_of, lexeme_as, lexeme_of, lexemes}
use Rattle.al_tree.specs.Spellings.{text_of}
use Rattle.al_tree.specs.Symbols.{delimiter_symbol, kind_symbol, reserved_symbol, symbol_of}
use Rattle.al_tree_grammar.specs.Grammar.{Label, Lexeme, kind}
use Rattle.al_tree_syntax.proofs.Laws.{symbols_numbered}
use Rattle.al_tree_syntax.specs.Symbols.{Symbol, Symbol as symbols, is_labelled, number, symbol_at}
use Rattle.al_tree_syntax.specs.Words.{labelled, word}
use Rattle.al_check_bound_laws.proofs.AllLemmas.{All}
use Rattle.al_check_bound_laws.proofs.Members.{any-left, any-right}
use Rattle.al_check_bound_laws.proofs.Spelt.{Spells}

-- ---- tokens are spelt as their kinds say

abbrev OfKind : Kind → List ℕ → Type 0
OfKind kinds.Identifier text = ⊤
OfKind kinds.Number text = ⊤
OfKind kinds.Str text = ⊤
OfKind (kinds.Reserved w) text = reserved_at (map to_ascii_lowercase text) ≡ Some w
OfKind (kinds.Delimiter d) text = written d ≡ text

abbrev pub IsSpelt : List ℕ → Token → Type 0
IsSpelt text t = OfKind t.kind (text_of text t.span)

word-of-kind : (text : List ℕ) (o : Option ReservedWord) → reserved_at (map to_ascii_lowercase text) ≡ o → OfKind (kind_of o) text
word-of-kind text None e = tt
word-of-kind text (Some w) e = e

-- the type of something: al_lex doesn't export those of pieces
abbrev TypeOf : {A : Type 0} → A → Type 0
TypeOf {A = A} a = A

abbrev Front : Type 0
Front = TypeOf (front_piece [])

-- the tokens after a piece at the front of what comes after so many bytes
module _ (text : List ℕ) (at : ℕ) (p : Place) (ts : List Token) (e : Ending) (rest : All (IsSpelt text) ts) where
  abbrev Fine : Front → Type 0
  Fine r = All (IsSpelt text) (with_piece at p r (λ q. record { tokens = ts; ending = e })).tokens

  chosen : (b : Bool) (x y : Front) → Fine x → Fine y → Fine (if b then x else y)
  chosen true x y f g = f
  chosen false x y f g = g

  fine-word : (bs : List ℕ) → bs ≡ drop at text → Fine (word_piece bs)
  unfolding word_piece
  fine-word bs is =
      let n = prefix_len is_word_byte bs in
      chosen (has_bad_underscore (take n bs)) _ _ tt (chosen (nat_lt 200 n) _ _ tt (subst (λ (l : List ℕ). OfKind (word_kind (take n bs)) (take n l)) is (word-of-kind (take n bs) (reserved_at (map to_ascii_lowercase (take n bs))) refl), rest))

  fine-string : (o : Option ℕ) → Fine (string_piece o)
  fine-string None = tt
  fine-string (Some n) = (tt, rest)

  fine-number : (bs : List ℕ) → Fine (number_front bs)
  unfolding number_front
  fine-number bs = by (number_at (parts_of bs) bs)
    where
      by : (r : TypeOf (number_at (parts_of bs) bs)) → Fine (number_piece (number_len (parts_of bs)) r)
      by (Ok n) = (tt, rest)
      by (Err c) = tt

  fine-lone : (b : ℕ) (bs : List ℕ) → b ∷ bs ≡ drop at text → (o : Option Delimiter) → single b ≡ o → Fine (lone o)
  fine-lone b bs is None i = tt
  fine-lone b bs is (Some d) i = (subst (λ (l : List ℕ). written d ≡ take 1 l) is (single_written b d i), rest)

  fine-delimiter : (bs : List ℕ) → bs ≡ drop at text → Fine (delimiter bs)
  fine-delimiter [] is = tt
  fine-delimiter (b ∷ []) is = fine-lone b [] is (single b) refl
  fine-delimiter (b ∷ c ∷ bs) is = by (double b c) refl
    where
      by : (o : Option Delimiter) → double b c ≡ o → Fine (paired o (single b))
      by None i = fine-lone b (c ∷ bs) is (single b) refl
      by (Some d) i = (subst (λ (l : List ℕ). written d ≡ take 2 l) is (double_written b c d i), rest)

  fine-front : (bs : List ℕ) → bs ≡ drop at text → Fine (front_piece bs)
  unfolding front_piece
  fine-front bs is =
      let b = slice_index bs 0 in
      let c = slice_index bs 1 in
      chosen (is_blank b) _ _ rest
      (chosen (b == 13 && c == 10) _ _ rest
      (chosen (is_line_end b) _ _ rest
      (chosen (b == 45 && c == 45) _ _ rest
      (chosen (is_ascii_alphabetic b) _ _ (fine-word bs is)
      (chosen (b == 34) _ _ (fine-string (body_len (drop 1 bs)))
      (chosen (is_ascii_digit b) _ _ (fine-number bs) (fine-delimiter bs is)))))))

cut-spelt : (text : List ℕ) {at : ℕ} {p : Place} {bs : List ℕ} {ts : List Token} {e : Ending} → bs ≡ drop at text → Cut at p bs ts e → All (IsSpelt text) ts
cut-spelt text is ended = tt
cut-spelt text is (malformed h) = tt
cut-spelt text {at = at} {p = p} {e = e} is (next {b = b} {bs = bs} {ts = ts} q h rest) =
    let after_it = cut-spelt text (ap (drop q.len) is ∙ drop-drop q.len at text) rest in
    subst (λ r. All (IsSpelt text) (with_piece at p r (λ q'. record { tokens = ts; ending = e })).tokens) h (fine-front text at p ts e after_it (b ∷ bs) is)

tokens-spelt : (text : List ℕ) (tokens : List Token) → lexed text ≡ Ok tokens → All (IsSpelt text) tokens
tokens-spelt text tokens is = cut-spelt text refl ((tokens_are_cut text tokens).0 is)

-- ---- the signs of operators, and the word under which a stub's body is asked

abbrev sign : Symbol → Option (List ℕ)
sign symbols.Plus = Some (codes "+")
sign symbols.Minus = Some (codes "-")
sign symbols.Asterisk = Some (codes "*")
sign symbols.Slash = Some (codes "/")
sign symbols.Equal = Some (codes "=")
sign symbols.NotEqual = Some (codes "/=")
sign symbols.Less = Some (codes "<")
sign symbols.LessOrEqual = Some (codes "<=")
sign symbols.Greater = Some (codes ">")
sign symbols.GreaterOrEqual = Some (codes ">=")
sign symbols.DoubleAsterisk = Some (codes "**")
sign symbols.Abs = Some (codes "abs")
sign symbols.And = Some (codes "and")
sign symbols.Mod = Some (codes "mod")
sign symbols.Not = Some (codes "not")
sign symbols.Or = Some (codes "or")
sign symbols.Rem = Some (codes "rem")
sign symbols.Xor = Some (codes "xor")
sign symbols.Separate = Some (codes "separate")
sign _ = None

some-one : {X : Type 0} (x y : X) → Some x ≡ Some y → x ≡ y
some-one x y e = cc

lower-as : (is text m n : List ℕ) → is ≡ text → map to_ascii_lowercase is ≡ m → Some m ≡ Some n → map to_ascii_lowercase text ≡ n
lower-as is text m n e l s = ap (map to_ascii_lowercase) (sym e) ∙ l ∙ some-one m n s

delimiter-sign : (d : Delimiter) (text n : List ℕ) → written d ≡ text → sign (delimiter_symbol d) ≡ Some n → map to_ascii_lowercase text ≡ n
delimiter-sign delimiters.Plus text n w s = lower-as (codes "+") text _ n w refl s
delimiter-sign delimiters.Minus text n w s = lower-as (codes "-") text _ n w refl s
delimiter-sign delimiters.Asterisk text n w s = lower-as (codes "*") text _ n w refl s
delimiter-sign delimiters.Slash text n w s = lower-as (codes "/") text _ n w refl s
delimiter-sign delimiters.Equal text n w s = lower-as (codes "=") text _ n w refl s
delimiter-sign delimiters.NotEqual text n w s = lower-as (codes "/=") text _ n w refl s
delimiter-sign delimiters.Less text n w s = lower-as (codes "<") text _ n w refl s
delimiter-sign delimiters.LessOrEqual text n w s = lower-as (codes "<=") text _ n w refl s
delimiter-sign delimiters.Greater text n w s = lower-as (codes ">") text _ n w refl s
delimiter-sign delimiters.GreaterOrEqual text n w s = lower-as (codes ">=") text _ n w refl s
delimiter-sign delimiters.DoubleAsterisk text n w s = lower-as (codes "**") text _ n w refl s
delimiter-sign _ text n w s = absurd (cc)

found-holds : {X : Type 0} (p : X → Bool) (xs : List X) (x : X) → find p xs ≡ Some x → p x ≡ true
found-holds p [] x e = absurd (cc)
found-holds p (y ∷ ys) x e = at (p y) refl e (found-holds p ys x)
  where
    at : (b : Bool) → p y ≡ b → (if b then Some y else find p ys) ≡ Some x → (find p ys ≡ Some x → p x ≡ true) → p x ≡ true
    at true i f more = ap p (sym (some-one y x f)) ∙ i
    at false i f more = more f

reserved-spelt : (text : List ℕ) (w : ReservedWord) → reserved_at text ≡ Some w → text ≡ spelling w
unfolding reserved_at
reserved-spelt text w e = sym ((bytes_eq-Decides (spelling w) text).0 (found-holds (λ v. bytes_eq (spelling v) text) _ w e))

word-sign : (w : ReservedWord) (text n : List ℕ) → text ≡ spelling w → sign (reserved_symbol w) ≡ Some n → text ≡ n
unfolding spelling
word-sign words.Abs text n e s = e ∙ some-one (codes "abs") n s
word-sign words.And text n e s = e ∙ some-one (codes "and") n s
word-sign words.Mod text n e s = e ∙ some-one (codes "mod") n s
word-sign words.Not text n e s = e ∙ some-one (codes "not") n s
word-sign words.Or text n e s = e ∙ some-one (codes "or") n s
word-sign words.Rem text n e s = e ∙ some-one (codes "rem") n s
word-sign words.Xor text n e s = e ∙ some-one (codes "xor") n s
word-sign words.Separate text n e s = e ∙ some-one (codes "separate") n s
word-sign _ text n e s = absurd (cc)

kind-sign : (k : Kind) (text n : List ℕ) → OfKind k text → sign (kind_symbol k) ≡ Some n → map to_ascii_lowercase text ≡ n
kind-sign kinds.Identifier text n w s = absurd (cc)
kind-sign kinds.Number text n w s = absurd (cc)
kind-sign kinds.Str text n w s = absurd (cc)
kind-sign (kinds.Reserved r) text n w s = word-sign r (map to_ascii_lowercase text) n (reserved-spelt (map to_ascii_lowercase text) r w) s
kind-sign (kinds.Delimiter d) text n w s = delimiter-sign d text n w s

-- ---- each lexeme

module _ (text : List ℕ) (tokens : List Token) (MayName : List ℕ → Type 0) (may : (t : Token) → list_any (bytes_eq (word_of text t)) (map (word_of text) tokens) ≡ true → MayName (word_of text t)) where
  -- a lexeme is that of a token of the text
  pub record Of (x : Lexeme) : Type 0 where
    pub token : Token
    pub spelt : IsSpelt text token
    pub there : list_any (bytes_eq (word_of text token)) (map (word_of text) tokens) ≡ true
    pub is : lexeme_of text token ≡ x

  one-symbol : (r s : Symbol) → number r ≡ number s → r ≡ s
  one-symbol r s e = sym (symbols_numbered r) ∙ ap symbol_at e ∙ symbols_numbered s

  kind-is : (s : Symbol) (l : Label) → kind (lexeme_as s l) ≡ number s
  kind-is s l = at (is_labelled s)
    where
      at : (b : Bool) → kind (if b then labelled s l else word s) ≡ number s
      at true = refl
      at false = refl

  symbol-is : (x : Lexeme) (s : Symbol) → kind x ≡ number s → (o : Of x) → symbol_of o.token ≡ s
  symbol-is x s e o = one-symbol (symbol_of o.token) s (sym (kind-is (symbol_of o.token) (label_of text o.token)) ∙ ap kind o.is ∙ e)

  -- a sign is spelt by its lexeme
  signed : (x : Lexeme) (s : Symbol) (n : List ℕ) → kind x ≡ number s → sign s ≡ Some n → Of x → MayName n
  unfolding symbol_of
  signed x s n e m o =
      subst MayName (kind-sign o.token.kind (text_of text o.token.span) n o.spelt (ap sign (symbol-is x s e o) ∙ m)) (may o.token o.there)

  no-word : (t : Token) → symbol_of t ≡ symbols.Identifier → lexeme_of text t ≡ word symbols.Identifier → ⊥
  no-word t i e = let f : lexeme_as symbols.Identifier (label_of text t) ≡ word symbols.Identifier = ap (λ s. lexeme_as s (label_of text t)) (sym i) ∙ e in cc

  label-is : (l x : Label) → labelled symbols.Identifier l ≡ labelled symbols.Identifier x → l ≡ x
  label-is l x e = cc

  named : (x : Label) → Of (labelled symbols.Identifier x) → MayName x.text
  named x o =
      let i = symbol-is (labelled symbols.Identifier x) symbols.Identifier refl o in
      let l = label-is (label_of text o.token) x (ap (λ s. lexeme_as s (label_of text o.token)) (sym i) ∙ o.is) in
      subst MayName (ap (λ (y : Label). y.text) (sym (identifier_label_of text o.token i) ∙ l)) (may o.token o.there)

  pub separate-may : (x : Label) → Of (labelled symbols.Separate x) → MayName (codes "separate")
  separate-may x o = signed (labelled symbols.Separate x) symbols.Separate (codes "separate") refl refl o

  pub spells : Spells Of MayName
  spells = record {
    never = λ o. no-word o.token (symbol-is (word symbols.Identifier) symbols.Identifier refl o) o.is;
    identifier = named;
    plus = λ x. signed (labelled symbols.Plus x) symbols.Plus (codes "+") refl refl;
    minus = λ x. signed (labelled symbols.Minus x) symbols.Minus (codes "-") refl refl;
    absolute = λ x. signed (labelled symbols.Abs x) symbols.Abs (codes "abs") refl refl;
    negation = λ x. signed (labelled symbols.Not x) symbols.Not (codes "not") refl refl;
    and_word = signed (word symbols.And) symbols.And (codes "and") refl refl;
    or_word = signed (word symbols.Or) symbols.Or (codes "or") refl refl;
    xor_word = signed (word symbols.Xor) symbols.Xor (codes "xor") refl refl;
    equal = signed (word symbols.Equal) symbols.Equal (codes "=") refl refl;
    not_equal = signed (word symbols.NotEqual) symbols.NotEqual (codes "/=") refl refl;
    less = signed (word symbols.Less) symbols.Less (codes "<") refl refl;
    less_or_equal = signed (word symbols.LessOrEqual) symbols.LessOrEqual (codes "<=") refl refl;
    greater = signed (word symbols.Greater) symbols.Greater (codes ">") refl refl;
    greater_or_equal = signed (word symbols.GreaterOrEqual) symbols.GreaterOrEqual (codes ">=") refl refl;
    times = signed (word symbols.Asterisk) symbols.Asterisk (codes "*") refl refl;
    divide = signed (word symbols.Slash) symbols.Slash (codes "/") refl refl;
    modulo = signed (word symbols.Mod) symbols.Mod (codes "mod") refl refl;
    remainder = signed (word symbols.Rem) symbols.Rem (codes "rem") refl refl;
    power = signed (word symbols.DoubleAsterisk) symbols.DoubleAsterisk (codes "**") refl refl;
  }

  -- all lexemes are
  each : (ts : List Token) → ((t : Token) → list_any (bytes_eq (word_of text t)) (map (word_of text) ts) ≡ true → list_any (bytes_eq (word_of text t)) (map (word_of text) tokens) ≡ true) → All (IsSpelt text) ts → All Of (lexemes text ts)
  each [] sub a = tt
  each (t ∷ ts) sub a =
      (record { token = t; spelt = a.0; there = sub t (first (word_of text t) (map (word_of text) ts)); is = refl }, each ts (λ u h. sub u (later (word_of text u) (word_of text t) (map (word_of text) ts) h)) a.1)
    where
      first : (n : List ℕ) (ns : List (List ℕ)) → (bytes_eq n n || list_any (bytes_eq n) ns) ≡ true
      first n ns = ap (λ b. b || list_any (bytes_eq n) ns) ((bytes_eq-Decides n n).1 refl)

      later : (n m : List ℕ) (ns : List (List ℕ)) → list_any (bytes_eq n) ns ≡ true → (bytes_eq n m || list_any (bytes_eq n) ns) ≡ true
      later n m ns h = at (bytes_eq n m)
        where
          at : (b : Bool) → (b || list_any (bytes_eq n) ns) ≡ true
          at true = refl
          at false = h

  pub all-lexemes : lexed text ≡ Ok tokens → All Of (lexemes text tokens)
  all-lexemes is = each tokens (λ t h. h) (tokens-spelt text tokens is)

-- ---- what is put into a set of names is there

kept : (ks : List (List ℕ)) (k n : List ℕ) → list_any (bytes_eq n) ks ≡ true → list_any (bytes_eq n) (insert_key bytes_eq ks k) ≡ true
kept ks k n h = at (list_any (bytes_eq k) ks)
  where
    at : (b : Bool) → list_any (bytes_eq n) (if b then ks else ks ++ k ∷ []) ≡ true
    at true = h
    at false = any-left n ks (k ∷ []) h

put : (ks : List (List ℕ)) (k n : List ℕ) → bytes_eq n k ≡ true → list_any (bytes_eq n) (insert_key bytes_eq ks k) ≡ true
put ks k n e = at (list_any (bytes_eq k) ks) refl
  where
    same : n ≡ k
    same = (bytes_eq-Decides n k).0 e

    at : (b : Bool) → list_any (bytes_eq k) ks ≡ b → list_any (bytes_eq n) (if b then ks else ks ++ k ∷ []) ≡ true
    at true i = ap (λ (m : List ℕ). list_any (bytes_eq m) ks) same ∙ i
    at false i = any-right n ks (k ∷ []) (ap (λ b. b || false) e)

pub all-kept : (xs ks : List (List ℕ)) (n : List ℕ) → list_any (bytes_eq n) ks ≡ true → list_any (bytes_eq n) (insert_all bytes_eq ks xs) ≡ true
all-kept [] ks n h = h
all-kept (x ∷ xs) ks n h = all-kept xs (insert_key bytes_eq ks x) n (kept ks x n h)

pub all-put : (xs ks : List (List ℕ)) (n : List ℕ) → list_any (bytes_eq n) xs ≡ true → list_any (bytes_eq n) (insert_all bytes_eq ks xs) ≡ true
all-put [] ks n h = absurd (true≢false (sym h))
all-put (x ∷ xs) ks n h = at (bytes_eq n x) refl h (all-put xs (insert_key bytes_eq ks x) n)
  where
    at : (b : Bool) → bytes_eq n x ≡ b → (b || list_any (bytes_eq n) xs) ≡ true → (list_any (bytes_eq n) xs ≡ true → list_any (bytes_eq n) (insert_all bytes_eq (insert_key bytes_eq ks x) xs) ≡ true)
        → list_any (bytes_eq n) (insert_all bytes_eq (insert_key bytes_eq ks x) xs) ≡ true
    at true i k more = all-kept xs (insert_key bytes_eq ks x) n (put ks x n i)
    at false i k more = more k

-- the words of a text are those of its tokens
pub word-there : (text : List ℕ) (tokens : List Token) → lexed text ≡ Ok tokens → (n : List ℕ) → list_any (bytes_eq n) (map (word_of text) tokens) ≡ true → list_any (bytes_eq n) (words_of text) ≡ true
unfolding words_of
word-there text tokens is n h = ap (λ (r : Result (List Token) LexFault). list_any (bytes_eq n) (words_if text r)) is ∙ all-put (map (word_of text) tokens) [] n h
