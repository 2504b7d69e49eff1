-- The parts of a name, one after another: selectors and what stands between parentheses, and attributes, each with more of those.
use Rattle.std.proofs.Common.{ℕ, ◌≡◌, ◌==◌, ◌||◌, ◌&&◌, if◌then◌else◌, Bool, true, false, List, [], ◌∷◌, ◌++◌, drop, Ok, Err, refl, sym, ap, ◌∙◌, append_assoc, eqb-true}
use Rattle.std.proofs.lemmas.Bool.{cond-true, cond-false}
use Rattle.al_tree_grammar.specs.Grammar.{Lexeme, Rule, each, kind}
use Rattle.al_tree_grammar.specs.Grammar.Lexeme.{Fixed, Named}
use Rattle.al_tree_grammar.specs.Grammar.Rule.{Many, Marked}
use Rattle.al_tree_grammar.specs.Reading.{Read, ◌>>=◌, any, begins, first, is_clear, one, turns}
use Rattle.al_tree_grammar.proofs.Steps.{many_goes, many_fails, many_stops, one_here}
use Rattle.al_tree_grammar.proofs.Turns.{turn_goes, turn_fails, turn_ends, turns_stop}
use Rattle.al_tree_syntax.specs.Constructs.Construct.{Arguments}
use Rattle.al_tree_syntax.specs.Expressions.{identifier_rule, selection_rule, designator_rule, name_rest_rule, name_rule, parentheses_rule}
use Rattle.al_tree_syntax.specs.ExpressionTrees.{ExpressionTree, ExpressionTree as trees, PartTree, expression_tokens, name_tokens, part_rank, part_tokens, stands}
use Rattle.al_tree_syntax.specs.ExpressionTrees.Level.{NameLevel}
use Rattle.al_tree_syntax.specs.Notation.{◌⨾◌, the, opens_at}
use Rattle.al_tree_syntax.specs.Rules.{grammar}
use Rattle.al_tree_syntax.specs.Symbols.{number}
use Rattle.al_tree_syntax.specs.Symbols.Symbol.{Apostrophe, Dot, LeftParenthesis}
use Rattle.al_tree_syntax.proofs.Clear.{closed}
use Rattle.al_parse.specs.declared.stop.Stop.{Stop}
use Rattle.al_parse.specs.declared.stop.Stop.TheVariants.{Memory, Fault}
use Rattle.al_parse.specs.Names.{part_rule, name_tail_rule, qualified_rule, goes_on}
use Rattle.al_parse.specs.Parses.{Lexemes, Took, Stops, reading}
use Rattle.al_parse.proofs.Chained.{Joined, named_next}
use Rattle.al_parse.proofs.ExprClear.{parts_clear}
use Rattle.al_parse.proofs.Levels.{stands_there}

-- after a '
abbrev attribute_rule : Rule
attribute_rule = designator_rule ⨾ Many selection_rule

abbrev attributes_rule : Rule
attributes_rule = Marked (number Apostrophe) attribute_rule parentheses_rule

selections_clear : is_clear false (Many selection_rule) ≡ true
unfolding selection_rule identifier_rule
selections_clear = refl

attributes_clear : is_clear false attributes_rule ≡ true
unfolding selection_rule identifier_rule designator_rule parentheses_rule
attributes_clear = refl

-- ---- the next lexeme tells which part

one_of_two : (p q : Bool) (a b c : Read) → (p || (q || false)) ≡ true → (if (p || false) then a else (if (q || false) then b else c)) ≡ (if (p || false) then a else b)
one_of_two true q a b c h = refl
one_of_two false true a b c h = refl
one_of_two false false a b c h = absurd (cc)

neither : (p q : Bool) (a b c : Read) → (p || (q || false)) ≡ false → (if (p || false) then a else (if (q || false) then b else c)) ≡ c
neither true q a b c h = absurd (cc)
neither false true a b c h = absurd (cc)
neither false false a b c h = refl

selects : (d : ℕ) (xs : Lexemes) → begins (first selection_rule) xs ≡ true → reading d part_rule xs ≡ reading d selection_rule xs
unfolding part_rule selection_rule identifier_rule
selects d [] h = absurd (cc)
selects d (x ∷ xs) h =
    one_of_two (kind x == number Dot) (kind x == number LeftParenthesis) (reading d (the Dot ⨾ identifier_rule) (x ∷ xs)) (reading d (opens_at LeftParenthesis Arguments) (x ∷ xs)) (reading d (the Apostrophe ⨾ designator_rule) (x ∷ xs)) h

attributes : (d : ℕ) (xs : Lexemes) → begins (first selection_rule) xs ≡ false → reading d part_rule xs ≡ reading d (the Apostrophe ⨾ designator_rule) xs
unfolding part_rule selection_rule identifier_rule
attributes d [] h = refl
attributes d (x ∷ xs) h =
    neither (kind x == number Dot) (kind x == number LeftParenthesis) (reading d (the Dot ⨾ identifier_rule) (x ∷ xs)) (reading d (opens_at LeftParenthesis Arguments) (x ∷ xs)) (reading d (the Apostrophe ⨾ designator_rule) (x ∷ xs)) h

no_selection : (d : ℕ) (xs : Lexemes) → begins (first selection_rule) xs ≡ false → reading d name_tail_rule xs ≡ reading d attributes_rule xs
unfolding name_tail_rule
no_selection d xs h = ap (λ m. m >>= λ ys. reading d attributes_rule ys) (many_stops grammar d selection_rule xs h)

or_none : (b : Bool) → (b || false) ≡ true → b ≡ true
or_none true h = refl
or_none false h = absurd (cc)

-- ---- one part more

module _ (d : ℕ) where
  select_next : (xs ys : Lexemes) → begins (first selection_rule) xs ≡ true → reading d part_rule xs ≡ Ok ys → reading d name_tail_rule xs ≡ reading d name_tail_rule ys
  unfolding name_tail_rule
  select_next xs ys h e = ap (λ m. m >>= λ zs. reading d attributes_rule zs) (many_goes grammar closed d selection_rule selections_clear xs ys h (sym (selects d xs h) ∙ e))

  select_err : (xs u : Lexemes) → begins (first selection_rule) xs ≡ true → reading d part_rule xs ≡ Err u → reading d name_tail_rule xs ≡ Err u
  unfolding name_tail_rule
  select_err xs u h e = ap (λ m. m >>= λ zs. reading d attributes_rule zs) (many_fails grammar closed d selection_rule selections_clear xs u h (sym (selects d xs h) ∙ e))

  -- after the designator
  after : (xs zs ys : Lexemes) (r : Read) → xs ≡ Fixed (number Apostrophe) ∷ zs → begins (first designator_rule) zs ≡ true → reading d designator_rule zs ≡ Ok ys → reading d (Many selection_rule) ys ≡ r
      → reading d attributes_rule xs ≡ (r >>= λ us. reading d attributes_rule us)
  unfolding designator_rule identifier_rule
  after xs zs ys (Ok us) e h des more =
      turn_goes grammar closed d (number Apostrophe) attribute_rule parentheses_rule attributes_clear xs zs us e h (ap (λ m. m >>= λ vs. reading d (Many selection_rule) vs) des ∙ more)
  after xs zs ys (Err u) e h des more =
      turn_fails grammar d (number Apostrophe) attribute_rule parentheses_rule xs zs u e h (ap (λ m. m >>= λ vs. reading d (Many selection_rule) vs) des ∙ more)

  designate : (xs zs : Lexemes) → xs ≡ Fixed (number Apostrophe) ∷ zs → reading d (the Apostrophe ⨾ designator_rule) xs ≡ reading d designator_rule zs
  designate xs zs e = ap (λ (t : Lexemes). one (number Apostrophe) t >>= λ us. reading d designator_rule us) e ∙ ap (λ m. m >>= λ us. reading d designator_rule us) (one_here (number Apostrophe) zs)

  attribute_next : (xs ys : Lexemes) → begins (number Apostrophe ∷ []) xs ≡ true → begins (first designator_rule) (drop 1 xs) ≡ true → reading d (the Apostrophe ⨾ designator_rule) xs ≡ Ok ys → reading d attributes_rule xs ≡ reading d name_tail_rule ys
  unfolding name_tail_rule
  attribute_next [] ys h i e = absurd (cc)
  attribute_next (Named j l ∷ zs) ys h i e = absurd (cc)
  attribute_next (Fixed j ∷ zs) ys h i e =
      let k : Fixed j ∷ zs ≡ Fixed (number Apostrophe) ∷ zs = ap (λ (n : ℕ). Fixed n ∷ zs) (eqb-true j (number Apostrophe) (or_none (j == number Apostrophe) h)) in
      after (Fixed j ∷ zs) zs ys (reading d (Many selection_rule) ys) k i (sym (designate (Fixed j ∷ zs) zs k) ∙ e) refl

  attribute_err : (xs u : Lexemes) → begins (number Apostrophe ∷ []) xs ≡ true → begins (first designator_rule) (drop 1 xs) ≡ true → reading d (the Apostrophe ⨾ designator_rule) xs ≡ Err u → reading d attributes_rule xs ≡ Err u
  unfolding turns designator_rule identifier_rule
  attribute_err [] u h i e = absurd (cc)
  attribute_err (Named j l ∷ zs) u h i e = rw h e
  attribute_err (Fixed j ∷ zs) u h i e =
      let k : Fixed j ∷ zs ≡ Fixed (number Apostrophe) ∷ zs = ap (λ (n : ℕ). Fixed n ∷ zs) (eqb-true j (number Apostrophe) (or_none (j == number Apostrophe) h)) in
      turn_fails grammar d (number Apostrophe) attribute_rule parentheses_rule (Fixed j ∷ zs) zs u k i (ap (λ m. m >>= λ vs. reading d (Many selection_rule) vs) (sym (designate (Fixed j ∷ zs) zs k) ∙ e))

  -- the same of a part of whatever sort
  next_part : (xs ys : Lexemes) → goes_on xs ≡ true → reading d part_rule xs ≡ Ok ys → reading d name_tail_rule xs ≡ reading d name_tail_rule ys
  next_part xs ys h e = go (begins (first selection_rule) xs) (begins (number Apostrophe ∷ []) xs) (begins (first designator_rule) (drop 1 xs)) refl refl refl h
    where
      go : (p q r : Bool) → begins (first selection_rule) xs ≡ p → begins (number Apostrophe ∷ []) xs ≡ q → begins (first designator_rule) (drop 1 xs) ≡ r → (p || (q && r)) ≡ true → reading d name_tail_rule xs ≡ reading d name_tail_rule ys
      go true q r s m t i = select_next xs ys s e
      go false true true s m t i = no_selection d xs s ∙ attribute_next xs ys m t (sym (attributes d xs s) ∙ e)
      go false true false s m t i = absurd (cc)
      go false false r s m t i = absurd (cc)

  fails : (xs u : Lexemes) → goes_on xs ≡ true → reading d part_rule xs ≡ Err u → reading d name_tail_rule xs ≡ Err u
  fails xs u h e = go (begins (first selection_rule) xs) (begins (number Apostrophe ∷ []) xs) (begins (first designator_rule) (drop 1 xs)) refl refl refl h
    where
      go : (p q r : Bool) → begins (first selection_rule) xs ≡ p → begins (number Apostrophe ∷ []) xs ≡ q → begins (first designator_rule) (drop 1 xs) ≡ r → (p || (q && r)) ≡ true → reading d name_tail_rule xs ≡ Err u
      go true q r s m t i = select_err xs u s e
      go false true true s m t i = no_selection d xs s ∙ attribute_err xs u m t (sym (attributes d xs s) ∙ e)
      go false true false s m t i = absurd (cc)
      go false false r s m t i = absurd (cc)

  -- ---- no part more

  ended : (xs : Lexemes) → begins (number Apostrophe ∷ []) xs ≡ true → begins (first designator_rule) (drop 1 xs) ≡ false → reading d attributes_rule xs ≡ reading d qualified_rule xs
  unfolding turns qualified_rule designator_rule identifier_rule
  ended [] h i = absurd (cc)
  ended (Named j l ∷ zs) h i = refl
  ended (Fixed j ∷ zs) h i =
      let k : Fixed j ∷ zs ≡ Fixed (number Apostrophe) ∷ zs = ap (λ (n : ℕ). Fixed n ∷ zs) (eqb-true j (number Apostrophe) (or_none (j == number Apostrophe) h)) in
      turn_ends grammar d (number Apostrophe) attribute_rule parentheses_rule (Fixed j ∷ zs) zs k i
      ∙ sym (cond-true (begins (number Apostrophe ∷ []) (Fixed j ∷ zs)) (reading d (the Apostrophe ⨾ parentheses_rule) (Fixed j ∷ zs)) (Ok (Fixed j ∷ zs)) h
      ∙ ap (λ (t : Lexemes). one (number Apostrophe) t >>= λ us. reading d parentheses_rule us) k ∙ ap (λ m. m >>= λ us. reading d parentheses_rule us) (one_here (number Apostrophe) zs))

  over : (xs : Lexemes) → goes_on xs ≡ false → reading d name_tail_rule xs ≡ reading d qualified_rule xs
  unfolding qualified_rule
  over xs h = go (begins (first selection_rule) xs) (begins (number Apostrophe ∷ []) xs) (begins (first designator_rule) (drop 1 xs)) refl refl refl h
    where
      go : (p q r : Bool) → begins (first selection_rule) xs ≡ p → begins (number Apostrophe ∷ []) xs ≡ q → begins (first designator_rule) (drop 1 xs) ≡ r → (p || (q && r)) ≡ false → reading d name_tail_rule xs ≡ reading d qualified_rule xs
      go true q r s m t i = absurd (cc)
      go false true true s m t i = absurd (cc)
      go false true false s m t i = no_selection d xs s ∙ ended xs m t
      go false false r s m t i =
          no_selection d xs s ∙ turns_stop grammar d (number Apostrophe) attribute_rule parentheses_rule xs m
          ∙ sym (cond-false (begins (number Apostrophe ∷ []) xs) (reading d (the Apostrophe ⨾ parentheses_rule) xs) (Ok xs) m)

  -- ---- the loop of a whole name

  after_first : (xs ys : Lexemes) → any 0 xs ≡ Ok ys → reading d name_rule xs ≡ reading d name_tail_rule ys
  unfolding name_rule identifier_rule name_tail_rule
  after_first xs ys e = ap (λ m. m >>= λ zs. reading d name_tail_rule zs) e

  pub parts_first : (name : ExpressionTree) (x : Lexeme) (xs ys : Lexemes) → Took (x ∷ []) ys xs (any 0 xs) → expression_tokens name ≡ x ∷ [] → stands NameLevel name ≡ true → Joined name_rule name_tail_rule d xs xs name ys
  parts_first name x xs ys one e k = record { taken = one.0 ∙ ap (λ (t : Lexemes). t ++ ys) (sym e); goes_on = after_first xs ys one.1; level = k }

  pub parts_next : (name next : ExpressionTree) (p : PartTree) (all rest last : Lexemes) → Joined name_rule name_tail_rule d all all name rest → goes_on rest ≡ true → Took (part_tokens p) last rest (reading d part_rule rest)
      → part_rank p ≡ 0 → next ≡ trees.Longer name p → expression_tokens next ≡ expression_tokens name ++ part_tokens p → Joined name_rule name_tail_rule d all all next last
  parts_next name next p all rest last kept h took r made tokens = named_next name_rule name_tail_rule d all all name next p rest last kept took.0 (next_part rest last h took.1) r made tokens

  pub parts_over : (name : ExpressionTree) (all rest : Lexemes) → Joined name_rule name_tail_rule d all all name rest → goes_on rest ≡ false → (all ≡ expression_tokens name ++ rest) × (reading d name_rule all ≡ reading d qualified_rule rest)
  parts_over name all rest kept h = (kept.taken, kept.goes_on ∙ over rest h)

  pub parts_err : (name : ExpressionTree) (all rest : Lexemes) (e : Stop) → Joined name_rule name_tail_rule d all all name rest → goes_on rest ≡ true → Stops e (reading d part_rule rest) → Stops e (reading d name_rule all)
  parts_err name all rest Memory kept h s = tt
  parts_err name all rest (Fault left) kept h s = (s.0, kept.goes_on ∙ fails rest s.0 h s.1, s.2)

  pub name_first_err : (xs : Lexemes) (e : Stop) → Stops e (any 0 xs) → Stops e (reading d name_rule xs)
  unfolding name_rule identifier_rule name_tail_rule
  name_first_err xs Memory s = tt
  name_first_err xs (Fault left) s = (s.0, ap (λ m. m >>= λ zs. reading d name_tail_rule zs) s.1, s.2)

  -- ---- the loop of the name that a statement begins with

  pub rest_first : (name : ExpressionTree) (xs : Lexemes) → stands NameLevel name ≡ true → Joined name_rest_rule name_rest_rule d (expression_tokens name ++ xs) xs name xs
  rest_first name xs k = record { taken = refl; goes_on = refl; level = k }

  pub rest_next : (name next : ExpressionTree) (p : PartTree) (taken_of all rest last : Lexemes) → Joined name_rest_rule name_rest_rule d taken_of all name rest → begins (first part_rule) rest ≡ true → Took (part_tokens p) last rest (reading d part_rule rest)
      → part_rank p ≡ 0 → next ≡ trees.Longer name p → expression_tokens next ≡ expression_tokens name ++ part_tokens p → Joined name_rest_rule name_rest_rule d taken_of all next last
  unfolding name_rest_rule part_rule
  rest_next name next p taken_of all rest last kept h took r made tokens = named_next name_rest_rule name_rest_rule d taken_of all name next p rest last kept took.0 (many_goes grammar closed d part_rule parts_clear rest last h took.1) r made tokens

  pub rest_over : (name : ExpressionTree) (taken_of all rest : Lexemes) → Joined name_rest_rule name_rest_rule d taken_of all name rest → begins (first part_rule) rest ≡ false → Took (name_tokens name) rest taken_of (reading d name_rest_rule all)
  unfolding name_rest_rule part_rule
  rest_over name taken_of all rest kept h = (kept.taken ∙ ap (λ (t : Lexemes). t ++ rest) (sym (stands_there NameLevel name kept.level)), kept.goes_on ∙ many_stops grammar d part_rule rest h)

  pub rest_err : (name : ExpressionTree) (taken_of all rest : Lexemes) (e : Stop) → Joined name_rest_rule name_rest_rule d taken_of all name rest → begins (first part_rule) rest ≡ true → Stops e (reading d part_rule rest) → Stops e (reading d name_rest_rule all)
  unfolding name_rest_rule part_rule
  rest_err name taken_of all rest Memory kept h s = tt
  rest_err name taken_of all rest (Fault left) kept h s = (s.0, kept.goes_on ∙ many_fails grammar closed d part_rule parts_clear rest s.0 h s.1, s.2)
