-- Each factored rule has the sentences of its plain form: trees of the one, with their lexemes, go to trees of the other.
use Rattle.std.proofs.Common.{ℕ, zero, suc, ◌≡◌, inl, inr, List, [], ◌∷◌, ◌++◌, Option, Some, None, refl, sym, ap, ◌∙◌, append_assoc, append-nil}
use Rattle.al_tree_grammar.specs.Grammar.{Label, Lexeme, Rule, each, marked, Tree, lexemes_of}
use Rattle.al_tree_grammar.specs.Grammar.Lexeme.{Fixed, Named}
use Rattle.al_tree_grammar.specs.Grammar.Rule.{Opt, Many}
use Rattle.al_tree_syntax.specs.Symbols.{number}
use Rattle.al_tree_syntax.specs.Symbols.Symbol.{Identifier, Apostrophe, LeftParenthesis, RightParenthesis, Comma, Dot, Colon, Semicolon, Arrow, And, Body, Constant, Else, Is, Or, Others, Package, Task, Then, Xor}
use Rattle.al_tree_syntax.specs.Constructs.{construct_at}
use Rattle.al_tree_syntax.specs.Constructs.Construct.{Parentheses, Arguments, TaskBody, SubprogramBody, PackageDeclaration}
use Rattle.al_tree_syntax.specs.Notation.{◌⨾◌, ◌∣◌, the, any, opens, opens_at}
use Rattle.al_tree_syntax.specs.Expressions.{identifier_rule, identifiers_rule, selection_rule, designator_rule, name_rest_rule, name_rule, parentheses_rule, simple_expression_rule, membership_rule, relation_rule, relational_rule, and_rule, or_rule, xor_rule, expression_rule, expressions_rule}
use Rattle.al_tree_syntax.specs.Declarations.{subtype_indication_rule, array_rule, initial_rule, typed_rule, object_rule, specification_rule, subprogram_rule, task_rule, operation_body_rule}
use Rattle.al_tree_syntax.specs.Statements.{loop_rule, block_rule, named_rule}
use Rattle.al_tree_syntax.specs.Units.{library_item_rule}
use Rattle.al_tree_syntax.specs.Rules.{inside, grammar}
use Rattle.al_tree_syntax.specs.Plain.{SameSentences, target_rule, plain_name_rule, plain_relation_rule, plain_expression_rule, plain_array_rule, plain_object_rule, plain_subprogram_rule, plain_named_rule, plain_parentheses_rule, plain_task_rule, plain_operation_body_rule, plain_library_item_rule, RulesArePlain}

-- a tree of b with these lexemes
abbrev As : ℕ → Rule → List Lexeme → Type 0
As d b xs = (y : Tree grammar d b) × (lexemes_of grammar d b y ≡ xs)

abbrev Into : ℕ → Rule → Rule → Type 0
Into d a b = (x : Tree grammar d a) → As d b (lexemes_of grammar d a x)

same : (a b : Rule) → ((d : ℕ) → Into d a b) → ((d : ℕ) → Into d b a) → SameSentences a b
same a b f g d xs = (λ s. let y = f d s.0 in (y.0, y.1 ∙ s.1), λ s. let y = g d s.0 in (y.0, y.1 ∙ s.1))

-- ---- relations and expressions

relation_plain : (d : ℕ) → Into d relation_rule plain_relation_rule
unfolding relation_rule membership_rule plain_relation_rule
relation_plain d x = go x.0 x.1
  where
    go : (s : Tree grammar d simple_expression_rule) (o : Tree grammar d (Opt (relational_rule ⨾ simple_expression_rule ∣ membership_rule))) → As d plain_relation_rule (lexemes_of grammar d relation_rule (s, o))
    go s None = (inl (s, None), refl)
    go s (Some (inl y)) = (inl (s, Some y), refl)
    go s (Some (inr y)) = (inr (s, y), refl)

plain_relation : (d : ℕ) → Into d plain_relation_rule relation_rule
unfolding relation_rule membership_rule plain_relation_rule
plain_relation d (inl x) = go x.0 x.1
  where
    go : (s : Tree grammar d simple_expression_rule) (o : Tree grammar d (Opt (relational_rule ⨾ simple_expression_rule))) → As d relation_rule (lexemes_of grammar d plain_relation_rule (inl (s, o)))
    go s None = ((s, None), refl)
    go s (Some y) = ((s, Some (inl y)), refl)
plain_relation d (inr x) = ((x.0, Some (inr x.1)), refl)

and_plain : (d : ℕ) (r : Tree grammar d relation_rule) (x : Tree grammar d and_rule) → As d plain_expression_rule (lexemes_of grammar d relation_rule r ++ Fixed (number And) ∷ lexemes_of grammar d and_rule x)
unfolding and_rule plain_expression_rule
and_plain d r (inl x) = (inl (r, (tt, x.0) ∷ x.1), refl)
and_plain d r (inr x) = (inr (inr (inr (inl (r, (tt, (tt, x.1.0)) ∷ x.1.1)))), refl)

or_plain : (d : ℕ) (r : Tree grammar d relation_rule) (x : Tree grammar d or_rule) → As d plain_expression_rule (lexemes_of grammar d relation_rule r ++ Fixed (number Or) ∷ lexemes_of grammar d or_rule x)
unfolding or_rule plain_expression_rule
or_plain d r (inl x) = (inr (inl (r, (tt, x.0) ∷ x.1)), refl)
or_plain d r (inr x) = (inr (inr (inr (inr (r, (tt, (tt, x.1.0)) ∷ x.1.1)))), refl)

expression_plain : (d : ℕ) → Into d expression_rule plain_expression_rule
unfolding expression_rule xor_rule plain_expression_rule
expression_plain d x = go x.0 x.1
  where
    go : (r : Tree grammar d relation_rule) (o : Tree grammar d (Opt (the And ⨾ and_rule ∣ the Or ⨾ or_rule ∣ the Xor ⨾ xor_rule))) → As d plain_expression_rule (lexemes_of grammar d expression_rule (r, o))
    go r None = (inl (r, []), refl)
    go r (Some (inl y)) = and_plain d r y.1
    go r (Some (inr (inl y))) = or_plain d r y.1
    go r (Some (inr (inr y))) = (inr (inr (inl (r, (tt, y.1.0) ∷ y.1.1))), refl)

plain_expression : (d : ℕ) → Into d plain_expression_rule expression_rule
unfolding expression_rule and_rule or_rule xor_rule plain_expression_rule
plain_expression d (inl x) = go x.0 x.1
  where
    go : (r : Tree grammar d relation_rule) (l : Tree grammar d (Many (the And ⨾ relation_rule))) → As d expression_rule (lexemes_of grammar d (relation_rule ⨾ Many (the And ⨾ relation_rule)) (r, l))
    go r [] = ((r, None), refl)
    go r (y ∷ l) = ((r, Some (inl (tt, inl (y.1, l)))), refl)
plain_expression d (inr (inl x)) = go x.0 x.1
  where
    go : (r : Tree grammar d relation_rule) (l : Tree grammar d (Many (the Or ⨾ relation_rule))) → As d expression_rule (lexemes_of grammar d (relation_rule ⨾ Many (the Or ⨾ relation_rule)) (r, l))
    go r [] = ((r, None), refl)
    go r (y ∷ l) = ((r, Some (inr (inl (tt, inl (y.1, l))))), refl)
plain_expression d (inr (inr (inl x))) = go x.0 x.1
  where
    go : (r : Tree grammar d relation_rule) (l : Tree grammar d (Many (the Xor ⨾ relation_rule))) → As d expression_rule (lexemes_of grammar d (relation_rule ⨾ Many (the Xor ⨾ relation_rule)) (r, l))
    go r [] = ((r, None), refl)
    go r (y ∷ l) = ((r, Some (inr (inr (tt, (y.1, l))))), refl)
plain_expression d (inr (inr (inr (inl x)))) = go x.0 x.1
  where
    go : (r : Tree grammar d relation_rule) (l : Tree grammar d (Many (the And ⨾ the Then ⨾ relation_rule))) → As d expression_rule (lexemes_of grammar d (relation_rule ⨾ Many (the And ⨾ the Then ⨾ relation_rule)) (r, l))
    go r [] = ((r, None), refl)
    go r (y ∷ l) = ((r, Some (inl (tt, inr (tt, (y.1.1, l))))), refl)
plain_expression d (inr (inr (inr (inr x)))) = go x.0 x.1
  where
    go : (r : Tree grammar d relation_rule) (l : Tree grammar d (Many (the Or ⨾ the Else ⨾ relation_rule))) → As d expression_rule (lexemes_of grammar d (relation_rule ⨾ Many (the Or ⨾ the Else ⨾ relation_rule)) (r, l))
    go r [] = ((r, None), refl)
    go r (y ∷ l) = ((r, Some (inr (inl (tt, inr (tt, (y.1.1, l)))))), refl)

-- ---- declarations

array_plain : (d : ℕ) → Into d array_rule plain_array_rule
unfolding array_rule plain_array_rule
array_plain zero x = absurd x
array_plain (suc d) x = (x, refl)

plain_array : (d : ℕ) → Into d plain_array_rule array_rule
unfolding array_rule plain_array_rule
plain_array zero x = absurd x.1.0.1
plain_array (suc d) x = (x, refl)

-- the type of an object, and perhaps a value, with the semicolon
typed_assoc : (d : ℕ) (t : Tree grammar d (subtype_indication_rule ∣ array_rule)) (o : Tree grammar d (Opt initial_rule)) → (lexemes_of grammar d (subtype_indication_rule ∣ array_rule) t ++ lexemes_of grammar d (Opt initial_rule) o) ++ Fixed (number Semicolon) ∷ [] ≡ lexemes_of grammar d (subtype_indication_rule ∣ array_rule) t ++ (lexemes_of grammar d (Opt initial_rule) o ++ Fixed (number Semicolon) ∷ [])
typed_assoc d t o = append_assoc (lexemes_of grammar d (subtype_indication_rule ∣ array_rule) t) (lexemes_of grammar d (Opt initial_rule) o) (Fixed (number Semicolon) ∷ [])

object_plain : (d : ℕ) → Into d object_rule plain_object_rule
unfolding object_rule typed_rule plain_object_rule
object_plain d x = go x.0 x.1.1.0
  where
    constant : (i : Tree grammar d identifiers_rule) (c : Tree grammar d (initial_rule ∣ typed_rule)) → As d plain_object_rule (lexemes_of grammar d object_rule (i, (tt, (inr (tt, c), tt))))
    constant i (inl e) = (inr (i, (tt, (tt, (e, tt)))), refl)
    constant i (inr t) = (inl (i, (tt, (Some tt, (t.0, (t.1, tt))))), ap (λ (l : List Lexeme). lexemes_of grammar d identifiers_rule i ++ Fixed (number Colon) ∷ Fixed (number Constant) ∷ l) (sym (typed_assoc d t.0 t.1)))

    go : (i : Tree grammar d identifiers_rule) (o : Tree grammar d (typed_rule ∣ the Constant ⨾ (initial_rule ∣ typed_rule))) → As d plain_object_rule (lexemes_of grammar d object_rule (i, (tt, (o, tt))))
    go i (inl t) = (inl (i, (tt, (None, (t.0, (t.1, tt))))), ap (λ (l : List Lexeme). lexemes_of grammar d identifiers_rule i ++ Fixed (number Colon) ∷ l) (sym (typed_assoc d t.0 t.1)))
    go i (inr c) = constant i c.1

plain_object : (d : ℕ) → Into d plain_object_rule object_rule
unfolding object_rule typed_rule plain_object_rule
plain_object d (inl x) = go x.0 x.1.1.0 x.1.1.1.0 x.1.1.1.1.0
  where
    go : (i : Tree grammar d identifiers_rule) (c : Tree grammar d (Opt (the Constant))) (t : Tree grammar d (subtype_indication_rule ∣ array_rule)) (o : Tree grammar d (Opt initial_rule)) → As d object_rule (lexemes_of grammar d plain_object_rule (inl (i, (tt, (c, (t, (o, tt)))))))
    go i None t o = ((i, (tt, (inl (t, o), tt))), ap (λ (l : List Lexeme). lexemes_of grammar d identifiers_rule i ++ Fixed (number Colon) ∷ l) (typed_assoc d t o))
    go i (Some c) t o = ((i, (tt, (inr (tt, inr (t, o)), tt))), ap (λ (l : List Lexeme). lexemes_of grammar d identifiers_rule i ++ Fixed (number Colon) ∷ Fixed (number Constant) ∷ l) (typed_assoc d t o))
plain_object d (inr x) = ((x.0, (tt, (inr (tt, inl x.1.1.1.0), tt))), refl)

-- ---- subprograms

subprogram_plain : (d : ℕ) → Into d (specification_rule ⨾ subprogram_rule) plain_subprogram_rule
unfolding subprogram_rule plain_subprogram_rule grammar construct_at inside
subprogram_plain zero x = go x.0 x.1
  where
    go : (s : Tree grammar zero specification_rule) (t : Tree grammar zero subprogram_rule) → As zero plain_subprogram_rule (lexemes_of grammar zero (specification_rule ⨾ subprogram_rule) (s, t))
    go s (inl u) = (inl (s, tt), refl)
    go s (inr u) = (inr (inl (s, u)), refl)
subprogram_plain (suc d) x = go x.0 x.1
  where
    go : (s : Tree grammar (suc d) specification_rule) (t : Tree grammar (suc d) subprogram_rule) → As (suc d) plain_subprogram_rule (lexemes_of grammar (suc d) (specification_rule ⨾ subprogram_rule) (s, t))
    go s (inl u) = (inl (s, tt), refl)
    go s (inr (inl u)) = (inr (inl (s, (tt, u))), refl)
    go s (inr (inr b)) = (inr (inr (s, b)), refl)

plain_subprogram : (d : ℕ) → Into d plain_subprogram_rule (specification_rule ⨾ subprogram_rule)
unfolding subprogram_rule plain_subprogram_rule grammar construct_at inside
plain_subprogram zero (inl x) = ((x.0, inl tt), refl)
plain_subprogram zero (inr (inl x)) = ((x.0, inr x.1), refl)
plain_subprogram zero (inr (inr x)) = absurd x.1
plain_subprogram (suc d) (inl x) = ((x.0, inl tt), refl)
plain_subprogram (suc d) (inr (inl x)) = ((x.0, inr (inl x.1.1)), refl)
plain_subprogram (suc d) (inr (inr x)) = ((x.0, inr (inr x.1)), refl)

-- ---- statements that begin with an identifier

named_plain : (d : ℕ) → Into d (identifier_rule ⨾ named_rule) plain_named_rule
unfolding identifier_rule named_rule target_rule plain_named_rule
named_plain d x = go d x.0 x.1
  where
    unlabelled : (d : ℕ) (i : Label) (r : Tree grammar d name_rest_rule) (o : Tree grammar d (Opt initial_rule)) → As d plain_named_rule (lexemes_of grammar d (identifier_rule ⨾ named_rule) (i, inl (r, (o, tt))))
    unlabelled d i r None = (inr (inl ((i, r), tt)), refl)
    unlabelled d i r (Some e) = (inl ((i, r), (e, tt)), refl)

    go : (d : ℕ) (i : Label) (y : Tree grammar d named_rule) → As d plain_named_rule (lexemes_of grammar d (identifier_rule ⨾ named_rule) (i, y))
    go d i (inl y) = unlabelled d i y.0 y.1.0
    go zero i (inr y) = absurd y
    go (suc d) i (inr y) = (inr (inr (i, y)), refl)

no_loop : Tree grammar 0 (loop_rule ∣ block_rule) → ⊥
unfolding loop_rule block_rule
no_loop (inl (inl x)) = x.1
no_loop (inl (inr (inl x))) = x.1
no_loop (inl (inr (inr x))) = x.1
no_loop (inr (inl x)) = x.1
no_loop (inr (inr x)) = x.1

plain_named : (d : ℕ) → Into d plain_named_rule (identifier_rule ⨾ named_rule)
unfolding identifier_rule named_rule target_rule plain_named_rule
plain_named d (inl x) = ((x.0.0, inl (x.0.1, (Some x.1.0, tt))), refl)
plain_named d (inr (inl x)) = ((x.0.0, inl (x.0.1, (None, tt))), refl)
plain_named zero (inr (inr x)) = absurd (no_loop x.1.1)
plain_named (suc d) (inr (inr x)) = ((x.0, inr x.1), refl)

-- ---- names

abbrev suffix_rule : Rule
suffix_rule = the Dot ⨾ identifier_rule ∣ opens_at LeftParenthesis Arguments ∣ the Apostrophe ⨾ designator_rule

abbrev tick : ℕ
tick = number Apostrophe

-- selections, and designators with selections after them
abbrev Split : ℕ → Type 0
Split d = List (Tree grammar d selection_rule) × List (Tree grammar d (designator_rule ⨾ Many selection_rule))

module _ (d : ℕ) where
  abbrev suffix_lexemes : Tree grammar d suffix_rule → List Lexeme
  suffix_lexemes x = lexemes_of grammar d suffix_rule x

  abbrev selections : List (Tree grammar d selection_rule) → List Lexeme
  selections l = each (lexemes_of grammar d selection_rule) l

  abbrev designators : List (Tree grammar d (designator_rule ⨾ Many selection_rule)) → List Lexeme
  designators l = each (marked tick (lexemes_of grammar d (designator_rule ⨾ Many selection_rule))) l

  with_suffix : Tree grammar d suffix_rule → Split d → Split d
  unfolding selection_rule
  with_suffix (inl x) p = (inl x ∷ p.0, p.1)
  with_suffix (inr (inl x)) p = (inr x ∷ p.0, p.1)
  with_suffix (inr (inr x)) p = ([], (x.1, p.0) ∷ p.1)

  suffix_same : (x : Tree grammar d suffix_rule) (p : Split d) → selections (with_suffix x p).0 ++ designators (with_suffix x p).1 ≡ suffix_lexemes x ++ (selections p.0 ++ designators p.1)
  unfolding selection_rule with_suffix
  suffix_same (inl x) p = append_assoc (suffix_lexemes (inl x)) (selections p.0) (designators p.1)
  suffix_same (inr (inl x)) p = append_assoc (suffix_lexemes (inr (inl x))) (selections p.0) (designators p.1)
  suffix_same (inr (inr x)) p = append_assoc (suffix_lexemes (inr (inr x))) (selections p.0) (designators p.1)

  split : List (Tree grammar d suffix_rule) → Split d
  split [] = ([], [])
  split (x ∷ l) = with_suffix x (split l)

  split_same : (l : List (Tree grammar d suffix_rule)) → selections (split l).0 ++ designators (split l).1 ≡ each suffix_lexemes l
  unfolding split
  split_same [] = refl
  split_same (x ∷ l) = suffix_same x (split l) ∙ ap (λ (t : List Lexeme). suffix_lexemes x ++ t) (split_same l)

  as_suffix : Tree grammar d selection_rule → Tree grammar d suffix_rule
  unfolding selection_rule
  as_suffix (inl x) = inl x
  as_suffix (inr x) = inr (inl x)

  as_same : (x : Tree grammar d selection_rule) → suffix_lexemes (as_suffix x) ≡ lexemes_of grammar d selection_rule x
  unfolding selection_rule as_suffix
  as_same (inl x) = refl
  as_same (inr x) = refl

  fronted : List (Tree grammar d selection_rule) → List (Tree grammar d suffix_rule) → List (Tree grammar d suffix_rule)
  fronted [] r = r
  fronted (x ∷ l) r = as_suffix x ∷ fronted l r

  fronted_same : (l : List (Tree grammar d selection_rule)) (r : List (Tree grammar d suffix_rule)) → each suffix_lexemes (fronted l r) ≡ selections l ++ each suffix_lexemes r
  unfolding fronted
  fronted_same [] r = refl
  fronted_same (x ∷ l) r =
      ap (λ (t : List Lexeme). t ++ each suffix_lexemes (fronted l r)) (as_same x)
      ∙ ap (λ (t : List Lexeme). lexemes_of grammar d selection_rule x ++ t) (fronted_same l r)
      ∙ sym (append_assoc (lexemes_of grammar d selection_rule x) (selections l) (each suffix_lexemes r))

  ticks : List (Tree grammar d (designator_rule ⨾ Many selection_rule)) → List (Tree grammar d suffix_rule)
  ticks [] = []
  ticks (y ∷ l) = inr (inr (tt, y.0)) ∷ fronted y.1 (ticks l)

  ticks_same : (l : List (Tree grammar d (designator_rule ⨾ Many selection_rule))) → each suffix_lexemes (ticks l) ≡ designators l
  unfolding ticks
  ticks_same [] = refl
  ticks_same (y ∷ l) =
      let first = Fixed tick ∷ lexemes_of grammar d designator_rule y.0 in
      ap (λ (t : List Lexeme). first ++ t) (fronted_same y.1 (ticks l) ∙ ap (λ (t : List Lexeme). selections y.1 ++ t) (ticks_same l))
      ∙ sym (append_assoc first (selections y.1) (designators l))

-- what may stand after the last '
abbrev Last : ℕ → Type 0
Last d = Tree grammar d (Opt (the Apostrophe ⨾ parentheses_rule))

name_plain : (d : ℕ) → Into d name_rule plain_name_rule
unfolding identifier_rule name_rule name_rest_rule target_rule plain_name_rule
name_plain d x = go x.0 x.1.0 x.1.1.0 x.1.1.1
  where
    with_last : (i : Label) (l : List (Tree grammar d selection_rule)) (m : List (Tree grammar d (designator_rule ⨾ Many selection_rule))) (o : Last d) → lexemes_of grammar d plain_name_rule ((i, fronted d l (ticks d m)), o) ≡ Named (number Identifier) i ∷ (selections d l ++ (designators d m ++ lexemes_of grammar d (Opt (the Apostrophe ⨾ parentheses_rule)) o))
    with_last i l m o =
        let o' = lexemes_of grammar d (Opt (the Apostrophe ⨾ parentheses_rule)) o in
        ap (λ (t : List Lexeme). Named (number Identifier) i ∷ (t ++ o')) (fronted_same d l (ticks d m) ∙ ap (λ (t : List Lexeme). selections d l ++ t) (ticks_same d m))
        ∙ ap (λ (t : List Lexeme). Named (number Identifier) i ∷ t) (append_assoc (selections d l) (designators d m) o')

    go : (i : Label) (l : List (Tree grammar d selection_rule)) (m : List (Tree grammar d (designator_rule ⨾ Many selection_rule))) (o : Option (Tree grammar d parentheses_rule)) → As d plain_name_rule (lexemes_of grammar d name_rule (i, (l, (m, o))))
    go i l m None = (((i, fronted d l (ticks d m)), None), with_last i l m None)
    go i l m (Some p) = (((i, fronted d l (ticks d m)), Some (tt, p)), with_last i l m (Some (tt, p)))

plain_name : (d : ℕ) → Into d plain_name_rule name_rule
unfolding identifier_rule name_rule name_rest_rule target_rule plain_name_rule
plain_name d x = go x.0.0 x.0.1 x.1
  where
    with_last : (i : Label) (l : List (Tree grammar d suffix_rule)) (o : List Lexeme) → Named (number Identifier) i ∷ (selections d (split d l).0 ++ (designators d (split d l).1 ++ o)) ≡ (Named (number Identifier) i ∷ each (suffix_lexemes d) l) ++ o
    with_last i l o =
        ap (λ (t : List Lexeme). Named (number Identifier) i ∷ t) (sym (append_assoc (selections d (split d l).0) (designators d (split d l).1) o) ∙ ap (λ (t : List Lexeme). t ++ o) (split_same d l))

    go : (i : Label) (l : List (Tree grammar d suffix_rule)) (o : Last d) → As d name_rule (lexemes_of grammar d plain_name_rule ((i, l), o))
    go i l None = ((i, ((split d l).0, ((split d l).1, None))), with_last i l [])
    go i l (Some p) = ((i, ((split d l).0, ((split d l).1, Some p.1))), with_last i l (Fixed tick ∷ lexemes_of grammar d parentheses_rule p.1))

-- ---- what stands in parentheses

-- the parenthesis that closes
abbrev close : List Lexeme
close = Fixed (number RightParenthesis) ∷ []

parentheses_plain : (d : ℕ) → Into d (inside Parentheses) plain_parentheses_rule
unfolding inside expressions_rule plain_parentheses_rule
parentheses_plain d x = go x.0
  where
    listed : (e : Tree grammar d expression_rule) (l : Tree grammar d (Many (the Comma ⨾ expression_rule))) → As d plain_parentheses_rule (lexemes_of grammar d (inside Parentheses) (inl (e, l), tt))
    listed e [] = (inl (e, tt), ap (λ (t : List Lexeme). t ++ close) (sym (append-nil (lexemes_of grammar d expression_rule e))))
    listed e (y ∷ l) = (
      inr (inl (e, (tt, ((y.1, l), tt)))),
      sym (append_assoc (lexemes_of grammar d expression_rule e) (Fixed (number Comma) ∷ (lexemes_of grammar d expression_rule y.1 ++ lexemes_of grammar d (Many (the Comma ⨾ expression_rule)) l)) close),
    )

    go : (y : Tree grammar d (expressions_rule ∣ the Others ⨾ the Arrow ⨾ expression_rule)) → As d plain_parentheses_rule (lexemes_of grammar d (inside Parentheses) (y, tt))
    go (inl y) = listed y.0 y.1
    go (inr y) = (inr (inr (tt, (tt, (y.1.1, tt)))), refl)

plain_parentheses : (d : ℕ) → Into d plain_parentheses_rule (inside Parentheses)
unfolding inside expressions_rule plain_parentheses_rule
plain_parentheses d (inl x) = ((inl (x.0, []), tt), ap (λ (t : List Lexeme). t ++ close) (append-nil (lexemes_of grammar d expression_rule x.0)))
plain_parentheses d (inr (inl x)) =
    let es = x.1.1.0 in (
      (inl (x.0, (tt, es.0) ∷ es.1), tt),
      append_assoc (lexemes_of grammar d expression_rule x.0) (Fixed (number Comma) ∷ (lexemes_of grammar d expression_rule es.0 ++ lexemes_of grammar d (Many (the Comma ⨾ expression_rule)) es.1)) close,
    )
plain_parentheses d (inr (inr x)) = ((inr (tt, (tt, x.1.1.0)), tt), refl)

-- ---- bodies and units

task_plain : (d : ℕ) → Into d (any Task ⨾ (task_rule ∣ opens Body TaskBody)) plain_task_rule
unfolding plain_task_rule
task_plain d x = go x.0 x.1
  where
    go : (t : Label) (y : Tree grammar d (task_rule ∣ opens Body TaskBody)) → As d plain_task_rule (lexemes_of grammar d (any Task ⨾ (task_rule ∣ opens Body TaskBody)) (t, y))
    go t (inl y) = (inl (t, y), refl)
    go t (inr y) = (inr (t, y), refl)

plain_task : (d : ℕ) → Into d plain_task_rule (any Task ⨾ (task_rule ∣ opens Body TaskBody))
unfolding plain_task_rule
plain_task d (inl x) = ((x.0, inl x.1), refl)
plain_task d (inr x) = ((x.0, inr x.1), refl)

operation_body_plain : (d : ℕ) → Into d operation_body_rule plain_operation_body_rule
unfolding operation_body_rule plain_operation_body_rule
operation_body_plain zero (inl x) = absurd x
operation_body_plain (suc d) (inl x) = (inl x, refl)
operation_body_plain d (inr x) = (inr x, refl)

plain_operation_body : (d : ℕ) → Into d plain_operation_body_rule operation_body_rule
unfolding operation_body_rule plain_operation_body_rule
plain_operation_body zero (inl x) = absurd x.1
plain_operation_body (suc d) (inl x) = (inl x, refl)
plain_operation_body d (inr x) = (inr x, refl)

library_item_plain : (d : ℕ) → Into d library_item_rule plain_library_item_rule
unfolding library_item_rule plain_library_item_rule
library_item_plain d (inl x) = go x.0 x.1
  where
    go : (p : Label) (y : Tree grammar d (specification_rule ⨾ the Semicolon ∣ opens_at Package PackageDeclaration)) → As d plain_library_item_rule (lexemes_of grammar d library_item_rule (inl (p, y)))
    go p (inl y) = (inl (p, y), refl)
    go p (inr y) = (inr (inl (p, y)), refl)
library_item_plain d (inr (inl x)) = go x.0 x.1
  where
    go : (s : Tree grammar d specification_rule) (y : Tree grammar d (the Semicolon ∣ opens Is SubprogramBody)) → As d plain_library_item_rule (lexemes_of grammar d library_item_rule (inr (inl (s, y))))
    go s (inl y) = (inr (inr (inl (s, y))), refl)
    go s (inr y) = (inr (inr (inr (inl (s, y)))), refl)
library_item_plain d (inr (inr (inl x))) = (inr (inr (inr (inr (inl x)))), refl)
library_item_plain d (inr (inr (inr x))) = (inr (inr (inr (inr (inr x)))), refl)

plain_library_item : (d : ℕ) → Into d plain_library_item_rule library_item_rule
unfolding library_item_rule plain_library_item_rule
plain_library_item d (inl x) = (inl (x.0, inl x.1), refl)
plain_library_item d (inr (inl x)) = (inl (x.0, inr x.1), refl)
plain_library_item d (inr (inr (inl x))) = (inr (inl (x.0, inl x.1)), refl)
plain_library_item d (inr (inr (inr (inl x)))) = (inr (inl (x.0, inr x.1)), refl)
plain_library_item d (inr (inr (inr (inr (inl x))))) = (inr (inr (inl x)), refl)
plain_library_item d (inr (inr (inr (inr (inr x))))) = (inr (inr (inr x)), refl)

pub rules_plain : RulesArePlain
rules_plain = (
  same name_rule plain_name_rule name_plain plain_name,
  same relation_rule plain_relation_rule relation_plain plain_relation,
  same expression_rule plain_expression_rule expression_plain plain_expression,
  same array_rule plain_array_rule array_plain plain_array,
  same object_rule plain_object_rule object_plain plain_object,
  same (specification_rule ⨾ subprogram_rule) plain_subprogram_rule subprogram_plain plain_subprogram,
  same (identifier_rule ⨾ named_rule) plain_named_rule named_plain plain_named,
  same (inside Parentheses) plain_parentheses_rule parentheses_plain plain_parentheses,
  same (any Task ⨾ (task_rule ∣ opens Body TaskBody)) plain_task_rule task_plain plain_task,
  same operation_body_rule plain_operation_body_rule operation_body_plain plain_operation_body,
  same library_item_rule plain_library_item_rule library_item_plain plain_library_item,
)
