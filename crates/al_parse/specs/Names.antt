-- A name as a flat list of its parts, with a qualified expression perhaps at its end.
use Rattle.std.specs.Prelude.{Bool, ℕ, ◌≡◌, ◌||◌, ◌&&◌, [], ◌∷◌, ◌++◌, drop, Result, Ok, Err}
use Rattle.al_tree_grammar.specs.Grammar.{Rule}
use Rattle.al_tree_grammar.specs.Grammar.Rule.{Opt, Many, Marked}
use Rattle.al_tree_grammar.specs.Reading.{begins, first}
use Rattle.al_tree_syntax.specs.Constructs.Construct.{Arguments}
use Rattle.al_tree_syntax.specs.Expressions.{identifier_rule, selection_rule, designator_rule, parentheses_rule}
use Rattle.al_tree_syntax.specs.Notation.{◌⨾◌, ◌∣◌, the, opens_at}
use Rattle.al_tree_syntax.specs.Symbols.{number}
use Rattle.al_tree_syntax.specs.Symbols.Symbol.{Apostrophe, Dot, LeftParenthesis}
use Rattle.al_parse.specs.declared.stop.Stop.{Stop}
use Rattle.al_parse.specs.Parses.{Lexemes, Stops, reading}

-- a part of a name after its first identifier
unfoldable pub part_rule : Rule
part_rule = the Dot ⨾ identifier_rule ∣ opens_at LeftParenthesis Arguments ∣ the Apostrophe ⨾ designator_rule

-- after the identifier that a name begins with
unfoldable pub name_tail_rule : Rule
name_tail_rule = Many selection_rule ⨾ Marked (number Apostrophe) (designator_rule ⨾ Many selection_rule) parentheses_rule

-- what makes a qualified expression of a name
unfoldable pub qualified_rule : Rule
qualified_rule = Opt (the Apostrophe ⨾ parentheses_rule)

-- the name has one more part
abbrev pub goes_on : Lexemes → Bool
goes_on xs = begins (first selection_rule) xs || (begins (number Apostrophe ∷ []) xs && begins (first designator_rule) (drop 1 xs))

-- What was read by the rule of a name, or of its end, is before the rest, and after it at most what makes a qualified expression is
-- left of the name.
abbrev pub GivesParts : {X : Type 0} → (X → Lexemes) → (X → Lexemes) → Result X Stop → ℕ → Rule → Lexemes → Type 0
GivesParts front rest (Ok x) d a xs = (xs ≡ front x ++ rest x) × (reading d a xs ≡ reading d qualified_rule (rest x))
GivesParts front rest (Err e) d a xs = Stops e (reading d a xs)
