-- How the rules are written.
use Rattle.al_tree_grammar.specs.Grammar.{Rule}
use Rattle.al_tree_grammar.specs.Grammar.Rule.{One, Any, Seq, Alt, Many, Nest, Begun}
use Rattle.al_tree_syntax.specs.Symbols.{Symbol, number}
use Rattle.al_tree_syntax.specs.Constructs.{Construct, place}

infixr 30 ◌⨾◌
infixr 20 ◌∣◌
-- one rule after another
abbrev pub ◌⨾◌ : Rule → Rule → Rule
a ⨾ b = Seq a b

-- one rule or another, as the next lexeme decides
abbrev pub ◌∣◌ : Rule → Rule → Rule
a ∣ b = Alt a b

-- a reserved word or a delimiter without a label
abbrev pub the : Symbol → Rule
the s = One (number s)

-- a lexeme with a label
abbrev pub any : Symbol → Rule
any s = Any (number s)

-- the construct c, which opens with s, without a label
abbrev pub opens : Symbol → Construct → Rule
opens s c = Nest (number s) (place c)

-- the construct c, which opens with s, with a label
abbrev pub opens_at : Symbol → Construct → Rule
opens_at s c = Begun (number s) (place c)

-- one a, or more with s between them
abbrev pub parted : Symbol → Rule → Rule
parted s a = a ⨾ Many (the s ⨾ a)
