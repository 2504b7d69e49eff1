-- Where an expression begins.
use Rattle.al_base.specs.declared.place.Place.{Place}
use Rattle.al_tree_grammar.specs.Grammar.{Label}
use Rattle.al_tree_syntax.specs.ExpressionTrees.{ExpressionTree, ExpressionTree as e, GroupTree, GroupTree as g, Prefix, Prefix as p, Sign, Sign as s}

abbrev pub place_of : Label → Place
place_of l = record { line = l.line; col = l.col }

abbrev pub sign_place : Sign → Place
sign_place (s.PlusSign l) = place_of l
sign_place (s.MinusSign l) = place_of l

abbrev pub prefix_place : Prefix → Place
prefix_place (p.Signed sign) = sign_place sign
prefix_place (p.Absolute l) = place_of l
prefix_place (p.Negation l) = place_of l

abbrev pub group_place : GroupTree → Place
group_place (g.Positional l first others) = place_of l
group_place (g.OthersAggregate l value) = place_of l

-- the first token
abbrev pub first_place : ExpressionTree → Place
first_place (e.Number l) = place_of l
first_place (e.Text l) = place_of l
first_place (e.Name l) = place_of l
first_place (e.Longer prefix part) = first_place prefix
first_place (e.Prefixed operator operand) = prefix_place operator
first_place (e.Infix left operator right) = first_place left
first_place (e.InMark left n mark) = first_place left
first_place (e.InRange left n low high) = first_place left
first_place (e.Group group) = group_place group
