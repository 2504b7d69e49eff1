-- Which kinds of lexemes a rule uses with a label, and which without.
use Rattle.std.specs.Prelude.{ℕ, Bool, not, ◌&&◌}
use Rattle.al_tree_grammar.specs.Grammar.{Rule}
use Rattle.al_tree_grammar.specs.Grammar.Rule.{One, Any, Seq, Alt, Opt, Many, Nest, Begun, Room, RoomOr, Marked}

-- Each kind is used with a label if it is a labelled one, and without if it is not.
abbrev pub uses : (ℕ → Bool) → Rule → Bool
uses labelled (One k) = not (labelled k)
uses labelled (Any k) = labelled k
uses labelled (Seq a b) = uses labelled a && uses labelled b
uses labelled (Alt a b) = uses labelled a && uses labelled b
uses labelled (Opt a) = uses labelled a
uses labelled (Many a) = uses labelled a
uses labelled (Nest k n) = not (labelled k)
uses labelled (Begun k n) = labelled k
uses labelled (Room a) = uses labelled a
uses labelled (RoomOr a b) = uses labelled a && uses labelled b
uses labelled (Marked k a b) = not (labelled k) && (uses labelled a && uses labelled b)
