-- Names of a text: an identifier, or one that is selected in what a name before it denotes (ARM 4.1.3).
use Rattle.std.specs.Prelude.{ℕ, List, [], ◌∷◌, ◌++◌, Bool, true, false, Option, Some, None, option_map}
use Rattle.al_base_fault.specs.declared.check_rule.CheckRule.TheVariants.{NotVisible}
use Rattle.al_tree_grammar.specs.Grammar.{Label}
use Rattle.al_base_fault.specs.Faults.{fault_at}
use Rattle.al_base_fault.specs.declared.fault.Fault.{Fault}
use Rattle.al_tree_syntax.specs.ExpressionTrees.{ExpressionTree, ExpressionTree as e, PartTree, PartTree as part}
use Rattle.al_view.specs.Interfaces.{views_of}
use Rattle.al_view.specs.declared.view.ViewKind.{ViewKind}
use Rattle.al_overload_lookup.specs.declared.denoted.Names.{Names}
use Rattle.al_overload_lookup.specs.Places.{place_of}

-- what names denote at a place: the declarations that are visible under a name; and if it was selected, those in which it was looked for
pub record Denotations : Type 0 where
  pub visible : List ℕ → List ViewKind
  pub prefixes : List ℕ → List ViewKind

abbrev pub denoted : Names → Denotations
denoted names = record { visible = views_of names.visible; prefixes = views_of names.prefixes }

-- a name that is selected in another one
abbrev pub dotted : List ℕ → List ℕ → List ℕ
dotted prefix name = prefix ++ 46 ∷ name

-- with a part after a name
abbrev pub key_with : Option (List ℕ) → PartTree → Option (List ℕ)
key_with key (part.Selector l) = option_map (λ k. dotted k l.text) key
key_with key (part.Arguments l first others) = None
key_with key (part.Attribute l) = None
key_with key part.RangeAttribute = None
key_with key (part.Operand g) = None

-- the name that an expression is, if it is one
abbrev pub key_of : ExpressionTree → Option (List ℕ)
key_of (e.Name l) = Some l.text
key_of (e.Longer prefix p) = key_with (key_of prefix) p
key_of (e.Number l) = None
key_of (e.Text l) = None
key_of (e.Prefixed operator operand) = None
key_of (e.Infix left operator right) = None
key_of (e.InMark left n mark) = None
key_of (e.InRange left n low high) = None
key_of (e.Group group) = None

abbrev pub not_visible : Label → Fault
not_visible l = fault_at (place_of l) NotVisible

abbrev pub is_none : List ViewKind → Bool
is_none [] = true
is_none (v ∷ vs) = false
