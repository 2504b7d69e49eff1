-- The first fault in the prefixes of all attributes of a text, by what its names denote: that which was found already, or one in the text. The text
-- is in a context that begins at this place.
use Rattle.std.specs.Prelude.{Option}
use Rattle.al_base.specs.declared.place.Place.{Place}
use Rattle.al_overload.specs.declared.everywhere.Predefined.{Predefined}
use Rattle.al_base_fault.specs.Faults.{earlier}
use Rattle.al_base_fault.specs.declared.fault.Fault.{Fault}
use Rattle.al_overload_lookup.specs.Keys.{Denotations}
use Rattle.al_overload_lookup.specs.Places.{first_place, group_place}
use Rattle.al_overload_values.specs.Prefixes.{place_after, prefix_fault}
use Rattle.al_tree_syntax.specs.ExpressionTrees.{ExpressionTree, ExpressionTree as e, ExpressionsTree, ExpressionsTree as es, GroupTree, GroupTree as g, PartTree, PartTree as part}
use Rattle.al_overload_readings.specs.Texts.{read}
use Rattle.al_view.specs.declared.symbol.Symbol.{Symbol}

unfoldable mutual
  pub text_fault : Predefined → Option Symbol → Denotations → Place → Option Fault → ExpressionTree → Option Fault
  text_fault p own d at found (e.Number l) = found
  text_fault p own d at found (e.Text l) = found
  text_fault p own d at found (e.Name l) = found
  text_fault p own d at found (e.Longer prefix x) = text_fault p own d at (after_fault p own d at found prefix x) prefix
  text_fault p own d at found (e.Prefixed operator operand) = text_fault p own d at found operand
  text_fault p own d at found (e.Infix left operator right) = text_fault p own d at (text_fault p own d at found right) left
  text_fault p own d at found (e.InMark left n mark) = text_fault p own d at (text_fault p own d at found mark) left
  text_fault p own d at found (e.InRange left n low high) =
      text_fault p own d at (text_fault p own d at (text_fault p own d at found high) low) left
  text_fault p own d at found (e.Group group) = group_fault p own d at found group

  -- after a name, or what is like one
  pub after_fault : Predefined → Option Symbol → Denotations → Place → Option Fault → ExpressionTree → PartTree → Option Fault
  after_fault p own d at found prefix (part.Selector l) = found
  after_fault p own d at found prefix (part.Arguments l first others) =
      all_fault p own d (place_after at (first_place first) (read d prefix)) (text_fault p own d (place_after at (first_place first) (read d prefix)) found first) others
  after_fault p own d at found prefix (part.Attribute l) = earlier found (prefix_fault p own at (read d prefix))
  after_fault p own d at found prefix part.RangeAttribute = earlier found (prefix_fault p own at (read d prefix))
  -- the operand of a qualified expression is a context of its own
  after_fault p own d at found prefix (part.Operand group) = group_fault p own d (group_place group) found group

  pub group_fault : Predefined → Option Symbol → Denotations → Place → Option Fault → GroupTree → Option Fault
  group_fault p own d at found (g.Positional l first others) = all_fault p own d at (text_fault p own d at found first) others
  group_fault p own d at found (g.OthersAggregate l value) = text_fault p own d at found value

  pub all_fault : Predefined → Option Symbol → Denotations → Place → Option Fault → ExpressionsTree → Option Fault
  all_fault p own d at found es.NoExpression = found
  all_fault p own d at found (es.MoreExpressions x xs) = all_fault p own d at (text_fault p own d at found x) xs
