-- How the faults of a text are found, by the constructors and fields of the program's trees.
use Rattle.std.proofs.Common.{◌≡◌, ℕ, zero, suc, ◌<◌, List, [], ◌∷◌, map, length, take, get_or, Option, Some, None, refl, sym, ap, ◌∙◌, arith}
use Rattle.std.specs.Prelude.{option_map}
use Rattle.al_base.specs.declared.place.Place.{Place}
use Rattle.al_tree_grammar.specs.Grammar.{Label}
use Rattle.al_overload.specs.declared.everywhere.Predefined.{Predefined}
use Rattle.al_base_fault.specs.Faults.{earlier}
use Rattle.al_base_fault.specs.declared.fault.Fault.{Fault}
use Rattle.al_overload_lookup.proofs.Fields.{infix_fields, longer_fields, member_fields, prefixed_fields}
use Rattle.al_overload_lookup.specs.Keys.{Denotations}
use Rattle.al_overload_lookup.specs.Places.{first_place, group_place}
use Rattle.al_overload_values.specs.Prefixes.{place_after, prefix_fault}
use Rattle.al_overload_values.specs.Texts.{all_fault, after_fault, group_fault, text_fault}
use Rattle.al_tree_syntax.specs.ExpressionTrees.{ExpressionTree, ExpressionTree as e, ExpressionsTree, ExpressionsTree as es, GroupTree, GroupTree as g, PartTree as part}
use Rattle.al_overload_readings.specs.Texts.{read}
use Rattle.al_tree.specs.ExpressionViews.{expression_model, expressions_of, infix_model, longer_model, member_of, member_model, part_model, prefixed_model}
use Rattle.al_tree.specs.Lexemes.{place_label}
use Rattle.al_tree.specs.declared.expression.Expression.{Expression}
use Rattle.al_tree.specs.declared.expression.Infix.{Infix, out-Infix}
use Rattle.al_tree.specs.declared.expression.Longer.{Longer, out-Longer}
use Rattle.al_tree.specs.declared.expression.Member.{Member, out-Member}
use Rattle.al_tree.specs.declared.expression.Prefixed.{Prefixed, out-Prefixed}
use Rattle.al_view.specs.declared.symbol.Symbol.{Symbol}

-- ---- expressions

pub number_fault : (p : Predefined) (own : Option Symbol) (d : Denotations) (at : Place) (found : Option Fault) (l : Label) → text_fault p own d at found (e.Number l) ≡ found
unfolding text_fault
number_fault p own d at found l = refl

pub string_fault : (p : Predefined) (own : Option Symbol) (d : Denotations) (at : Place) (found : Option Fault) (l : Label) → text_fault p own d at found (e.Text l) ≡ found
unfolding text_fault
string_fault p own d at found l = refl

pub name_fault : (p : Predefined) (own : Option Symbol) (d : Denotations) (at : Place) (found : Option Fault) (l : Label) → text_fault p own d at found (e.Name l) ≡ found
unfolding text_fault
name_fault p own d at found l = refl

pub longer_fault : (p : Predefined) (own : Option Symbol) (d : Denotations) (at : Place) (found : Option Fault) (n : Longer)
    → text_fault p own d at found (longer_model n) ≡ text_fault p own d at (after_fault p own d at found (expression_model (out-Longer n).prefix) (part_model (out-Longer n).part)) (expression_model (out-Longer n).prefix)
unfolding text_fault
longer_fault p own d at found n = ap (text_fault p own d at found) (longer_fields n)

pub prefixed_fault : (p : Predefined) (own : Option Symbol) (d : Denotations) (at : Place) (found : Option Fault) (n : Prefixed)
    → text_fault p own d at found (prefixed_model n) ≡ text_fault p own d at found (expression_model (out-Prefixed n).operand)
unfolding text_fault
prefixed_fault p own d at found n = ap (text_fault p own d at found) (prefixed_fields n)

pub infix_fault : (p : Predefined) (own : Option Symbol) (d : Denotations) (at : Place) (found : Option Fault) (i : Infix)
    → text_fault p own d at found (infix_model i) ≡ text_fault p own d at (text_fault p own d at found (expression_model (out-Infix i).right)) (expression_model (out-Infix i).left)
unfolding text_fault
infix_fault p own d at found i = ap (text_fault p own d at found) (infix_fields i)

pub grouped_fault : (p : Predefined) (own : Option Symbol) (d : Denotations) (at : Place) (found : Option Fault) (x : GroupTree) → text_fault p own d at found (e.Group x) ≡ group_fault p own d at found x
unfolding text_fault
grouped_fault p own d at found x = refl

-- ---- membership tests

pub mark_fault : (p : Predefined) (own : Option Symbol) (d : Denotations) (at : Place) (found : Option Fault) (m : Member) → (out-Member m).high ≡ None
    → text_fault p own d at found (member_model m) ≡ text_fault p own d at (text_fault p own d at found (expression_model (out-Member m).low)) (expression_model (out-Member m).left)
unfolding text_fault
mark_fault p own d at found m is = ap (text_fault p own d at found) (member_fields m)
    ∙ ap (λ (u : Option Expression). text_fault p own d at found (member_of (expression_model (out-Member m).left) (option_map place_label (out-Member m).not) (expression_model (out-Member m).low) (option_map expression_model u))) is

pub bounds_fault : (p : Predefined) (own : Option Symbol) (d : Denotations) (at : Place) (found : Option Fault) (m : Member) (high : Expression) → (out-Member m).high ≡ Some high
    → text_fault p own d at found (member_model m)
    ≡ text_fault p own d at (text_fault p own d at (text_fault p own d at found (expression_model high)) (expression_model (out-Member m).low)) (expression_model (out-Member m).left)
unfolding text_fault
bounds_fault p own d at found m high is = ap (text_fault p own d at found) (member_fields m)
    ∙ ap (λ (u : Option Expression). text_fault p own d at found (member_of (expression_model (out-Member m).left) (option_map place_label (out-Member m).not) (expression_model (out-Member m).low) (option_map expression_model u))) is

-- ---- what comes after a name

pub selector_fault : (p : Predefined) (own : Option Symbol) (d : Denotations) (at : Place) (found : Option Fault) (x : ExpressionTree) (l : Label) → after_fault p own d at found x (part.Selector l) ≡ found
unfolding after_fault
selector_fault p own d at found x l = refl

pub arguments_fault : (p : Predefined) (own : Option Symbol) (d : Denotations) (at : Place) (found : Option Fault) (x : ExpressionTree) (l : Label) (first : ExpressionTree) (others : ExpressionsTree)
    → after_fault p own d at found x (part.Arguments l first others)
    ≡ all_fault p own d (place_after at (first_place first) (read d x)) (text_fault p own d (place_after at (first_place first) (read d x)) found first) others
unfolding after_fault
arguments_fault p own d at found x l first others = refl

pub attribute_fault : (p : Predefined) (own : Option Symbol) (d : Denotations) (at : Place) (found : Option Fault) (x : ExpressionTree) (l : Label) → after_fault p own d at found x (part.Attribute l) ≡ earlier found (prefix_fault p own at (read d x))
unfolding after_fault
attribute_fault p own d at found x l = refl

pub range_fault : (p : Predefined) (own : Option Symbol) (d : Denotations) (at : Place) (found : Option Fault) (x : ExpressionTree) → after_fault p own d at found x part.RangeAttribute ≡ earlier found (prefix_fault p own at (read d x))
unfolding after_fault
range_fault p own d at found x = refl

pub operand_fault : (p : Predefined) (own : Option Symbol) (d : Denotations) (at : Place) (found : Option Fault) (x : ExpressionTree) (group : GroupTree) → after_fault p own d at found x (part.Operand group) ≡ group_fault p own d (group_place group) found group
unfolding after_fault
operand_fault p own d at found x group = refl

-- ---- what is in parentheses

pub positional_fault : (p : Predefined) (own : Option Symbol) (d : Denotations) (at : Place) (found : Option Fault) (l : Label) (first : ExpressionTree) (others : ExpressionsTree)
    → group_fault p own d at found (g.Positional l first others) ≡ all_fault p own d at (text_fault p own d at found first) others
unfolding group_fault
positional_fault p own d at found l first others = refl

pub others_fault : (p : Predefined) (own : Option Symbol) (d : Denotations) (at : Place) (found : Option Fault) (l : Label) (value : ExpressionTree) → group_fault p own d at found (g.OthersAggregate l value) ≡ text_fault p own d at found value
unfolding group_fault
others_fault p own d at found l value = refl

-- ---- several

pub none_fault : (p : Predefined) (own : Option Symbol) (d : Denotations) (at : Place) (found : Option Fault) → all_fault p own d at found es.NoExpression ≡ found
unfolding all_fault
none_fault p own d at found = refl

-- with the one at an index
with_one : (p : Predefined) (own : Option Symbol) (d : Denotations) (at : Place) (found : Option Fault) (xs : List Expression) (i : ℕ) (x : Expression) → i < length xs → x ≡ get_or xs i x
    → all_fault p own d at found (expressions_of (map expression_model (take (suc i) xs))) ≡ text_fault p own d at (all_fault p own d at found (expressions_of (map expression_model (take i xs)))) (expression_model x)
unfolding all_fault
with_one p own d at found [] i x h same = absurd (omega arith)
with_one p own d at found (y ∷ ys) zero x h same = ap (λ (z : Expression). text_fault p own d at found (expression_model z)) (sym same)
with_one p own d at found (y ∷ ys) (suc i) x h same = with_one p own d at (text_fault p own d at found (expression_model y)) ys i x (omega arith) same

pub more_fault : (p : Predefined) (own : Option Symbol) (d : Denotations) (at : Place) (found : Option Fault) (xs : List Expression) (n i : ℕ) (x : Expression) → n ≡ suc i → i < length xs → x ≡ get_or xs i x
    → all_fault p own d at found (expressions_of (map expression_model (take n xs))) ≡ text_fault p own d at (all_fault p own d at found (expressions_of (map expression_model (take i xs)))) (expression_model x)
more_fault p own d at found xs n i x is h same =
    ap (λ (k : ℕ). all_fault p own d at found (expressions_of (map expression_model (take k xs)))) is ∙ with_one p own d at found xs i x h same
