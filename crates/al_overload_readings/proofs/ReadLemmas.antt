-- How trees of the program are read, by their constructors and fields.
use Rattle.std.proofs.Common.{◌≡◌, ℕ, zero, suc, ◌<◌, Bool, false, ◌&&◌, ◌||◌, List, [], ◌∷◌, map, length, take, get_or, Option, Some, None, Result, Ok, Err, refl, sym, ap, subst, ◌∙◌, arith}
use Rattle.std.specs.Prelude.{option_map, is_some}
use Rattle.al_base.specs.declared.place.Place.{Place}
use Rattle.al_tree_grammar.specs.Grammar.{Label}
use Rattle.al_base_fault.specs.Judging.{both, next, map_ok}
use Rattle.al_base_fault.specs.declared.fault.Fault.{Fault}
use Rattle.al_overload_lookup.proofs.Fields.{infix_fields, longer_fields, member_fields, prefixed_fields}
use Rattle.al_overload_lookup.specs.Keys.{Denotations}
use Rattle.al_overload_lookup.specs.Places.{group_place, place_of}
use Rattle.al_tree_syntax.specs.ExpressionTrees.{ExpressionTree, ExpressionTree as e, ExpressionsTree, ExpressionsTree as es, GroupTree, GroupTree as g, PartTree as part}
use Rattle.al_overload.specs.Terms.{TermTree, TermTree as terms}
use Rattle.al_overload_readings.specs.Readings.{ReadTree, ReadTree as reads, named, valued}
use Rattle.al_overload_readings.specs.Steps.{added, aggregated, grouped, joined_read, member_read, prefixed_read, range_member_read, repeated, started}
use Rattle.al_overload_readings.specs.Noted.{NotedTree, attributed, plain, qualifying, ranged, with_argument, with_arguments, with_selector}
use Rattle.al_overload_readings.specs.Texts.{group_term, is_name, is_range, is_range_attribute, is_selector, noted, number_value, one_range, read, read_more, with_part}
use Rattle.al_tree.specs.ExpressionViews.{expression_model, expressions_of, infix_model, longer_model, member_of, member_model, operator_model, part_model, prefix_model, prefixed_model}
use Rattle.al_tree.specs.Lexemes.{place_label}
use Rattle.al_tree.specs.declared.expression.Expression.{Expression}
use Rattle.al_tree.specs.declared.expression.Infix.{Infix, out-Infix}
use Rattle.al_tree.specs.declared.expression.Longer.{Longer, out-Longer}
use Rattle.al_tree.specs.declared.expression.Member.{Member, out-Member}
use Rattle.al_tree.specs.declared.expression.Prefixed.{Prefixed, out-Prefixed}

-- ---- what is written as a name

pub longer_is_name : (n : Longer) → is_name (longer_model n) ≡ (is_selector (part_model (out-Longer n).part) && is_name (expression_model (out-Longer n).prefix))
longer_is_name n = ap is_name (longer_fields n)

pub prefixed_is_name : (p : Prefixed) → is_name (prefixed_model p) ≡ false
prefixed_is_name p = ap is_name (prefixed_fields p)

pub infix_is_name : (i : Infix) → is_name (infix_model i) ≡ false
infix_is_name i = ap is_name (infix_fields i)

no_name : (s : ExpressionTree) (n : Option Label) (t : ExpressionTree) (u : Option ExpressionTree) → is_name (member_of s n t u) ≡ false
no_name s n t None = refl
no_name s n t (Some u) = refl

pub member_is_name : (m : Member) → is_name (member_model m) ≡ false
member_is_name m = ap is_name (member_fields m)
    ∙ no_name (expression_model (out-Member m).left) (option_map place_label (out-Member m).not) (expression_model (out-Member m).low) (option_map expression_model (out-Member m).high)

pub longer_is_range : (n : Longer) → is_range (longer_model n) ≡ (is_range_attribute (part_model (out-Longer n).part) || (is_selector (part_model (out-Longer n).part) && is_name (expression_model (out-Longer n).prefix)))
longer_is_range n = ap is_range (longer_fields n)

pub prefixed_is_range : (p : Prefixed) → is_range (prefixed_model p) ≡ false
prefixed_is_range p = ap is_range (prefixed_fields p)

pub infix_is_range : (i : Infix) → is_range (infix_model i) ≡ false
infix_is_range i = ap is_range (infix_fields i)

no_range : (s : ExpressionTree) (n : Option Label) (t : ExpressionTree) (u : Option ExpressionTree) → is_range (member_of s n t u) ≡ false
no_range s n t None = refl
no_range s n t (Some u) = refl

pub member_is_range : (m : Member) → is_range (member_model m) ≡ false
member_is_range m = ap is_range (member_fields m)
    ∙ no_range (expression_model (out-Member m).left) (option_map place_label (out-Member m).not) (expression_model (out-Member m).low) (option_map expression_model (out-Member m).high)

-- ---- expressions

pub number_read : (d : Denotations) (l : Label) → noted d (e.Number l) ≡ plain (Ok (reads.TermRead (terms.NumberTerm (place_of l) (number_value l))))
unfolding noted
number_read d l = refl

pub text_read : (d : Denotations) (l : Label) → noted d (e.Text l) ≡ plain (Ok (reads.TermRead (terms.TextTerm (place_of l) l.text)))
unfolding noted
text_read d l = refl

pub name_read : (d : Denotations) (l : Label) → noted d (e.Name l) ≡ plain (named (place_of l) l.text (d.visible l.text) l)
unfolding noted
name_read d l = refl

pub group_read : (d : Denotations) (x : GroupTree) → noted d (e.Group x) ≡ plain (map_ok reads.TermRead (group_term d x))
unfolding noted
group_read d x = refl

pub longer_read : (d : Denotations) (n : Longer) → noted d (longer_model n) ≡ with_part d (part_model (out-Longer n).part) (noted d (expression_model (out-Longer n).prefix))
unfolding noted
longer_read d n = ap (noted d) (longer_fields n)

pub prefix_read : (d : Denotations) (p : Prefixed) → noted d (prefixed_model p) ≡ plain (prefixed_read d (prefix_model (out-Prefixed p).operator) (next (read d (expression_model (out-Prefixed p).operand)) valued))
unfolding noted
prefix_read d p = ap (noted d) (prefixed_fields p)

pub infix_read : (d : Denotations) (i : Infix) → noted d (infix_model i) ≡ plain (joined_read d (operator_model (out-Infix i).operator) (next (read d (expression_model (out-Infix i).left)) valued) (next (read d (expression_model (out-Infix i).right)) valued))
unfolding noted
infix_read d i = ap (noted d) (infix_fields i)

-- a membership test by its parts
member_parts : Denotations → ExpressionTree → Bool → ExpressionTree → Option ExpressionTree → Result ReadTree Fault
member_parts d s n t None = member_read n (next (read d s) valued) (one_range t (read d t))
member_parts d s n t (Some u) = range_member_read n (next (read d s) valued) (both (next (read d t) valued) (next (read d u) valued))

is_some_map : {A B : Type 0} (f : A → B) (o : Option A) → is_some (option_map f o) ≡ is_some o
is_some_map f None = refl
is_some_map f (Some x) = refl

member_split : (d : Denotations) (s : ExpressionTree) (n : Option Label) (t : ExpressionTree) (u : Option ExpressionTree) → noted d (member_of s n t u) ≡ plain (member_parts d s (is_some n) t u)
unfolding noted member_parts
member_split d s n t None = refl
member_split d s n t (Some u) = refl

member_fully : (d : Denotations) (m : Member) → noted d (member_model m) ≡ plain (member_parts d (expression_model (out-Member m).left) (is_some (out-Member m).not) (expression_model (out-Member m).low) (option_map expression_model (out-Member m).high))
member_fully d m = ap (noted d) (member_fields m)
    ∙ member_split d (expression_model (out-Member m).left) (option_map place_label (out-Member m).not) (expression_model (out-Member m).low) (option_map expression_model (out-Member m).high)
    ∙ ap (λ (b : Bool). plain (member_parts d (expression_model (out-Member m).left) b (expression_model (out-Member m).low) (option_map expression_model (out-Member m).high))) (is_some_map place_label (out-Member m).not)

pub member_in_mark : (d : Denotations) (m : Member) → (out-Member m).high ≡ None → noted d (member_model m) ≡ plain (member_read (is_some (out-Member m).not) (next (read d (expression_model (out-Member m).left)) valued) (one_range (expression_model (out-Member m).low) (read d (expression_model (out-Member m).low))))
unfolding member_parts
member_in_mark d m is = member_fully d m
    ∙ ap (λ (u : Option Expression). plain (member_parts d (expression_model (out-Member m).left) (is_some (out-Member m).not) (expression_model (out-Member m).low) (option_map expression_model u))) is

pub member_in_range : (d : Denotations) (m : Member) (high : Expression) → (out-Member m).high ≡ Some high → noted d (member_model m) ≡ plain (range_member_read (is_some (out-Member m).not) (next (read d (expression_model (out-Member m).left)) valued) (both (next (read d (expression_model (out-Member m).low)) valued) (next (read d (expression_model high)) valued)))
unfolding member_parts
member_in_range d m high is = member_fully d m
    ∙ ap (λ (u : Option Expression). plain (member_parts d (expression_model (out-Member m).left) (is_some (out-Member m).not) (expression_model (out-Member m).low) (option_map expression_model u))) is

-- ---- what comes after a name

pub selector_part : (d : Denotations) (l : Label) (n : NotedTree) → with_part d (part.Selector l) n ≡ with_selector d l n
unfolding with_part
selector_part d l n = refl

pub argument_part : (d : Denotations) (l : Label) (x : ExpressionTree) (xs : List Expression) (n : NotedTree) → length xs < 1 → with_part d (part.Arguments l x (expressions_of (map expression_model xs))) n ≡ with_argument (place_of l) (next (read d x) valued) n
unfolding with_part
argument_part d l x [] n h = refl
argument_part d l x (y ∷ ys) n h = absurd (omega arith)

pub arguments_part : (d : Denotations) (l : Label) (x : ExpressionTree) (xs : List Expression) (n : NotedTree) → 0 < length xs → with_part d (part.Arguments l x (expressions_of (map expression_model xs))) n ≡ with_arguments (place_of l) (read_more d (started (next (read d x) valued)) (expressions_of (map expression_model xs))) n
unfolding with_part
arguments_part d l x [] n h = absurd (omega arith)
arguments_part d l x (y ∷ ys) n h = refl

pub attribute_part : (d : Denotations) (l : Label) (n : NotedTree) → with_part d (part.Attribute l) n ≡ attributed l n
unfolding with_part
attribute_part d l n = refl

pub range_part : (d : Denotations) (n : NotedTree) → with_part d part.RangeAttribute n ≡ ranged n
unfolding with_part
range_part d n = refl

pub operand_part : (d : Denotations) (x : GroupTree) (n : NotedTree) → with_part d (part.Operand x) n ≡ qualifying (group_place x) (group_term d x) n
unfolding with_part
operand_part d x n = refl

-- ---- what is in parentheses

pub sole_group : (d : Denotations) (l : Label) (x : ExpressionTree) (xs : List Expression) → length xs < 1 → group_term d (g.Positional l x (expressions_of (map expression_model xs))) ≡ grouped (place_of l) (next (read d x) valued)
unfolding group_term
sole_group d l x [] h = refl
sole_group d l x (y ∷ ys) h = absurd (omega arith)

pub aggregate_group : (d : Denotations) (l : Label) (x : ExpressionTree) (xs : List Expression) → 0 < length xs → group_term d (g.Positional l x (expressions_of (map expression_model xs))) ≡ aggregated (place_of l) (read_more d (started (next (read d x) valued)) (expressions_of (map expression_model xs)))
unfolding group_term
aggregate_group d l x [] h = absurd (omega arith)
aggregate_group d l x (y ∷ ys) h = refl

pub others_group : (d : Denotations) (l : Label) (x : ExpressionTree) → group_term d (g.OthersAggregate l x) ≡ repeated (place_of l) (next (read d x) valued)
unfolding group_term
others_group d l x = refl

-- ---- several

pub none_more : (d : Denotations) (done : Result (List TermTree) Fault) → read_more d done es.NoExpression ≡ done
unfolding read_more
none_more d done = refl

pub one_more : (d : Denotations) (done : Result (List TermTree) Fault) (x : ExpressionTree) (xs : ExpressionsTree) → read_more d done (es.MoreExpressions x xs) ≡ read_more d (added done (next (read d x) valued)) xs
unfolding read_more
one_more d done x xs = refl

-- with the one at an index read too
with_one : (d : Denotations) (first : Result (List TermTree) Fault) (xs : List Expression) (i : ℕ) (x : Expression) → i < length xs → x ≡ get_or xs i x
    → read_more d first (expressions_of (map expression_model (take (suc i) xs))) ≡ added (read_more d first (expressions_of (map expression_model (take i xs)))) (next (read d (expression_model x)) valued)
unfolding read_more
with_one d first [] i x h e = absurd (omega arith)
with_one d first (y ∷ ys) zero x h e = ap (λ (z : Expression). added first (next (read d (expression_model z)) valued)) (sym e)
with_one d first (y ∷ ys) (suc i) x h e = with_one d (added first (next (read d (expression_model y)) valued)) ys i x (omega arith) e

pub more_read : (d : Denotations) (first : Result (List TermTree) Fault) (xs : List Expression) (n i : ℕ) (x : Expression) → n ≡ suc i → i < length xs → x ≡ get_or xs i x
    → read_more d first (expressions_of (map expression_model (take n xs))) ≡ added (read_more d first (expressions_of (map expression_model (take i xs)))) (next (read d (expression_model x)) valued)
more_read d first xs n i x is h e =
    ap (λ (k : ℕ). read_more d first (expressions_of (map expression_model (take k xs)))) is ∙ with_one d first xs i x h e
