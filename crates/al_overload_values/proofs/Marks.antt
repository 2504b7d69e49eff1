-- What is neither a mark nor Image of one, by the form of a text.
use Rattle.std.proofs.Common.{◌≡◌, true, false, ◌&&◌, ◌||◌, Option, Some, None, Result, Ok, Err, true≢false, refl, ap, ◌∙◌}
use Rattle.std.specs.Prelude.{⊤, option_map}
use Rattle.al_base.specs.declared.place.Place.{Place}
use Rattle.al_tree_grammar.specs.Grammar.{Label}
use Rattle.al_base_fault.specs.Judging.{map_ok, next, unless}
use Rattle.al_base_fault.specs.declared.fault.Fault.{Fault}
use Rattle.al_overload_lookup.proofs.Fields.{infix_fields, longer_fields, member_fields, prefixed_fields}
use Rattle.al_overload_lookup.specs.Keys.{Denotations}
use Rattle.al_overload_values.specs.Prefixes.{is_attribute, may_be_mark, place_after}
use Rattle.al_overload_readings.specs.Readings.{ReadTree, ReadTree as reads, prefix_of, ranged, read_place, selected}
use Rattle.al_overload_readings.specs.Steps.{applied_read, applied_to_read, joined_read, member_read, prefixed_read, qualified_read, range_member_read, with_range}
use Rattle.al_overload_readings.specs.declared.prefix.Prefix.{Prefix}
use Rattle.al_overload_readings.specs.declared.prefix.Prefix.TheVariants as prefixes
use Rattle.al_overload.specs.Terms.{TermTree}
use Rattle.al_overload_readings.specs.Texts.{is_selector, noted, read, with_part}
use Rattle.al_tree_syntax.specs.ExpressionTrees.{ExpressionTree, ExpressionTree as e, ExpressionsTree as es, PartTree as part}
use Rattle.al_tree.specs.ExpressionViews.{expression_model, infix_model, longer_model, member_of, member_model, part_model, prefixed_model}
use Rattle.al_tree.specs.Lexemes.{place_label}
use Rattle.al_tree.specs.declared.expression.Infix.{Infix}
use Rattle.al_tree.specs.declared.expression.Longer.{Longer, out-Longer}
use Rattle.al_tree.specs.declared.expression.Member.{Member, out-Member}
use Rattle.al_tree.specs.declared.expression.Prefixed.{Prefixed}

-- ---- by the program's trees

pub longer_may_be : (n : Longer) → may_be_mark (longer_model n) ≡ (is_attribute (part_model (out-Longer n).part) || (is_selector (part_model (out-Longer n).part) && may_be_mark (expression_model (out-Longer n).prefix)))
longer_may_be n = ap may_be_mark (longer_fields n)

pub prefixed_is_none : (p : Prefixed) → may_be_mark (prefixed_model p) ≡ false
prefixed_is_none p = ap may_be_mark (prefixed_fields p)

pub infix_is_none : (i : Infix) → may_be_mark (infix_model i) ≡ false
infix_is_none i = ap may_be_mark (infix_fields i)

no_mark : (s : ExpressionTree) (n : Option Label) (t : ExpressionTree) (u : Option ExpressionTree) → may_be_mark (member_of s n t u) ≡ false
no_mark s n t None = refl
no_mark s n t (Some u) = refl

pub member_is_none : (m : Member) → may_be_mark (member_model m) ≡ false
member_is_none m = ap may_be_mark (member_fields m)
    ∙ no_mark (expression_model (out-Member m).left) (option_map place_label (out-Member m).not) (expression_model (out-Member m).low) (option_map expression_model (out-Member m).high)

-- ---- what a text may be

-- neither a name nor Image of a mark
abbrev IsOther : Result ReadTree Fault → Type 0
IsOther (Ok (reads.NameRead p key vs)) = ⊥
IsOther (Ok (reads.ImageRead p s)) = ⊥
IsOther (Ok (reads.TermRead t)) = ⊤
IsOther (Ok (reads.FunctionRead p c s)) = ⊤
IsOther (Ok (reads.RangeRead p s)) = ⊤
IsOther (Err f) = ⊤

term_is_other : {A : Type 0} (f : A → TermTree) (r : Result A Fault) → IsOther (map_ok (λ (x : A). reads.TermRead (f x)) r)
term_is_other f (Ok a) = tt
term_is_other f (Err g) = tt

after_other : (d : Denotations) (l : Label) (r : Result ReadTree Fault) → IsOther r → IsOther (next r (selected d l))
unfolding selected
after_other d l (Ok (reads.NameRead p key vs)) h = absurd h
after_other d l (Ok (reads.ImageRead p s)) h = absurd h
after_other d l (Ok (reads.TermRead t)) h = tt
after_other d l (Ok (reads.FunctionRead p c s)) h = tt
after_other d l (Ok (reads.RangeRead p s)) h = tt
after_other d l (Err f) h = tt

range_of_prefix : (p : Place) (q : Prefix) → IsOther (ranged p q)
unfolding ranged
range_of_prefix p (prefixes.Scalar s) = tt
range_of_prefix p (prefixes.Array s bounds) = tt
range_of_prefix p prefixes.Other = tt

range_is_other : (r : Result ReadTree Fault) → IsOther (next r with_range)
unfolding with_range
range_is_other (Ok r) = range_of_prefix (read_place r) (prefix_of r)
range_is_other (Err f) = tt

shape_is_other : (d : Denotations) (x : ExpressionTree) → may_be_mark x ≡ false → IsOther (noted d x).shape
unfolding noted with_part applied_read applied_to_read qualified_read prefixed_read joined_read member_read range_member_read
shape_is_other d (e.Number l) h = tt
shape_is_other d (e.Text l) h = tt
shape_is_other d (e.Name l) h = absurd (true≢false h)
shape_is_other d (e.Longer prefix (part.Selector l)) h = after_other d l (noted d prefix).shape (shape_is_other d prefix h)
shape_is_other d (e.Longer prefix (part.Arguments l first es.NoExpression)) h = term_is_other _ _
shape_is_other d (e.Longer prefix (part.Arguments l first (es.MoreExpressions second others))) h = term_is_other _ _
shape_is_other d (e.Longer prefix (part.Attribute l)) h = absurd (true≢false h)
shape_is_other d (e.Longer prefix part.RangeAttribute) h = range_is_other (noted d prefix).shape
shape_is_other d (e.Longer prefix (part.Operand group)) h = term_is_other _ _
shape_is_other d (e.Prefixed operator operand) h = term_is_other _ _
shape_is_other d (e.Infix left operator right) h = term_is_other _ _
shape_is_other d (e.InMark left n mark) h = term_is_other _ _
shape_is_other d (e.InRange left n low high) h = term_is_other _ _
shape_is_other d (e.Group group) h = term_is_other (λ t. t) _

with_faults : (fault : Option Fault) (r : Result ReadTree Fault) → IsOther r → IsOther (unless fault r)
with_faults None r h = h
with_faults (Some f) (Ok a) h = tt
with_faults (Some f) (Err g) h = tt

other_place : (at first : Place) (r : Result ReadTree Fault) → IsOther r → place_after at first r ≡ at
other_place at first (Ok (reads.NameRead p key vs)) h = absurd h
other_place at first (Ok (reads.ImageRead p s)) h = absurd h
other_place at first (Ok (reads.TermRead t)) h = refl
other_place at first (Ok (reads.FunctionRead p c s)) h = refl
other_place at first (Ok (reads.RangeRead p s)) h = refl
other_place at first (Err f) h = refl

-- the context of an argument begins with the one round it, after what may be no mark
pub place_after_none : (d : Denotations) (at first : Place) (x : ExpressionTree) → may_be_mark x ≡ false → place_after at first (read d x) ≡ at
place_after_none d at first x h = other_place at first (read d x) (with_faults (noted d x).inside (noted d x).shape (shape_is_other d x h))
