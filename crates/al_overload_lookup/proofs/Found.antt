-- The names of trees of the program, by their constructors and fields.
use Rattle.std.proofs.Common.{◌≡◌, ℕ, List, [], ◌∷◌, ◌++◌, map, Option, Some, None, refl, sym, ap, ◌∙◌, append_assoc, append-nil, Box, Global}
use Rattle.std.specs.Prelude.{option_map}
use Rattle.std.specs.List.{flat_map}
use Rattle.al_tree_grammar.specs.Grammar.{Label}
use Rattle.al_overload_lookup.proofs.Fields.{infix_fields, longer_fields, member_fields, prefixed_fields}
use Rattle.al_overload_lookup.specs.Keys.{key_of}
use Rattle.al_overload_lookup.specs.TextNames.{all_names, group_names, names_in, operator_sign, part_names, prefix_sign, selected_names, sign_names}
use Rattle.al_overload_lookup.specs.declared.name.TextName.{TextName}
use Rattle.al_overload_lookup.specs.declared.name.TextName.TheVariants.{Simple}
use Rattle.al_tree_syntax.specs.ExpressionTrees.{ExpressionTree, ExpressionTree as e, ExpressionsTree, ExpressionsTree as es, GroupTree, GroupTree as g, PartTree as part}
use Rattle.al_tree.specs.ExpressionViews.{expression_model, expressions_of, infix_model, longer_model, member_of, member_model, operator_model, part_model, prefix_model, prefixed_model}
use Rattle.al_tree.proofs.ExpressionsMade.{expression_numeric_model, expression_text_model, part_attribute_model, part_range_attribute_model}
use Rattle.al_tree.specs.Lexemes.{identifier_label, number_label, place_label, string_label}
use Rattle.al_tree.specs.declared.expression.Expression.{Expression}
use Rattle.al_tree.specs.declared.expression.Expression.TheVariants as variants
use Rattle.al_tree.specs.declared.expression.NamePart.{NamePart}
use Rattle.al_tree.specs.declared.expression.NamePart.TheVariants as parts
use Rattle.al_tree.specs.declared.names.Identifier.{Identifier}
use Rattle.al_tree.specs.declared.names.NumericLiteral.{NumericLiteral}
use Rattle.al_tree.specs.declared.names.StringLiteral.{StringLiteral}
use Rattle.al_tree.specs.declared.expression.Infix.{Infix, out-Infix}
use Rattle.al_tree.specs.declared.expression.Longer.{Longer, out-Longer}
use Rattle.al_tree.specs.declared.expression.Member.{Member, out-Member}
use Rattle.al_tree.specs.declared.expression.Prefixed.{Prefixed, out-Prefixed}

pub number_names : (l : Label) → names_in (e.Number l) ≡ []
unfolding names_in
number_names l = refl

pub text_names : (l : Label) → names_in (e.Text l) ≡ []
unfolding names_in
text_names l = refl

pub name_names : (l : Label) → names_in (e.Name l) ≡ Simple l.text ∷ []
unfolding names_in
name_names l = refl

pub group_in : (x : GroupTree) → names_in (e.Group x) ≡ group_names x
unfolding names_in
group_in x = refl

pub longer_names : (n : Longer) → names_in (longer_model n) ≡ names_in (expression_model (out-Longer n).prefix) ++ part_names (key_of (expression_model (out-Longer n).prefix)) (part_model (out-Longer n).part)
unfolding names_in
longer_names n = ap names_in (longer_fields n)

pub prefixed_names : (p : Prefixed) → names_in (prefixed_model p) ≡ sign_names (Some (prefix_sign (prefix_model (out-Prefixed p).operator))) ++ names_in (expression_model (out-Prefixed p).operand)
unfolding names_in
prefixed_names p = ap names_in (prefixed_fields p)

pub infix_names : (i : Infix) → names_in (infix_model i) ≡ names_in (expression_model (out-Infix i).left) ++ (sign_names (operator_sign (operator_model (out-Infix i).operator)) ++ names_in (expression_model (out-Infix i).right))
unfolding names_in
infix_names i = ap names_in (infix_fields i)

-- of a membership test by its parts
member_parts : ExpressionTree → ExpressionTree → Option ExpressionTree → List TextName
member_parts s t None = names_in s ++ names_in t
member_parts s t (Some u) = names_in s ++ (names_in t ++ names_in u)

member_split : (s : ExpressionTree) (n : Option Label) (t : ExpressionTree) (u : Option ExpressionTree) → names_in (member_of s n t u) ≡ member_parts s t u
unfolding names_in member_parts
member_split s n t None = refl
member_split s n t (Some u) = refl

member_fully : (m : Member) → names_in (member_model m) ≡ member_parts (expression_model (out-Member m).left) (expression_model (out-Member m).low) (option_map expression_model (out-Member m).high)
member_fully m = ap names_in (member_fields m)
    ∙ member_split (expression_model (out-Member m).left) (option_map place_label (out-Member m).not) (expression_model (out-Member m).low) (option_map expression_model (out-Member m).high)

pub mark_names : (m : Member) → (out-Member m).high ≡ None → names_in (member_model m) ≡ names_in (expression_model (out-Member m).left) ++ names_in (expression_model (out-Member m).low)
unfolding member_parts
mark_names m is = member_fully m ∙ ap (λ (u : Option Expression). member_parts (expression_model (out-Member m).left) (expression_model (out-Member m).low) (option_map expression_model u)) is

pub bounds_names : (m : Member) (high : Expression) → (out-Member m).high ≡ Some high → names_in (member_model m) ≡ names_in (expression_model (out-Member m).left) ++ (names_in (expression_model (out-Member m).low) ++ names_in (expression_model high))
unfolding member_parts
bounds_names m high is = member_fully m ∙ ap (λ (u : Option Expression). member_parts (expression_model (out-Member m).left) (expression_model (out-Member m).low) (option_map expression_model u)) is

pub selector_names : (key : Option (List ℕ)) (l : Label) → part_names key (part.Selector l) ≡ selected_names key l.text
unfolding part_names
selector_names key l = refl

pub argument_names : (key : Option (List ℕ)) (l : Label) (x : ExpressionTree) (xs : ExpressionsTree) → part_names key (part.Arguments l x xs) ≡ names_in x ++ all_names xs
unfolding part_names
argument_names key l x xs = refl

pub attribute_names : (key : Option (List ℕ)) (l : Label) → part_names key (part.Attribute l) ≡ []
unfolding part_names
attribute_names key l = refl

pub range_names : (key : Option (List ℕ)) → part_names key part.RangeAttribute ≡ []
unfolding part_names
range_names key = refl

pub operand_names : (key : Option (List ℕ)) (x : GroupTree) → part_names key (part.Operand x) ≡ group_names x
unfolding part_names
operand_names key x = refl

pub positional_names : (l : Label) (x : ExpressionTree) (xs : ExpressionsTree) → group_names (g.Positional l x xs) ≡ names_in x ++ all_names xs
unfolding group_names
positional_names l x xs = refl

pub others_names : (l : Label) (x : ExpressionTree) → group_names (g.OthersAggregate l x) ≡ names_in x
unfolding group_names
others_names l x = refl

pub no_names : all_names es.NoExpression ≡ []
unfolding all_names
no_names = refl

pub more_names : (x : ExpressionTree) (xs : ExpressionsTree) → all_names (es.MoreExpressions x xs) ≡ names_in x ++ all_names xs
unfolding all_names
more_names x xs = refl

pub all_listed : (xs : List Expression) → all_names (expressions_of (map expression_model xs)) ≡ flat_map (λ x. names_in (expression_model x)) xs
unfolding all_names
all_listed [] = refl
all_listed (x ∷ xs) = ap (λ (ns : List TextName). names_in (expression_model x) ++ ns) (all_listed xs)

-- ---- what is added

nothing_adds : (xs ys : List TextName) → ys ≡ [] → xs ≡ xs ++ ys
nothing_adds xs ys none = sym (append-nil xs) ∙ ap (λ (zs : List TextName). xs ++ zs) (sym none)

pub numeric_adds : (xs : List TextName) (x : Expression) (n : NumericLiteral) → x ≡ variants.Numeric n → xs ≡ xs ++ names_in (expression_model x)
numeric_adds xs x n is = nothing_adds xs (names_in (expression_model x)) (ap (λ (y : Expression). names_in (expression_model y)) is ∙ ap names_in (expression_numeric_model n) ∙ number_names (number_label n))

pub literal_adds : (xs : List TextName) (x : Expression) (s : Box StringLiteral Global) → x ≡ variants.Text s → xs ≡ xs ++ names_in (expression_model x)
literal_adds xs x s is = nothing_adds xs (names_in (expression_model x)) (ap (λ (y : Expression). names_in (expression_model y)) is ∙ ap names_in (expression_text_model s) ∙ text_names (string_label s.value))

pub attribute_adds : (xs : List TextName) (key : Option (List ℕ)) (p : NamePart) (i : Identifier) → p ≡ parts.Attribute i → xs ≡ xs ++ part_names key (part_model p)
attribute_adds xs key p i is = nothing_adds xs (part_names key (part_model p)) (ap (λ (q : NamePart). part_names key (part_model q)) is ∙ ap (part_names key) (part_attribute_model i) ∙ attribute_names key (identifier_label i))

pub range_adds : (xs : List TextName) (key : Option (List ℕ)) (p : NamePart) → p ≡ parts.RangeAttribute → xs ≡ xs ++ part_names key (part_model p)
range_adds xs key p is = nothing_adds xs (part_names key (part_model p)) (ap (λ (q : NamePart). part_names key (part_model q)) is ∙ ap (part_names key) part_range_attribute_model ∙ range_names key)

pub mark_adds : (m : Member) (start one two : List TextName) → (out-Member m).high ≡ None → one ≡ start ++ names_in (expression_model (out-Member m).left) → two ≡ one ++ names_in (expression_model (out-Member m).low) → two ≡ start ++ names_in (member_model m)
mark_adds m start one two is a b =
    let left = names_in (expression_model (out-Member m).left) in
    let low = names_in (expression_model (out-Member m).low) in
    b ∙ ap (λ (xs : List TextName). xs ++ low) a ∙ append_assoc start left low ∙ ap (λ (xs : List TextName). start ++ xs) (sym (mark_names m is))

pub bounds_adds : (m : Member) (high : Expression) (start one two three : List TextName) → (out-Member m).high ≡ Some high → one ≡ start ++ names_in (expression_model (out-Member m).left) → two ≡ one ++ names_in (expression_model (out-Member m).low) → three ≡ two ++ names_in (expression_model high) → three ≡ start ++ names_in (member_model m)
bounds_adds m high start one two three is a b c =
    let left = names_in (expression_model (out-Member m).left) in
    let low = names_in (expression_model (out-Member m).low) in
    let last = names_in (expression_model high) in
    c ∙ ap (λ (xs : List TextName). xs ++ last) (b ∙ ap (λ (xs : List TextName). xs ++ low) a)
    ∙ append_assoc (start ++ left) low last
    ∙ append_assoc start left (low ++ last)
    ∙ ap (λ (xs : List TextName). start ++ xs) (sym (bounds_names m high is))
