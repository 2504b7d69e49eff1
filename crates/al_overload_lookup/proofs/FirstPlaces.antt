-- Where the structures of the program begin.
use Rattle.std.proofs.Common.{◌≡◌, Option, Some, None, refl, ap, ◌∙◌}
use Rattle.std.specs.Prelude.{option_map}
use Rattle.al_tree_grammar.specs.Grammar.{Label}
use Rattle.al_tree_syntax.specs.ExpressionTrees.{ExpressionTree}
use Rattle.al_tree.specs.ExpressionViews.{expression_model, infix_model, longer_model, member_of, member_model, prefix_model, prefixed_model}
use Rattle.al_tree.specs.Lexemes.{place_label}
use Rattle.al_tree.specs.declared.expression.Infix.{Infix, out-Infix}
use Rattle.al_tree.specs.declared.expression.Longer.{Longer, out-Longer}
use Rattle.al_tree.specs.declared.expression.Member.{Member, out-Member}
use Rattle.al_tree.specs.declared.expression.Prefixed.{Prefixed, out-Prefixed}
use Rattle.al_overload_lookup.proofs.Fields.{infix_fields, longer_fields, member_fields, prefixed_fields}
use Rattle.al_overload_lookup.specs.Places.{first_place, prefix_place}

pub longer_place : (n : Longer) → first_place (longer_model n) ≡ first_place (expression_model (out-Longer n).prefix)
longer_place n = ap first_place (longer_fields n)

pub prefixed_place : (p : Prefixed) → first_place (prefixed_model p) ≡ prefix_place (prefix_model (out-Prefixed p).operator)
prefixed_place p = ap first_place (prefixed_fields p)

pub infix_place : (i : Infix) → first_place (infix_model i) ≡ first_place (expression_model (out-Infix i).left)
infix_place i = ap first_place (infix_fields i)

left_place : (s : ExpressionTree) (n : Option Label) (t : ExpressionTree) (u : Option ExpressionTree) → first_place (member_of s n t u) ≡ first_place s
left_place s n t None = refl
left_place s n t (Some u) = refl

pub member_place : (m : Member) → first_place (member_model m) ≡ first_place (expression_model (out-Member m).left)
member_place m = ap first_place (member_fields m)
    ∙ left_place (expression_model (out-Member m).left) (option_map place_label (out-Member m).not) (expression_model (out-Member m).low) (option_map expression_model (out-Member m).high)
