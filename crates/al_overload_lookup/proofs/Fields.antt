-- What a structure of the program is seen as, by its fields.
use Rattle.std.proofs.Common.{◌≡◌, sym, ap, ◌∙◌}
use Rattle.std.specs.Prelude.{option_map}
use Rattle.al_tree_syntax.specs.ExpressionTrees.{ExpressionTree as expression_trees}
use Rattle.al_tree.specs.ExpressionViews.{expression_model, infix_model, longer_model, member_of, member_model, operator_model, part_model, prefix_model, prefixed_model}
use Rattle.al_tree.specs.Lexemes.{place_label}
use Rattle.al_tree.specs.declared.expression.Infix.{Infix, out-Infix, roll-out-Infix}
use Rattle.al_tree.specs.declared.expression.Longer.{Longer, out-Longer, roll-out-Longer}
use Rattle.al_tree.specs.declared.expression.Member.{Member, out-Member, roll-out-Member}
use Rattle.al_tree.specs.declared.expression.Prefixed.{Prefixed, out-Prefixed, roll-out-Prefixed}
use Rattle.al_tree.proofs.ExpressionsMade.{infix_new_model, longer_new_model, member_new_model, prefixed_new_model}

pub longer_fields : (n : Longer) → longer_model n ≡ expression_trees.Longer (expression_model (out-Longer n).prefix) (part_model (out-Longer n).part)
longer_fields n = ap longer_model (sym (roll-out-Longer n)) ∙ longer_new_model (out-Longer n).prefix (out-Longer n).part

pub prefixed_fields : (p : Prefixed) → prefixed_model p ≡ expression_trees.Prefixed (prefix_model (out-Prefixed p).operator) (expression_model (out-Prefixed p).operand)
prefixed_fields p = ap prefixed_model (sym (roll-out-Prefixed p)) ∙ prefixed_new_model (out-Prefixed p).operator (out-Prefixed p).operand

pub infix_fields : (i : Infix) → infix_model i ≡ expression_trees.Infix (expression_model (out-Infix i).left) (operator_model (out-Infix i).operator) (expression_model (out-Infix i).right)
infix_fields i = ap infix_model (sym (roll-out-Infix i)) ∙ infix_new_model (out-Infix i).left (out-Infix i).operator (out-Infix i).right

pub member_fields : (m : Member) → member_model m ≡ member_of (expression_model (out-Member m).left) (option_map place_label (out-Member m).not) (expression_model (out-Member m).low) (option_map expression_model (out-Member m).high)
member_fields m = ap member_model (sym (roll-out-Member m)) ∙ member_new_model (out-Member m).left (out-Member m).not (out-Member m).low (out-Member m).high
