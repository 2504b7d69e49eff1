-- What begins with an operand or a name: what comes after that.
use Rattle.std.specs.Prelude.{ℕ, ◌<◌, ◌≤◌, Bool, true, false, List, [], ◌∷◌, ◌++◌, Option, Some, None, option_map, ⊤}
use Rattle.al_overload_lookup.specs.Keys.{key_with}
use Rattle.al_overload_lookup.specs.TextNames.{names_in, operator_sign, part_names, sign_names}
use Rattle.al_overload_lookup.specs.declared.chain.Link.{Link}
use Rattle.al_overload_lookup.specs.declared.chain.Link.TheVariants as links
use Rattle.al_overload_lookup.specs.declared.name.TextName.{TextName}
use Rattle.al_tree_syntax.specs.ExpressionTrees.{ExpressionTree, ExpressionTree as e}
use Rattle.al_tree.specs.ExpressionViews.{expression_model, operator_model, part_model}
use Rattle.al_tree.specs.declared.expression.Expression.{Expression, size-Expression}
use Rattle.al_tree.specs.declared.expression.Infix.{Infix, out-Infix, size-Infix}
use Rattle.al_tree.specs.declared.expression.Longer.{Longer, out-Longer, size-Longer}
use Rattle.al_tree.specs.declared.expression.Member.{Member, out-Member, size-Member}

-- which texts begin with an operand or a name
abbrev pub leans : ExpressionTree → Bool
leans (e.Longer prefix part) = true
leans (e.Infix left operator right) = true
leans (e.InMark left n mark) = true
leans (e.InRange left n low high) = true
leans _ = false

-- of the last part of a name, and the name with it
abbrev pub last_part_names : Option (List ℕ) → Longer → List TextName
last_part_names key longer = part_names key (part_model (out-Longer longer).part)

abbrev pub last_part_key : Option (List ℕ) → Longer → Option (List ℕ)
last_part_key key longer = key_with key (part_model (out-Longer longer).part)

-- of an operator and its right operand
abbrev pub operation_names : Infix → List TextName
operation_names operation = sign_names (operator_sign (operator_model (out-Infix operation).operator)) ++ names_in (expression_model (out-Infix operation).right)

-- of a mark, or of two bounds
abbrev pub tested_names : ExpressionTree → Option ExpressionTree → List TextName
tested_names low None = names_in low
tested_names low (Some high) = names_in low ++ names_in high

abbrev pub test_names : Member → List TextName
test_names member = tested_names (expression_model (out-Member member).low) (option_map expression_model (out-Member member).high)

-- after a name, if what comes before is one
abbrev pub link_names : Option (List ℕ) → Link → List TextName
link_names key (links.Part longer) = last_part_names key longer.now
link_names key (links.Operator operation) = operation_names operation.now
link_names key (links.Test member) = test_names member.now

-- the name that it is with this link, if it is one
abbrev pub link_key : Option (List ℕ) → Link → Option (List ℕ)
link_key key (links.Part longer) = last_part_key key longer.now
link_key key (links.Operator operation) = None
link_key key (links.Test member) = None

-- the last link of the text comes first
abbrev pub chained_key : Option (List ℕ) → List Link → Option (List ℕ)
chained_key key [] = key
chained_key key (link ∷ links) = link_key (chained_key key links) link

abbrev pub chained_names : Option (List ℕ) → List Link → List TextName
chained_names key [] = []
chained_names key (link ∷ links) = chained_names key links ++ link_names (chained_key key links) link

-- ---- links are less deep than the whole

abbrev pub IsBelow : Expression → Link → Type 0
IsBelow whole (links.Part longer) = size-Longer longer.now < size-Expression whole
IsBelow whole (links.Operator operation) = size-Infix operation.now < size-Expression whole
IsBelow whole (links.Test member) = size-Member member.now < size-Expression whole

abbrev pub IsLeft : Expression → Expression → Type 0
IsLeft whole left = size-Expression left < size-Expression whole

abbrev pub AreBelow : Expression → List Link → Type 0
AreBelow whole [] = ⊤
AreBelow whole (link ∷ links) = IsBelow whole link × AreBelow whole links

-- what is first is no deeper than the whole
abbrev pub AreWithin : Expression → Expression → List Link → Type 0
AreWithin whole first links = (size-Expression first ≤ size-Expression whole) × AreBelow whole links
