-- A chain with one more operator at its beginning.
use Rattle.std.proofs.Common.{◌≡◌, ◌≤◌, arith, Box, Global, List, [], ◌∷◌, ◌++◌, Result, refl, sym, ap, ◌∙◌}
use Rattle.al_base_fault.specs.Judging.{next, map_ok}
use Rattle.al_base_fault.specs.declared.fault.Fault.{Fault}
use Rattle.al_overload_lookup.specs.Keys.{Denotations}
use Rattle.al_overload_readings.specs.Readings.{ReadTree, valued}
use Rattle.al_overload_readings.specs.Steps.{joined_read}
use Rattle.al_tree_syntax.specs.ExpressionTrees.{ExpressionTree}
use Rattle.al_overload.specs.Terms.{TermTree}
use Rattle.al_overload.specs.TermViews.{term_model}
use Rattle.al_overload_readings.proofs.ReadLemmas.{infix_read}
use Rattle.al_overload_readings.specs.Chains.{chained, joint_read}
use Rattle.al_overload_readings.specs.Texts.{read}
use Rattle.al_overload_readings.specs.Noted.{NotedTree, all_linked, linked, settled}
use Rattle.al_overload_readings.specs.declared.chain.Joint.{Joint}
use Rattle.al_overload_readings.specs.declared.name.Link.{Link}
use Rattle.al_tree.specs.ExpressionViews.{expression_model, infix_model, operator_model}
use Rattle.al_tree.specs.declared.expression.Expression.{Expression, size-Expression}
use Rattle.al_tree.specs.declared.expression.Expression.TheVariants as variants
use Rattle.al_tree.specs.declared.expression.Expression.TheViews.{size_is-Infix, sized-Infix}
use Rattle.al_tree.specs.declared.expression.Infix.{Infix, out-Infix}
use Rattle.al_tree.specs.declared.operator.InfixOperator.{InfixOperator}

pub first_joined : (d : Denotations) (joints : List Joint) (joint : Joint) (first : Result TermTree Fault)
    → chained d (joints ++ joint ∷ []) first ≡ chained d joints (joint_read d joint first)
first_joined d [] joint first = refl
first_joined d (x ∷ joints) joint first = ap (joint_read d x) (first_joined d joints joint first)

-- a step down the left operands
pub longer : (d : Denotations) (joints new : List Joint) (joint : Joint) (rest left whole : Result TermTree Fault)
    → new ≡ joints ++ joint ∷ [] → rest ≡ joint_read d joint left → chained d joints rest ≡ whole → chained d new left ≡ whole
longer d joints new joint rest left whole is step known =
    ap (λ (js : List Joint). chained d js left) is ∙ first_joined d joints joint left ∙ ap (λ (r : Result TermTree Fault). chained d joints r) (sym step) ∙ known

-- an operator by its parts, as they were read
pub infix_joined : (d : Denotations) (i : Infix) (joint : Joint) (rest left : ExpressionTree)
    → rest ≡ infix_model i → left ≡ expression_model (out-Infix i).left → joint.operator ≡ (out-Infix i).operator → map_ok term_model joint.right ≡ next (read d (expression_model (out-Infix i).right)) valued
    → next (read d rest) valued ≡ joint_read d joint (next (read d left) valued)
infix_joined d i joint rest left seen left_is operator_is right_is =
    ap (λ (x : ExpressionTree). next (read d x) valued) seen
    ∙ ap (λ (r : Result ReadTree Fault). next r valued) (ap settled (infix_read d i))
    ∙ ap (λ (o : InfixOperator). next (joined_read d (operator_model o) (next (read d (expression_model (out-Infix i).left)) valued) (next (read d (expression_model (out-Infix i).right)) valued)) valued) (sym operator_is)
    ∙ ap (λ (x : ExpressionTree). next (joined_read d (operator_model joint.operator) (next (read d x) valued) (next (read d (expression_model (out-Infix i).right)) valued)) valued) (sym left_is)
    ∙ ap (λ (r : Result TermTree Fault). next (joined_read d (operator_model joint.operator) (next (read d left) valued) r) valued) (sym right_is)

-- a name with one part more at its beginning
pub first_linked : (d : Denotations) (links : List Link) (link : Link) (first : NotedTree)
    → all_linked d (links ++ link ∷ []) first ≡ all_linked d links (linked d link first)
first_linked d [] link first = refl
first_linked d (x ∷ links) link first = ap (linked d x) (first_linked d links link first)

-- a step down the parts of a name
pub more_linked : (d : Denotations) (links new : List Link) (link : Link) (rest prefix whole : NotedTree)
    → new ≡ links ++ link ∷ [] → linked d link prefix ≡ rest → all_linked d links rest ≡ whole → all_linked d new prefix ≡ whole
more_linked d links new link rest prefix whole is step known =
    ap (λ (ls : List Link). all_linked d ls prefix) is ∙ first_linked d links link prefix ∙ ap (λ (n : NotedTree). all_linked d links n) step ∙ known

-- the left operand is no deeper
pub infix_deeper : (rest : Expression) (boxed : Box Infix Global) (left whole : Expression)
    → rest ≡ variants.Infix boxed → left ≡ (out-Infix boxed.value).left → size-Expression rest ≤ size-Expression whole → size-Expression left ≤ size-Expression whole
infix_deeper rest boxed left whole is left_is known =
    let a = ap size-Expression is in let b = ap size-Expression left_is in omega (arith, sized-Infix boxed, size_is-Infix boxed.value, a, b)
