-- What the program's statements are as plain data.
use Rattle.std.specs.Prelude.{List, map, option_map}
use Rattle.al_view_typed.specs.DeclarationTrees.{declaration_model}
use Rattle.al_view_typed.specs.ExpressionViews.{call_model, name_model, typed_model, value_model}
use Rattle.al_view_typed.specs.StatementTrees.{PieceTree, SchemeTree, StatementTree, StatementsTree, StatementFormTree, BranchTree, BranchesTree, AlternativeTree, AlternativesTree}
use Rattle.al_view_typed.specs.StatementTrees.{PieceTree as piece_trees, SchemeTree as scheme_trees, StatementTree as statement_trees, StatementsTree as statements_trees, StatementFormTree as form_trees, BranchTree as branch_trees, BranchesTree as branches_trees, AlternativeTree as alternative_trees, AlternativesTree as alternatives_trees}
use Rattle.al_view_typed.specs.declared.statement.Piece.{Piece}
use Rattle.al_view_typed.specs.declared.statement.Piece.TheVariants as pieces
use Rattle.al_view_typed.specs.declared.statement.LoopScheme.{LoopScheme}
use Rattle.al_view_typed.specs.declared.statement.LoopScheme.TheVariants as schemes
use Rattle.al_view_typed.specs.declared.statement.StatementForm.{StatementForm}
use Rattle.al_view_typed.specs.declared.statement.Alternative.{Alternative}
use Rattle.al_view_typed.specs.declared.statement.Branch.{Branch}
use Rattle.al_view_typed.specs.declared.statement.TypedStatement.{TypedStatement}
use Rattle.al_view_typed.specs.declared.statement.StatementForm.TheOpen.{StatementForm-F, Alternative-F, Branch-F, TypedStatement-F}
use Rattle.al_view_typed.specs.declared.statement.StatementForm.TheOpen as layer
use Rattle.al_view_typed.specs.declared.statement.StatementForm.TheFolds.{fold-StatementForm, fold-Alternative, fold-Branch, fold-TypedStatement}
use Rattle.al_view_typed.specs.Listed.{listed}

abbrev pub piece_model : Piece → PieceTree
piece_model (pieces.Text bytes) = piece_trees.TextPiece bytes
piece_model (pieces.IntegerImage value) = piece_trees.IntegerImage (typed_model value)
piece_model (pieces.EnumerationImage value names) = piece_trees.EnumerationImage (typed_model value) names

abbrev pub scheme_model : LoopScheme → SchemeTree
scheme_model schemes.Forever = scheme_trees.ForeverScheme
scheme_model (schemes.While condition) = scheme_trees.WhileScheme (typed_model condition)
scheme_model (schemes.For is_reverse low high mark parameter last) = scheme_trees.ForScheme is_reverse (typed_model low) (typed_model high) mark parameter last

-- ---- lists

abbrev pub statements_of : List StatementTree → StatementsTree
statements_of ss = listed statements_trees.MoreStatements statements_trees.NoStatement ss

abbrev pub branches_of : List BranchTree → BranchesTree
branches_of bs = listed branches_trees.MoreBranches branches_trees.NoBranch bs

abbrev pub alternatives_of : List AlternativeTree → AlternativesTree
alternatives_of more = listed alternatives_trees.MoreAlternatives alternatives_trees.NoAlternative more

-- ---- one layer of a tree, whose parts are seen already

abbrev pub Layer : ((A B C D : Type 0) → Type 0) → Type 0
Layer F = F StatementFormTree AlternativeTree BranchTree StatementTree

abbrev pub form_layer : Layer StatementForm-F → StatementFormTree
form_layer layer.Null = form_trees.NullStatement
form_layer (layer.Assignment t w v) = form_trees.AssignmentStatement (name_model t) w (value_model v)
form_layer (layer.Call c) = form_trees.CallStatement (call_model c)
form_layer (layer.Put ps e) = form_trees.PutStatement (map piece_model ps.items) e
form_layer (layer.Return v w) = form_trees.ReturnStatement (option_map value_model v) w
form_layer (layer.Exit l c) = form_trees.ExitStatement l (option_map typed_model c)
form_layer (layer.Delay m) = form_trees.DelayStatement (typed_model m)
form_layer (layer.If bs ss) = form_trees.IfStatement (branches_of bs.items) (statements_of ss.items)
form_layer (layer.Case s t more ss) = form_trees.CaseStatement (typed_model s) t (alternatives_of more.items) (statements_of ss.items)
form_layer (layer.Loop s ss) = form_trees.LoopStatement (scheme_model s) (statements_of ss.items)
form_layer (layer.Block ds ss) = form_trees.BlockStatement (map declaration_model ds.items) (statements_of ss.items)

abbrev pub alternative_layer : Layer Alternative-F → AlternativeTree
alternative_layer a = alternative_trees.Alternative a.choices (statements_of a.statements.items)

abbrev pub branch_layer : Layer Branch-F → BranchTree
branch_layer b = branch_trees.Branch b.line (typed_model b.condition) (statements_of b.statements.items)

abbrev pub statement_layer : Layer TypedStatement-F → StatementTree
statement_layer s = statement_trees.Numbered s.line s.form

-- ---- whole trees, layer by layer

-- what is so for all types and layers, at those of the trees
abbrev pub by_layers :
    {P : (A B C D : Type 0)
    → (StatementForm-F A B C D → A)
    → (Alternative-F A B C D → B)
    → (Branch-F A B C D → C)
    → (TypedStatement-F A B C D → D)
    → Type 0}
    → ((A B C D : Type 0)
    (a : StatementForm-F A B C D → A)
    (b : Alternative-F A B C D → B)
    (c : Branch-F A B C D → C)
    (d : TypedStatement-F A B C D → D)
    → P A B C D a b c d)
    → P StatementFormTree AlternativeTree BranchTree StatementTree
    form_layer alternative_layer branch_layer statement_layer
by_layers f = f StatementFormTree AlternativeTree BranchTree StatementTree
    form_layer alternative_layer branch_layer statement_layer

unfoldable pub statement_form_model : StatementForm → StatementFormTree
statement_form_model = by_layers fold-StatementForm

unfoldable pub alternative_model : Alternative → AlternativeTree
alternative_model = by_layers fold-Alternative

unfoldable pub branch_model : Branch → BranchTree
branch_model = by_layers fold-Branch

unfoldable pub statement_model : TypedStatement → StatementTree
statement_model = by_layers fold-TypedStatement
