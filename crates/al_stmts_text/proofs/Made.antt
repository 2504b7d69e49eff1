-- Statements and bodies that were walked over, by what was walked over inside them.
use Rattle.std.proofs.Common.{◌≡◌, ℕ, Bool, true, false, List, Option, Some, Result, Ok, Err, map, refl, ap, ◌∙◌}
use Rattle.std.specs.Prelude.{is_some, option_map}
use Rattle.al_base_fault.specs.declared.fault.Fault.{Fault}
use Rattle.al_tree_grammar.specs.Grammar.{Label}
use Rattle.al_tree_syntax.specs.DeclarationTrees.{SpecificationTree}
use Rattle.al_tree_syntax.specs.ExpressionTrees.{ExpressionTree}
use Rattle.al_tree_syntax.specs.StatementTrees.{ElseTree as else_trees, ItemsTree, NamedEndTree, StatementsTree}
use Rattle.al_tree.specs.ExpressionViews.{expression_model}
use Rattle.al_tree.specs.Lexemes.{identifier_label, place_label}
use Rattle.al_tree.specs.StatementViews.{alternative_model, alternatives_of, body_model, branch_model, case_model, compound_end_model, elsif_model, elsifs_of, else_of, handled_model, if_model, item_model, items_of, more_statements_of, named_end_model, statement_model, statements_model}
use Rattle.al_tree.specs.declared.statement.Alternative.{Alternative, out-Alternative}
use Rattle.al_tree.specs.declared.statement.Branch.{Branch, out-Branch}
use Rattle.al_tree.specs.declared.statement.CaseStatement.{CaseStatement, out-CaseStatement}
use Rattle.al_tree.specs.declared.statement.DeclaredStatements.{DeclaredStatements, out-DeclaredStatements}
use Rattle.al_tree.specs.declared.statement.IfStatement.{IfStatement, out-IfStatement}
use Rattle.al_tree.specs.declared.statement.OperationBody.{OperationBody}
use Rattle.al_tree.specs.declared.statement.Statements.{Statements, out-Statements}
use Rattle.al_tree.specs.declared.statement.SubprogramBody.{SubprogramBody, out-SubprogramBody}
use Rattle.al_view_typed.specs.DeclarationTrees.{DeclarationTree}
use Rattle.al_stmts.specs.Returns.{no_return_fault}
use Rattle.al_stmts.specs.Returning.{has_return}
use Rattle.al_stmts.specs.declared.simple.ReturnContext.{ReturnContext}
use Rattle.al_view_typed.specs.ExpressionTrees.{TypedTree}
use Rattle.al_stmts.proofs.ReturnsLayers.{alternative_layers, branch_layers, case_layers, handled_layers, if_layers, statements_layers}
use Rattle.al_stmts_text.proofs.Layers.{body_layers}
use Rattle.al_stmts_text.specs.Parts.{all_alternatives, all_branches, body_inside, entered_walked, object_walked, opened_walked, operation_trees}
use Rattle.al_stmts.specs.Readings.{Reading, giving}
use Rattle.al_stmts.specs.Steps.{Enclosing, Branching, Choosing, Inside, Part, Walked, block_of, case_of, if_of, inside_of, no_branching, no_part, nothing, one_alternative, one_branch, one_otherwise, part_of, parts_joined}
use Rattle.al_stmts.specs.Walking.{alternative_walked, alternatives_walked, body_ended, body_entered, body_walked, branch_walked, case_head, closed, elsifs_walked, else_walked, end_of, entry_walked, handled_walked, inside_after, items_walked, more_walked, named_extent, object_ended, operations_walked, part_after, region_left, statement_walked, statements_walked, subprogram_extent, task_walked, walked_after, walked_body}
use Rattle.al_stmts.specs.declared.extent.BodyExtent.{BodyExtent}
use Rattle.al_stmts_text.proofs.Read.{goes_on, made_of}

pub statements_made : {H : Type 0} (R : Reading H) (r env : Enclosing) (h after : H) (first so_far : Walked) (done : H × Walked) (s : Statements)
    → env ≡ r
    → giving after first ≡ statement_walked R r h (statement_model (out-Statements s).first)
    → so_far ≡ first
    → done ≡ walked_after (giving after so_far) (more_walked R env after (more_statements_of (map statement_model (out-Statements s).others.items)))
    → done ≡ statements_walked R r h (statements_model s)
statements_made {H} R r env h after first so_far done s same is first_is more =
    let rest = more_statements_of (map statement_model (out-Statements s).others.items) in
    rw (statements_layers s)
    (more
    ∙ ap (λ (k : Enclosing). walked_after (giving after so_far) (more_walked R k after rest)) same
    ∙ ap (λ (w : Walked). walked_after (giving after w) (more_walked R r after rest)) first_is
    ∙ goes_on (λ (k : H) (w : Walked). walked_after (giving k w) (more_walked R r k rest)) after first (statement_walked R r h (statement_model (out-Statements s).first)) is)

pub branch_made : {H : Type 0} (R : Reading H) (r : Enclosing) (h asked after : H) (so_far made : Branching) (line : ℕ) (condition : Result TypedTree Fault) (inner : Walked) (b : Branch)
    → giving asked condition ≡ R.condition h (expression_model (out-Branch b).condition)
    → giving after inner ≡ statements_walked R r asked (statements_model (out-Branch b).statements)
    → made ≡ one_branch so_far line condition inner
    → giving after made ≡ branch_walked R r (giving h so_far) line (branch_model b)
branch_made {H} R r h asked after so_far made line condition inner b read is made_is =
    let ss = statements_model (out-Branch b).statements in
    rw (branch_layers b)
    (made_of (one_branch so_far line condition) after inner made (statements_walked R r asked ss) is made_is
    ∙ goes_on (λ (k : H) (c : Result TypedTree Fault). giving ((statements_walked R r k ss).0) (one_branch so_far line c (statements_walked R r k ss).1)) asked condition (R.condition h (expression_model (out-Branch b).condition)) read)

pub otherwise_made : {H : Type 0} (R : Reading H) (r : Enclosing) (h after : H) (so_far made : Branching) (inner : Walked) (ss : StatementsTree)
    → is_some so_far.so_far.faults.end ≡ false
    → giving after inner ≡ statements_walked R r h ss
    → made ≡ one_otherwise so_far inner
    → giving after made ≡ else_walked R r (giving h so_far) (else_trees.Else ss)
otherwise_made R r h after so_far made inner ss goes is made_is = rw goes (made_of (one_otherwise so_far) after inner made (statements_walked R r h ss) is made_is)

pub alternative_made : {H : Type 0} (R : Reading H) (r : Enclosing) (h after : H) (so_far made : Choosing) (inner : Walked) (a : Alternative)
    → giving after inner ≡ statements_walked R r h (statements_model (out-Alternative a).statements)
    → made ≡ one_alternative so_far inner
    → giving after made ≡ alternative_walked R r (giving h so_far) (alternative_model a)
alternative_made R r h after so_far made inner a is made_is =
    rw (alternative_layers a) (made_of (one_alternative so_far) after inner made (statements_walked R r h (statements_model (out-Alternative a).statements)) is made_is)

pub if_made : {H : Type 0} (R : Reading H) (r : Enclosing) (h after : H) (new so_far : Branching) (done : Walked) (s : IfStatement)
    → new ≡ no_branching
    → giving after so_far ≡ all_branches R r (giving h new) s
    → done ≡ if_of (out-IfStatement s).opening.line so_far
    → giving after done ≡ statement_walked R r h (if_model s)
if_made {H} R r h after new so_far done s new_is is done_is =
    rw (if_layers s)
    (made_of (if_of (out-IfStatement s).opening.line) after so_far done (all_branches R r (giving h new) s) is done_is
    ∙ ap (λ (b : Branching). giving ((all_branches R r (giving h b) s).0) (if_of (out-IfStatement s).opening.line (all_branches R r (giving h b) s).1)) new_is)

pub case_made : {H : Type 0} (R : Reading H) (r : Enclosing) (h asked after : H) (head so_far : Choosing) (done : Walked) (s : CaseStatement)
    → giving asked head ≡ case_head R h (out-CaseStatement s).opening (expression_model (out-CaseStatement s).selector) (alternative_model (out-CaseStatement s).first) (alternatives_of (map alternative_model (out-CaseStatement s).others.items))
    → giving after so_far ≡ all_alternatives R r (giving asked head) s
    → done ≡ case_of (out-CaseStatement s).opening.line so_far
    → giving after done ≡ statement_walked R r h (case_model s)
case_made {H} R r h asked after head so_far done s read is done_is =
    let line = (out-CaseStatement s).opening.line in
    rw (case_layers s)
    (made_of (case_of line) after so_far done (all_alternatives R r (giving asked head) s) is done_is
    ∙ ap (λ (p : H × Choosing). giving ((all_alternatives R r p s).0) (case_of line (all_alternatives R r p s).1)) read)

pub after_made : {H : Type 0} (h after : H) (part : Part) (inner : Walked) (made : Inside) (walked : H × Walked)
    → is_some part.faults.end ≡ false
    → giving after inner ≡ walked
    → made ≡ inside_of part inner
    → giving after made ≡ inside_after (giving h part) walked
after_made h after part inner made walked goes is made_is = rw goes (made_of (inside_of part) after inner made walked is made_is)

pub after_stops : {H : Type 0} (h : H) (part : Part) (made : Inside) (walked : H × Walked)
    → is_some part.faults.end ≡ true
    → made ≡ inside_of part nothing
    → giving h made ≡ inside_after (giving h part) walked
after_stops {H} h part made walked ended made_is = rw ended (ap (λ (i : Inside). giving h i) made_is)

pub handled_made : {H : Type 0} (R : Reading H) (r : Enclosing) (n : Option Label) (line : ℕ) (h entered closed_at after : H) (part : Part) (inside : Inside) (done : H × Walked) (d : DeclaredStatements)
    → entered ≡ R.block_entered h
    → giving closed_at part ≡ closed R (items_walked R entered (items_of (map item_model (out-DeclaredStatements d).items.items))) (place_label (out-DeclaredStatements d).begin)
    → giving after inside ≡ inside_after (giving closed_at part) (statements_walked R r closed_at (statements_model (out-DeclaredStatements d).statements))
    → done ≡ region_left R (giving after (block_of line (end_of n (option_map identifier_label (out-DeclaredStatements d).end.end_name)) inside))
    → done ≡ handled_walked R r h n line (handled_model d)
handled_made {H} R r n line h entered closed_at after part inside done d entered_is part_is inside_is done_is =
    let ss = statements_model (out-DeclaredStatements d).statements in
    let items = items_of (map item_model (out-DeclaredStatements d).items.items) in
    let begin = place_label (out-DeclaredStatements d).begin in
    let end = end_of n (option_map identifier_label (out-DeclaredStatements d).end.end_name) in
    rw (handled_layers d)
    (done_is
    ∙ ap (λ (p : H × Inside). region_left R (giving p.0 (block_of line end p.1))) inside_is
    ∙ ap (λ (p : H × Part). region_left R (giving ((inside_after p (statements_walked R r p.0 ss)).0) (block_of line end (inside_after p (statements_walked R r p.0 ss)).1))) part_is
    ∙ ap (λ (k : H). let p = closed R (items_walked R k items) begin in region_left R (giving ((inside_after p (statements_walked R r p.0 ss)).0) (block_of line end (inside_after p (statements_walked R r p.0 ss)).1))) entered_is)

pub inside_made : {H : Type 0} (R : Reading H) (r : Enclosing) (h closed_at : H) (part : Part) (done : H × Inside) (items : ItemsTree) (begin : Label) (ss : StatementsTree)
    → giving closed_at part ≡ closed R (items_walked R h items) begin
    → done ≡ inside_after (giving closed_at part) (statements_walked R r closed_at ss)
    → done ≡ body_inside R r h items begin ss
inside_made {H} R r h closed_at part done items begin ss part_is done_is = done_is ∙ ap (λ (p : H × Part). inside_after p (statements_walked R r p.0 ss)) part_is

-- ---- bodies after their heads

abbrev Head : Type 0
Head = Result (List DeclarationTree) Fault

pub body_read : {H : Type 0} (R : Reading H) (h after : H) (s : SpecificationTree) (head : Head) (extent : BodyExtent) (done : H × Part) (b : SubprogramBody)
    → extent ≡ subprogram_extent s (compound_end_model (out-SubprogramBody b).end)
    → giving after head ≡ R.head h s
    → done ≡ walked_body R (giving after head) extent (items_of (map item_model (out-SubprogramBody b).items.items)) (place_label (out-SubprogramBody b).begin) (statements_model (out-SubprogramBody b).statements)
    → done ≡ body_walked R h s (body_model b)
body_read {H} R h after s head extent done b extent_is head_is is =
    let items = items_of (map item_model (out-SubprogramBody b).items.items) in
    let begin = place_label (out-SubprogramBody b).begin in
    let ss = statements_model (out-SubprogramBody b).statements in
    rw (body_layers b)
    (is
    ∙ ap (λ (p : H × Head). walked_body R p extent items begin ss) head_is
    ∙ ap (λ (x : BodyExtent). walked_body R (R.head h s) x items begin ss) extent_is)

pub task_read : {H : Type 0} (R : Reading H) (h after : H) (l n : Label) (head : Head) (extent : BodyExtent) (done : H × Part) (d : DeclaredStatements)
    → extent ≡ named_extent l n (named_end_model (out-DeclaredStatements d).end)
    → giving after head ≡ R.task_head h n
    → done ≡ walked_body R (giving after head) extent (items_of (map item_model (out-DeclaredStatements d).items.items)) (place_label (out-DeclaredStatements d).begin) (statements_model (out-DeclaredStatements d).statements)
    → done ≡ task_walked R h l n (handled_model d)
task_read {H} R h after l n head extent done d extent_is head_is is =
    let items = items_of (map item_model (out-DeclaredStatements d).items.items) in
    let begin = place_label (out-DeclaredStatements d).begin in
    let ss = statements_model (out-DeclaredStatements d).statements in
    rw (handled_layers d)
    (is
    ∙ ap (λ (p : H × Head). walked_body R p extent items begin ss) head_is
    ∙ ap (λ (x : BodyExtent). walked_body R (R.task_head h n) x items begin ss) extent_is)

pub entry_read : {H : Type 0} (R : Reading H) (h after : H) (l n : Label) (barrier : ExpressionTree) (head : Head) (extent : BodyExtent) (done : H × Part) (d : DeclaredStatements)
    → extent ≡ named_extent l n (named_end_model (out-DeclaredStatements d).end)
    → giving after head ≡ R.entry_head h n barrier
    → done ≡ walked_body R (giving after head) extent (items_of (map item_model (out-DeclaredStatements d).items.items)) (place_label (out-DeclaredStatements d).begin) (statements_model (out-DeclaredStatements d).statements)
    → done ≡ entry_walked R h l n barrier (handled_model d)
entry_read {H} R h after l n barrier head extent done d extent_is head_is is =
    let items = items_of (map item_model (out-DeclaredStatements d).items.items) in
    let begin = place_label (out-DeclaredStatements d).begin in
    let ss = statements_model (out-DeclaredStatements d).statements in
    rw (handled_layers d)
    (is
    ∙ ap (λ (p : H × Head). walked_body R p extent items begin ss) head_is
    ∙ ap (λ (x : BodyExtent). walked_body R (R.entry_head h n barrier) x items begin ss) extent_is)

pub object_read : {H : Type 0} (R : Reading H) (h after : H) (l n : Label) (os : List OperationBody) (e : NamedEndTree) (effects : List DeclarationTree) (done : H × Part)
    → giving after (Ok effects) ≡ R.object_entered h l n (operation_trees os)
    → done ≡ opened_walked R after n os e effects
    → done ≡ object_walked R h l n os e
object_read {H} R h after l n os e effects done opened is = rw (← opened) is

pub object_refused : {H : Type 0} (R : Reading H) (h after : H) (l n : Label) (os : List OperationBody) (e : NamedEndTree) (f : Fault) (done : Part)
    → giving after (Err f) ≡ R.object_entered h l n (operation_trees os)
    → done ≡ part_of (Err f)
    → giving after done ≡ object_walked R h l n os e
object_refused {H} R h after l n os e f done opened is = rw (← opened) (ap (λ (p : Part). giving after p) is)

pub branches_all : {H : Type 0} (R : Reading H) (r one two : Enclosing) (h h1 h2 : H) (so_far first more : Branching) (done : H × Branching) (s : IfStatement)
    → one ≡ r
    → two ≡ one
    → giving h1 first ≡ branch_walked R r (giving h so_far) (out-IfStatement s).opening.line (branch_model (out-IfStatement s).first)
    → giving h2 more ≡ elsifs_walked R one (giving h1 first) (elsifs_of (map elsif_model (out-IfStatement s).others.items))
    → done ≡ else_walked R two (giving h2 more) (else_of (option_map statements_model (out-IfStatement s).otherwise))
    → done ≡ all_branches R r (giving h so_far) s
branches_all {H} R r one two h h1 h2 so_far first more done s same same_too first_is more_are is =
    let others = elsifs_of (map elsif_model (out-IfStatement s).others.items) in
    let otherwise = else_of (option_map statements_model (out-IfStatement s).otherwise) in
    is
    ∙ ap (λ (k : Enclosing). else_walked R k (giving h2 more) otherwise) (same_too ∙ same)
    ∙ ap (λ (p : H × Branching). else_walked R r p otherwise) (more_are ∙ ap (λ (k : Enclosing). elsifs_walked R k (giving h1 first) others) same ∙ ap (λ (p : H × Branching). elsifs_walked R r p others) first_is)

pub alternatives_all : {H : Type 0} (R : Reading H) (r one : Enclosing) (h h1 : H) (so_far first : Choosing) (done : H × Choosing) (s : CaseStatement)
    → one ≡ r
    → giving h1 first ≡ alternative_walked R r (giving h so_far) (alternative_model (out-CaseStatement s).first)
    → done ≡ alternatives_walked R one (giving h1 first) (alternatives_of (map alternative_model (out-CaseStatement s).others.items))
    → done ≡ all_alternatives R r (giving h so_far) s
alternatives_all {H} R r one h h1 so_far first done s same first_is is =
    let others = alternatives_of (map alternative_model (out-CaseStatement s).others.items) in
    is ∙ ap (λ (k : Enclosing). alternatives_walked R k (giving h1 first) others) same ∙ ap (λ (p : H × Choosing). alternatives_walked R r p others) first_is

pub none_before : {H : Type 0} (h : H) (p : H × Part) → part_after (giving h no_part) p ≡ p
unfolding no_part parts_joined
none_before h p = refl

pub part_made : {H : Type 0} (R : Reading H) (h h1 : H) (new all : Part) (items : ItemsTree) (end : Label) (done : H × Part)
    → new ≡ no_part
    → giving h1 all ≡ part_after (giving h new) (items_walked R h items)
    → done ≡ closed R (giving h1 all) end
    → done ≡ closed R (items_walked R h items) end
part_made {H} R h h1 new all items end done new_is all_are is =
    is ∙ ap (λ (p : H × Part). closed R p end) (all_are ∙ ap (λ (n : Part). part_after (giving h n) (items_walked R h items)) new_is ∙ none_before h (items_walked R h items))

pub opened_made : {H : Type 0} (R : Reading H) (h h1 h2 : H) (new all last : Part) (fault : Option Fault) (effects : List DeclarationTree) (n : Label) (os : List OperationBody) (e : NamedEndTree) (done : H × Part)
    → new ≡ no_part
    → giving h1 all ≡ part_after (giving h new) (operations_walked R h (operation_trees os))
    → giving h2 last ≡ closed R (giving h1 all) e.end
    → fault ≡ end_of (Some n) e.end_name
    → done ≡ object_ended R effects fault (giving h2 last)
    → done ≡ opened_walked R h n os e effects
opened_made {H} R h h1 h2 new all last fault effects n os e done new_is all_are last_is fault_is is =
    let operations = operations_walked R h (operation_trees os) in
    let before = all_are ∙ ap (λ (p : Part). part_after (giving h p) operations) new_is ∙ none_before h operations in
    is
    ∙ ap (λ (p : H × Part). object_ended R effects fault p) (last_is ∙ ap (λ (p : H × Part). closed R p e.end) before)
    ∙ ap (λ (f : Option Fault). object_ended R effects f (closed R operations e.end)) fault_is

pub entered_made : {H : Type 0} (R : Reading H) (h h1 h2 : H) (effects : List DeclarationTree) (extent : BodyExtent) (enclosing left : Enclosing) (inside : Inside) (returns : ReturnContext) (no_return : Option Fault) (has : Bool) (done : H × Part) (items : ItemsTree) (begin : Label) (ss : StatementsTree)
    → giving h1 enclosing ≡ body_entered R h
    → giving h2 inside ≡ body_inside R enclosing h1 items begin ss
    → left ≡ enclosing
    → returns ≡ left.returns
    → has ≡ has_return ss
    → no_return ≡ no_return_fault extent.end returns.body has
    → done ≡ body_ended R effects extent no_return (giving h2 inside)
    → done ≡ entered_walked R h effects extent items begin ss
entered_made {H} R h h1 h2 effects extent enclosing left inside returns no_return has done items begin ss entered inside_is same returns_are has_is no_return_is is =
    let place = extent.end in
    let has_one = has_return ss in
    is
    ∙ ap (λ (f : Option Fault). body_ended R effects extent f (giving h2 inside)) (no_return_is ∙ ap (λ (v : Bool). no_return_fault place returns.body v) has_is ∙ ap (λ (x : ReturnContext). no_return_fault place x.body has_one) (returns_are ∙ ap (λ (k : Enclosing). k.returns) same))
    ∙ ap (λ (p : H × Inside). body_ended R effects extent (no_return_fault place enclosing.returns.body has_one) p) inside_is
    ∙ goes_on (λ (k : H) (a : Enclosing). body_ended R effects extent (no_return_fault place a.returns.body has_one) (body_inside R a k items begin ss)) h1 enclosing (body_entered R h) entered
