-- Whatever stands in a text, and whatever is wrong with it: the blocks, loops and bodies that are open after it are those that were open before it; and
-- after statements what waited before them waits.
use Rattle.std.proofs.Common.{◌≡◌, refl, sym, subst, ap, ◌∙◌, arith, true≢false, ℕ, zero, suc, ◌-◌, Bool, true, false, List, [], ◌∷◌, ◌++◌, length, take, Option, Some, None, Ok, Err, fold, if◌then◌else◌}
use Rattle.std.specs.Prelude.{Result, slice_get}
use Rattle.al_base_fault.specs.Judging.{unless}
use Rattle.al_base_fault.specs.declared.fault.Fault.{Fault}
use Rattle.al_check_declared.specs.DeclarationsHere.{declared_here, nested_declared, no_place, open_declared, package_name, pragma_settled, uses_settled, with_regions}
use Rattle.al_check_declared.specs.EnteredHere.{body_here, nested_body, private_here, read_entered, renewed_for, visible_heading, whole_body}
use Rattle.al_check_declared.specs.HeadsHere.{body_at, head_settled, heading_here, nested_head, stub_here, stub_settled, stub_wrong}
use Rattle.al_check_declared.specs.ObjectsHere.{entry_head, inner_head, named_settled, object_entered, object_here, object_settled, operation_at, operation_head, operation_settled, task_head, task_here}
use Rattle.al_check_declared.specs.OpenObjects.{barrier_fault_here, is_of_object, object_left, opened_by, out_of_object, renewed, renewed_in}
use Rattle.al_check_declared.specs.WholeHere.{own_mentioned, own_settled, undotted, whole_declared, whole_head, whole_settled, with_own}
use Rattle.al_check_here.specs.BodiesHere.{body_opened, nested_entered, open_of, out_of_body, out_of_one, outer_frame, right_formals, whole_entered}
use Rattle.al_check_here.specs.Faulty.{effect_settled}
use Rattle.al_check_here.specs.PartsHere.{private_begun, with_use}
use Rattle.al_check_here.specs.RegionsHere.{in_block, in_loop, out_of, out_of_block, with_found, with_parameter}
use Rattle.al_check_here.specs.Stacks.{innermost, is_bare, without_innermost}
use Rattle.al_check_here.specs.Standings.{is_immediate, is_nowhere, is_operation, is_whole, with_here, with_word, word_of}
use Rattle.al_check_here.specs.declared.state.AnalyzedHeading.{AnalyzedHeading}
use Rattle.al_check_here.specs.declared.state.BodyRole.{BodyRole}
use Rattle.al_check_here.specs.declared.state.BodyRole.TheVariants as roles
use Rattle.al_check_here.specs.declared.state.CheckState.{CheckState}
use Rattle.al_check_here.specs.declared.state.LoopType.{LoopType}
use Rattle.al_check_here.specs.declared.state.OpenBody.{OpenBody}
use Rattle.al_check_here.specs.declared.state.OpenObject.{OpenObject}
use Rattle.al_check_reading.specs.Ada.{ada, head_here, subprogram_here, where_open}
use Rattle.al_check_reading.specs.ValuesHere.{loop_range_here, surroundings, with_range}
use Rattle.al_decl.specs.Defining.{defined}
use Rattle.al_decl.specs.Regions.{outside_of, set_aside, subprogram_entered, with_formals_declared}
use Rattle.al_decl.specs.declared.block.Outside.{Outside}
use Rattle.al_decl.specs.declared.env.Environment.{Environment}
use Rattle.al_decl.specs.declared.subprogram_body.OuterFrame.{OuterFrame}
use Rattle.al_decl_completes.specs.CompletingFound.{unit_completing}
use Rattle.al_decl_judged.specs.Bodies.{body_declared}
use Rattle.al_decl_judged.specs.Declaring.{DeclaredTree}
use Rattle.al_decl_judged.specs.Frames.{entered, formal_words}
use Rattle.al_decl_judged.specs.Profiles.{specification_of}
use Rattle.al_decl_judged.specs.Subprograms.{subprogram_declared}
use Rattle.al_decl_judged.specs.declared.declaration.Declaration.{Declaration}
use Rattle.al_decl_judged.specs.declared.heading.Heading.{Heading}
use Rattle.al_decl_judged.specs.declared.names.DefiningName.{DefiningName}
use Rattle.al_decl_judged.specs.declared.progress.Progress.{Progress}
use Rattle.al_decl_judged.specs.declared.specification.BodyHead.TheVariants as heads
use Rattle.al_decl_protected.specs.Bodies.{Named, body_by, first_named, lone_body}
use Rattle.al_overload_readings.specs.Operations.{protected_of}
use Rattle.al_query.specs.Reads.{Table}
use Rattle.al_query.specs.declared.answer.Completion.{Completion}
use Rattle.al_query.specs.declared.answer.UseClause.{UseClause}
use Rattle.al_scope.specs.Places.{Place}
use Rattle.al_scope.specs.UnitPlaces.{private_regions}
use Rattle.al_scope.specs.declared.region.Region.{Region}
use Rattle.al_scope_context.specs.Pragmas.{pragma_fault}
use Rattle.al_scope_context.specs.UsesAt.{used_in, uses_at}
use Rattle.al_stmts.specs.LoopForms.{RangeTree, parameter_bounds}
use Rattle.al_stmts.specs.Walking.{first_line}
use Rattle.al_stmts.specs.declared.loops.LoopWords.{LoopWords}
use Rattle.al_stmts_ranges.specs.LoopsAt.{FoundRangeTree, loop_range_at}
use Rattle.al_tree_grammar.specs.Grammar.{Label}
use Rattle.al_tree_syntax.specs.DeclarationTrees.CommonTree.{ObjectDeclaration, TypeDeclaration, SubtypeDeclaration, UseClause as UseItem, PragmaItem}
use Rattle.al_tree_syntax.specs.DeclarationTrees.{CommonTree, DiscreteRangeTree, SpecificationTree}
use Rattle.al_tree_syntax.specs.ExpressionTrees.{ExpressionTree}
use Rattle.al_tree_syntax.specs.StatementTrees.{OperationBodiesTree}
use Rattle.al_view.specs.declared.symbol.Symbol.{Symbol}
use Rattle.al_view.specs.declared.view.ProtectedView.{ProtectedView}
use Rattle.al_view.specs.declared.view.ViewKind.{ViewKind}
use Rattle.al_view_typed.specs.DeclarationTrees.{DeclarationTree}
use Rattle.al_check_promise_laws.proofs.AllLemmas.{one_of}
use Rattle.al_check_promise_laws.proofs.RightLemmas.{Judged}
use Rattle.al_check_promise_laws.proofs.Walks as walks

-- ---- the last of a stack

last-get : {X : Type 0} (xs : List X) (x : X) → slice_get (xs ++ x ∷ []) (length xs) ≡ Some x
last-get [] x = refl
last-get (y ∷ ys) x = last-get ys x

first-take : {X : Type 0} (xs : List X) (x : X) → take (length xs) (xs ++ x ∷ []) ≡ xs
first-take [] x = refl
first-take (y ∷ ys) x = ap (λ zs. y ∷ zs) (first-take ys x)

one-more : {X : Type 0} (xs : List X) (x : X) → length (xs ++ x ∷ []) ≡ suc (length xs)
one-more [] x = refl
one-more (y ∷ ys) x = ap suc (one-more ys x)

one-less : {X : Type 0} (xs : List X) (x : X) → length (xs ++ x ∷ []) - 1 ≡ length xs
one-less xs x =
    let e : suc (length xs) - 1 ≡ length xs = omega arith in
    subst (λ (n : ℕ). n - 1 ≡ length xs) (sym (one-more xs x)) e

pub innermost-last : {X : Type 0} (xs : List X) (x : X) → innermost (xs ++ x ∷ []) ≡ Some x
innermost-last xs x = subst (λ (n : ℕ). slice_get (xs ++ x ∷ []) n ≡ Some x) (sym (one-less xs x)) (last-get xs x)

pub without-last : {X : Type 0} (xs : List X) (x : X) → without_innermost (xs ++ x ∷ []) ≡ xs
without-last xs x = subst (λ (n : ℕ). take n (xs ++ x ∷ []) ≡ xs) (sym (one-less xs x)) (first-take xs x)

some-is : {X : Type 0} (a b : X) → Some a ≡ Some b → a ≡ b
some-is a b e = cc

-- ---- what is open

abbrev pub Same : CheckState → CheckState → Type 0
Same h g = (g.blocks ≡ h.blocks) × (g.bodies ≡ h.bodies)

abbrev pub Stays : CheckState → CheckState → Type 0
Stays h g = Same h g × (g.env.uncompleted ≡ h.env.uncompleted)

-- the head of a body was read, which can be entered
abbrev pub HasHead : CheckState → Type 0
HasHead h = (read : AnalyzedHeading) × (h.pending ≡ Some read) × (is_whole h ≡ true → is_nowhere h ≡ false)

abbrev pub Heads : CheckState → CheckState × Judged (List DeclarationTree) → Type 0
Heads h p = walks.Heads Stays Same HasHead h p

-- ---- blocks and bodies are left

pub left-body : (g : CheckState) (bs : List OpenBody) (b : OpenBody) → g.bodies ≡ bs ++ b ∷ [] → ((out_of_body g).blocks ≡ g.blocks) × ((out_of_body g).bodies ≡ bs) × ((out_of_body g).env.uncompleted ≡ b.outside.uncompleted)
left-body g bs b is = at (innermost g.bodies) (ap innermost is ∙ innermost-last bs b)
  where
    at : (o : Option OpenBody) → o ≡ Some b → ((out_of_one g o).blocks ≡ g.blocks) × ((out_of_one g o).bodies ≡ bs) × ((out_of_one g o).env.uncompleted ≡ b.outside.uncompleted)
    at None e = absurd (cc)
    at (Some c) e = (refl, ap without_innermost is ∙ without-last bs b, ap (λ (x : OpenBody). x.outside.uncompleted) (some-is c b e))

left-block : (g : CheckState) (os : List Outside) (b : Outside) → g.blocks ≡ os ++ b ∷ [] → ((out_of_block g).blocks ≡ os) × ((out_of_block g).bodies ≡ g.bodies) × ((out_of_block g).env.uncompleted ≡ b.uncompleted)
left-block g os b is = at (innermost g.blocks) (ap innermost is ∙ innermost-last os b)
  where
    at : (o : Option Outside) → o ≡ Some b → ((out_of g o).blocks ≡ os) × ((out_of g o).bodies ≡ g.bodies) × ((out_of g o).env.uncompleted ≡ b.uncompleted)
    at None e = absurd (cc)
    at (Some c) e = (ap without_innermost is ∙ without-last os b, refl, ap (λ (x : Outside). x.uncompleted) (some-is c b e))

block : (h g : CheckState) → Same (in_block h) g → Stays h (out_of_block g)
block h g s = let m = left-block g h.blocks (outside_of h.env) s.0 in ((m.0, m.1 ∙ s.1), m.2)

loop : (h g : CheckState) (l : Label) → Stays (in_loop h l) g → Stays h (out_of_block g)
loop h g l s = block h g s.0

-- ---- bodies are entered

abbrev pub Opened : CheckState → AnalyzedHeading → Outside → CheckState → Type 0
Opened h read outside g = (b : OpenBody) × (g.bodies ≡ h.bodies ++ b ∷ []) × (g.blocks ≡ h.blocks) × (b.role ≡ read.role) × (b.symbol ≡ read.symbol) × (b.outside ≡ outside)

pub opened : (k : CheckState) (read : AnalyzedHeading) (outer : OuterFrame) (outside : Outside) → Opened k read outside (body_opened k read outer outside)
opened k read outer outside =
    let fs = right_formals read.heading in
    (open_of (with_here k (with_formals_declared k.env fs)) read outer outside (formal_words k.env.progress fs), refl, refl, refl, refl, refl)

abbrev Entered : CheckState → CheckState → Type 0
Entered h g = (b : OpenBody) × (g.bodies ≡ h.bodies ++ b ∷ []) × (g.blocks ≡ h.blocks)

nested : (h k : CheckState) (read : AnalyzedHeading) → Same h k → Entered h (nested_entered k read)
nested h k read s =
    let o = opened (with_here k (subprogram_entered k.env read.symbol)) read (outer_frame k.env) (outside_of k.env) in
    (o.0, o.1 ∙ ap (λ bs. bs ++ o.0 ∷ []) s.1, o.2 ∙ s.0)

renewed-same : (h : CheckState) (b : Bool) (o : Option OpenObject) → Same h (renewed_in h b o)
renewed-same h b None = (refl, refl)
renewed-same h b (Some o) = (refl, refl)

nested-body : (h : CheckState) (read : AnalyzedHeading) → Entered h (nested_body h read)
nested-body h read = nested h (renewed_for h read) read (one_of (Same h) (is_of_object read.role) (renewed h read) h (renewed-same h _ h.object) (refl, refl))

pub whole-opened : (t : Table) (h : CheckState) (read : AnalyzedHeading) → is_nowhere h ≡ false → (b : OpenBody) × ((whole_body t h read).bodies ≡ h.bodies ++ b ∷ []) × ((whole_body t h read).blocks ≡ h.blocks) × (b.role ≡ read.role) × (b.symbol ≡ read.symbol) × (b.outside.uncompleted ≡ h.env.uncompleted)
whole-opened t h read e = at (is_nowhere h) e
  where
    inner : CheckState
    inner = with_regions h (private_regions t h.unit.own h.env.scope.regions)

    seen : AnalyzedHeading
    seen = visible_heading t inner.env.scope read

    IsOpened : CheckState → Type 0
    IsOpened g = (b : OpenBody) × (g.bodies ≡ h.bodies ++ b ∷ []) × (g.blocks ≡ h.blocks) × (b.role ≡ read.role) × (b.symbol ≡ read.symbol) × (b.outside.uncompleted ≡ h.env.uncompleted)

    at : (b : Bool) → b ≡ false → IsOpened (if b then h else whole_entered inner seen)
    at true i = absurd (true≢false i)
    at false i =
        let o = opened (with_here inner (set_aside (record inner.env { progress = entered inner.env.progress }))) seen (outer_frame inner.env) (outside_of inner.env) in
        (o.0, o.1, o.2, o.3, o.4, ap (λ (x : Outside). x.uncompleted) o.5)

entered-here : (t : Table) (h : CheckState) → HasHead h → Entered h (body_here t h)
entered-here t h n = subst (λ (o : Option AnalyzedHeading). Entered h (read_entered t h o)) (sym n.1) (by (is_whole h) refl)
  where
    by : (b : Bool) → is_whole h ≡ b → Entered h (if b then whole_body t h n.0 else nested_body h n.0)
    by true e = let o = whole-opened t h n.0 (n.2 e) in (o.0, o.1, o.2)
    by false e = nested-body h n.0

body : (t : Table) (h g : CheckState) → HasHead h → Same (body_here t h) g → Same h (out_of_body g)
body t h g n s = let e = entered-here t h n in let m = left-body g h.bodies e.0 (s.1 ∙ e.1) in (m.0 ∙ s.0 ∙ e.2, m.1)

-- ---- the parameter of a loop

range-stays : (h : CheckState) (j : Result FoundRangeTree Fault) → Stays h (with_range h j)
range-stays h (Ok f) = ((refl, refl), refl)
range-stays h (Err f) = ((refl, refl), refl)

loop-range : (t : Table) (h : CheckState) (d : DiscreteRangeTree) → Stays h (loop_range_here t h d).0
loop-range t h d = range-stays _ (loop_range_at t (surroundings h) d (word_of h)).1

parameter-stays : (h : CheckState) (l : Label) (r : RangeTree) (ws : LoopWords) → Stays h (with_parameter h l r ws)
parameter-stays h l r ws = one_of (Stays h) (is_nowhere h) h (with_found h l (parameter_bounds r) ws.parameter h.parameter) ((refl, refl), refl) (found h.parameter)
  where
    found : (o : Option LoopType) → Stays h (with_found h l (parameter_bounds r) ws.parameter o)
    found None = ((refl, refl), refl)
    found (Some f) = ((refl, refl), refl)

-- ---- declarations

open-same : (h : CheckState) (p : CheckState × Judged (List DeclarationTree)) → Same h p.0 → Same h (where_open h p).0
open-same h p s = one_of (λ (x : CheckState × Judged (List DeclarationTree)). Same h x.0) (is_nowhere h) (no_place h) p (refl, refl) s

settled-same : (h : CheckState) (j : Judged (Environment × Option DeclarationTree)) → Same h (effect_settled h j).0
settled-same h (Ok x) = (refl, refl)
settled-same h (Err f) = (refl, refl)

own-same : (h : CheckState) (j : Judged ((Progress × List Completion) × DeclaredTree)) → Same h (own_settled h j).0
own-same h (Ok x) = (refl, refl)
own-same h (Err f) = (refl, refl)

uses-same : (h : CheckState) (us : List UseClause) → Same h (fold with_use h us)
uses-same h [] = (refl, refl)
uses-same h (u ∷ us) = uses-same (with_use h u) us

uses-settled-same : (h : CheckState) (j : Judged (List UseClause)) → Same h (uses_settled h j).0
uses-settled-same h (Ok us) = one_of (Same h) (is_immediate h) (fold with_use h us) h (uses-same h us) (refl, refl)
uses-settled-same h (Err f) = (refl, refl)

pragma-same : (h : CheckState) (o : Option Fault) → Same h (pragma_settled h o).0
pragma-same h None = (refl, refl)
pragma-same h (Some f) = (refl, refl)

declared-same : (t : Table) (h : CheckState) (c : CommonTree) → Same h (declared_here t h c).0
declared-same t h c = open-same h (open_declared t h c) (by c)
  where
    by : (c : CommonTree) → Same h (open_declared t h c).0
    by (ObjectDeclaration o) = settled-same h _
    by (TypeDeclaration d) = settled-same h _
    by (SubtypeDeclaration s) = settled-same h _
    by (UseItem u) = let clauses = uses_at t h.env.scope h.unit.packages u in uses-settled-same (with_regions h (used_in clauses h.env.scope.regions)) clauses
    by (PragmaItem p) = pragma-same h (pragma_fault (package_name h) p)

subprogram-same : (t : Table) (h : CheckState) (s : SpecificationTree) → Same h (subprogram_here t h s).0
subprogram-same t h s =
    open-same h (if is_whole h then whole_declared t h s else nested_declared t h s)
    (one_of (λ (x : CheckState × Judged (List DeclarationTree)). Same h x.0) (is_whole h) (whole_declared t h s) (nested_declared t h s)
    (own-same h (subprogram_declared h.env.progress h.env.uncompleted (first_line s) None (undotted (heading_here t h s)))) (settled-same h _))

stub-same : (t : Table) (h : CheckState) (s : SpecificationTree) → Same h (stub_here t h s).0
stub-same t h s = let head = heading_here t h s in at head (body_at t h.env (first_line s) (stub_wrong h head) head)
  where
    at : (head : Heading) (j : Judged (Environment × (Option DeclarationTree × Symbol))) → Same h (stub_settled h head j).0
    at head (Ok x) = (refl, refl)
    at head (Err f) = (refl, refl)

-- ---- heads of bodies

open-head : (h : CheckState) (p : CheckState × Judged (List DeclarationTree)) → (is_nowhere h ≡ false → Heads h p) → Heads h (where_open h p)
open-head h p f = by (is_nowhere h) refl
  where
    by : (b : Bool) → is_nowhere h ≡ b → Heads h (if b then no_place h else p)
    by true e = ((refl, refl), λ o. absurd o)
    by false e = f e

pub own-regions : (unit : List ℕ) (p : Place) (ds : List Declaration) → (with_own unit p ds).regions ≡ p.regions
own-regions unit p [] = refl
own-regions unit p (d ∷ ds) = own-regions unit (own_mentioned unit p d) ds

whole-settled : (h : CheckState) (head : Heading) → is_nowhere h ≡ false → (j : Judged ((Progress × List Completion) × (DeclaredTree × Symbol))) → Heads h (whole_settled h head j)
whole-settled h head e (Ok x) =
    ((refl, refl), λ o. (record { role = roles.Subprogram; heading = head; symbol = x.1.1 }, refl, λ w. ap (λ (rs : List Region). is_bare rs) (own-regions h.unit.own.unit.name h.env.scope x.1.0.declarations) ∙ e))
whole-settled h head e (Err f) = ((refl, refl), λ o. absurd o)

nested-settled : (h : CheckState) (head : Heading) → is_whole h ≡ false → (j : Judged (Environment × (Option DeclarationTree × Symbol))) → Heads h (head_settled h head j)
nested-settled h head e (Ok x) = ((refl, refl), λ o. (record { role = roles.Subprogram; heading = head; symbol = x.1.1 }, refl, λ w. absurd (true≢false (sym w ∙ e))))
nested-settled h head e (Err f) = ((refl, refl), λ o. absurd o)

operation-settled : (h : CheckState) (head : Heading) → is_whole h ≡ false → (j : Judged (Environment × (Option DeclarationTree × Symbol))) → Heads h (operation_settled h head j)
operation-settled h head e (Ok x) = ((refl, refl), λ o. (record { role = roles.Operation; heading = head; symbol = x.1.1 }, refl, λ w. absurd (true≢false (sym w ∙ e))))
operation-settled h head e (Err f) = ((refl, refl), λ o. absurd o)

head-same : (t : Table) (h : CheckState) (s : SpecificationTree) → Heads h (head_here t h s)
head-same t h s = open-head h (if is_whole h then whole_head t h s else inner_head t h s) (λ e. by e (is_whole h) refl)
  where
    by : is_nowhere h ≡ false → (b : Bool) → is_whole h ≡ b → Heads h (if b then whole_head t h s else inner_head t h s)
    by e true i =
        let head = undotted (heading_here t h s) in
        whole-settled h head e (body_declared h.env.progress h.env.uncompleted (first_line s) None head (unit_completing h.env.uncompleted head.name (specification_of head)))
    by e false i =
        let head = heading_here t h s in
        one_of (Heads h) (is_operation h) (operation_head t h s) (nested_head t h s) (operation-settled h head i (operation_at t h.env (first_line s) head)) (nested-settled h head i (body_at t h.env (first_line s) None head))

named-head : (h : CheckState) (role : BodyRole) (n : DefiningName) (line : ℕ) (lone : Fault) → is_nowhere h ≡ false → (f : Option Fault) (o : Option (ℕ × ViewKind)) → Heads h (named_settled h role n (unless f (body_by h.env line lone o)))
named-head h role n line lone e None None = ((refl, refl), λ o. absurd o)
named-head h role n line lone e None (Some x) = ((refl, refl), λ o. (_, refl, λ w. e))
named-head h role n line lone e (Some f) None = ((refl, refl), λ o. absurd o)
named-head h role n line lone e (Some f) (Some x) = ((refl, refl), λ o. absurd o)

task-same : (t : Table) (h : CheckState) (l : Label) → Heads h (where_open h (task_head t h l))
task-same t h l =
    let n = defined l in
    open-head h (task_head t h l) (λ e. named-head h roles.Task n n.place.line (lone_body t h.env n heads.Task) e None (first_named zero n.name heads.Task h.env.uncompleted))

entry-same : (t : Table) (h : CheckState) (l : Label) (barrier : ExpressionTree) → Heads h (where_open h (entry_head t h l barrier))
entry-same t h l barrier =
    let n = defined l in
    open-head h (entry_head t h l barrier) (λ e. named-head h roles.Entry n n.place.line (lone_body t h.env n heads.Entry) e (barrier_fault_here h barrier) (first_named zero n.name heads.Entry h.env.uncompleted))

-- ---- protected bodies

object-same : (h : CheckState) (os : OperationBodiesTree) (j : Judged Named) → Same h (object_settled h os j).0
object-same h os (Ok x) = by (protected_of x.1.1)
  where
    by : (o : Option ProtectedView) → Same h (opened_by (with_here h x.0) x.1.1 os o)
    by None = (refl, refl)
    by (Some v) = (refl, refl)
object-same h os (Err f) = (refl, refl)

object-entered : (t : Table) (h : CheckState) (l n : Label) (os : OperationBodiesTree) → Same h (where_open h (object_entered t h l.line n os)).0
object-entered t h l n os = open-same h (object_entered t h l.line n os) (object-same h os _)

object-left : (h : CheckState) → Same h (object_left h)
object-left h = by h.object
  where
    by : (o : Option OpenObject) → Same h (out_of_object h o)
    by None = (refl, refl)
    by (Some o) = (refl, refl)

private-same : (t : Table) (h : CheckState) → Same h (private_here t h)
private-same t h = one_of (λ (g : CheckState). Same h (private_begun g)) (is_nowhere h) h (with_regions h (private_regions t h.unit.own h.env.scope.regions)) (refl, refl) (refl, refl)

-- ---- all fields

pub relates : (t : Table) → walks.Relates Stays Same HasHead (ada t)
unfolding ada
relates t = record {
  stays = λ a. ((refl, refl), refl);
  further = λ a b c p q. ((q.0.0 ∙ p.0.0, q.0.1 ∙ p.0.1), q.1 ∙ p.1);
  rests = λ a. (refl, refl);
  onward = λ a b c p q. (q.0 ∙ p.0, q.1 ∙ p.1);
  less = λ a b p. p.0;
  condition = λ h e. ((refl, refl), refl);
  moment = λ h e. ((refl, refl), refl);
  target = λ h e. ((refl, refl), refl);
  source = λ h n e. ((refl, refl), refl);
  effect = λ h e. ((refl, refl), refl);
  result = λ h e. ((refl, refl), refl);
  selector = λ h e. ((refl, refl), refl);
  with_word = λ h. ((refl, refl), refl);
  loop = loop;
  loop_range = loop-range t;
  with_parameter = parameter-stays;
  block = block;
  declared = declared-same t;
  subprogram = subprogram-same t;
  stub = λ h s l. open-same h (stub_here t h s) (stub-same t h s);
  single_task = λ h k. open-same h (task_here t h k) (settled-same h _);
  single_object = λ h l p. open-same h (object_here t h l.line p) (settled-same h _);
  head = head-same t;
  task_head = task-same t;
  entry_head = entry-same t;
  body = body t;
  object_entered = object-entered t;
  object_left = object-left;
  private_entered = private-same t;
  statements_entered = λ h. ((refl, refl), refl);
}
