-- Through a whole unit what its declarations have taken lies in its words, as long as these haven't run out.
use Rattle.std.proofs.Common.{◌≡◌, ◌⊎◌, inr, refl, sym, subst, ◌∙◌, ℕ, ◌≤◌, zero, Bool, true, false, List, [], ◌∷◌, Option, Some, None, Ok, Err, fold, is_some, if◌then◌else◌}
use Rattle.std.specs.Bool.{⊤}
use Rattle.std.specs.List.{remove}
use Rattle.std.specs.Prelude.{not}
use Rattle.al_base_fault.specs.Faults.{earlier}
use Rattle.al_base_fault.specs.Judging.{map_ok, unless}
use Rattle.al_base_fault.specs.declared.fault.Fault.{Fault}
use Rattle.al_check_declared.specs.DeclarationsHere.{declared_here, nested_declared, no_place, open_declared, package_name, parts_here, pragma_settled, private_words, uses_settled, with_regions}
use Rattle.al_check_declared.specs.EnteredHere.{body_here, nested_body, private_here, read_entered, renewed_for, visible_heading, whole_body}
use Rattle.al_check_declared.specs.HeadsHere.{body_at, head_settled, heading_here, nested_head, stub_here, stub_settled, stub_wrong}
use Rattle.al_check_declared.specs.ObjectRegions.{entered_alone, has_form, region_entered, with_component, with_operation}
use Rattle.al_check_declared.specs.ObjectsHere.{entry_head, inner_head, named_settled, object_entered, object_here, object_settled, operation_at, operation_head, operation_settled, task_head, task_here}
use Rattle.al_check_declared.specs.OpenObjects.{barrier_fault_here, entered_anew, is_of_object, object_left, opened_by, out_of_object, renewed, renewed_by, renewed_in}
use Rattle.al_check_declared.specs.WholeHere.{own_settled, undotted, whole_declared, whole_head, whole_settled}
use Rattle.al_check_here.specs.BodiesHere.{nested_entered, out_of_body, out_of_one, right_formals, whole_entered}
use Rattle.al_check_here.specs.Faulty.{effect_settled}
use Rattle.al_check_here.specs.PartsHere.{private_begun, with_use}
use Rattle.al_check_here.specs.RegionsHere.{region_left, out_of, out_of_block, with_found, with_parameter}
use Rattle.al_check_here.specs.Stacks.{innermost}
use Rattle.al_check_here.specs.Standings.{at_word, with_here, is_immediate, is_nowhere, is_operation, is_whole, word_of}
use Rattle.al_check_here.specs.declared.state.AnalyzedHeading.{AnalyzedHeading}
use Rattle.al_check_here.specs.declared.state.BodyRole.{BodyRole}
use Rattle.al_check_here.specs.declared.state.BodyRole.TheVariants as roles
use Rattle.al_check_here.specs.declared.state.CheckState.{CheckState}
use Rattle.al_check_here.specs.declared.state.LoopType.{LoopType}
use Rattle.al_check_here.specs.declared.state.OpenBody.{OpenBody}
use Rattle.al_check_here.specs.declared.state.OpenObject.{OpenObject}
use Rattle.al_check_reading.specs.Ada.{ada, head_here, subprogram_here, where_open}
use Rattle.al_check_reading.specs.ValuesHere.{surroundings, with_range}
use Rattle.al_decl.specs.Declaring.{with_declaration, with_declarations}
use Rattle.al_decl.specs.Defining.{defined, defining_names}
use Rattle.al_decl.specs.Placing.{has_right_marks, head_duplicate, body_after, body_placed, with_awaiting}
use Rattle.al_decl.specs.Regions.{subprogram_entered, set_aside, with_formals_declared}
use Rattle.al_decl.specs.TypeNames.{type_name}
use Rattle.al_decl.specs.declared.block.Outside.{Outside}
use Rattle.al_decl.specs.declared.env.Environment.{Environment}
use Rattle.al_decl_completes.specs.CompletingFound.{completing_found, unit_completing}
use Rattle.al_decl_judged.specs.Bodies.{after_body, completing_fault, right_body}
use Rattle.al_decl_judged.specs.Frames.{entered, formal_declarations, with_formal, with_formals}
use Rattle.al_decl_judged.specs.Headings.{heading_fault, is_function}
use Rattle.al_decl_judged.specs.Profiles.{specification_of}
use Rattle.al_decl_judged.specs.Progressing.{symbol_of, with_counted}
use Rattle.al_decl_judged.specs.Subprograms.{right_subprogram}
use Rattle.al_decl_judged.specs.declared.body.Completing.{Completing}
use Rattle.al_decl_judged.specs.declared.body.Completing.TheVariants.{Declared as Completed, Alone}
use Rattle.al_decl_judged.specs.declared.declaration.Declaration.{Declaration}
use Rattle.al_decl_judged.specs.declared.frame.NewFormal.{NewFormal}
use Rattle.al_decl_judged.specs.declared.heading.Heading.{Heading}
use Rattle.al_decl_judged.specs.declared.names.DefiningName.{DefiningName}
use Rattle.al_decl_judged.specs.declared.progress.Progress.{Progress}
use Rattle.al_decl_judged.specs.declared.specification.BodyHead.TheVariants as heads
use Rattle.al_decl_protected.specs.Bodies.{body_by, first_named, lone_body}
use Rattle.al_overload_readings.specs.Operations.{protected_of}
use Rattle.al_query.specs.Reads.{Table}
use Rattle.al_query.specs.declared.answer.UseClause.{UseClause}
use Rattle.al_scope.specs.UnitPlaces.{private_regions}
use Rattle.al_scope_context.specs.Pragmas.{pragma_fault}
use Rattle.al_scope_context.specs.UsesAt.{used_in, uses_at}
use Rattle.al_stmts.specs.LoopForms.{RangeTree, parameter_bounds}
use Rattle.al_stmts.specs.Walking.{first_line}
use Rattle.al_stmts.specs.declared.loops.LoopWords.{LoopWords}
use Rattle.al_stmts_ranges.specs.LoopsAt.{FoundRangeTree, loop_range_at}
use Rattle.al_tree_grammar.specs.Grammar.{Label}
use Rattle.al_tree_syntax.specs.DeclarationTrees.CommonTree.{ObjectDeclaration, TypeDeclaration, SubtypeDeclaration, UseClause as UseItem, PragmaItem}
use Rattle.al_tree_syntax.specs.DeclarationTrees.{CommonTree, SpecificationTree}
use Rattle.al_tree_syntax.specs.StatementTrees.{OperationBodiesTree}
use Rattle.al_view.specs.declared.symbol.Symbol.{Symbol}
use Rattle.al_view.specs.declared.types.Component.{Component}
use Rattle.al_view.specs.declared.view.Operation.{Operation}
use Rattle.al_view.specs.declared.view.ProtectedView.{ProtectedView}
use Rattle.al_view.specs.declared.view.ViewKind.{ViewKind}
use Rattle.al_view_typed.specs.DeclarationTrees.{DeclarationTree as Labelled}
use Rattle.al_check_promise_laws.proofs.AllLemmas.{one_of}
use Rattle.al_check_promise_laws.proofs.RightLemmas.{Judged, Right}
use Rattle.al_check_promise_laws.proofs.Walks as walks
use Rattle.al_check_promise_laws.proofs.WordWalks.{InWords, Words, after-words, definition-words, flag-words, form-words, protected-words-in, subprogram-words, subtype-words, task-words}

abbrev pub Stays : CheckState → CheckState → Type 0
Stays h g = InWords h.env.progress → InWords g.env.progress

-- nothing is taken
nothing : (n : ℕ) → (4294967295 ≤ n) ⊎ (⊤ × ⊤ × ⊤)
nothing n = inr (tt, tt, tt)

-- ---- declarations

open-words : (h : CheckState) (p : CheckState × Judged (List Labelled)) → Stays h p.0 → Stays h (where_open h p).0
open-words h p s = one_of (λ (x : CheckState × Judged (List Labelled)). Stays h x.0) (is_nowhere h) (no_place h) p (λ i. nothing 0) s

settled-words : (h : CheckState) (j : Judged (Environment × Option Labelled)) → (InWords h.env.progress → Words j) → Stays h (effect_settled h j).0
settled-words h (Ok x) f = f
settled-words h (Err f) r = λ i. nothing 0

own-words : (h : CheckState) (line : ℕ) (head : Heading) (f : Option Fault) → Stays h (own_settled h (unless f (Ok (right_subprogram h.env.progress h.env.uncompleted line head)))).0
own-words h line head None = λ i. flag-words (with_counted h.env.progress head.name.name) (symbol_of h.env.progress head.name.name) i
own-words h line head (Some f) = λ i. nothing 0

uses-words : (h : CheckState) (us : List UseClause) → (fold with_use h us).env ≡ h.env
uses-words h [] = refl
uses-words h (u ∷ us) = uses-words (with_use h u) us

uses-settled-words : (h : CheckState) (j : Judged (List UseClause)) → Stays h (uses_settled h j).0
uses-settled-words h (Ok us) = one_of (Stays h) (is_immediate h) (fold with_use h us) h (λ i. subst (λ (e : Environment). InWords e.progress) (sym (uses-words h us)) i) (λ i. i)
uses-settled-words h (Err f) = λ i. nothing 0

pragma-words : (h : CheckState) (o : Option Fault) → Stays h (pragma_settled h o).0
pragma-words h None = λ i. i
pragma-words h (Some f) = λ i. nothing 0

declared-words : (t : Table) (h : CheckState) (c : CommonTree) → Stays h (declared_here t h c).0
declared-words t h c = open-words h (open_declared t h c) (by c)
  where
    by : (c : CommonTree) → Stays h (open_declared t h c).0
    by (ObjectDeclaration o) = settled-words h _ (λ i. form-words t (parts_here t h) h.env i o.names.first.line (defining_names o.names) o.form)
    by (TypeDeclaration d) = settled-words h _ (λ i. definition-words t (parts_here t h) h.env i (private_words h d.name.text) (type_name h.env (defined d.name)) d.definition)
    by (SubtypeDeclaration s) = settled-words h _ (λ i. subtype-words t (parts_here t h) h.env i s)
    by (UseItem u) = let clauses = uses_at t h.env.scope h.unit.packages u in uses-settled-words (with_regions h (used_in clauses h.env.scope.regions)) clauses
    by (PragmaItem p) = pragma-words h (pragma_fault (package_name h) p)

subprogram-here : (t : Table) (h : CheckState) (s : SpecificationTree) → Stays h (subprogram_here t h s).0
subprogram-here t h s =
    let head = undotted (heading_here t h s) in
    open-words h (if is_whole h then whole_declared t h s else nested_declared t h s)
    (one_of (λ (x : CheckState × Judged (List Labelled)). Stays h x.0) (is_whole h) (whole_declared t h s) (nested_declared t h s)
    (own-words h (first_line s) head (earlier None (heading_fault head)))
    (settled-words h _ (λ i. subprogram-words t (parts_here t h) h.env i (first_line s) s)))

-- ---- heads and stubs: a body that completes nothing is counted

counted-words : (p : Progress) (head : Heading) (c : Completing) → InWords p → InWords (after_body p head c)
counted-words p head (Completed at symbol flag fault) i = i
counted-words p head (Alone fault) i = i

placed-words : (env : Environment) (line : ℕ) (stub : Option Fault) (head : Heading) (c : Completing) → InWords env.progress
    → Right (λ (x : Environment × (Option Labelled × Symbol)). InWords x.0.progress) (body_placed env line stub head c)
placed-words env line stub head c i = by (earlier stub (earlier (heading_fault head) (completing_fault c)))
  where
    by : (f : Option Fault) → Right (λ (x : Environment × (Option Labelled × Symbol)). InWords x.0.progress) (map_ok (body_after env) (unless f (Ok (right_body env.progress env.uncompleted line head c))))
    by None = let d = right_body env.progress env.uncompleted line head c in after-words (with_awaiting env d.0.1) (d.0.0, d.1.0) (counted-words env.progress head c i)
    by (Some f) = tt

body-words : (t : Table) (env : Environment) (line : ℕ) (stub : Option Fault) (head : Heading) → InWords env.progress → Right (λ (x : Environment × (Option Labelled × Symbol)). InWords x.0.progress) (body_at t env line stub head)
body-words t env line stub head i = placed-words env line stub head (completing_found env.uncompleted head.name (specification_of head) true (is_some (head_duplicate t env head))) i

operation-words-at : (t : Table) (env : Environment) (line : ℕ) (head : Heading) → InWords env.progress → Right (λ (x : Environment × (Option Labelled × Symbol)). InWords x.0.progress) (operation_at t env line head)
operation-words-at t env line head i = placed-words env line None head (completing_found env.uncompleted head.name (specification_of head) (not (has_right_marks head)) (is_some (head_duplicate t env head))) i

module _ (h : CheckState) (head : Heading) where
  abbrev Placed : Judged (Environment × (Option Labelled × Symbol)) → Type 0
  Placed j = InWords h.env.progress → Right (λ (x : Environment × (Option Labelled × Symbol)). InWords x.0.progress) j

  stub-settled : (j : Judged (Environment × (Option Labelled × Symbol))) → Placed j → Stays h (stub_settled h head j).0
  stub-settled (Ok x) r = r
  stub-settled (Err f) r = λ i. nothing 0

  nested-settled : (j : Judged (Environment × (Option Labelled × Symbol))) → Placed j → Stays h (head_settled h head j).0
  nested-settled (Ok x) r = r
  nested-settled (Err f) r = λ i. nothing 0

  operation-settled : (j : Judged (Environment × (Option Labelled × Symbol))) → Placed j → Stays h (operation_settled h head j).0
  operation-settled (Ok x) r = r
  operation-settled (Err f) r = λ i. nothing 0

  whole-settled : (line : ℕ) (f : Option Fault) (c : Completing) → Stays h (whole_settled h head (unless f (Ok (right_body h.env.progress h.env.uncompleted line head c)))).0
  whole-settled line None c = λ i. counted-words h.env.progress head c i
  whole-settled line (Some f) c = λ i. nothing 0

stub-words : (t : Table) (h : CheckState) (s : SpecificationTree) → Stays h (stub_here t h s).0
stub-words t h s = let head = heading_here t h s in stub-settled h head (body_at t h.env (first_line s) (stub_wrong h head) head) (body-words t h.env (first_line s) (stub_wrong h head) head)

head-words : (t : Table) (h : CheckState) (s : SpecificationTree) → Stays h (head_here t h s).0
head-words t h s =
    open-words h (if is_whole h then whole_head t h s else inner_head t h s)
    (one_of (λ (x : CheckState × Judged (List Labelled)). Stays h x.0) (is_whole h) (whole_head t h s) (inner_head t h s) whole
    (one_of (λ (x : CheckState × Judged (List Labelled)). Stays h x.0) (is_operation h) (operation_head t h s) (nested_head t h s) operation nested))
  where
    whole : Stays h (whole_head t h s).0
    whole =
        let own = undotted (heading_here t h s) in
        let c = unit_completing h.env.uncompleted own.name (specification_of own) in
        whole-settled h own (first_line s) (earlier None (earlier (heading_fault own) (completing_fault c))) c

    operation : Stays h (operation_head t h s).0
    operation = let head = heading_here t h s in operation-settled h head (operation_at t h.env (first_line s) head) (operation-words-at t h.env (first_line s) head)

    nested : Stays h (nested_head t h s).0
    nested = let head = heading_here t h s in nested-settled h head (body_at t h.env (first_line s) None head) (body-words t h.env (first_line s) None head)

named-words : (h : CheckState) (role : BodyRole) (n : DefiningName) (line : ℕ) (lone : Fault) (f : Option Fault) (o : Option (ℕ × ViewKind)) → Stays h (named_settled h role n (unless f (body_by h.env line lone o))).0
named-words h role n line lone None None = λ i. nothing 0
named-words h role n line lone None (Some x) = λ i. i
named-words h role n line lone (Some f) None = λ i. nothing 0
named-words h role n line lone (Some f) (Some x) = λ i. nothing 0

-- ---- protected bodies: a region takes nothing

operations-same : (e : Environment) (os : List Operation) → (fold with_operation e os).progress ≡ e.progress
operations-same e [] = refl
operations-same e (o ∷ os) = operations-same (with_operation e o) os

components-same : (v : ProtectedView) (b : Bool) (at : Environment × ℕ) (cs : List Component) → (fold (with_component v b) at cs).0.progress ≡ at.0.progress
components-same v b at [] = refl
components-same v b at (c ∷ cs) = components-same v b (with_component v b at c) cs

region-same : (e : Environment) (v : ProtectedView) (b : Bool) → (region_entered e v b).progress ≡ e.progress
region-same e v b = components-same v b (fold with_operation (entered_alone e v.symbol) v.operations, 0) v.components ∙ operations-same (entered_alone e v.symbol) v.operations

object-settled : (h : CheckState) (os : OperationBodiesTree) (line : ℕ) (lone : Fault) (o : Option (ℕ × ViewKind)) → Stays h (object_settled h os (body_by h.env line lone o)).0
object-settled h os line lone None = λ i. nothing 0
object-settled h os line lone (Some x) = by (protected_of x.1)
  where
    by : (o : Option ProtectedView) → Stays h (opened_by (with_here h (with_awaiting h.env (remove h.env.uncompleted x.0))) x.1 os o)
    by None = λ i. i
    by (Some v) = λ i. subst InWords (sym (region-same (set_aside (with_awaiting h.env (remove h.env.uncompleted x.0))) v false)) i

object-left : (h : CheckState) → Stays h (object_left h)
object-left h = by h.object
  where
    by : (o : Option OpenObject) → Stays h (out_of_object h o)
    by None = λ i. i
    by (Some o) = λ i. i

-- ---- bodies

formals-words : (p : Progress) (fs : List NewFormal) → InWords p → InWords (with_formals p fs)
formals-words p [] i = i
formals-words p (f ∷ fs) i = formals-words (with_formal p f) fs i

formals-declared : (env : Environment) (fs : List NewFormal) → InWords env.progress → InWords (with_formals_declared env fs).progress
formals-declared env fs i = subst InWords (sym (same (record env { progress = with_formals env.progress fs }) (formal_declarations env.progress fs))) (formals-words env.progress fs i)
  where
    same : (e : Environment) (ds : List Declaration) → (with_declarations e ds).progress ≡ e.progress
    same e [] = refl
    same e (d ∷ ds) = same (with_declaration e d) ds

renewed-words : (h : CheckState) (b : Bool) (o : Option OpenObject) → Stays h (renewed_in h b o)
renewed-words h b None = λ i. i
renewed-words h b (Some o) = by (protected_of o.view)
  where
    by : (v : Option ProtectedView) → Stays h (with_here h (renewed_by h.env b v))
    by None = λ i. i
    by (Some v) = one_of (λ (e : Environment). InWords h.env.progress → InWords e.progress) (has_form b v.components h.env.scope.regions) h.env (entered_anew h.env v b) (λ i. i) (λ i. subst InWords (sym (region-same (record h.env { scope = region_left h.env.scope }) v b)) i)

whole-entered : (h : CheckState) (read : AnalyzedHeading) → Stays h (whole_entered h read)
whole-entered h read = λ i. formals-declared (set_aside (record h.env { progress = entered h.env.progress })) (right_formals read.heading) i

nested-entered : (h : CheckState) (read : AnalyzedHeading) → Stays h (nested_entered h read)
nested-entered h read = λ i. formals-declared (subprogram_entered h.env read.symbol) (right_formals read.heading) i

entered-words : (t : Table) (h : CheckState) → Stays h (body_here t h)
entered-words t h = by h.pending
  where
    whole : (read : AnalyzedHeading) → Stays h (whole_body t h read)
    whole read =
        let inner = with_regions h (private_regions t h.unit.own h.env.scope.regions) in
        one_of (Stays h) (is_nowhere h) h (whole_entered inner (visible_heading t inner.env.scope read)) (λ i. i) (whole-entered inner (visible_heading t inner.env.scope read))

    nested : (read : AnalyzedHeading) → Stays h (nested_body h read)
    nested read = λ i. nested-entered (renewed_for h read) read (one_of (Stays h) (is_of_object read.role) (renewed h read) h (renewed-words h (is_function read.heading.returned) h.object) (λ k. k) i)

    by : (o : Option AnalyzedHeading) → Stays h (read_entered t h o)
    by None = λ i. i
    by (Some read) = one_of (Stays h) (is_whole h) (whole_body t h read) (nested_body h read) (whole read) (nested read)

left-words : (h : CheckState) → Stays h (out_of_body h)
left-words h = by (innermost h.bodies)
  where
    by : (o : Option OpenBody) → Stays h (out_of_one h o)
    by None = λ i. i
    by (Some b) = λ i. i

-- ---- blocks and loops

block-left : (h : CheckState) → Stays h (out_of_block h)
block-left h = by (innermost h.blocks)
  where
    by : (o : Option Outside) → Stays h (out_of h o)
    by None = λ i. i
    by (Some o) = λ i. i

range-words : (h : CheckState) (j : Judged FoundRangeTree) → Stays h (with_range h j)
range-words h (Ok f) = λ i. i
range-words h (Err f) = λ i. i

parameter-words : (h : CheckState) (l : Label) (r : RangeTree) (ws : LoopWords) → Stays h (with_parameter h l r ws)
parameter-words h l r ws = one_of (Stays h) (is_nowhere h) h (with_found h l (parameter_bounds r) ws.parameter h.parameter) (λ i. i) (found h.parameter)
  where
    found : (o : Option LoopType) → Stays h (with_found h l (parameter_bounds r) ws.parameter o)
    found None = λ i. i
    found (Some f) = λ i. i

private-words-here : (t : Table) (h : CheckState) → Stays h (private_here t h)
private-words-here t h = one_of (λ (g : CheckState). Stays h (private_begun g)) (is_nowhere h) h (with_regions h (private_regions t h.unit.own h.env.scope.regions)) (λ i. i) (λ i. i)

-- ---- all fields

pub word-walks : (t : Table) → walks.Relates Stays Stays (λ h. ⊤) (ada t)
unfolding ada
word-walks t = record {
  stays = λ a i. i;
  further = λ a b c p q i. q (p i);
  rests = λ a i. i;
  onward = λ a b c p q i. q (p i);
  less = λ a b p. p;
  condition = λ h e i. i;
  moment = λ h e i. i;
  target = λ h e i. i;
  source = λ h n e i. i;
  effect = λ h e i. i;
  result = λ h e i. i;
  selector = λ h e i. i;
  with_word = λ h i. i;
  loop = λ h g l p i. block-left g (p i);
  loop_range = λ h d. let found = loop_range_at t (surroundings h) d (word_of h) in range-words (at_word h found.0) found.1;
  with_parameter = parameter-words;
  block = λ h g p i. block-left g (p i);
  declared = declared-words t;
  subprogram = subprogram-here t;
  stub = λ h s l. open-words h (stub_here t h s) (stub-words t h s);
  single_task = λ h k. open-words h (task_here t h k) (settled-words h _ (λ i. task-words t (parts_here t h) h.env i k));
  single_object = λ h l o. open-words h (object_here t h l.line o) (settled-words h _ (λ i. protected-words-in t (parts_here t h) h.env i l.line o));
  head = λ h s. (head-words t h s, λ o. tt);
  task_head = λ h l. (open-words h (task_head t h l) (named-words h roles.Task (defined l) (defined l).place.line (lone_body t h.env (defined l) heads.Task) None (first_named zero (defined l).name heads.Task h.env.uncompleted)), λ o. tt);
  entry_head = λ h l e. (open-words h (entry_head t h l e) (named-words h roles.Entry (defined l) (defined l).place.line (lone_body t h.env (defined l) heads.Entry) (barrier_fault_here h e) (first_named zero (defined l).name heads.Entry h.env.uncompleted)), λ o. tt);
  body = λ h g n p i. left-words g (p (entered-words t h i));
  object_entered = λ h l n os. open-words h (object_entered t h l.line n os) (object-settled h os l.line (lone_body t h.env (defined n) heads.Protected) (first_named zero (defined n).name heads.Protected h.env.uncompleted));
  object_left = object-left;
  private_entered = private-words-here t;
  statements_entered = λ h i. i;
}
