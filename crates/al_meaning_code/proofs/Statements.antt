-- The code of statements does what these mean.
use Rattle.std.proofs.Common.{◌≡◌, ◌≢◌, ℕ, zero, suc, ◌+◌, ◌-◌, ◌<◌, ◌≤◌, ℤ, List, [], ◌∷◌, ◌++◌, Bool, true, false, Option, Some, None, nat_lt, refl, sym, ◌∙◌, ap, subst, arith, inl, inr, append_assoc}
use Rattle.std.proofs.lemmas.Bool.Decides.{nat_tests}
use Rattle.std.specs.Prelude.{pos, if◌then◌else◌, neg_ℤ}
use Rattle.al_view.specs.declared.link.LinkSymbol.{LinkSymbol}
use Rattle.al_view.specs.declared.view.ObjectPlace.{ObjectPlace}
use Rattle.al_view_typed.specs.ExpressionTrees.{TypedTree, CallTree}
use Rattle.al_instr.specs.declared.instruction.Instr.{Instr}
use Rattle.al_instr.specs.declared.instruction.Instr.TheVariants as instr
use Rattle.al_code.specs.declared.piece.JumpCondition.TheVariants as when
use Rattle.al_code.specs.declared.piece.Target.{Target}
use Rattle.al_code.specs.Pieces.{Piece, Whole, size, Leaving, closed, Line, repeated}
use Rattle.al_code.specs.ExprPieces.{guarded, unless_zero, join}
use Rattle.al_code.specs.Templates.{value_of, call_code}
use Rattle.al_link_image.specs.declared.parts.Region.{Region}
use Rattle.al_machine.specs.declared.regions.Entered.{Entered}
use Rattle.al_machine.specs.declared.code.Step.{Step}
use Rattle.al_machine.specs.declared.instruction.Instruction.TheVariants as kind
use Rattle.al_machine.specs.declared.operation.Operation.TheVariants as operation
use Rattle.al_machine.specs.Operations.{operation_of}
use Rattle.al_machine.specs.Machine.{Machine, IsWithin}
use Rattle.al_machine.specs.Stack.{word_at}
use Rattle.al_machine.specs.Memory.{is_open}
use Rattle.al_machine.specs.Bursts.{At, carried}
use Rattle.al_code.specs.declared.piece.Construct.TheVariants as construct
use Rattle.al_code.specs.declared.piece.Target.TheVariants as target
use Rattle.al_view_typed.specs.StatementTrees.{SchemeTree, StatementTree, StatementsTree, StatementFormTree, BranchTree, BranchesTree}
use Rattle.al_view_typed.specs.StatementTrees.SchemeTree.{ForeverScheme, WhileScheme, ForScheme}
use Rattle.al_view_typed.specs.StatementTrees.StatementTree.{Numbered}
use Rattle.al_view_typed.specs.StatementTrees.StatementsTree.{NoStatement, MoreStatements}
use Rattle.al_view_typed.specs.StatementTrees.StatementFormTree.{NullStatement, AssignmentStatement, CallStatement, PutStatement, ReturnStatement, ExitStatement, DelayStatement, IfStatement, CaseStatement, LoopStatement, BlockStatement}
use Rattle.al_view_typed.specs.StatementTrees.BranchTree.{Branch}
use Rattle.al_view_typed.specs.StatementTrees.BranchesTree.{NoBranch, MoreBranches}
use Rattle.al_code.specs.declared.routine.Routine.{Routine}
use Rattle.al_code.specs.Marks.{has_code, mark_of}
use Rattle.al_code.specs.Loops.{exit_code, while_code, leave_code, round_code}
use Rattle.al_code.specs.Statements.{return_code, statement_code, statements_code, statement_form_code, branch_code, branches_code}
use Rattle.std.proofs.lemmas.Int.{ints}
use Rattle.al_base.specs.declared.unit_key.UnitKey.{UnitKey}
use Rattle.al_code.specs.LineLaws.{TreesTellCode}
use Rattle.al_meaning.specs.Scalars.{Valued}
use Rattle.al_meaning.specs.States.{further, State, Outcome, Gives, Raises, GoesOn, Act, next, ◌>>=◌, ◌>>◌, give, told_at, at_line, of_value, of_truth, truth_in, Words, same_place}
use Rattle.al_meaning.specs.Expressions.{Calls, called}
use Rattle.al_meaning.specs.Statements.{Flow, On, Exits, Returns, round_again, turns, condition, left, returned, round, done, all_done, form_done, branches_done, branch_done}
use Rattle.al_meaning_code.specs.Running.{Lines, at, Leads}
use Rattle.al_meaning_code.specs.Standing.{AreMarked}
use Rattle.al_meaning_code.specs.Showing.{Pushed}
use Rattle.al_meaning_code.specs.Subset.{needs_name, needs, needs_value, IsIn, IsInExit, IsInScheme, IsInStatement, AreIn, IsInStatementForm, BranchesIn, IsInBranch}
use Rattle.al_meaning_code.specs.Effects.{Runs, CallRuns}
use Rattle.al_meaning_code.proofs.Machines.{carried_on, jumps_at_zero, passes_at_one, jumps_once, jump_size, size_cons, size-append}
use Rattle.al_meaning_code.proofs.Standing.{starts, stands_front, stands_back, opened, size-closed, inner}
use Rattle.al_meaning_code.proofs.Values.{popped, same_shows, value_gives, test_ends, top_of, at_zero, at_one, first_stands, leaves_by, joins}
use Rattle.al_meaning_code.proofs.Plain as plain
use Rattle.al_meaning_code.proofs.Meant.{conditions_meant}
use Rattle.al_meaning_code.proofs.Unmarked.{value_unmarked}
use Rattle.al_meaning_code.proofs.Marked.{line_after, marked_front, marked_back, marked_opened, one_line}
use Rattle.al_meaning_code.proofs.Doing.{Showing, roomier, near_same, near_self, runs_after, lacks_all, runs_to, value_runs, truth_runs, StandsHere, Ran, DoesAt, Does, does_at, assign_does, seq_does, nothing_does, marked_does}
use Rattle.al_code.specs.Declarations.{declarations_code}
use Rattle.al_meaning.specs.Declarations.{declarations}
use Rattle.al_meaning_code.proofs.Declared.{block_does}

module _ (objects : List Region) (inside : List Entered) (code : List Step) (linked : LinkSymbol → Instr → Instr) (lines : Lines) (unit : UnitKey) (r : Routine) (calls : Calls) (floor small room : ℕ) (V : ObjectPlace → Type 0) (address : ObjectPlace → ℕ) (C : CallTree → Type 0)
    (below : (p : ObjectPlace) → V p → address p < floor) (opened_ : (p : ObjectPlace) → V p → is_open objects inside 0 (address p) 1 ≡ true) (linear : (p : ObjectPlace) (k : ℕ) → V p → V (further p k) → address (further p k) ≡ address p + k)
    (apart : (p q : ObjectPlace) → V p → V q → same_place p q ≡ false → address p ≢ address q) (alike : (p q : ObjectPlace) → V p → V q → same_place p q ≡ true → address p ≡ address q) (tell : TreesTellCode) (roomy : small ≤ room) where
  -- ---- branches

  -- the same of code whose end, and whose joins, are the end of the choice
  abbrev JoinsAs : ℕ → List Piece → Act Flow → Type 0
  JoinsAs fuel c f = (l : ℕ) (line : UnitKey × ℕ) (st : State) (ends : Target → ℕ) (pc : ℕ) (m : Machine) → Showing objects inside code linked lines unit r calls floor small room V address C below opened_ linear apart alike tell roomy st.words m → StandsHere objects inside code linked lines unit r calls floor small room V address C below opened_ linear apart alike tell roomy ends pc c → AreMarked lines unit l pc c → ends target.Join ≡ pc + size c → Ran objects inside code linked lines unit r calls floor small room V address C below opened_ linear apart alike tell roomy ends line pc m (pc + size c) fuel (f st)

  -- the line of a guard and of what it guards
  guard_marked : (l pc : ℕ) (c : List Piece) → AreMarked lines unit l pc (guarded c) → AreMarked lines unit l (pc + 5) c
  unfolding guarded
  guard_marked l pc c h = let five = jump_size when.IfZero (pos 0) in subst (λ (n : ℕ). AreMarked lines unit l (pc + n) c) five ((marked_opened lines unit construct.Test l pc (unless_zero ++ c) h).1)

  -- V JumpZero N, S, Jump E, N: and the rest
  branch_joins : (fuel line : ℕ) (t : TypedTree) (c rest : List Piece) (f g : Act Flow) → IsIn V t → needs t ≤ room → Does objects inside code linked lines unit r calls floor small room V address C below opened_ linear apart alike tell roomy fuel c f → JoinsAs fuel rest g → (l : ℕ) (other : UnitKey × ℕ) (st : State) (ends : Target → ℕ) (pc : ℕ) (m : Machine) → Showing objects inside code linked lines unit r calls floor small room V address C below opened_ linear apart alike tell roomy st.words m → StandsHere objects inside code linked lines unit r calls floor small room V address C below opened_ linear apart alike tell roomy ends pc ((value_of r.depth t ++ guarded (c ++ join)) ++ rest) → AreMarked lines unit line pc ((value_of r.depth t ++ guarded (c ++ join)) ++ rest)
      → ends target.Join ≡ pc + size ((value_of r.depth t ++ guarded (c ++ join)) ++ rest) → Ran objects inside code linked lines unit r calls floor small room V address C below opened_ linear apart alike tell roomy ends other pc m (pc + size ((value_of r.depth t ++ guarded (c ++ join)) ++ rest)) fuel (next (told_at unit line (next (of_value (plain.value st.words t) st) (λ v. of_truth v))) (λ b. if b then f else g))
  branch_joins fuel line t c rest f g h fits df jg l other st ends pc m s stands marks joined =
      let v = value_of r.depth t in
      let gd = guarded (c ++ join) in
      let exits : ℕ → ℕ = λ k. ends (target.Loop k) in
      let home = ends target.Routine in
      let front = stands_front code linked ends pc (v ++ gd) rest stands in
      let sv = stands_front code linked ends pc v gd front in
      let sg = stands_back code linked ends pc v gd front in
      let mfront = marked_front lines unit line pc (v ++ gd) rest marks in
      let mv = marked_front lines unit line pc v gd mfront in
      let mg = marked_back lines unit line pc v gd mfront in
      let mr = marked_back lines unit line pc (v ++ gd) rest marks in
      let pc1 = pc + size v in
      let to = pc + size ((v ++ gd) ++ rest) in
      let total : (pc1 + size gd) + size rest ≡ to = omega (arith, size-append (v ++ gd) rest, size-append v gd) in
      let same : pc + size (v ++ gd) ≡ pc1 + size gd = omega (arith, size-append v gd) in
      let sr = subst (λ (k : ℕ). StandsHere objects inside code linked lines unit r calls floor small room V address C below opened_ linear apart alike tell roomy ends k rest) same (stands_back code linked ends pc (v ++ gd) rest stands) in
      let mr_ = subst (λ (k : ℕ). AreMarked lines unit (line_after line (v ++ gd)) k rest) same mr in
      let te = test_ends objects inside code linked r.depth floor V address below opened_ linear ends pc1 (c ++ join) sg in
      let out : Valued → Outcome Flow = λ o. next (told_at unit line (next (of_value o st) (λ z. of_truth z))) (λ b. if b then f else g) in
      value_runs objects inside code linked lines unit r calls floor small room V address C below opened_ linear apart alike tell roomy exits home line other (at pc m) m pc pc1 to fuel (needs t) (plain.value st.words t) out
      (one_line lines unit line pc v (value_unmarked V r.depth t h) mv) fits
      (value_gives objects inside code linked r.depth floor V address below opened_ linear st.words t h ends pc m s sv)
      (λ e raised. raised)
      (λ z p x. truth_runs objects inside code linked lines unit r calls floor small room V address C below opened_ linear apart alike tell roomy exits home other (at pc1 p) m to fuel z (λ b. next (told_at unit line (truth_in b st)) (λ k. if k then f else g)) tt
      (λ e.
      let x1 = subst (Pushed m p) e x in
      let n = record p { top = p.top - 1 } in
      let sm = popped m p (pos 1) s.within x1 in
      let sn = same_shows objects inside code linked r.depth floor V address below opened_ linear st.words m n s sm in
      let cs = stands_front code linked te (pc1 + 5) c join (first_stands objects inside code linked r.depth floor V address below opened_ linear ends pc1 (c ++ join) sg) in
      let cm = marked_front lines unit (line_after line v) (pc1 + 5) c join (guard_marked (line_after line v) pc1 (c ++ join) mg) in
      let ran = df (line_after line v) other st te (pc1 + 5) n sn cs cm in
      let there : (q : Machine) → Leads objects inside code (at (pc1 + 5 + size c) q) (at to q) = λ q. subst (λ (k : ℕ). Leads objects inside code (at (pc1 + 5 + size c) q) (at k q)) joined (joins objects inside code linked r.depth floor V address below opened_ linear ends pc1 c sg q) in
      let ran2 = runs_to objects inside code linked lines unit r calls floor small room V address C below opened_ linear apart alike tell roomy exits home other (at (pc1 + 5) n) n (pc1 + 5 + size c) to fuel (f st) there ran in
      runs_after objects inside code linked lines unit r calls floor small room V address C below opened_ linear apart alike tell roomy exits home other (at pc1 p) (at (pc1 + 5) n) m n to fuel fuel (f st) (near_same objects inside code linked lines unit r calls floor small room V address C below opened_ linear apart alike tell roomy m n s.above sm) (at_one objects inside code linked r.depth floor V address below opened_ linear ends pc1 (c ++ join) sg m p s.within x1) (omega arith) ran2)
      (λ e.
      let x0 = subst (Pushed m p) e x in
      let n = record p { top = p.top - 1 } in
      let sm = popped m p (pos 0) s.within x0 in
      let sn = same_shows objects inside code linked r.depth floor V address below opened_ linear st.words m n s sm in
      let ran = jg (line_after line (v ++ gd)) other st ends (pc1 + size gd) n sn sr mr_ (joined ∙ sym total) in
      let ran2 = subst (λ (k : ℕ). Ran objects inside code linked lines unit r calls floor small room V address C below opened_ linear apart alike tell roomy ends other (pc1 + size gd) n k fuel (g st)) total ran in
      runs_after objects inside code linked lines unit r calls floor small room V address C below opened_ linear apart alike tell roomy exits home other (at pc1 p) (at (pc1 + size gd) n) m n to fuel fuel (g st) (near_same objects inside code linked lines unit r calls floor small room V address C below opened_ linear apart alike tell roomy m n s.above sm) (at_zero objects inside code linked r.depth floor V address below opened_ linear ends pc1 (c ++ join) sg m p s.within x0) (omega arith) ran2))

  choice_does : (fuel : ℕ) (c : List Piece) (f : Act Flow) → JoinsAs fuel c f → Does objects inside code linked lines unit r calls floor small room V address C below opened_ linear apart alike tell roomy fuel (closed construct.Choice c) f
  choice_does fuel c f j l line st ends pc m s stands marks =
      let same : pc + size c ≡ pc + size (closed construct.Choice c) = omega (arith, size-closed construct.Choice c) in
      subst (λ (k : ℕ). Ran objects inside code linked lines unit r calls floor small room V address C below opened_ linear apart alike tell roomy ends line pc m k fuel (f st)) same
      (j l line st (inner code linked construct.Choice (pc + size c) ends) pc m s (opened code linked construct.Choice ends pc c stands) (marked_opened lines unit construct.Choice l pc c marks) refl)

  -- ---- loops

  -- a jump back to the first of some pieces
  jumps_back : (ends : Target → ℕ) (pc : ℕ) (q : List Piece) (n : Machine) → StandsHere objects inside code linked lines unit r calls floor small room V address C below opened_ linear apart alike tell roomy ends pc (repeated q) → carried objects inside code 1 (at (pc + size q) n) ≡ Some (at pc n)
  unfolding operation_of repeated
  jumps_back ends pc q n s =
      let d = neg_ℤ (pos (size q + 5)) in
      let b = stands_back code linked ends pc q (Whole (instr.Jump d) ∷ []) s in
      let five = jump_size when.Always d in
      let here = b.0 ∙ ap (λ (k : ℕ). Some (operation.Word (kind.Jump d), (pc + size q) + k)) five in
      let first = starts code linked ends pc (q ++ Whole (instr.Jump d) ∷ []) s in
      jumps_once objects inside code (pc + size q) ((pc + size q) + 5) pc d n here first (omega (arith, ints))

  repeated_size : (q : List Piece) → size (repeated q) ≡ size q + 5
  unfolding repeated
  repeated_size q = omega (arith, size-append q (Whole (instr.Jump (neg_ℤ (pos (size q + 5)))) ∷ []), size_cons (Whole (instr.Jump (neg_ℤ (pos (size q + 5))))) [], jump_size when.Always (neg_ℤ (pos (size q + 5))))

  -- the turns of a loop, each at the first piece
  turns_run : (fuel : ℕ) (exits inner_exits : ℕ → ℕ) (home : ℕ) (line : UnitKey × ℕ) (pc end : ℕ) (q : List Piece) (f : Act Flow) → inner_exits 0 ≡ end → ((k : ℕ) → inner_exits (suc k) ≡ exits k) → ((n : Machine) → carried objects inside code 1 (at (pc + size q) n) ≡ Some (at pc n))
      → ((st : State) (m : Machine) → Showing objects inside code linked lines unit r calls floor small room V address C below opened_ linear apart alike tell roomy st.words m → Runs objects inside code lines linked r.depth floor room V address inner_exits home line (at pc m) m (pc + size q) fuel (f st)) → (k : ℕ) → k ≤ fuel → (st : State) (m : Machine) → Showing objects inside code linked lines unit r calls floor small room V address C below opened_ linear apart alike tell roomy st.words m → Runs objects inside code lines linked r.depth floor room V address exits home line (at pc m) m end k (turns k f st)
  turns_run fuel exits inner_exits home line pc end q f e0 es again run zero le st m s = inl (0, omega arith, at pc m, refl)
  turns_run fuel exits inner_exits home line pc end q f e0 es again run (suc k) le st m s = go (f st) (λ e n z. turns_run fuel exits inner_exits home line pc end q f e0 es again run k (omega arith) e n z) (run st m s)
    where
      go : (o : Outcome Flow) → ((e : State) (n : Machine) → Showing objects inside code linked lines unit r calls floor small room V address C below opened_ linear apart alike tell roomy e.words n → Runs objects inside code lines linked r.depth floor room V address exits home line (at pc n) n end k (turns k f e)) → Runs objects inside code lines linked r.depth floor room V address inner_exits home line (at pc m) m (pc + size q) fuel o → Runs objects inside code lines linked r.depth floor room V address exits home line (at pc m) m end (suc k) (next o (λ x. round_again x (turns k f)))
      go (Gives On e) more (inl x) =
          let n = x.0 in
          let l = x.1 in
          let turn : Leads objects inside code (at pc m) (at pc n) = (l.0 + 1, carried_on objects inside code l.0 1 (at pc m) (at (pc + size q) n) l.1 ∙ again n) in
          runs_after objects inside code linked lines unit r calls floor small room V address C below opened_ linear apart alike tell roomy exits home line (at pc m) (at pc n) m n end k (suc k) (turns k f e) x.2 turn (omega arith) (more e n x.3)
      go (Gives On e) more (inr l) = lacks_all objects inside code linked lines unit r calls floor small room V address C below opened_ linear apart alike tell roomy exits home line (at pc m) m end (suc k) (turns k f e) l
      go (Gives (Exits zero) e) more (inl x) = inl (x.0, subst (λ (i : ℕ). Leads objects inside code (at pc m) (at i x.0)) e0 x.1, x.2, x.3)
      go (Gives (Exits zero) e) more (inr l) = inr l
      go (Gives (Exits (suc i)) e) more (inl x) = inl (x.0, subst (λ (j : ℕ). Leads objects inside code (at pc m) (at j x.0)) (es i) x.1, x.2, x.3)
      go (Gives (Exits (suc i)) e) more (inr l) = inr l
      go (Gives (Returns []) e) more x = x
      go (Gives (Returns (v ∷ vs)) e) more x = x
      go (Raises e told z) more x = x
      go (GoesOn z) more (inl x) = let y = x.1 in inl (x.0, omega arith, x.2, x.3)
      go (GoesOn z) more (inr l) = inr l

  loop_does : (fuel line : ℕ) (q : List Piece) (f : Act Flow) → DoesAt objects inside code linked lines unit r calls floor small room V address C below opened_ linear apart alike tell roomy fuel line q f → DoesAt objects inside code linked lines unit r calls floor small room V address C below opened_ linear apart alike tell roomy fuel line (closed construct.Loop (repeated q)) (turns fuel f)
  unfolding repeated
  loop_does fuel line q f d st ends pc m s stands marks =
      let end = pc + size (repeated q) in
      let ie = inner code linked construct.Loop end ends in
      let body = opened code linked construct.Loop ends pc (repeated q) stands in
      let back_ = Whole (instr.Jump (neg_ℤ (pos (size q + 5)))) ∷ [] in
      let qs = stands_front code linked ie pc q back_ body in
      let qm = marked_front lines unit line pc q back_ (marked_opened lines unit construct.Loop line pc (repeated q) marks) in
      let same : end ≡ pc + size (closed construct.Loop (repeated q)) = omega (arith, size-closed construct.Loop (repeated q)) in
      subst (λ (k : ℕ). Ran objects inside code linked lines unit r calls floor small room V address C below opened_ linear apart alike tell roomy ends (unit, line) pc m k fuel (turns fuel f st)) same
      (turns_run fuel (λ (i : ℕ). ends (target.Loop i)) (λ (i : ℕ). ie (target.Loop i)) (ends target.Routine) (unit, line) pc end q f refl (λ k. refl) (λ n. jumps_back ie pc q n body) (λ e n z. d e ie pc n z qs qm) fuel (omega arith) st m s)

  -- a condition at the head of a turn
  while_does : (fuel line : ℕ) (t : TypedTree) (c : List Piece) (f : Act Flow) → IsIn V t → needs t ≤ room → Does objects inside code linked lines unit r calls floor small room V address C below opened_ linear apart alike tell roomy fuel c f → DoesAt objects inside code linked lines unit r calls floor small room V address C below opened_ linear apart alike tell roomy fuel line ((value_of r.depth t ++ while_code) ++ c) (condition calls unit r.depth fuel t >>= (λ b. if b then f else give (Exits 0)))
  unfolding operation_of
  while_does fuel line t c f h fits d st ends pc m s stands marks =
      let v = value_of r.depth t in
      let exits : ℕ → ℕ = λ k. ends (target.Loop k) in
      let home = ends target.Routine in
      let front = stands_front code linked ends pc (v ++ while_code) c stands in
      let sv = stands_front code linked ends pc v while_code front in
      let mfront = marked_front lines unit line pc (v ++ while_code) c marks in
      let mv = marked_front lines unit line pc v while_code mfront in
      let pc1 = pc + size v in
      let j = (stands_back code linked ends pc v while_code front).0 in
      let five = jump_size when.IfZero j.0 in
      let here = j.1 ∙ ap (λ (k : ℕ). Some (operation.Word (kind.JumpIfZero j.0), pc1 + k)) five in
      let to = pc + size ((v ++ while_code) ++ c) in
      let w5 = size_cons (Leaving when.IfZero (target.Loop 0)) [] in
      let z5 = jump_size when.IfZero (pos 0) in
      let total : (pc1 + 5) + size c ≡ to = omega (arith, size-append (v ++ while_code) c, size-append v while_code, w5, z5) in
      let same : pc + size (v ++ while_code) ≡ pc1 + 5 = omega (arith, size-append v while_code, w5, z5) in
      let sc = subst (λ (k : ℕ). StandsHere objects inside code linked lines unit r calls floor small room V address C below opened_ linear apart alike tell roomy ends k c) same (stands_back code linked ends pc (v ++ while_code) c stands) in
      let lc = line_after line (v ++ while_code) in
      let mc = subst (λ (k : ℕ). AreMarked lines unit lc k c) same (marked_back lines unit line pc (v ++ while_code) c marks) in
      let k : Bool → Act Flow = λ b. if b then f else give (Exits 0) in
      subst (λ (o : Outcome Bool). Ran objects inside code linked lines unit r calls floor small room V address C below opened_ linear apart alike tell roomy ends (unit, line) pc m to fuel (next o k)) (sym (conditions_meant calls V unit r.depth fuel st t h))
      (value_runs objects inside code linked lines unit r calls floor small room V address C below opened_ linear apart alike tell roomy exits home line (unit, line) (at pc m) m pc pc1 to fuel (needs t) (plain.value st.words t) (λ o. next (next (of_value o st) (λ z. of_truth z)) k)
      (one_line lines unit line pc v (value_unmarked V r.depth t h) mv) fits
      (value_gives objects inside code linked r.depth floor V address below opened_ linear st.words t h ends pc m s sv)
      (λ e raised. raised)
      (λ z p x. truth_runs objects inside code linked lines unit r calls floor small room V address C below opened_ linear apart alike tell roomy exits home (unit, line) (at pc1 p) m to fuel z (λ b. next (truth_in b st) k) tt
      (λ e.
      let x1 = subst (Pushed m p) e x in
      let n = record p { top = p.top - 1 } in
      let sm = popped m p (pos 1) s.within x1 in
      let sn = same_shows objects inside code linked r.depth floor V address below opened_ linear st.words m n s sm in
      let tp = top_is m p (pos 1) s.within x1 in
      let ran = subst (λ (i : ℕ). Ran objects inside code linked lines unit r calls floor small room V address C below opened_ linear apart alike tell roomy ends (unit, line) (pc1 + 5) n i fuel (f st)) total (d lc (unit, line) st ends (pc1 + 5) n sn sc mc) in
      runs_after objects inside code linked lines unit r calls floor small room V address C below opened_ linear apart alike tell roomy exits home (unit, line) (at pc1 p) (at (pc1 + 5) n) m n to fuel fuel (f st) (near_same objects inside code linked lines unit r calls floor small room V address C below opened_ linear apart alike tell roomy m n s.above sm) (passes_at_one objects inside code pc1 (pc1 + 5) j.0 p here tp.0 tp.1) (omega arith) ran)
      (λ e.
      let x0 = subst (Pushed m p) e x in
      let n = record p { top = p.top - 1 } in
      let sm = popped m p (pos 0) s.within x0 in
      let sn = same_shows objects inside code linked r.depth floor V address below opened_ linear st.words m n s sm in
      let tp = top_is m p (pos 0) s.within x0 in
      inl (n, jumps_at_zero objects inside code pc1 (pc1 + 5) (ends (target.Loop 0)) j.0 p here j.3 j.2 tp.0 tp.1, near_same objects inside code linked lines unit r calls floor small room V address C below opened_ linear apart alike tell roomy m n s.above sm, sn))))
    where
      top_is : (m p : Machine) (v : ℤ) → IsWithin m → Pushed m p v → (p.frame < p.top) × (word_at p (p.top - 1) ≡ v)
      top_is m p v w x = top_of objects inside code linked r.depth floor V address below opened_ linear m p v w x

  round_does : (fuel line : ℕ) (scheme : SchemeTree) (c : List Piece) (f : Act Flow) → IsInScheme V C small scheme → Does objects inside code linked lines unit r calls floor small room V address C below opened_ linear apart alike tell roomy fuel c f → DoesAt objects inside code linked lines unit r calls floor small room V address C below opened_ linear apart alike tell roomy fuel line (closed construct.Loop (round_code r.depth scheme c)) (round calls unit r.depth fuel scheme f)
  round_does fuel line ForeverScheme c f h d = loop_does fuel line c f (does_at objects inside code linked lines unit r calls floor small room V address C below opened_ linear apart alike tell roomy fuel line c f d)
  round_does fuel line (WhileScheme t) c f h d = loop_does fuel line ((value_of r.depth t ++ while_code) ++ c) (condition calls unit r.depth fuel t >>= (λ b. if b then f else give (Exits 0))) (while_does fuel line t c f h.0 (roomier objects inside code linked lines unit r calls floor small room V address C below opened_ linear apart alike tell roomy (needs t) h.1) d)
  round_does fuel line (ForScheme is_reverse low high mark parameter last) c f h d = absurd h

  -- ---- exits and returns

  exit_does : (fuel line loops : ℕ) → DoesAt objects inside code linked lines unit r calls floor small room V address C below opened_ linear apart alike tell roomy fuel line (exit_code loops) (give (Exits loops))
  exit_does fuel line loops st ends pc m s stands marks = inl (m, leaves_by objects inside code linked r.depth floor V address below opened_ linear ends pc (target.Loop loops) m stands, near_self objects inside code linked lines unit r calls floor small room V address C below opened_ linear apart alike tell roomy m, s)

  leave_does : (fuel line loops : ℕ) (t : Option TypedTree) → IsInExit V C small t → DoesAt objects inside code linked lines unit r calls floor small room V address C below opened_ linear apart alike tell roomy fuel line (leave_code r.depth loops t) (left calls unit r.depth fuel loops t)
  leave_does fuel line loops None h = exit_does fuel line loops
  leave_does fuel line loops (Some t) h = λ st ends pc m s stands marks.
      let v = value_of r.depth t in
      let gd = guarded (exit_code loops) in
      let exits : ℕ → ℕ = λ k. ends (target.Loop k) in
      let home = ends target.Routine in
      let sv = stands_front code linked ends pc v gd stands in
      let sg = stands_back code linked ends pc v gd stands in
      let mv = marked_front lines unit line pc v gd marks in
      let pc1 = pc + size v in
      let to = pc + size (v ++ gd) in
      let total : pc1 + size gd ≡ to = omega (arith, size-append v gd) in
      let te = test_ends objects inside code linked r.depth floor V address below opened_ linear ends pc1 (exit_code loops) sg in
      let k : Bool → Act Flow = λ b. give (if b then Exits loops else On) in
      subst (λ (o : Outcome Bool). Ran objects inside code linked lines unit r calls floor small room V address C below opened_ linear apart alike tell roomy ends (unit, line) pc m to fuel (next o k)) (sym (conditions_meant calls V unit r.depth fuel st t h.0))
      (value_runs objects inside code linked lines unit r calls floor small room V address C below opened_ linear apart alike tell roomy exits home line (unit, line) (at pc m) m pc pc1 to fuel (needs t) (plain.value st.words t) (λ o. next (next (of_value o st) (λ z. of_truth z)) k)
      (one_line lines unit line pc v (value_unmarked V r.depth t h.0) mv) (roomier objects inside code linked lines unit r calls floor small room V address C below opened_ linear apart alike tell roomy (needs t) h.1)
      (value_gives objects inside code linked r.depth floor V address below opened_ linear st.words t h.0 ends pc m s sv)
      (λ e raised. raised)
      (λ z p x. truth_runs objects inside code linked lines unit r calls floor small room V address C below opened_ linear apart alike tell roomy exits home (unit, line) (at pc1 p) m to fuel z (λ b. next (truth_in b st) k) tt
      (λ e.
      let x1 = subst (Pushed m p) e x in
      let n = record p { top = p.top - 1 } in
      let sm = popped m p (pos 1) s.within x1 in
      let sn = same_shows objects inside code linked r.depth floor V address below opened_ linear st.words m n s sm in
      let es = first_stands objects inside code linked r.depth floor V address below opened_ linear ends pc1 (exit_code loops) sg in
      let o : Outcome Flow = Gives (Exits loops) st in
      runs_after objects inside code linked lines unit r calls floor small room V address C below opened_ linear apart alike tell roomy exits home (unit, line) (at pc1 p) (at (pc1 + 5) n) m n to fuel fuel o (near_same objects inside code linked lines unit r calls floor small room V address C below opened_ linear apart alike tell roomy m n s.above sm) (at_one objects inside code linked r.depth floor V address below opened_ linear ends pc1 (exit_code loops) sg m p s.within x1) (omega arith)
      (inl (n, leaves_by objects inside code linked r.depth floor V address below opened_ linear te (pc1 + 5) (target.Loop loops) n es, near_self objects inside code linked lines unit r calls floor small room V address C below opened_ linear apart alike tell roomy n, sn)))
      (λ e.
      let x0 = subst (Pushed m p) e x in
      let n = record p { top = p.top - 1 } in
      let sm = popped m p (pos 0) s.within x0 in
      let sn = same_shows objects inside code linked r.depth floor V address below opened_ linear st.words m n s sm in
      let l = at_zero objects inside code linked r.depth floor V address below opened_ linear ends pc1 (exit_code loops) sg m p s.within x0 in
      inl (n, subst (λ (i : ℕ). Leads objects inside code (at pc1 p) (at i n)) total l, near_same objects inside code linked lines unit r calls floor small room V address C below opened_ linear apart alike tell roomy m n s.above sm, sn))))

  return_does : (fuel line words : ℕ) → DoesAt objects inside code linked lines unit r calls floor small room V address C below opened_ linear apart alike tell roomy fuel line (return_code r None words) (returned calls unit r.depth fuel None)
  return_does fuel line words st ends pc m s stands marks = inl (m, leaves_by objects inside code linked r.depth floor V address below opened_ linear ends pc target.Routine m stands, near_self objects inside code linked lines unit r calls floor small room V address C below opened_ linear apart alike tell roomy m, s)

  -- ---- whole statements

  otherwise_joins : (fuel : ℕ) (c : List Piece) (f : Act Flow) → Does objects inside code linked lines unit r calls floor small room V address C below opened_ linear apart alike tell roomy fuel c f → JoinsAs fuel c f
  otherwise_joins fuel c f d l line st ends pc m s stands marks joined = d l line st ends pc m s stands marks

  codeless : (line : ℕ) (form : StatementFormTree) → has_code form ≡ false → size (statement_form_code r line form) ≡ 0
  codeless line form e =
      let t = tell.statements r line form in
      let none : nat_lt 0 (size (statement_form_code r line form)) ≡ false = sym t ∙ e in
      grind (arith, nat_tests)

  mark_joins : (fuel line : ℕ) (t : TypedTree) (c rest : List Piece) (f g : Act Flow) → IsIn V t → needs t ≤ room → Does objects inside code linked lines unit r calls floor small room V address C below opened_ linear apart alike tell roomy fuel c f → JoinsAs fuel rest g → JoinsAs fuel (((mark_of true line ++ value_of r.depth t) ++ guarded (c ++ join)) ++ rest) (at_line unit line (condition calls unit r.depth fuel t) >>= (λ b. if b then f else g))
  unfolding mark_of
  mark_joins fuel line t c rest f g h fits df jg l other st ends pc m s stands marks joined =
      let whole = (value_of r.depth t ++ guarded (c ++ join)) ++ rest in
      let same : pc + size whole ≡ pc + size (Line line ∷ whole) = omega (arith, size_cons (Line line) whole) in
      subst (λ (o : Outcome Bool). Ran objects inside code linked lines unit r calls floor small room V address C below opened_ linear apart alike tell roomy ends other pc m (pc + size (Line line ∷ whole)) fuel (next (told_at unit line o) (λ b. if b then f else g))) (sym (conditions_meant calls V unit r.depth fuel st t h))
      (subst (λ (k : ℕ). Ran objects inside code linked lines unit r calls floor small room V address C below opened_ linear apart alike tell roomy ends other pc m k fuel (next (told_at unit line (next (of_value (plain.value st.words t) st) (λ v. of_truth v))) (λ b. if b then f else g))) same
      (branch_joins fuel line t c rest f g h fits df jg l other st ends pc m s stands marks (joined ∙ sym same)))

  -- a call that is a statement
  called_runs : (exits : ℕ → ℕ) (home : ℕ) (line : UnitKey × ℕ) (a : At) (m : Machine) (to fuel : ℕ) (o : Outcome Words) → CallRuns objects inside code lines linked r.depth floor room V address line a m to fuel o → Runs objects inside code lines linked r.depth floor room V address exits home line a m to fuel (next o (λ x. give On))
  called_runs exits home line a m to fuel (Gives [] st) x = x
  called_runs exits home line a m to fuel (Gives (v ∷ vs) st) x = absurd x
  called_runs exits home line a m to fuel (Raises e told st) x = x
  called_runs exits home line a m to fuel (GoesOn st) x = x

  module _ (fuel : ℕ) (calls_do : (line : UnitKey × ℕ) (call : CallTree) → C call → (st : State) (ends : Target → ℕ) (pc : ℕ) (m : Machine) → Showing objects inside code linked lines unit r calls floor small room V address C below opened_ linear apart alike tell roomy st.words m → StandsHere objects inside code linked lines unit r calls floor small room V address C below opened_ linear apart alike tell roomy ends pc (call_code r.depth call) → CallRuns objects inside code lines linked r.depth floor room V address line (at pc m) m (pc + size (call_code r.depth call)) fuel (called calls call st)) where
    mutual
      pub statement_does : (s : StatementTree) → IsInStatement V C small s → Does objects inside code linked lines unit r calls floor small room V address C below opened_ linear apart alike tell roomy fuel (statement_code r s) (done calls unit r.depth fuel s)
      statement_does (Numbered line form) h = marked_does objects inside code linked lines unit r calls floor small room V address C below opened_ linear apart alike tell roomy fuel (has_code form) line (statement_form_code r line form) (form_done calls unit r.depth fuel form) (codeless line form) (form_does line form h)

      pub statements_do : (ss : StatementsTree) → AreIn V C small ss → Does objects inside code linked lines unit r calls floor small room V address C below opened_ linear apart alike tell roomy fuel (statements_code r ss) (all_done calls unit r.depth fuel ss)
      statements_do NoStatement h = nothing_does objects inside code linked lines unit r calls floor small room V address C below opened_ linear apart alike tell roomy fuel
      statements_do (MoreStatements s ss) h = seq_does objects inside code linked lines unit r calls floor small room V address C below opened_ linear apart alike tell roomy fuel (statement_code r s) (statements_code r ss) (done calls unit r.depth fuel s) (all_done calls unit r.depth fuel ss) (statement_does s h.0) (statements_do ss h.1)

      form_does : (line : ℕ) (form : StatementFormTree) → IsInStatementForm V C small form → DoesAt objects inside code linked lines unit r calls floor small room V address C below opened_ linear apart alike tell roomy fuel line (statement_form_code r line form) (form_done calls unit r.depth fuel form)
      form_does line NullStatement h = does_at objects inside code linked lines unit r calls floor small room V address C below opened_ linear apart alike tell roomy fuel line [] (give On) (nothing_does objects inside code linked lines unit r calls floor small room V address C below opened_ linear apart alike tell roomy fuel)
      form_does line (AssignmentStatement target_ words x) h = assign_does objects inside code linked lines unit r calls floor small room V address C below opened_ linear apart alike tell roomy fuel line target_ words x h.0 h.1 h.2 (roomier objects inside code linked lines unit r calls floor small room V address C below opened_ linear apart alike tell roomy (needs_value x) h.3) (roomier objects inside code linked lines unit r calls floor small room V address C below opened_ linear apart alike tell roomy (1 + needs_name target_) h.4)
      form_does line (IfStatement branches otherwise) h =
          does_at objects inside code linked lines unit r calls floor small room V address C below opened_ linear apart alike tell roomy fuel line (closed construct.Choice (branches_code r branches ++ statements_code r otherwise)) (branches_done calls unit r.depth fuel branches (all_done calls unit r.depth fuel otherwise))
          (choice_does fuel (branches_code r branches ++ statements_code r otherwise) (branches_done calls unit r.depth fuel branches (all_done calls unit r.depth fuel otherwise))
          (branches_join branches (statements_code r otherwise) (all_done calls unit r.depth fuel otherwise) h.0 (otherwise_joins fuel (statements_code r otherwise) (all_done calls unit r.depth fuel otherwise) (statements_do otherwise h.1))))
      form_does line (LoopStatement scheme statements) h = round_does fuel line scheme (statements_code r statements) (all_done calls unit r.depth fuel statements) h.0 (statements_do statements h.1)
      form_does line (ExitStatement loops t) h = leave_does fuel line loops t h
      form_does line (ReturnStatement None words) h = return_does fuel line words
      form_does line (ReturnStatement (Some x) words) h = absurd h
      form_does line (CallStatement call) h = λ st ends pc m s stands marks. called_runs (λ (k : ℕ). ends (target.Loop k)) (ends target.Routine) (unit, line) (at pc m) m (pc + size (call_code r.depth call)) fuel (called calls call st) (calls_do (unit, line) call h st ends pc m s stands)
      form_does line (PutStatement pieces ends_line) h = absurd h
      form_does line (DelayStatement moment) h = absurd h
      form_does line (CaseStatement selector word alternatives otherwise) h = absurd h
      form_does line (BlockStatement declarations_ statements) h =
          does_at objects inside code linked lines unit r calls floor small room V address C below opened_ linear apart alike tell roomy fuel line (declarations_code r.depth declarations_ ++ statements_code r statements) (declarations calls unit declarations_ >> all_done calls unit r.depth fuel statements) (block_does objects inside code linked lines unit r calls floor small room V address C below opened_ linear apart alike tell roomy fuel declarations_ (statements_code r statements) (all_done calls unit r.depth fuel statements) h.0 (statements_do statements h.1))

      branches_join : (bs : BranchesTree) (rest : List Piece) (g : Act Flow) → BranchesIn V C small bs → JoinsAs fuel rest g → JoinsAs fuel (branches_code r bs ++ rest) (branches_done calls unit r.depth fuel bs g)
      branches_join NoBranch rest g h j = j
      branches_join (MoreBranches b bs) rest g h j =
          subst (λ (c : List Piece). JoinsAs fuel c (branch_done calls unit r.depth fuel b (branches_done calls unit r.depth fuel bs g))) (sym (append_assoc (branch_code r b) (branches_code r bs) rest))
          (branch_join b (branches_code r bs ++ rest) (branches_done calls unit r.depth fuel bs g) h.0 (branches_join bs rest g h.1 j))

      branch_join : (b : BranchTree) (rest : List Piece) (g : Act Flow) → IsInBranch V C small b → JoinsAs fuel rest g → JoinsAs fuel (branch_code r b ++ rest) (branch_done calls unit r.depth fuel b g)
      branch_join (Branch line t statements) rest g h j = mark_joins fuel line t (statements_code r statements) rest (all_done calls unit r.depth fuel statements) g h.0 (roomier objects inside code linked lines unit r calls floor small room V address C below opened_ linear apart alike tell roomy (needs t) h.1) (statements_do statements h.2) j
