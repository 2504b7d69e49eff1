-- Calls of procedures that call each other, so many deep.
use Rattle.std.proofs.Common.{◌≡◌, ◌≢◌, ℕ, zero, suc, ◌+◌, ◌<◌, ◌≤◌, List, [], ◌∷◌, ◌++◌, Bool, true, false, Option, Some, refl, sym, ◌∙◌, ap, subst, arith, inl, inr, ⊎_elim}
use Rattle.std.proofs.lemmas.Bool.{cases_lt}
use Rattle.al_base.specs.declared.unit_key.UnitKey.{UnitKey}
use Rattle.al_view.specs.ViewUses.{link}
use Rattle.al_view.specs.declared.link.LinkKind.TheVariants as links
use Rattle.al_view.specs.declared.symbol.Symbol.{Symbol}
use Rattle.al_view.specs.declared.view.ObjectPlace.{ObjectPlace}
use Rattle.al_view_typed.specs.ExpressionTrees.{CallTree}
use Rattle.al_view_typed.specs.StatementViews.{statements_of}
use Rattle.al_view_typed.specs.UnitTrees.{BodyTree, UnitTree}
use Rattle.al_instr.specs.declared.instruction.Instr.{Instr}
use Rattle.al_instr.specs.declared.instruction.Instr.TheVariants as instr
use Rattle.al_instr.specs.declared.numbers.Plain.TheVariants as plains
use Rattle.al_instr.specs.declared.numbers.Sized.TheVariants as sized
use Rattle.al_instr.specs.Codes.{size_of}
use Rattle.al_code.specs.declared.piece.Construct.TheVariants as construct
use Rattle.al_code.specs.declared.piece.Target.{Target}
use Rattle.al_code.specs.declared.piece.Target.TheVariants as target
use Rattle.al_code.specs.LineLaws.{TreesTellCode}
use Rattle.al_code.specs.Marks.{mark_of}
use Rattle.al_code.specs.Pieces.{Piece, Whole, Using, Begins, closed, size, piece_size}
use Rattle.al_code.specs.Routines.{within as within_depth, inside_code, ending_code, copied_code, procedure_code}
use Rattle.al_code.specs.Statements.{statements_code}
use Rattle.al_code.specs.Templates.{flag_code, call_code}
use Rattle.al_machine.specs.declared.instruction.Exception.TheVariants as exception
use Rattle.al_machine.specs.declared.instruction.Instruction.TheVariants as kind
use Rattle.al_machine.specs.declared.operation.Operation.TheVariants as operation
use Rattle.al_machine.specs.Operations.{operation_of, plain_operation, sized_operation}
use Rattle.al_machine.specs.Code.{fetch}
use Rattle.al_machine.specs.Machine.{Machine}
use Rattle.al_machine.specs.Memory.{is_open}
use Rattle.al_machine.specs.Table.{on, exec}
use Rattle.al_meaning.specs.States.{further, State, next, give, same_place, Act, Words, Gives, Raises, GoesOn, Outcome}
use Rattle.al_meaning.specs.Expressions.{called}
use Rattle.al_meaning.specs.Statements.{all_done}
use Rattle.al_meaning.specs.Partitions.{fresh, found_body, calls_of, start, item_elaborated, items_elaborated}
use Rattle.al_meaning_code.specs.Running.{at}
use Rattle.al_meaning_code.specs.Standing.{Stands, AreMarked}
use Rattle.al_meaning_code.specs.Showing.{Shows}
use Rattle.al_meaning_code.specs.Effects.{CallRuns}
use Rattle.al_meaning_code.proofs.Standing.{stands_front, stands_back, opened, size-closed, inner}
use Rattle.al_meaning_code.proofs.Marked.{marked_front, marked_opened}
use Rattle.al_meaning_code.proofs.Statements.{statements_do}
use Rattle.al_meaning_code.specs.Laws.{Joined, Setting, Globals, Among, procedure, call_of, IsCallOf, SeenInside, IsFamily, stack_for, CallsAreDone, StatementsAreDone, AreWithoutElaboration, PartitionsAreDone}
use Rattle.al_meaning_code.proofs.Machines.{goes_once, fails, size_cons}
use Rattle.al_meaning_code.proofs.Expressions.{plain_some}
use Rattle.al_meaning_code.proofs.CallSteps.{rooted_machine, roots, roots_not}
use Rattle.std.proofs.Common.{append-nil}
use Rattle.al_view_typed.specs.DeclarationTrees.{DeclarationTree}
use Rattle.al_view_typed.specs.StatementTrees.{StatementTree}
use Rattle.al_view_typed.specs.UnitTrees.{ElaborationTree}
use Rattle.al_code.specs.Declarations.{declarations_code}
use Rattle.al_meaning.specs.Declarations.{declarations}
use Rattle.al_meaning.specs.Statements.{elaborated, On, Flow}
use Rattle.al_meaning_code.specs.Effects.{Runs}
use Rattle.al_meaning_code.proofs.Declared.{declarations_do, goes_on_with}
use Rattle.al_meaning_code.proofs.Doing.{then_runs, runs_anywhere}
use Rattle.al_meaning_code.proofs.Machines.{size-append}
use Rattle.al_meaning_code.proofs.Marked.{line_after, marked_back}
use Rattle.al_meaning_code.proofs.Calls.{callee_address, finish, below_, open_, linear_, apart_, alike_, call_runs}

abbrev elaboration : ℕ → ℕ → List DeclarationTree → List StatementTree → ElaborationTree
elaboration line frame declarations_ statements = record { line = line; frame = frame; declarations = declarations_; statements = statements }

module _ (c : Setting) (us : List UnitTree) (words small : ℕ) (members : Symbol → Bool) (tell : TreesTellCode) (family : IsFamily c us words small members) where
  pub enough : (n : ℕ) → small ≤ stack_for words small n
  enough zero = omega arith
  enough (suc n) = let e = enough n in omega arith

  -- calls so many deep, from any body
  pub done_at : (n : ℕ) (symbol : Symbol) → members symbol ≡ true → (depth floor : ℕ) (F : ℕ → ℕ → Type 0) (address : ObjectPlace → ℕ)
      → (below : (p : ObjectPlace) → Joined F (Globals c) p → address p < floor) (opens : (p : ObjectPlace) → Joined F (Globals c) p → is_open c.objects c.inside 0 (address p) 1 ≡ true)
      → (linear : (p : ObjectPlace) (k : ℕ) → Joined F (Globals c) p → Joined F (Globals c) (further p k) → address (further p k) ≡ address p + k)
      → (apart : (p q : ObjectPlace) → Joined F (Globals c) p → Joined F (Globals c) q → same_place p q ≡ false → address p ≢ address q) (alike : (p q : ObjectPlace) → Joined F (Globals c) p → Joined F (Globals c) q → same_place p q ≡ true → address p ≡ address q)
      → (nested : (d w : ℕ) → F d w → 1 ≤ d) (free : (k : ℕ) → floor ≤ k → is_open c.objects c.inside 0 k 1 ≡ true)
      → (line : UnitKey × ℕ) (st : State) (ends : Target → ℕ) (pc : ℕ) (m : Machine) → Shows c.linked depth floor (Joined F (Globals c)) address st.words m → Stands c.code c.linked ends pc (call_code depth (call_of symbol))
      → CallRuns c.objects c.inside c.code c.lines c.linked depth floor (stack_for words small n) (Joined F (Globals c)) address line (at pc m) m (pc + size (call_code depth (call_of symbol))) (suc n) (called (calls_of us n) (call_of symbol) st)
  unfolding exec operation_of plain_operation sized_operation flag_code procedure_code inside_code ending_code copied_code mark_of
  done_at zero symbol member depth floor F address below opens linear apart alike nested free line st ends pc m s stands =
      let w = s.within in
      let root = instr.Plain plains.Root in
      let some = plain_some plains.Root in
      ⊎_elim
      (λ (lack : m.first + 16384 < m.top + 3). inr (omega arith, pc, pc + size_of root, fails c.objects c.inside c.code pc (pc + size_of root) (pc + size_of root) kind.Root m exception.Storage stands.0 (omega arith) (ap on (roots_not m w lack))))
      (λ (room3 : m.top + 3 ≤ m.first + 16384).
      let step = goes_once c.objects c.inside c.code pc (pc + size_of root) kind.Root m (rooted_machine m w) stands.0 (ap on (roots m w room3)) in
      inl (1, omega arith, at (pc + size_of root) (rooted_machine m w), step))
      (cases_lt (m.first + 16384) (m.top + 3))
  done_at (suc n) symbol member depth floor F address below opens linear apart alike nested free line st ends pc m s stands =
      let f = family symbol member in
      let frame = f.frame in
      let root = instr.Plain plains.Root in
      let pc1 = pc + size_of root in
      let sc = link links.Code symbol in
      let here1 = subst (λ (i : Instr). fetch c.code pc1 ≡ Some (operation_of i, pc1 + size_of i)) f.leads stands.1.0 in
      let same : size_of (instr.Call f.place 0) ≡ size_of (instr.Call 0 0) = ap size_of (sym f.leads) ∙ stands.1.1 in
      let back = pc1 + size_of (instr.Call 0 0) in
      let call_here = here1 ∙ ap (λ (k : ℕ). Some (operation.Word (kind.Call f.place 0), pc1 + k)) same in
      let total : back ≡ pc + size (Whole root ∷ Using (instr.Call 0 0) sc ∷ []) = omega (arith, size_cons (Whole root) (Using (instr.Call 0 0) sc ∷ []), size_cons (Using (instr.Call 0 0) sc) []) in
      let start = f.place + size_of (instr.Sized sized.Enter frame) in
      let dc = declarations_code 1 f.declarations in
      let body_code = statements_code (within_depth 1) (statements_of f.statements) in
      let ret = Whole (instr.Sized sized.Return 0) ∷ [] in
      let ending = closed construct.Routine body_code in
      let after_dc = start + size dc in
      let end = after_dc + size body_code in
      let all_stand = subst (λ (q : List Piece). Stands c.code c.linked f.ends start ((q ++ ending) ++ ret)) (append-nil dc) f.stands.1 in
      let front = stands_front c.code c.linked f.ends start (dc ++ ending) ret all_stand in
      let ds = stands_front c.code c.linked f.ends start dc ending front in
      let inner_ends = inner c.code c.linked construct.Routine end f.ends in
      let body = opened c.code c.linked construct.Routine f.ends after_dc body_code (stands_back c.code c.linked f.ends start dc ending front) in
      let there_is : start + size (dc ++ ending) ≡ end = omega (arith, size-append dc ending, size-closed construct.Routine body_code) in
      let ret_here = subst (λ (k : ℕ). fetch c.code k ≡ Some (operation.Word (kind.Return 0), k + size_of (instr.Sized sized.Return 0))) there_is (stands_back c.code c.linked f.ends start (dc ++ ending) ret all_stand).0 in
      let begin_ : (f.place + piece_size (Begins sc)) + piece_size (Whole (instr.Sized sized.Enter frame)) ≡ start = omega arith in
      let marks0 = subst (λ (q : List Piece). AreMarked c.lines f.unit f.line ((f.place + piece_size (Begins sc)) + piece_size (Whole (instr.Sized sized.Enter frame))) ((q ++ ending) ++ ret)) (append-nil dc) f.marked.1.1 in
      let marks_ = marked_front c.lines f.unit f.line start (dc ++ ending) ret (subst (λ (k : ℕ). AreMarked c.lines f.unit f.line k ((dc ++ ending) ++ ret)) begin_ marks0) in
      let d_marks = marked_front c.lines f.unit f.line start dc ending marks_ in
      let body_marks = marked_opened c.lines f.unit construct.Routine (line_after f.line dc) after_dc body_code (marked_back c.lines f.unit f.line start dc ending marks_) in
      let b = procedure symbol f.line frame f.declarations f.statements in
      let room = stack_for words small n in
      let most = stack_for words small (suc n) in
      let fit : 3 + frame + room ≤ most = (let l = f.small in omega arith) in
      let w = s.within in
      let below1 = below_ c.objects c.inside c.code c.lines c.linked depth floor small room frame most (Joined F (Globals c)) address (IsCallOf members) below opens linear apart alike nested free tell (enough n) fit m w s.above in
      let open1 = open_ c.objects c.inside c.code c.lines c.linked depth floor small room frame most (Joined F (Globals c)) address (IsCallOf members) below opens linear apart alike nested free tell (enough n) fit m w s.above in
      let linear1 = linear_ c.objects c.inside c.code c.lines c.linked depth floor small room frame most (Joined F (Globals c)) address (IsCallOf members) below opens linear apart alike nested free tell (enough n) fit m w s.above in
      let apart1 = apart_ c.objects c.inside c.code c.lines c.linked depth floor small room frame most (Joined F (Globals c)) address (IsCallOf members) below opens linear apart alike nested free tell (enough n) fit m w s.above in
      let alike1 = alike_ c.objects c.inside c.code c.lines c.linked depth floor small room frame most (Joined F (Globals c)) address (IsCallOf members) below opens linear apart alike nested free tell (enough n) fit m w s.above in
      let inside_calls : (line' : UnitKey × ℕ) (call : CallTree) → IsCallOf members call → (e : State) (ends' : Target → ℕ) (pc' : ℕ) (q : Machine) → Shows c.linked 1 (m.top + 3 + frame) (SeenInside (Globals c) frame) (callee_address m.top address) e.words q → Stands c.code c.linked ends' pc' (call_code 1 call)
      → CallRuns c.objects c.inside c.code c.lines c.linked 1 (m.top + 3 + frame) room (SeenInside (Globals c) frame) (callee_address m.top address) line' (at pc' q) q (pc' + size (call_code 1 call)) (suc n) (called (calls_of us n) call e) = λ line' call p e ends' pc' q shown stands'.
      subst (λ (k : CallTree). Stands c.code c.linked ends' pc' (call_code 1 k) → CallRuns c.objects c.inside c.code c.lines c.linked 1 (m.top + 3 + frame) room (SeenInside (Globals c) frame) (callee_address m.top address) line' (at pc' q) q (pc' + size (call_code 1 k)) (suc n) (called (calls_of us n) k e)) (sym p.1)
      (λ sd. done_at n p.0 p.2 1 (m.top + 3 + frame) (λ d k. (d ≡ 1) × (3 ≤ k) × (k < 3 + frame)) (callee_address m.top address) below1 open1 linear1 apart1 alike1 (λ d k h. let i = h.0 in omega arith) (λ k h. let a = s.above in free k (omega arith)) line' e ends' pc' q shown sd) stands' in
      let ran = call_runs c.objects c.inside c.code c.lines c.linked depth floor small room frame most (Joined F (Globals c)) address (IsCallOf members) below opens linear apart alike nested free tell (enough n) fit
      f.unit symbol f.line f.declarations f.statements line st pc pc1 back f.place start end (end + size_of (instr.Sized sized.Return 0)) (suc n) m s stands.0 call_here stands.1.2 f.stands.0 ret_here
      (λ k. inner_ends (target.Loop k)) (inner_ends target.Routine) refl (elaborated (calls_of us n) f.unit 1 (suc n) (elaboration f.line frame f.declarations f.statements) (fresh 1 [] st))
      (λ q shown.
      subst (λ (o : Outcome Flow). Runs c.objects c.inside c.code c.lines c.linked 1 (m.top + 3 + frame) room (SeenInside (Globals c) frame) (callee_address m.top address) (λ k. inner_ends (target.Loop k)) (inner_ends target.Routine) line (at start q) q end (suc n) o)
      (goes_on_with c.objects c.inside c.code c.linked c.lines f.unit (within_depth 1) (calls_of us n) (m.top + 3 + frame) small room (SeenInside (Globals c) frame) (callee_address m.top address) (IsCallOf members) below1 open1 linear1 apart1 alike1 tell (enough n) (declarations (calls_of us n) f.unit f.declarations (fresh 1 [] st)) (all_done (calls_of us n) f.unit 1 (suc n) (statements_of f.statements)))
      (then_runs c.objects c.inside c.code c.linked c.lines f.unit (within_depth 1) (calls_of us n) (m.top + 3 + frame) small room (SeenInside (Globals c) frame) (callee_address m.top address) (IsCallOf members) below1 open1 linear1 apart1 alike1 tell (enough n) (λ k. inner_ends (target.Loop k)) (inner_ends target.Routine) line (at start q) q after_dc end (suc n) (next (declarations (calls_of us n) f.unit f.declarations (fresh 1 [] st)) (λ x. give On)) (all_done (calls_of us n) f.unit 1 (suc n) (statements_of f.statements))
      (runs_anywhere c.objects c.inside c.code c.linked c.lines f.unit (within_depth 1) (calls_of us n) (m.top + 3 + frame) small room (SeenInside (Globals c) frame) (callee_address m.top address) (IsCallOf members) below1 open1 linear1 apart1 alike1 tell (enough n) (λ k. f.ends (target.Loop k)) (λ k. inner_ends (target.Loop k)) (f.ends target.Routine) (inner_ends target.Routine) line (at start q) q after_dc (suc n) (declarations (calls_of us n) f.unit f.declarations (fresh 1 [] st))
      (declarations_do c.objects c.inside c.code c.linked c.lines f.unit (within_depth 1) (calls_of us n) (m.top + 3 + frame) small room (SeenInside (Globals c) frame) (callee_address m.top address) (IsCallOf members) below1 open1 linear1 apart1 alike1 tell (enough n) (suc n) f.declarations f.declares f.line line (fresh 1 [] st) f.ends start q shown ds d_marks))
      (λ e p z. statements_do c.objects c.inside c.code c.linked c.lines f.unit (within_depth 1) (calls_of us n) (m.top + 3 + frame) small room (SeenInside (Globals c) frame) (callee_address m.top address) (IsCallOf members) below1 open1 linear1 apart1 alike1 tell (enough n) (suc n) inside_calls (statements_of f.statements) f.fits (line_after f.line dc) line e inner_ends after_dc p z body body_marks))) in
      subst (λ (o : Option (UnitKey × BodyTree)). CallRuns c.objects c.inside c.code c.lines c.linked depth floor most (Joined F (Globals c)) address line (at pc m) m (pc + size (call_code depth (call_of symbol))) (suc (suc n)) (next (found_body (calls_of us n) (suc n) o [] st) (λ k. give k))) (sym f.found)
      (subst (λ (k : ℕ). CallRuns c.objects c.inside c.code c.lines c.linked depth floor most (Joined F (Globals c)) address line (at pc m) m k (suc (suc n)) (finish f.unit b st (elaborated (calls_of us n) f.unit 1 (suc n) (elaboration f.line frame f.declarations f.statements) (fresh 1 [] st)))) total ran)

-- ---- the laws

pub calls_are_done : TreesTellCode → CallsAreDone
calls_are_done tell c laid us words room members family n symbol member line st ends pc m shows stands =
    done_at c us words room members tell family n symbol member c.depth c.floor (λ d w. c.is_local d w ≡ true) c.address laid.below laid.opens laid.linear laid.apart laid.alike laid.nested laid.free line st ends pc m shows stands

pub statements_are_done : TreesTellCode → StatementsAreDone
statements_are_done tell c laid us words room members family n unit unlocks before line ss st ends pc m is shows stands marks =
    statements_do c.objects c.inside c.code c.linked c.lines unit (record { depth = c.depth; unlocks = unlocks }) (calls_of us n) c.floor room (stack_for words room n) (Among c) c.address (IsCallOf members) laid.below laid.opens laid.linear laid.apart laid.alike tell (enough c us words room members tell family n) (suc n)
    (λ line' call p e ends' pc' q shown stands'.
    subst (λ (k : CallTree). Stands c.code c.linked ends' pc' (call_code c.depth k) → CallRuns c.objects c.inside c.code c.lines c.linked c.depth c.floor (stack_for words room n) (Among c) c.address line' (at pc' q) q (pc' + size (call_code c.depth k)) (suc n) (called (calls_of us n) k e)) (sym p.1)
    (λ sd. calls_are_done tell c laid us words room members family n p.0 p.2 line' e ends' pc' q shown sd) stands')
    ss is before line st ends pc m shows stands marks

nothing_elaborated : (us : List UnitTree) (n : ℕ) (items : List UnitTree) → AreWithoutElaboration items → (f : Act Words) (st : State) → next (items_elaborated us n items st) (λ x. f) ≡ f st
nothing_elaborated us n [] h f st = refl
nothing_elaborated us n (u ∷ items) h f st =
    ap (λ (e : Option ElaborationTree). next (next (item_elaborated us n u e st) (λ x. items_elaborated us n items)) (λ x. f)) h.0 ∙ nothing_elaborated us n items h.1 f st

as_it_is : (o : Outcome Words) → next o (λ back. give back) ≡ o
as_it_is (Gives vs st) = refl
as_it_is (Raises e told st) = refl
as_it_is (GoesOn st) = refl

pub partitions_are_done : TreesTellCode → PartitionsAreDone
partitions_are_done tell c laid us items words room members family none n main member line ends pc m shows stands =
    subst (λ (o : Outcome Words). CallRuns c.objects c.inside c.code c.lines c.linked c.depth c.floor (stack_for words room n) (Among c) c.address line (at pc m) m (pc + size (call_code c.depth (call_of main))) (suc n) o)
    (as_it_is (calls_of us n main [] start) ∙ sym (nothing_elaborated us n items none (calls_of us n main []) start))
    (calls_are_done tell c laid us words room members family n main member line start ends pc m shows stands)
