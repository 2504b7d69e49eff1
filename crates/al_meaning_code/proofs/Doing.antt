-- What code does, wherever it stands: assignments, sequences, marks.
use Rattle.std.proofs.Common.{◌≡◌, ◌≢◌, ℕ, ◌+◌, ◌-◌, ◌<◌, ◌≤◌, ℤ, List, [], ◌∷◌, ◌++◌, Bool, true, false, Option, Some, None, Ok, Err, refl, sym, ◌∙◌, ap, subst, arith, inl, inr, ◌⊎◌, set, length-set, get_or-set_same, get_or-set_other}
use Rattle.std.specs.Prelude.{pos, if◌then◌else◌}
use Rattle.al_view.specs.declared.link.LinkSymbol.{LinkSymbol}
use Rattle.al_view.specs.declared.view.ObjectPlace.{ObjectPlace}
use Rattle.al_view_typed.specs.ExpressionTrees.{NameTree, ValueTree, CallTree}
use Rattle.al_instr.specs.declared.instruction.Instr.{Instr}
use Rattle.al_instr.specs.declared.instruction.Instr.TheVariants as instr
use Rattle.al_instr.specs.declared.numbers.Sized.TheVariants as sized
use Rattle.al_instr.specs.Codes.{size_of}
use Rattle.al_code.specs.declared.piece.Target.{Target}
use Rattle.al_code.specs.Pieces.{Piece, Whole, size, line_word, Line}
use Rattle.al_code.specs.ExprPieces.{of_size}
use Rattle.al_code.specs.Templates.{address_of, checked_code}
use Rattle.al_link_image.specs.declared.parts.Region.{Region}
use Rattle.al_machine.specs.declared.regions.Entered.{Entered}
use Rattle.al_machine.specs.declared.code.Step.{Step}
use Rattle.al_machine.specs.declared.instruction.Exception.{Exception}
use Rattle.al_machine.specs.declared.instruction.Exception.TheVariants as exception
use Rattle.al_machine.specs.declared.instruction.Instruction.TheVariants as kind
use Rattle.al_machine.specs.Operations.{operation_of, sized_operation}
use Rattle.al_machine.specs.Machine.{Machine}
use Rattle.al_machine.specs.Stack.{word_at}
use Rattle.al_machine.specs.Memory.{is_open}
use Rattle.al_machine.specs.Bursts.{At}
use Rattle.al_machine.specs.Table.{on, exec}
use Rattle.al_code.specs.declared.piece.Target.TheVariants as target
use Rattle.al_view_typed.specs.StatementTrees.StatementFormTree.{AssignmentStatement}
use Rattle.al_code.specs.declared.routine.Routine.{Routine}
use Rattle.al_code.specs.Marks.{mark_of}
use Rattle.al_code.specs.Statements.{assignment_code}
use Rattle.al_base.specs.declared.unit_key.UnitKey.{UnitKey}
use Rattle.al_code.specs.LineLaws.{TreesTellCode}
use Rattle.al_meaning.specs.Scalars.{Failure, ConstraintError, ProgramError, Meaningless, Valued, truth_of}
use Rattle.al_meaning.specs.States.{further, State, Outcome, Gives, Raises, GoesOn, Act, next, ◌>>=◌, ◌>>◌, give, told_at, at_line, Words, with_words, store, same_place}
use Rattle.al_meaning.specs.Expressions.{Calls, named}
use Rattle.al_meaning.specs.Statements.{Flow, On, Exits, Returns, flow_on, form_done}
use Rattle.al_meaning_code.specs.Running.{Lines, at, Leads, Traps, TrapsAt, Exhausts}
use Rattle.al_meaning_code.specs.Standing.{Stands, AreOfLine, AreMarked}
use Rattle.al_meaning_code.specs.Showing.{Pushed, Shows, Near}
use Rattle.al_meaning_code.specs.Subset.{needs_value, needs_name, IsName, IsInValue}
use Rattle.al_meaning_code.specs.Effects.{table_line, line_or, RaisesAt, Runs}
use Rattle.al_meaning_code.proofs.Machines.{leads_on, stays, traps_after, goes, carried_on, size_cons, size-append}
use Rattle.al_meaning_code.proofs.Effects.{stores}
use Rattle.al_meaning_code.proofs.Standing.{stands_front, stands_back}
use Rattle.al_meaning_code.proofs.Operators.{two_truths}
use Rattle.al_meaning_code.proofs.Expressions.{Short, Ends}
use Rattle.al_meaning_code.proofs.Values.{Same, reaches_kept, pushed_shows, address_value, address_gives, checked_gives}
use Rattle.al_meaning_code.proofs.Plain as plain
use Rattle.al_meaning_code.proofs.Plain.{Placed, placed_is, variable_in}
use Rattle.al_meaning_code.proofs.Meant.{outcome, checked_value_meant, named_meant, placing}
use Rattle.al_meaning_code.proofs.Unmarked.{address_unmarked, checked_unmarked}
use Rattle.al_meaning_code.proofs.Marked.{marked_beyond, line_after, marked_front, marked_back, marked_empty, one_line}

module _ (objects : List Region) (inside : List Entered) (code : List Step) (linked : LinkSymbol → Instr → Instr) (lines : Lines) (unit : UnitKey) (r : Routine) (calls : Calls) (floor small room : ℕ) (V : ObjectPlace → Type 0) (address : ObjectPlace → ℕ) (C : CallTree → Type 0)
    (below : (p : ObjectPlace) → V p → address p < floor) (opened_ : (p : ObjectPlace) → V p → is_open objects inside 0 (address p) 1 ≡ true) (linear : (p : ObjectPlace) (k : ℕ) → V p → V (further p k) → address (further p k) ≡ address p + k)
    (apart : (p q : ObjectPlace) → V p → V q → same_place p q ≡ false → address p ≢ address q) (alike : (p q : ObjectPlace) → V p → V q → same_place p q ≡ true → address p ≡ address q) (tell : TreesTellCode) (roomy : small ≤ room) where
  abbrev pub Showing : (ObjectPlace → ℤ) → Machine → Type 0
  Showing words m = Shows linked r.depth floor V address words m

  abbrev pub Close : Machine → Machine → Type 0
  Close m n = Near V address floor m n

  abbrev pub Lacks : At → Machine → Type 0
  Lacks a m = Exhausts objects inside code a m room

  pub roomier : (k : ℕ) → k ≤ small → k ≤ room
  roomier k h = omega (arith, roomy)

  pub near_same : (m n : Machine) → floor ≤ m.top → Same m n → Close m n
  near_same m n a s = record { first = s.first; frame = s.frame; top = s.top; long = s.long; kept = λ k h v. s.kept k (omega arith) }

  pub near_self : (m : Machine) → Close m m
  near_self m = record { first = refl; frame = refl; top = refl; long = refl; kept = λ k h v. refl }

  pub near_on : (m n p : Machine) → Close m n → Close n p → Close m p
  near_on m n p a b = record { first = b.first ∙ a.first; frame = b.frame ∙ a.frame; top = b.top ∙ a.top; long = b.long ∙ a.long; kept = λ k h v. b.kept k h v ∙ a.kept k h v }

  pub lacks_after : (a b : At) (m n : Machine) → Close m n → Leads objects inside code a b → Lacks b n → Lacks a m
  lacks_after a b m n c l s =
      let f = c.first in let t = c.top in let x = s.0 in
      (omega arith, s.1, s.2, traps_after objects inside code a b s.1 s.2 s.1 s.2 exception.Storage (omega arith) (omega arith) l s.3)

  pub traps_at_after : (line : UnitKey × ℕ) (a b : At) (e : Exception) → Leads objects inside code a b → TrapsAt objects inside code lines b line e → TrapsAt objects inside code lines a line e
  traps_at_after line a b e l t = record { last = t.last; leads = leads_on objects inside code a b t.last l t.leads; next = t.next; instruction = t.instruction; there = t.there; raises = t.raises; told = t.told }

  pub raises_after : (line : UnitKey × ℕ) (a b : At) (m n : Machine) (f : Failure) → Close m n → Leads objects inside code a b → RaisesAt objects inside code lines room line b n f → RaisesAt objects inside code lines room line a m f
  raises_after line a b m n ConstraintError c l (inl t) = inl (traps_at_after line a b exception.Constraint l t)
  raises_after line a b m n ConstraintError c l (inr s) = inr (lacks_after a b m n c l s)
  raises_after line a b m n ProgramError c l (inl t) = inl (traps_at_after line a b exception.Program l t)
  raises_after line a b m n ProgramError c l (inr s) = inr (lacks_after a b m n c l s)
  raises_after line a b m n Meaningless c l x = tt

  -- what is done from a state that the machine comes to
  pub runs_after : (exits : ℕ → ℕ) (home : ℕ) (line : UnitKey × ℕ) (a b : At) (m n : Machine) (to fuel fuel' : ℕ) (o : Outcome Flow) → Close m n → (l : Leads objects inside code a b) → fuel' ≤ l.0 + fuel → Runs objects inside code lines linked r.depth floor room V address exits home line b n to fuel o → Runs objects inside code lines linked r.depth floor room V address exits home line a m to fuel' o
  runs_after exits home line a b m n to fuel fuel' (Gives On st) c l f (inl x) = inl (x.0, leads_on objects inside code a b (at to x.0) l x.1, near_on m n x.0 c x.2, x.3)
  runs_after exits home line a b m n to fuel fuel' (Gives On st) c l f (inr s) = inr (lacks_after a b m n c l s)
  runs_after exits home line a b m n to fuel fuel' (Gives (Exits i) st) c l f (inl x) = inl (x.0, leads_on objects inside code a b (at (exits i) x.0) l x.1, near_on m n x.0 c x.2, x.3)
  runs_after exits home line a b m n to fuel fuel' (Gives (Exits i) st) c l f (inr s) = inr (lacks_after a b m n c l s)
  runs_after exits home line a b m n to fuel fuel' (Gives (Returns []) st) c l f (inl x) = inl (x.0, leads_on objects inside code a b (at home x.0) l x.1, near_on m n x.0 c x.2, x.3)
  runs_after exits home line a b m n to fuel fuel' (Gives (Returns []) st) c l f (inr s) = inr (lacks_after a b m n c l s)
  runs_after exits home line a b m n to fuel fuel' (Gives (Returns (v ∷ vs)) st) c l f s = lacks_after a b m n c l s
  runs_after exits home line a b m n to fuel fuel' (Raises e told st) c l f x = raises_after (table_line (line_or line told)) a b m n e c l x
  runs_after exits home line a b m n to fuel fuel' (GoesOn st) c l f (inl x) = let e = x.1 in inl (l.0 + x.0, omega arith, x.2, carried_on objects inside code l.0 x.0 a b l.1 ∙ x.3)
  runs_after exits home line a b m n to fuel fuel' (GoesOn st) c l f (inr s) = inr (lacks_after a b m n c l s)

  pub lacks_all : (exits : ℕ → ℕ) (home : ℕ) (line : UnitKey × ℕ) (a : At) (m : Machine) (to fuel : ℕ) (o : Outcome Flow) → Lacks a m → Runs objects inside code lines linked r.depth floor room V address exits home line a m to fuel o
  lacks_all exits home line a m to fuel (Gives On st) s = inr s
  lacks_all exits home line a m to fuel (Gives (Exits i) st) s = inr s
  lacks_all exits home line a m to fuel (Gives (Returns []) st) s = inr s
  lacks_all exits home line a m to fuel (Gives (Returns (v ∷ vs)) st) s = s
  lacks_all exits home line a m to fuel (Raises ConstraintError told st) s = inr s
  lacks_all exits home line a m to fuel (Raises ProgramError told st) s = inr s
  lacks_all exits home line a m to fuel (Raises Meaningless told st) s = tt
  lacks_all exits home line a m to fuel (GoesOn st) s = inr s

  -- one after the other
  pub then_runs : (exits : ℕ → ℕ) (home : ℕ) (line : UnitKey × ℕ) (a : At) (m : Machine) (mid to fuel : ℕ) (o : Outcome Flow) (g : Act Flow) → Runs objects inside code lines linked r.depth floor room V address exits home line a m mid fuel o → ((st : State) (n : Machine) → Showing st.words n → Runs objects inside code lines linked r.depth floor room V address exits home line (at mid n) n to fuel (g st)) → Runs objects inside code lines linked r.depth floor room V address exits home line a m to fuel (next o (λ f. flow_on f g))
  then_runs exits home line a m mid to fuel (Gives On st) g (inl x) go = runs_after exits home line a (at mid x.0) m x.0 to fuel fuel (g st) x.2 x.1 (omega arith) (go st x.0 x.3)
  then_runs exits home line a m mid to fuel (Gives On st) g (inr s) go = lacks_all exits home line a m to fuel (g st) s
  then_runs exits home line a m mid to fuel (Gives (Exits i) st) g x go = x
  then_runs exits home line a m mid to fuel (Gives (Returns []) st) g x go = x
  then_runs exits home line a m mid to fuel (Gives (Returns (v ∷ vs)) st) g x go = x
  then_runs exits home line a m mid to fuel (Raises e told st) g x go = x
  then_runs exits home line a m mid to fuel (GoesOn st) g x go = x

  -- what is done without an exit or a return is done wherever these lead
  pub runs_anywhere : {B : Type 0} (exits exits' : ℕ → ℕ) (home home' : ℕ) (line : UnitKey × ℕ) (a : At) (m : Machine) (to fuel : ℕ) (o : Outcome B) → Runs objects inside code lines linked r.depth floor room V address exits home line a m to fuel (next o (λ x. give On)) → Runs objects inside code lines linked r.depth floor room V address exits' home' line a m to fuel (next o (λ x. give On))
  runs_anywhere exits exits' home home' line a m to fuel (Gives x st) h = h
  runs_anywhere exits exits' home home' line a m to fuel (Raises e told st) h = h
  runs_anywhere exits exits' home home' line a m to fuel (GoesOn st) h = h

  -- an end that leads on
  pub runs_to : (exits : ℕ → ℕ) (home : ℕ) (line : UnitKey × ℕ) (a : At) (m : Machine) (mid to fuel : ℕ) (o : Outcome Flow) → ((n : Machine) → Leads objects inside code (at mid n) (at to n)) → Runs objects inside code lines linked r.depth floor room V address exits home line a m mid fuel o → Runs objects inside code lines linked r.depth floor room V address exits home line a m to fuel o
  runs_to exits home line a m mid to fuel (Gives On st) go (inl x) = inl (x.0, leads_on objects inside code a (at mid x.0) (at to x.0) x.1 (go x.0), x.2, x.3)
  runs_to exits home line a m mid to fuel (Gives On st) go (inr s) = inr s
  runs_to exits home line a m mid to fuel (Gives (Exits i) st) go x = x
  runs_to exits home line a m mid to fuel (Gives (Returns []) st) go x = x
  runs_to exits home line a m mid to fuel (Gives (Returns (v ∷ vs)) st) go x = x
  runs_to exits home line a m mid to fuel (Raises e told st) go x = x
  runs_to exits home line a m mid to fuel (GoesOn st) go x = x

  -- a line that is told
  pub told_runs : (exits : ℕ → ℕ) (home line : ℕ) (other : UnitKey × ℕ) (a : At) (m : Machine) (to fuel : ℕ) (o : Outcome Flow) → Runs objects inside code lines linked r.depth floor room V address exits home (unit, line) a m to fuel o → Runs objects inside code lines linked r.depth floor room V address exits home other a m to fuel (told_at unit line o)
  told_runs exits home line other a m to fuel (Gives On st) x = x
  told_runs exits home line other a m to fuel (Gives (Exits i) st) x = x
  told_runs exits home line other a m to fuel (Gives (Returns []) st) x = x
  told_runs exits home line other a m to fuel (Gives (Returns (v ∷ vs)) st) x = x
  told_runs exits home line other a m to fuel (Raises e None st) x = x
  told_runs exits home line other a m to fuel (Raises e (Some l) st) x = x
  told_runs exits home line other a m to fuel (GoesOn st) x = x

  -- a value whose code is of a line, and what is done with it
  pub value_runs : (exits : ℕ → ℕ) (home line : ℕ) (other : UnitKey × ℕ) (a : At) (m : Machine) (from mid to fuel need : ℕ) (o : Valued) (out : Valued → Outcome Flow) → AreOfLine lines unit line from mid → need ≤ room → Ends objects inside code a from m mid need o
      → ((f : Failure) → RaisesAt objects inside code lines room (unit, line_word line) a m f → Runs objects inside code lines linked r.depth floor room V address exits home other a m to fuel (out (Err f)))
      → ((v : ℤ) (p : Machine) → Pushed m p v → Runs objects inside code lines linked r.depth floor room V address exits home other (at mid p) m to fuel (out (Ok v))) → Runs objects inside code lines linked r.depth floor room V address exits home other a m to fuel (out o)
  value_runs exits home line other a m from mid to fuel need o out of_line le ends failing go = cases_of o ends
    where
      lack : Short objects inside code a from m mid need → Lacks a m
      lack s = let x = s.0 in (omega arith, from, mid, s.1)

      told_trap : (e : Exception) → Traps objects inside code a from mid e → TrapsAt objects inside code lines a (unit, line_word line) e
      told_trap e t = record { last = t.last; leads = t.leads; next = t.next; instruction = t.instruction; there = t.there; raises = t.raises; told = of_line t.last.place t.low t.high }

      cases_of : (o : Valued) → Ends objects inside code a from m mid need o → Runs objects inside code lines linked r.depth floor room V address exits home other a m to fuel (out o)
      cases_of (Ok v) (inl x) = runs_after exits home other a (at mid x.0) m m to fuel fuel (out (Ok v)) (near_self m) x.1 (omega arith) (go v x.0 x.2)
      cases_of (Ok v) (inr s) = lacks_all exits home other a m to fuel (out (Ok v)) (lack s)
      cases_of (Err ConstraintError) (inl t) = failing ConstraintError (inl (told_trap exception.Constraint t))
      cases_of (Err ConstraintError) (inr s) = failing ConstraintError (inr (lack s))
      cases_of (Err ProgramError) (inl t) = failing ProgramError (inl (told_trap exception.Program t))
      cases_of (Err ProgramError) (inr s) = failing ProgramError (inr (lack s))
      cases_of (Err Meaningless) x = failing Meaningless tt

  -- by a truth on the stack
  pub truth_runs : (exits : ℕ → ℕ) (home : ℕ) (line : UnitKey × ℕ) (a : At) (m : Machine) (to fuel : ℕ) (v : ℤ) (out : Option Bool → Outcome Flow) → Runs objects inside code lines linked r.depth floor room V address exits home line a m to fuel (out None) → (v ≡ pos 1 → Runs objects inside code lines linked r.depth floor room V address exits home line a m to fuel (out (Some true))) → (v ≡ pos 0 → Runs objects inside code lines linked r.depth floor room V address exits home line a m to fuel (out (Some false))) → Runs objects inside code lines linked r.depth floor room V address exits home line a m to fuel (out (truth_of v))
  truth_runs exits home line a m to fuel v out n f g = go (two_truths v)
    where
      go : (v ≡ pos 0) ⊎ ((v ≡ pos 1) ⊎ (truth_of v ≡ None)) → Runs objects inside code lines linked r.depth floor room V address exits home line a m to fuel (out (truth_of v))
      go (inl e) = rw e (g e)
      go (inr (inl e)) = rw e (f e)
      go (inr (inr e)) = rw e n

  -- ---- what code does, wherever it stands: of a line, and of any line

  abbrev pub StandsHere : (Target → ℕ) → ℕ → List Piece → Type 0
  StandsHere ends pc c = Stands code linked ends pc c

  abbrev pub Ran : (Target → ℕ) → UnitKey × ℕ → ℕ → Machine → ℕ → ℕ → Outcome Flow → Type 0
  Ran ends line pc m to fuel o = Runs objects inside code lines linked r.depth floor room V address (λ (k : ℕ). ends (target.Loop k)) (ends target.Routine) line (at pc m) m to fuel o

  abbrev pub DoesAt : ℕ → ℕ → List Piece → Act Flow → Type 0
  DoesAt fuel line c f = (st : State) (ends : Target → ℕ) (pc : ℕ) (m : Machine) → Showing st.words m → StandsHere ends pc c → AreMarked lines unit line pc c → Ran ends (unit, line) pc m (pc + size c) fuel (f st)

  abbrev pub Does : ℕ → List Piece → Act Flow → Type 0
  Does fuel c f = (l : ℕ) (line : UnitKey × ℕ) (st : State) (ends : Target → ℕ) (pc : ℕ) (m : Machine) → Showing st.words m → StandsHere ends pc c → AreMarked lines unit l pc c → Ran ends line pc m (pc + size c) fuel (f st)

  pub does_at : (fuel line : ℕ) (c : List Piece) (f : Act Flow) → Does fuel c f → DoesAt fuel line c f
  does_at fuel line c f d st ends pc m s stands marks = d line (unit, line) st ends pc m s stands marks

  -- ---- assignment

  -- the word below goes to the address on top
  pub store_runs : (st : State) (exits : ℕ → ℕ) (home : ℕ) (line : UnitKey × ℕ) (p : ObjectPlace) (ends : Target → ℕ) (pc fuel : ℕ) (m n q : Machine) (v : ℤ) → V p → Showing st.words m → Pushed m n v → Pushed n q (pos (address p)) → StandsHere ends pc (of_size sized.Store 1) → Runs objects inside code lines linked r.depth floor room V address exits home line (at pc q) m (pc + size (of_size sized.Store 1)) fuel (Gives On (record st { words = with_words p (v ∷ []) st.words }))
  unfolding exec operation_of sized_operation
  store_runs st exits home line p ends pc fuel m n q v var s x y stands =
      let i = instr.Sized sized.Store 1 in
      let w = s.within in let ws = w.stack in let wb = w.memory in let wo = w.own in let wf = w.frame in let wl = w.below in let wr = w.room in
      let a = s.above in let b = below p var in
      let tx = x.top in let ty = y.top in let fx = x.first in let fy = y.first in let rx = x.frame in let ry = y.frame in let lx = x.long in let ly = y.long in
      let yw = y.within in let yr = yw.room in
      let down : n.top - 1 ≡ m.top = omega arith in
      let value_is : word_at n (n.top - 1) ≡ v = ap (λ (k : ℕ). word_at n k) down ∙ x.word in
      let effect = stores objects inside n q (address p) x.within y (omega arith) (omega arith) (omega arith) (opened_ p var) in
      let z = record q { memory = set q.memory (address p) (word_at n (n.top - 1)); top = n.top - 1 } in
      let len : pc + size_of i ≡ pc + size (of_size sized.Store 1) = omega (arith, size_cons (Whole i) []) in
      let step = subst (λ (k : ℕ). Leads objects inside code (at pc q) (at k z)) len (goes objects inside code pc (pc + size_of i) (kind.Store 1) q z stands.0 (ap on effect)) in
      let total = length-set q.memory (address p) (word_at n (n.top - 1)) in
      let there : word_at z (address p) ≡ v = get_or-set_same q.memory (address p) (word_at n (n.top - 1)) (pos 0) (omega arith) ∙ value_is in
      let other : (k : ℕ) → k < floor → address p ≢ k → word_at z k ≡ word_at m k = λ k h u. (let o : k ≢ address p = λ e. u (sym e) in get_or-set_other q.memory (address p) k (word_at n (n.top - 1)) (pos 0) o) ∙ y.kept k (omega arith) ∙ x.kept k (omega arith) in
      let near : Close m z = record { first = fy ∙ fx; frame = ry ∙ rx; top = down; long = total ∙ ly ∙ lx; kept = λ k h u. other k h (u p var) } in
      let shown : Showing (with_words p (v ∷ []) st.words) z = record {
        within = record { memory = omega arith; own = omega arith; frame = omega arith; below = omega arith; stack = omega arith; room = omega arith };
        above = omega arith;
        lies = λ o h. reaches_kept objects inside code linked r.depth floor V address m z o near.first near.frame near.kept (s.lies o h);
        holds = λ o h. held z o h there other (same_place p o) refl;
      } in
      inl (z, step, near, shown)
    where
      held : (z : Machine) (o : ObjectPlace) → V o → word_at z (address p) ≡ v → ((k : ℕ) → k < floor → address p ≢ k → word_at z k ≡ word_at m k) → (t : Bool) → same_place p o ≡ t → word_at z (address o) ≡ (if t then v else st.words o)
      held z o h there other true e = ap (λ (k : ℕ). word_at z k) (sym (alike p o var h e)) ∙ there
      held z o h there other false e = other (address o) (below o h) (apart p o var h e) ∙ s.holds o h

  -- what is assigned to a variable or a component
  stored_at : State → ℤ → Placed → Outcome Flow
  stored_at st v (Ok p) = Gives On (record st { words = with_words p (v ∷ []) st.words })
  stored_at st v (Err f) = Raises f None st

  assigned : Placed → State → Valued → Outcome Flow
  assigned o st (Ok v) = stored_at st v o
  assigned o st (Err f) = Raises f None st

  stored_meant : (st : State) (v : ℤ) (o : Placed) → next (placing st o) (λ place. store place (v ∷ []) >> give On) ≡ stored_at st v o
  unfolding stored_at
  stored_meant st v (Ok p) = refl
  stored_meant st v (Err f) = refl

  assigned_meant : (target_ : NameTree) (o : Placed) (st : State) (x : Valued) → named calls target_ st ≡ placing st o → next (outcome st x) (λ vs. named calls target_ >>= (λ place. store place vs >> give On)) ≡ assigned o st x
  unfolding assigned
  assigned_meant target_ o st (Ok v) e = ap (λ (x : Outcome ObjectPlace). next x (λ place. store place (v ∷ []) >> give On)) e ∙ stored_meant st v o
  assigned_meant target_ o st (Err f) e = refl

  pub assign_does : (fuel line : ℕ) (target_ : NameTree) (w : ℕ) (x : ValueTree) → IsName V target_ → w ≡ 1 → IsInValue V x → needs_value x ≤ room → 1 + needs_name target_ ≤ room → DoesAt fuel line (assignment_code r.depth target_ w x) (form_done calls unit r.depth fuel (AssignmentStatement target_ w x))
  unfolding assigned stored_at
  assign_does fuel line target_ w x h = λ one_ hx fits fits_t st ends pc m s stands marks.
      subst (λ (o : Outcome Flow). Ran ends (unit, line) pc m (pc + size (assignment_code r.depth target_ w x)) fuel o)
      (sym (ap (λ (o : Outcome Words). next o (λ vs. named calls target_ >>= (λ place. store place vs >> give On))) (checked_value_meant calls V st x hx) ∙ assigned_meant target_ (plain.placed st.words target_) st (plain.checked_value st.words x) (named_meant calls V st target_ h)))
      (subst (λ (k : ℕ). StandsHere ends pc (assignment_code r.depth target_ k x) → AreMarked lines unit line pc (assignment_code r.depth target_ k x) → Ran ends (unit, line) pc m (pc + size (assignment_code r.depth target_ k x)) fuel (assigned (plain.placed st.words target_) st (plain.checked_value st.words x))) (sym one_)
      (λ sd mk. go hx fits fits_t st ends pc m s sd mk) stands marks)
    where
      pcode : List Piece
      pcode = address_of r.depth target_

      go : IsInValue V x → needs_value x ≤ room → 1 + needs_name target_ ≤ room → (st : State) (ends : Target → ℕ) (pc : ℕ) (m : Machine) → Showing st.words m → StandsHere ends pc ((checked_code r.depth x ++ pcode) ++ of_size sized.Store 1) → AreMarked lines unit line pc ((checked_code r.depth x ++ pcode) ++ of_size sized.Store 1) → Ran ends (unit, line) pc m (pc + size ((checked_code r.depth x ++ pcode) ++ of_size sized.Store 1)) fuel (assigned (plain.placed st.words target_) st (plain.checked_value st.words x))
      go hx fits fits_t st ends pc m s sd mk =
          let c = checked_code r.depth x in
          let store_ = of_size sized.Store 1 in
          let front = stands_front code linked ends pc (c ++ pcode) store_ sd in
          let sc = stands_front code linked ends pc c pcode front in
          let sp = stands_back code linked ends pc c pcode front in
          let total : ((pc + size c) + size pcode) + size store_ ≡ pc + size ((c ++ pcode) ++ store_) = omega (arith, size-append (c ++ pcode) store_, size-append c pcode) in
          let same : pc + size (c ++ pcode) ≡ (pc + size c) + size pcode = omega (arith, size-append c pcode) in
          let ss = subst (λ (k : ℕ). StandsHere ends k store_) same (stands_back code linked ends pc (c ++ pcode) store_ sd) in
          let mc = marked_front lines unit line pc c pcode (marked_front lines unit line pc (c ++ pcode) store_ mk) in
          value_runs (λ (i : ℕ). ends (target.Loop i)) (ends target.Routine) line (unit, line) (at pc m) m pc (pc + size c) (pc + size ((c ++ pcode) ++ store_)) fuel (needs_value x) (plain.checked_value st.words x) (assigned (plain.placed st.words target_) st)
          (one_line lines unit line pc c (checked_unmarked V r.depth x hx) mc) fits
          (checked_gives objects inside code linked r.depth floor V address below opened_ linear st.words x hx ends pc m s sc)
          (λ f raised. failed f raised)
          (λ v n y. after st ends pc m s v n y ss total (one_line lines unit line (pc + size c) pcode (address_unmarked V r.depth target_ h) (marked_beyond lines unit line pc c pcode (checked_unmarked V r.depth x hx) (marked_front lines unit line pc (c ++ pcode) store_ mk)))
          (plain.placed st.words target_) (λ q e. variable_in V target_ q h (placed_is st.words target_ q e)) (address_gives objects inside code linked r.depth floor V address below opened_ linear st.words target_ h ends (pc + size c) n (pushed_shows objects inside code linked r.depth floor V address below opened_ linear st.words m n v s y) sp) fits_t)
        where
          failed : (f : Failure) → RaisesAt objects inside code lines room (unit, line_word line) (at pc m) m f → Ran ends (unit, line) pc m (pc + size ((checked_code r.depth x ++ pcode) ++ of_size sized.Store 1)) fuel (assigned (plain.placed st.words target_) st (Err f))
          failed f raised = raised

          after : (st : State) (ends : Target → ℕ) (pc : ℕ) (m : Machine) → Showing st.words m → (v : ℤ) (n : Machine) → Pushed m n v → StandsHere ends ((pc + size (checked_code r.depth x)) + size pcode) (of_size sized.Store 1) → ((pc + size (checked_code r.depth x)) + size pcode) + size (of_size sized.Store 1) ≡ pc + size ((checked_code r.depth x ++ pcode) ++ of_size sized.Store 1)
              → AreOfLine lines unit line (pc + size (checked_code r.depth x)) ((pc + size (checked_code r.depth x)) + size pcode) → (o : Placed) → ((q : ObjectPlace) → o ≡ Ok q → V q) → Ends objects inside code (at (pc + size (checked_code r.depth x)) n) (pc + size (checked_code r.depth x)) n ((pc + size (checked_code r.depth x)) + size pcode) (needs_name target_) (address_value objects inside code linked r.depth floor V address below opened_ linear o) → 1 + needs_name target_ ≤ room
              → Runs objects inside code lines linked r.depth floor room V address (λ (i : ℕ). ends (target.Loop i)) (ends target.Routine) (unit, line) (at (pc + size (checked_code r.depth x)) n) m (pc + size ((checked_code r.depth x ++ pcode) ++ of_size sized.Store 1)) fuel (stored_at st v o)
          after st ends pc m s v n y ss total of_line (Ok p) h_ (inl z) fits_t =
              let pc1 = pc + size (checked_code r.depth x) in
              let pc2 = pc1 + size pcode in
              let exits : ℕ → ℕ = λ i. ends (target.Loop i) in
              let ran = store_runs st exits (ends target.Routine) (unit, line) p ends pc2 fuel m n z.0 v (h_ p refl) s y z.2 ss in
              runs_after exits (ends target.Routine) (unit, line) (at pc1 n) (at pc2 z.0) m m _ fuel fuel (stored_at st v (Ok p)) (near_self m) z.1 (omega arith)
              (subst (λ (k : ℕ). Runs objects inside code lines linked r.depth floor room V address exits (ends target.Routine) (unit, line) (at pc2 z.0) m k fuel (stored_at st v (Ok p))) total ran)
          after st ends pc m s v n y ss total of_line (Ok p) h_ (inr z) fits_t =
              let f = y.first in let t = y.top in let l = z.0 in
              inr (omega arith, pc + size (checked_code r.depth x), (pc + size (checked_code r.depth x)) + size pcode, z.1)
          after st ends pc m s v n y ss total of_line (Err ConstraintError) h_ (inl t) fits_t = inl (record { last = t.last; leads = t.leads; next = t.next; instruction = t.instruction; there = t.there; raises = t.raises; told = of_line t.last.place t.low t.high })
          after st ends pc m s v n y ss total of_line (Err ConstraintError) h_ (inr z) fits_t =
              let f = y.first in let t = y.top in let l = z.0 in
              inr (omega arith, pc + size (checked_code r.depth x), (pc + size (checked_code r.depth x)) + size pcode, z.1)
          after st ends pc m s v n y ss total of_line (Err ProgramError) h_ (inl t) fits_t = inl (record { last = t.last; leads = t.leads; next = t.next; instruction = t.instruction; there = t.there; raises = t.raises; told = of_line t.last.place t.low t.high })
          after st ends pc m s v n y ss total of_line (Err ProgramError) h_ (inr z) fits_t =
              let f = y.first in let t = y.top in let l = z.0 in
              inr (omega arith, pc + size (checked_code r.depth x), (pc + size (checked_code r.depth x)) + size pcode, z.1)
          after st ends pc m s v n y ss total of_line (Err Meaningless) h_ z fits_t = tt

  -- ---- sequences and marks

  pub seq_does : (fuel : ℕ) (c d : List Piece) (f g : Act Flow) → Does fuel c f → Does fuel d g → Does fuel (c ++ d) (f >>= (λ x. flow_on x g))
  seq_does fuel c d f g df dg l line st ends pc m s stands marks =
      let total : (pc + size c) + size d ≡ pc + size (c ++ d) = omega (arith, size-append c d) in
      let back_ = stands_back code linked ends pc c d stands in
      let marks_ = marked_back lines unit l pc c d marks in
      then_runs (λ (k : ℕ). ends (target.Loop k)) (ends target.Routine) line (at pc m) m (pc + size c) (pc + size (c ++ d)) fuel (f st) g (df l line st ends pc m s (stands_front code linked ends pc c d stands) (marked_front lines unit l pc c d marks))
      (λ e n z. subst (λ (k : ℕ). Ran ends line (pc + size c) n k fuel (g e)) total (dg (line_after l c) line e ends (pc + size c) n z back_ marks_))

  pub nothing_does : (fuel : ℕ) → Does fuel [] (give On)
  nothing_does fuel l line st ends pc m s stands marks = let same : pc ≡ pc + size [] = omega arith in inl (m, subst (λ (k : ℕ). Leads objects inside code (at pc m) (at k m)) same (stays objects inside code (at pc m)), near_self m, s)

  pub marked_does : (fuel : ℕ) (b : Bool) (line : ℕ) (c : List Piece) (f : Act Flow) → (b ≡ false → size c ≡ 0) → DoesAt fuel line c f → Does fuel (mark_of b line ++ c) (at_line unit line f)
  unfolding mark_of
  marked_does fuel true line c f none d l other st ends pc m s stands marks =
      let same : pc + size c ≡ pc + size (Line line ∷ c) = omega (arith, size_cons (Line line) c) in
      subst (λ (k : ℕ). Ran ends other pc m k fuel (told_at unit line (f st))) same
      (told_runs (λ (k : ℕ). ends (target.Loop k)) (ends target.Routine) line other (at pc m) m (pc + size c) fuel (f st) (d st ends pc m s stands marks))
  marked_does fuel false line c f none d l other st ends pc m s stands marks =
      told_runs (λ (k : ℕ). ends (target.Loop k)) (ends target.Routine) line other (at pc m) m (pc + size c) fuel (f st) (d st ends pc m s stands (marked_empty lines unit l line pc c (none refl) marks))

  -- what does the same, state by state
  pub does_same : (fuel : ℕ) (c : List Piece) (f g : Act Flow) → ((st : State) → f st ≡ g st) → Does fuel c f → Does fuel c g
  does_same fuel c f g same d l line st ends pc m s stands marks = subst (λ (o : Outcome Flow). Ran ends line pc m (pc + size c) fuel o) (same st) (d l line st ends pc m s stands marks)
