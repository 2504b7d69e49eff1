-- The code of declarations of objects does what these mean.
use Rattle.std.proofs.Common.{◌≡◌, ◌≢◌, ℕ, ◌+◌, ◌<◌, ◌≤◌, List, [], ◌∷◌, ◌++◌, Bool, true, false, Option, Some, None, Ok, length, nat_lt, refl, sym, ◌∙◌, ap, subst, arith, inl, inr, ◌⊎◌, ⊎_elim}
use Rattle.std.proofs.lemmas.Bool.Decides.{nat_tests}
use Rattle.std.specs.Prelude.{pos, if◌then◌else◌}
use Rattle.al_view.specs.declared.link.LinkKind.TheVariants as links
use Rattle.al_view.specs.declared.link.LinkSymbol.{LinkSymbol}
use Rattle.al_view.specs.declared.view.ObjectPlace.{ObjectPlace}
use Rattle.al_view_typed.specs.ExpressionTrees.ValueTree.{Checked}
use Rattle.al_view_typed.specs.ExpressionTrees.{ValueTree, CallTree}
use Rattle.al_view_typed.specs.ExpressionTrees.NameTree.{ObjectName}
use Rattle.al_instr.specs.declared.instruction.Instr.{Instr}
use Rattle.al_instr.specs.declared.instruction.Instr.TheVariants as instr
use Rattle.al_instr.specs.declared.numbers.Sized.TheVariants as sized
use Rattle.al_instr.specs.Codes.{size_of}
use Rattle.al_code.specs.declared.piece.Target.{Target}
use Rattle.al_code.specs.Pieces.{Piece, Whole, size}
use Rattle.al_code.specs.ExprPieces.{of_size, place_code}
use Rattle.al_code.specs.Templates.{checked_code}
use Rattle.al_link_image.specs.declared.parts.Region.{Region}
use Rattle.al_machine.specs.declared.regions.Entered.{Entered}
use Rattle.al_machine.specs.declared.code.Step.{Step}
use Rattle.al_machine.specs.declared.instruction.Instruction.TheVariants as kind
use Rattle.al_machine.specs.Operations.{operation_of, sized_operation}
use Rattle.al_machine.specs.Machine.{Machine}
use Rattle.al_machine.specs.Stack.{word_at}
use Rattle.al_machine.specs.Memory.{is_open}
use Rattle.al_machine.specs.Table.{on, exec}
use Rattle.al_code.specs.declared.piece.Target.TheVariants as target
use Rattle.al_code.specs.declared.routine.Routine.{Routine}
use Rattle.al_base.specs.declared.unit_key.UnitKey.{UnitKey}
use Rattle.al_code.specs.LineLaws.{TreesTellCode}
use Rattle.al_meaning.specs.States.{further, State, Outcome, Gives, Raises, GoesOn, Act, next, ◌>>=◌, ◌>>◌, give, told_at, at_line, Words, with_words, store, same_place}
use Rattle.al_meaning.specs.Expressions.{Calls, named, checked_value}
use Rattle.al_meaning.specs.Statements.{Flow, On, flow_on}
use Rattle.al_meaning_code.specs.Running.{Lines, at, Leads}
use Rattle.al_meaning_code.specs.Showing.{Pushed}
use Rattle.al_meaning_code.specs.Subset.{needs_value}
use Rattle.al_meaning_code.specs.Effects.{Runs}
use Rattle.al_meaning_code.proofs.Machines.{goes, size_cons, size-append}
use Rattle.al_meaning_code.proofs.Standing.{stands_front, stands_back}
use Rattle.al_meaning_code.proofs.Expressions.{Ends}
use Rattle.al_meaning_code.proofs.Values.{reaches_kept, place_ends}
use Rattle.al_meaning_code.proofs.Unmarked.{checked_unmarked}
use Rattle.al_meaning_code.proofs.Marked.{marked_front}
use Rattle.al_meaning_code.proofs.Doing.{Showing, Close, roomier, near_self, runs_after, then_runs, StandsHere, Ran, DoesAt, Does, does_at, assign_does, seq_does, nothing_does, marked_does, does_same}
use Rattle.std.specs.List.{flat_map}
use Rattle.al_view_typed.specs.DeclarationTrees.{DeclarationTree, DeclarationFormTree, Objects, Subprogram, Elaborated, SingleTask, SingleProtected}
use Rattle.al_code.specs.Declarations.{object_code, declaration_form_code, declaration_code, declarations_code}
use Rattle.al_code.specs.Marks.{declaration_has_code}
use Rattle.al_machine.specs.Memory.{zeroed}
use Rattle.al_meaning.specs.Declarations.{object_declared, objects_declared, declared, declarations}
use Rattle.al_meaning_code.specs.Subset.{AreVariables, IsInitial, IsInDeclaration, AreDeclared}
use Rattle.al_meaning_code.proofs.Effects.{clears}
use Rattle.al_meaning_code.proofs.Memories.{length-zeroed, zeroed_apart}
use Rattle.al_meaning_code.proofs.CallSteps.{zeroed_in}
use Rattle.al_meaning_code.proofs.Marked.{HasNoMark, no_mark-append, marked_beyond}
use Rattle.al_meaning_code.proofs.Unmarked.{place_unmarked}
use Rattle.std.proofs.lemmas.Bool.{cases_lt}

module _ (objects : List Region) (inside : List Entered) (code : List Step) (linked : LinkSymbol → Instr → Instr) (lines : Lines) (unit : UnitKey) (r : Routine) (calls : Calls) (floor small room : ℕ) (V : ObjectPlace → Type 0) (address : ObjectPlace → ℕ) (C : CallTree → Type 0)
    (below : (p : ObjectPlace) → V p → address p < floor) (opened_ : (p : ObjectPlace) → V p → is_open objects inside 0 (address p) 1 ≡ true) (linear : (p : ObjectPlace) (k : ℕ) → V p → V (further p k) → address (further p k) ≡ address p + k)
    (apart : (p q : ObjectPlace) → V p → V q → same_place p q ≡ false → address p ≢ address q) (alike : (p q : ObjectPlace) → V p → V q → same_place p q ≡ true → address p ≡ address q) (tell : TreesTellCode) (roomy : small ≤ room) where
  -- ---- objects

  zero_runs : (st : State) (exits : ℕ → ℕ) (home : ℕ) (line : UnitKey × ℕ) (p : ObjectPlace) (ends : Target → ℕ) (pc fuel : ℕ) (m q : Machine) → V p → Showing objects inside code linked lines unit r calls floor small room V address C below opened_ linear apart alike tell roomy st.words m → Pushed m q (pos (address p)) → StandsHere objects inside code linked lines unit r calls floor small room V address C below opened_ linear apart alike tell roomy ends pc (of_size sized.Zero 1) → Runs objects inside code lines linked r.depth floor room V address exits home line (at pc q) m (pc + size (of_size sized.Zero 1)) fuel (Gives On (record st { words = with_words p (pos 0 ∷ []) st.words }))
  unfolding exec operation_of sized_operation
  zero_runs st exits home line p ends pc fuel m q var s y stands =
      let i = instr.Sized sized.Zero 1 in
      let w = s.within in let ws = w.stack in let wb = w.memory in let wo = w.own in let wf = w.frame in let wl = w.below in let wr = w.room in
      let a = s.above in let b = below p var in
      let ty = y.top in let fy = y.first in let ry = y.frame in let ly = y.long in
      let effect = clears objects inside m q (address p) w y (omega arith) (opened_ p var) in
      let z = record q { memory = zeroed q.memory (address p) 1; top = m.top } in
      let len : pc + size_of i ≡ pc + size (of_size sized.Zero 1) = omega (arith, size_cons (Whole i) []) in
      let step = subst (λ (k : ℕ). Leads objects inside code (at pc q) (at k z)) len (goes objects inside code pc (pc + size_of i) (kind.Zero 1) q z stands.0 (ap on effect)) in
      let fits : address p + 1 ≤ length q.memory = omega arith in
      let total = length-zeroed q.memory (address p) 1 fits in
      let there : word_at z (address p) ≡ pos 0 = zeroed_in q.memory (address p) 1 (address p) fits (omega arith) (omega arith) in
      let other : (k : ℕ) → k < floor → address p ≢ k → word_at z k ≡ word_at m k = λ k h u. zeroed_apart q.memory (address p) 1 k fits (beside k (address p) u) ∙ y.kept k (omega arith) in
      let near : Close objects inside code linked lines unit r calls floor small room V address C below opened_ linear apart alike tell roomy m z = record { first = fy; frame = ry; top = refl; long = total ∙ ly; kept = λ k h u. other k h (u p var) } in
      let shown : Showing objects inside code linked lines unit r calls floor small room V address C below opened_ linear apart alike tell roomy (with_words p (pos 0 ∷ []) st.words) z = record {
        within = record { memory = omega arith; own = omega arith; frame = omega arith; below = omega arith; stack = omega arith; room = omega arith };
        above = a;
        lies = λ o h. reaches_kept objects inside code linked r.depth floor V address m z o near.first near.frame near.kept (s.lies o h);
        holds = λ o h. held z o h there other (same_place p o) refl;
      } in
      inl (z, step, near, shown)
    where
      beside : (k i : ℕ) → (i ≡ k → ⊥) → (k < i) ⊎ (i + 1 ≤ k)
      beside k i u = ⊎_elim (λ (h : k < i). inl h) (λ (h : i ≤ k). inr (let n : i ≢ k = u in omega arith)) (cases_lt k i)

      held : (z : Machine) (o : ObjectPlace) → V o → word_at z (address p) ≡ pos 0 → ((k : ℕ) → k < floor → address p ≢ k → word_at z k ≡ word_at m k) → (t : Bool) → same_place p o ≡ t → word_at z (address o) ≡ (if t then pos 0 else st.words o)
      held z o h there other true e = ap (λ (k : ℕ). word_at z k) (sym (alike p o var h e)) ∙ there
      held z o h there other false e = other (address o) (below o h) (apart p o var h e) ∙ s.holds o h

  two_value : (y : ValueTree) → 2 ≤ needs_value y
  two_value (Checked y b) = omega arith

  as_assigned : (p : ObjectPlace) (o : Outcome Words) → next o (λ vs. named calls (ObjectName p true) >>= (λ place. store place vs >> give On)) ≡ next (next o (λ vs. store p vs)) (λ x. give On)
  as_assigned p (Gives vs e) = refl
  as_assigned p (Raises e told z) = refl
  as_assigned p (GoesOn z) = refl

  object_does : (fuel line : ℕ) (x : Option ValueTree) (p : ObjectPlace) → V p → IsInitial V C small x → DoesAt objects inside code linked lines unit r calls floor small room V address C below opened_ linear apart alike tell roomy fuel line (object_code r.depth 1 x p) (object_declared calls unit 1 x p >> give On)
  object_does fuel line (Some x) p h fit = λ st ends pc m s stands marks.
      subst (λ (o : Outcome Flow). Ran objects inside code linked lines unit r calls floor small room V address C below opened_ linear apart alike tell roomy ends (unit, line) pc m (pc + size (object_code r.depth 1 (Some x) p)) fuel o) (as_assigned p (checked_value calls x st))
      (assign_does objects inside code linked lines unit r calls floor small room V address C below opened_ linear apart alike tell roomy fuel line (ObjectName p true) 1 x h refl fit.0 (roomier objects inside code linked lines unit r calls floor small room V address C below opened_ linear apart alike tell roomy (needs_value x) fit.1) (let v = roomier objects inside code linked lines unit r calls floor small room V address C below opened_ linear apart alike tell roomy (needs_value x) fit.1 in let two = two_value x in omega arith) st ends pc m s stands marks)
  object_does fuel line None p h fit = λ st ends pc m s stands marks.
      let c = place_code links.Data r.depth p in
      let zero_ = of_size sized.Zero 1 in
      let exits : ℕ → ℕ = λ i. ends (target.Loop i) in
      let sp = stands_front code linked ends pc c zero_ stands in
      let sz = stands_back code linked ends pc c zero_ stands in
      let total : (pc + size c) + size zero_ ≡ pc + size (c ++ zero_) = omega (arith, size-append c zero_) in
      go st exits (ends target.Routine) ends pc m s sz total (place_ends objects inside code linked r.depth floor V address below opened_ linear st.words ends p pc m h s sp)
    where
      go : (st : State) (exits : ℕ → ℕ) (home : ℕ) (ends : Target → ℕ) (pc : ℕ) (m : Machine) → Showing objects inside code linked lines unit r calls floor small room V address C below opened_ linear apart alike tell roomy st.words m → StandsHere objects inside code linked lines unit r calls floor small room V address C below opened_ linear apart alike tell roomy ends (pc + size (place_code links.Data r.depth p)) (of_size sized.Zero 1) → (pc + size (place_code links.Data r.depth p)) + size (of_size sized.Zero 1) ≡ pc + size (place_code links.Data r.depth p ++ of_size sized.Zero 1)
          → Ends objects inside code (at pc m) pc m (pc + size (place_code links.Data r.depth p)) 1 (Ok (pos (address p))) → Runs objects inside code lines linked r.depth floor room V address exits home (unit, line) (at pc m) m (pc + size (place_code links.Data r.depth p ++ of_size sized.Zero 1)) fuel (Gives On (record st { words = with_words p (pos 0 ∷ []) st.words }))
      go st exits home ends pc m s sz total (inl x) =
          let pc1 = pc + size (place_code links.Data r.depth p) in
          let o : Outcome Flow = Gives On (record st { words = with_words p (pos 0 ∷ []) st.words }) in
          let ran = zero_runs st exits home (unit, line) p ends pc1 fuel m x.0 h s x.2 sz in
          runs_after objects inside code linked lines unit r calls floor small room V address C below opened_ linear apart alike tell roomy exits home (unit, line) (at pc m) (at pc1 x.0) m m _ fuel fuel o (near_self objects inside code linked lines unit r calls floor small room V address C below opened_ linear apart alike tell roomy m) x.1 (omega arith)
          (subst (λ (k : ℕ). Runs objects inside code lines linked r.depth floor room V address exits home (unit, line) (at pc1 x.0) m k fuel o) total ran)
      go st exits home ends pc m s sz total (inr x) = let l = x.0 in let e = roomier objects inside code linked lines unit r calls floor small room V address C below opened_ linear apart alike tell roomy 1 fit in inr (omega arith, pc, pc + size (place_code links.Data r.depth p), x.1)

  object_unmarked : (x : Option ValueTree) (p : ObjectPlace) → IsInitial V C small x → HasNoMark (object_code r.depth 1 x p)
  object_unmarked (Some x) p fit = no_mark-append (checked_code r.depth x ++ place_code links.Data r.depth p) (of_size sized.Store 1) (no_mark-append (checked_code r.depth x) (place_code links.Data r.depth p) (checked_unmarked V r.depth x fit.0) (place_unmarked V r.depth p)) tt
  object_unmarked None p fit = no_mark-append (place_code links.Data r.depth p) (of_size sized.Zero 1) (place_unmarked V r.depth p) tt

  in_turn : (o : Outcome (Unit {0})) (g : Act (Unit {0})) → next (next o (λ x. give On)) (λ f. flow_on f (g >> give On)) ≡ next (next o (λ x. g)) (λ x. give On)
  in_turn (Gives x e) g = refl
  in_turn (Raises e told z) g = refl
  in_turn (GoesOn z) g = refl

  objects_do : (fuel line : ℕ) (x : Option ValueTree) (ps : List ObjectPlace) → AreVariables V C small ps → IsInitial V C small x → DoesAt objects inside code linked lines unit r calls floor small room V address C below opened_ linear apart alike tell roomy fuel line (flat_map (λ p. object_code r.depth 1 x p) ps) (objects_declared calls unit 1 x ps >> give On)
  objects_do fuel line x [] h fit = does_at objects inside code linked lines unit r calls floor small room V address C below opened_ linear apart alike tell roomy fuel line [] (give On) (nothing_does objects inside code linked lines unit r calls floor small room V address C below opened_ linear apart alike tell roomy fuel)
  objects_do fuel line x (p ∷ ps) h fit = λ st ends pc m s stands marks.
      let c = object_code r.depth 1 x p in
      let d = flat_map (λ q. object_code r.depth 1 x q) ps in
      let exits : ℕ → ℕ = λ i. ends (target.Loop i) in
      let total : (pc + size c) + size d ≡ pc + size (c ++ d) = omega (arith, size-append c d) in
      let first = object_does fuel line x p h.0 fit st ends pc m s (stands_front code linked ends pc c d stands) (marked_front lines unit line pc c d marks) in
      let sd = stands_back code linked ends pc c d stands in
      let md = marked_beyond lines unit line pc c d (object_unmarked x p fit) marks in
      subst (λ (o : Outcome Flow). Ran objects inside code linked lines unit r calls floor small room V address C below opened_ linear apart alike tell roomy ends (unit, line) pc m (pc + size (c ++ d)) fuel o) (in_turn (object_declared calls unit 1 x p st) (objects_declared calls unit 1 x ps))
      (then_runs objects inside code linked lines unit r calls floor small room V address C below opened_ linear apart alike tell roomy exits (ends target.Routine) (unit, line) (at pc m) m (pc + size c) (pc + size (c ++ d)) fuel (next (object_declared calls unit 1 x p st) (λ y. give On)) (objects_declared calls unit 1 x ps >> give On) first
      (λ e n z. subst (λ (k : ℕ). Ran objects inside code linked lines unit r calls floor small room V address C below opened_ linear apart alike tell roomy ends (unit, line) (pc + size c) n k fuel ((objects_declared calls unit 1 x ps >> give On) e)) total (objects_do fuel line x ps h.1 fit e ends (pc + size c) n z sd md)))

  -- ---- declarations

  form_declares : (fuel line : ℕ) (form : DeclarationFormTree) → IsInDeclaration V C small form → DoesAt objects inside code linked lines unit r calls floor small room V address C below opened_ linear apart alike tell roomy fuel line (declaration_form_code r.depth form) (declared calls unit form >> give On)
  form_declares fuel line (Objects objects_ words x) h =
      subst (λ (k : ℕ). DoesAt objects inside code linked lines unit r calls floor small room V address C below opened_ linear apart alike tell roomy fuel line (flat_map (λ p. object_code r.depth k x p) objects_) (objects_declared calls unit k x objects_ >> give On)) (sym h.1) (objects_do fuel line x objects_ h.0 h.2)
  form_declares fuel line (Subprogram flag) h = absurd h
  form_declares fuel line (Elaborated flag) h = absurd h
  form_declares fuel line (SingleTask symbol priority) h = absurd h
  form_declares fuel line (SingleProtected symbol values) h = absurd h

  told_first : (line : ℕ) (o : Outcome (Unit {0})) → told_at unit line (next o (λ x. give On)) ≡ next (told_at unit line o) (λ x. give On)
  told_first line (Gives x e) = refl
  told_first line (Raises e None z) = refl
  told_first line (Raises e (Some l) z) = refl
  told_first line (GoesOn z) = refl

  codeless : (form : DeclarationFormTree) → declaration_has_code form ≡ false → size (declaration_form_code r.depth form) ≡ 0
  codeless form e =
      let t = tell.declarations r.depth form in
      let none : nat_lt 0 (size (declaration_form_code r.depth form)) ≡ false = sym t ∙ e in
      grind (arith, nat_tests)

  pub declarations_do : (fuel : ℕ) (ds : List DeclarationTree) → AreDeclared V C small ds → Does objects inside code linked lines unit r calls floor small room V address C below opened_ linear apart alike tell roomy fuel (declarations_code r.depth ds) (declarations calls unit ds >> give On)
  declarations_do fuel [] h = nothing_does objects inside code linked lines unit r calls floor small room V address C below opened_ linear apart alike tell roomy fuel
  declarations_do fuel (d ∷ ds) h =
      let c = declaration_form_code r.depth d.form in
      let one_ = does_same objects inside code linked lines unit r calls floor small room V address C below opened_ linear apart alike tell roomy fuel (declaration_code r.depth d) (at_line unit d.line (declared calls unit d.form >> give On)) (at_line unit d.line (declared calls unit d.form) >> give On) (λ st. told_first d.line (declared calls unit d.form st))
      (marked_does objects inside code linked lines unit r calls floor small room V address C below opened_ linear apart alike tell roomy fuel (declaration_has_code d.form) d.line c (declared calls unit d.form >> give On) (codeless d.form) (form_declares fuel d.line d.form h.0)) in
      does_same objects inside code linked lines unit r calls floor small room V address C below opened_ linear apart alike tell roomy fuel (declaration_code r.depth d ++ declarations_code r.depth ds) ((at_line unit d.line (declared calls unit d.form) >> give On) >>= (λ x. flow_on x (declarations calls unit ds >> give On))) (declarations calls unit (d ∷ ds) >> give On)
      (λ st. in_turn (at_line unit d.line (declared calls unit d.form) st) (declarations calls unit ds))
      (seq_does objects inside code linked lines unit r calls floor small room V address C below opened_ linear apart alike tell roomy fuel (declaration_code r.depth d) (declarations_code r.depth ds) (at_line unit d.line (declared calls unit d.form) >> give On) (declarations calls unit ds >> give On) one_ (declarations_do fuel ds h.1))

  pub goes_on_with : (o : Outcome (Unit {0})) (f : Act Flow) → next (next o (λ x. give On)) (λ x. flow_on x f) ≡ next o (λ x. f)
  goes_on_with (Gives x e) f = refl
  goes_on_with (Raises e told z) f = refl
  goes_on_with (GoesOn z) f = refl

  pub block_does : (fuel : ℕ) (ds : List DeclarationTree) (c : List Piece) (f : Act Flow) → AreDeclared V C small ds → Does objects inside code linked lines unit r calls floor small room V address C below opened_ linear apart alike tell roomy fuel c f → Does objects inside code linked lines unit r calls floor small room V address C below opened_ linear apart alike tell roomy fuel (declarations_code r.depth ds ++ c) (declarations calls unit ds >> f)
  block_does fuel ds c f h d =
      does_same objects inside code linked lines unit r calls floor small room V address C below opened_ linear apart alike tell roomy fuel (declarations_code r.depth ds ++ c) ((declarations calls unit ds >> give On) >>= (λ x. flow_on x f)) (declarations calls unit ds >> f) (λ st. goes_on_with (declarations calls unit ds st) f)
      (seq_does objects inside code linked lines unit r calls floor small room V address C below opened_ linear apart alike tell roomy fuel (declarations_code r.depth ds) c (declarations calls unit ds >> give On) f (declarations_do fuel ds h) d)
