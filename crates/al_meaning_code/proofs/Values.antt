-- The values of scalar expressions over the variables of a program.
use Rattle.std.proofs.Common.{◌≡◌, ◌≢◌, ℕ, zero, suc, ◌+◌, ◌-◌, ◌<◌, ◌≤◌, max, ℤ, List, [], ◌∷◌, ◌++◌, Bool, true, false, ◌&&◌, Option, Some, None, Ok, Err, length, refl, sym, ◌∙◌, ap, subst, arith, inl, inr, ◌⊎◌, append_assoc}
use Rattle.std.proofs.lemmas.Bool.Decides.{nat_tests}
use Rattle.std.proofs.lemmas.Int.{ints}
use Rattle.std.specs.Prelude.{pos, negsuc, option_and_then, ◌+ℤ◌, int_le, if◌then◌else◌, ◌-ℤ◌, ◌*ℤ◌, ◌*◌, unsigned_abs, nat_lt}
use Rattle.al_view.specs.ViewUses.{link}
use Rattle.al_view.specs.declared.link.LinkKind.TheVariants as links
use Rattle.al_view.specs.declared.link.LinkSymbol.{LinkSymbol}
use Rattle.al_view.specs.declared.types.Bounds.{Bounds}
use Rattle.al_view.specs.declared.types.StaticValue.{StaticValue}
use Rattle.al_view.specs.declared.view.ObjectPlace.{ObjectPlace}
use Rattle.al_view.specs.declared.view.ObjectPlace.TheVariants as places
use Rattle.al_view_typed.specs.declared.label.BinaryOperator.{BinaryOperator}
use Rattle.al_view_typed.specs.declared.label.BinaryOperator.TheVariants as source
use Rattle.al_view_typed.specs.declared.label.Conversion.{Conversion}
use Rattle.al_view_typed.specs.declared.label.Conversion.TheVariants as conversions
use Rattle.al_view_typed.specs.declared.label.ShortCircuit.{ShortCircuit}
use Rattle.al_view_typed.specs.declared.label.ShortCircuit.TheVariants as short
use Rattle.al_view_typed.specs.ExpressionTrees.{TypedTree, FormTree, NameTree, ValueTree}
use Rattle.al_view_typed.specs.ExpressionTrees.TypedTree.{Labelled}
use Rattle.al_view_typed.specs.ExpressionTrees.FormTree.{LiteralForm, NamedForm, UnaryForm, BinaryForm, ShortCircuitForm, MembershipForm, ConvertedForm, AggregateForm, OthersForm, CallForm, ClockForm}
use Rattle.al_view_typed.specs.ExpressionTrees.NameTree.{ObjectName, ComponentName, IndexedName}
use Rattle.al_view_typed.specs.ExpressionTrees.ValueTree.{Checked}
use Rattle.al_instr.specs.declared.instruction.Instr.{Instr}
use Rattle.al_instr.specs.declared.instruction.Instr.TheVariants as instr
use Rattle.al_instr.specs.declared.numbers.Plain.{Plain as PlainOne}
use Rattle.al_instr.specs.declared.numbers.Plain.TheVariants as plain
use Rattle.al_instr.specs.declared.numbers.Sized.TheVariants as sized
use Rattle.al_instr.specs.Codes.{encoded, size_of}
use Rattle.al_code.specs.declared.piece.JumpCondition.TheVariants as when
use Rattle.al_code.specs.declared.piece.Target.{Target}
use Rattle.al_code.specs.Pieces.{Piece, Whole, Using, size}
use Rattle.al_code.specs.ExprPieces.{one, of_size, number, check_code, place_code}
use Rattle.al_code.specs.Templates.{index_code, value_of, form_code, address_of, checked_code, converted_code, unary_code, binary_code, step_code, short_code, static_or, words_of}
use Rattle.al_link_image.specs.declared.parts.Region.{Region}
use Rattle.al_machine.specs.declared.regions.Entered.{Entered}
use Rattle.al_machine.specs.declared.code.Step.{Step}
use Rattle.al_machine.specs.declared.instruction.Exception.TheVariants as exception
use Rattle.al_machine.specs.declared.instruction.Trap.TheVariants.{Raised}
use Rattle.al_machine.specs.declared.instruction.Instruction.TheVariants as kind
use Rattle.al_machine.specs.declared.operation.Operation.TheVariants as operation
use Rattle.al_machine.specs.Operations.{operation_of, sized_operation}
use Rattle.al_machine.specs.Code.{fetch}
use Rattle.al_machine.specs.Machine.{Machine, IsWithin}
use Rattle.al_machine.specs.Stack.{word_at, put, pushed}
use Rattle.al_machine.specs.Memory.{is_open, put_address}
use Rattle.al_machine.specs.Bursts.{At}
use Rattle.al_machine.specs.Frames.{followed, own_place, framed, push_address}
use Rattle.al_machine.specs.Table.{on, exec}
use Rattle.al_meaning.specs.Scalars.{ConstraintError, ProgramError, Meaningless, Valued, within, truth_of, with_truth, applied, applied_to, stepped}
use Rattle.al_meaning_code.proofs.Plain.{Placed, then_place, in_array, element, indexed, word_in, placed, both_true, placed_is, variable_in, then_value, Variables, or_static, decided, value, value_of_form, converted, checked_value}
use Rattle.al_meaning_code.proofs.Machines.{leads_on, stays, traps_after, goes, fails, size_cons, size-append}
use Rattle.al_meaning_code.specs.Running.{at, Leads}
use Rattle.al_meaning_code.proofs.Effects.{offsets, indexes, put_pushed, loads}
use Rattle.al_meaning_code.specs.Showing.{Pushed}
use Rattle.al_meaning_code.proofs.InImages.{size_some}
use Rattle.al_meaning_code.proofs.Standing.{stands_front, stands_back}
use Rattle.al_meaning_code.specs.Standing.{Stands}
use Rattle.al_meaning_code.proofs.Operators.{plain_for}
use Rattle.al_meaning_code.specs.Subset.{IsScalar}
use Rattle.al_code.specs.declared.piece.Construct.TheVariants as construct
use Rattle.al_code.specs.declared.piece.Target.TheVariants as target
use Rattle.al_code.specs.Pieces.{Leaving, closed}
use Rattle.al_code.specs.ExprPieces.{guarded, unless_zero, join}
use Rattle.al_meaning_code.proofs.Machines.{jumps, jumps_at_zero, passes_at_one, jump_size}
use Rattle.al_meaning_code.proofs.Standing.{opened, size-closed, inner}
use Rattle.al_meaning_code.proofs.Operators.{two_truths}
use Rattle.al_meaning_code.proofs.Expressions.{Ends, ends_after, then_ends, push_ends, operator_ends, unary_ends, check_ends, short_after, short_any, fails_on}
use Rattle.al_meaning_code.specs.Subset.{needs, needs_of, needs_form, needs_value}
use Rattle.al_meaning_code.specs.Subset.{needs_name, IsName, OrStatic, IsIn, IsInForm, IsInValue}
use Rattle.al_meaning.specs.States.{further}
use Rattle.al_meaning_code.specs.Showing.{Linked, Reaches, Shows}

frame_some : (d w : ℕ) → 0 < size_of (instr.Frame d w)
unfolding encoded
frame_some d w = omega arith

global_some : (w : ℕ) → 0 < size_of (instr.Global w)
unfolding encoded
global_some w = omega arith

const_some : (z : ℤ) → 0 < size_of (instr.Const z)
unfolding encoded
const_some z = omega arith

-- a machine that is as another below the same top
pub record Same (m n : Machine) : Type 0 where
  pub first : n.first ≡ m.first
  pub frame : n.frame ≡ m.frame
  pub top : n.top ≡ m.top
  pub long : length n.memory ≡ length m.memory
  pub kept : (k : ℕ) → k < m.top → word_at n k ≡ word_at m k
  pub within : IsWithin n

-- the word on top is taken
pub popped : (m p : Machine) (v : ℤ) → IsWithin m → Pushed m p v → Same m (record p { top = p.top - 1 })
popped m p v w x =
    let t = x.top in let f = x.frame in let i = x.first in let l = x.long in let pw = x.within in
    let a = pw.memory in let b = pw.own in let c = pw.frame in let d = pw.below in let s = w.stack in let r = w.room in
    record {
      first = x.first;
      frame = x.frame;
      top = omega arith;
      long = x.long;
      kept = x.kept;
      within = record { memory = a; own = b; frame = c; below = d; stack = omega arith; room = omega arith };
    }

pub pushed_same : (m n p : Machine) (v : ℤ) → Same m n → Pushed n p v → Pushed m p v
pushed_same m n p v s x =
    let t = s.top in let u = x.top in
    record {
      first = x.first ∙ s.first;
      frame = x.frame ∙ s.frame;
      top = omega arith;
      long = x.long ∙ s.long;
      kept = λ k h. x.kept k (omega arith) ∙ s.kept k h;
      word = ap (λ (k : ℕ). word_at p k) (sym s.top) ∙ x.word;
      within = x.within;
    }

own_same : (m n : Machine) → n.first ≡ m.first → (z : ℤ) → own_place n z ≡ own_place m z
own_same m n e (pos p) = rw e refl
own_same m n e (negsuc p) = refl

module _ (objects : List Region) (inside : List Entered) (code : List Step) (linked : LinkSymbol → Instr → Instr) (depth floor : ℕ) (V : ObjectPlace → Type 0) (address : ObjectPlace → ℕ) where
  ends_same : (a : At) (m n : Machine) (from to need : ℕ) (o : Valued) → Same m n → Ends objects inside code a from n to need o → Ends objects inside code a from m to need o
  ends_same a m n from to need (Ok v) s (inl x) = inl (x.0, x.1, pushed_same m n x.0 v s x.2)
  ends_same a m n from to need (Ok v) s (inr x) = let f = s.first in let t = s.top in let l = x.0 in inr (omega arith, x.1)
  ends_same a m n from to need (Err ConstraintError) s (inl x) = inl x
  ends_same a m n from to need (Err ConstraintError) s (inr x) = let f = s.first in let t = s.top in let l = x.0 in inr (omega arith, x.1)
  ends_same a m n from to need (Err ProgramError) s (inl x) = inl x
  ends_same a m n from to need (Err ProgramError) s (inr x) = let f = s.first in let t = s.top in let l = x.0 in inr (omega arith, x.1)
  ends_same a m n from to need (Err Meaningless) s x = tt

  -- ---- variables

  followed_is : (n : ℕ) (m : Machine) (f g : ℕ) → Linked linked depth floor V address n m f g → followed n m f ≡ Some g
  followed_is zero m f g l = ap Some l
  followed_is (suc n) m f g l = ap (λ (o : Option ℕ). option_and_then (λ h. followed n m h) o) l.1 ∙ followed_is n m l.0 g l.4

  linked_kept : (n : ℕ) (m p : Machine) (f g : ℕ) → p.first ≡ m.first → ((k : ℕ) → k < floor → ((q : ObjectPlace) → V q → address q ≢ k) → word_at p k ≡ word_at m k) → Linked linked depth floor V address n m f g → Linked linked depth floor V address n p f g
  linked_kept zero m p f g first kept l = l
  linked_kept (suc n) m p f g first kept l = (l.0, own_same m p first (word_at p f) ∙ ap (own_place m) (kept f l.2 l.3) ∙ l.1, l.2, l.3, linked_kept n m p l.0 g first kept l.4)

  pub reaches_kept : (m n : Machine) (p : ObjectPlace) → n.first ≡ m.first → n.frame ≡ m.frame → ((k : ℕ) → k < floor → ((q : ObjectPlace) → V q → address q ≢ k) → word_at n k ≡ word_at m k) → Reaches linked depth floor V address m p → Reaches linked depth floor V address n p
  reaches_kept m n (places.Frame d w) first frame kept r = (r.0, subst (λ (f : ℕ). Linked linked depth floor V address (depth - d) n f r.0) (sym frame) (linked_kept (depth - d) m n m.frame r.0 first kept r.1), r.2)
  reaches_kept m n (places.Static s w) first frame kept r = r

  module _ (below : (p : ObjectPlace) → V p → address p < floor) (opened_ : (p : ObjectPlace) → V p → is_open objects inside 0 (address p) 1 ≡ true) (linear : (p : ObjectPlace) (k : ℕ) → V p → V (further p k) → address (further p k) ≡ address p + k) where
    pub pushed_shows : (env : Variables) (m n : Machine) (v : ℤ) → Shows linked depth floor V address env m → Pushed m n v → Shows linked depth floor V address env n
    pushed_shows env m n v s x =
        let a = s.above in let t = x.top in
        let kept : (k : ℕ) → k < floor → word_at n k ≡ word_at m k = λ k h. x.kept k (omega arith) in
        record { within = x.within; above = omega arith; lies = λ p h. reaches_kept m n p x.first x.frame (λ k l a_. kept k l) (s.lies p h); holds = λ p h. kept (address p) (below p h) ∙ s.holds p h }

    pub same_shows : (env : Variables) (m n : Machine) → Shows linked depth floor V address env m → Same m n → Shows linked depth floor V address env n
    same_shows env m n s x =
        let a = s.above in let t = x.top in
        let kept : (k : ℕ) → k < floor → word_at n k ≡ word_at m k = λ k h. x.kept k (omega arith) in
        record { within = x.within; above = omega arith; lies = λ p h. reaches_kept m n p x.first x.frame (λ k l a_. kept k l) (s.lies p h); holds = λ p h. kept (address p) (below p h) ∙ s.holds p h }

    -- the address of a variable
    pub place_ends : (env : Variables) (ends : Target → ℕ) (p : ObjectPlace) (pc : ℕ) (m : Machine) → V p → Shows linked depth floor V address env m → Stands code linked ends pc (place_code links.Data depth p) → Ends objects inside code (at pc m) pc m (pc + size (place_code links.Data depth p)) 1 (Ok (pos (address p)))
    unfolding exec operation_of framed
    place_ends env ends (places.Frame d w) pc m var s stands =
        let r = s.lies (places.Frame d w) var in
        let some = frame_some (depth - d) w in
        let more : pc + size_of (instr.Frame (depth - d) w) ≡ pc + size (Whole (instr.Frame (depth - d) w) ∷ []) = omega (arith, size_cons (Whole (instr.Frame (depth - d) w)) []) in
        push_ends objects inside code (kind.Frame (depth - d) w) pc _ _ 1 m (pos (address (places.Frame d w))) stands.0 more (omega (arith, more))
        (ap (λ (o : Option ℕ). on (push_address w m o)) (followed_is (depth - d) m m.frame r.0 r.1) ∙ ap (λ (k : ℕ). on (pushed (pos k) m)) r.2) s.within (omega arith)
    place_ends env ends (places.Static y w) pc m var s stands =
        let r = s.lies (places.Static y w) var in
        let some = global_some w in
        let there = subst (λ (i : Instr). fetch code pc ≡ Some (operation_of i, pc + size_of i)) r stands.0 in
        let same = ap size_of (sym r) ∙ stands.1 in
        let more : pc + size_of (instr.Global (address (places.Static y w))) ≡ pc + size (Using (instr.Global w) (link links.Data y) ∷ []) = omega (arith, same, size_cons (Using (instr.Global w) (link links.Data y)) []) in
        push_ends objects inside code (kind.Global (address (places.Static y w))) pc _ _ 1 m (pos (address (places.Static y w))) there more (omega (arith, more, same)) refl s.within (omega arith)

    -- ---- addresses of components

    abbrev pub address_value : Placed → Valued
    address_value (Ok p) = Ok (pos (address p))
    address_value (Err f) = Err f

    -- addresses are small
    reach : (env : Variables) (m : Machine) (p : ObjectPlace) → Shows linked depth floor V address env m → V p → address p ≤ 281474976710656
    reach env m p s h = let b = below p h in let a = s.above in let w = s.within in let wm = w.memory in let wo = w.own in let wr = w.room in omega arith

    component_ends : (env : Variables) (ends : Target → ℕ) (c : List Piece) (offset_ pc need : ℕ) (m : Machine) (o : Placed) → Shows linked depth floor V address env m → ((q : ObjectPlace) → o ≡ Ok q → V q × V (further q offset_)) → Stands code linked ends pc (c ++ of_size sized.Field offset_) → Ends objects inside code (at pc m) pc m (pc + size c) need (address_value o)
        → Ends objects inside code (at pc m) pc m (pc + size (c ++ of_size sized.Field offset_)) need (address_value (then_place o (λ q. Ok (further q offset_))))
    unfolding exec operation_of sized_operation
    component_ends env ends c offset_ pc need m (Ok q) s h stands (inl x) =
        let i = instr.Sized sized.Field offset_ in
        let total : (pc + size c) + size_of i ≡ pc + size (c ++ Whole i ∷ []) = omega (arith, size-append c (Whole i ∷ []), size_cons (Whole i) []) in
        let here = stands_back code linked ends pc c (Whole i ∷ []) stands in
        let n = x.0 in let push = x.2 in let v = h q refl in
        let sum = linear q offset_ v.0 v.1 in
        let b = reach env m (further q offset_) s v.1 in
        let u = push.within in let ur = u.room in let pt = push.top in let pf = push.first in
        let fits : address q + offset_ ≤ 281474976710656 = omega arith in
        let done = put m.top n (pos (address q + offset_)) in
        let step = goes objects inside code (pc + size c) ((pc + size c) + size_of i) (kind.Field offset_) n done here.0 (ap on (offsets objects inside m n (address q) offset_ s.within push fits)) in
        let step' = subst (λ (k : ℕ). Leads objects inside code (at (pc + size c) n) (at k done)) total step in
        let pushed_ = put_pushed m n (pos (address q + offset_)) s.within push.within push.first push.frame push.long (omega arith) (λ k l. push.kept k l) in
        inl (done, leads_on objects inside code (at pc m) (at (pc + size c) n) _ x.1 step', subst (λ (k : ℕ). Pushed m done (pos k)) (sym sum) pushed_)
    component_ends env ends c offset_ pc need m (Ok q) s h stands (inr x) = inr (short_after objects inside code (at pc m) (at pc m) m m pc (pc + size c) pc (pc + size (c ++ of_size sized.Field offset_)) need need refl (omega arith) (omega arith) (omega (arith, size-append c (of_size sized.Field offset_))) (stays objects inside code (at pc m)) x)
    component_ends env ends c offset_ pc need m (Err f) s h stands x = fails_on objects inside code (at pc m) (at pc m) m m pc (pc + size c) pc (pc + size (c ++ of_size sized.Field offset_)) need need f refl (omega arith) (omega arith) (omega (arith, size-append c (of_size sized.Field offset_))) (stays objects inside code (at pc m)) x

    nonnegative : (low i : ℤ) → int_le low i ≡ true → (i -ℤ low) ≡ pos (unsigned_abs (i -ℤ low))
    nonnegative low i e = go (i -ℤ low) refl
      where
        go : (d : ℤ) → (i -ℤ low) ≡ d → d ≡ pos (unsigned_abs d)
        go (pos n) is = refl
        go (negsuc n) is = absurd (let l : ⊥ = grind (arith, ints) in l)

    scaled : (low i : ℤ) (place words : ℕ) → int_le low i ≡ true → pos place +ℤ ((i -ℤ low) *ℤ pos words) ≡ pos (place + unsigned_abs (i -ℤ low) * words)
    scaled low i place words e = ap (λ (d : ℤ). pos place +ℤ (d *ℤ pos words)) (nonnegative low i e) ∙ refl

    -- an index that is within its bounds, or Constraint_Error
    index_ends : (env : Variables) (ends : Target → ℕ) (b : Bounds) (words pc need : ℕ) (m n p : Machine) (q : ObjectPlace) (i : ℤ) → Shows linked depth floor V address env m → V q → (int_le b.low i ≡ true → int_le i b.high ≡ true → V (element b words q i)) → Pushed m n (pos (address q)) → Pushed n p i → Stands code linked ends pc (index_code b words)
        → Ends objects inside code (at pc p) pc m (pc + size (index_code b words)) need (address_value (in_array (int_le b.low i && int_le i b.high) (element b words q i)))
    unfolding exec operation_of
    index_ends env ends b words pc need m n p q i s v h x y stands = go (int_le b.low i && int_le i b.high) refl
      where
        ins : Instr
        ins = instr.Index b.low b.high words

        k : ℕ
        k = unsigned_abs (i -ℤ b.low) * words

        len : pc + size_of ins ≡ pc + size (Whole ins ∷ [])
        len = omega (arith, size_cons (Whole ins) [])

        less : pc < pc + size (Whole ins ∷ [])
        less = let some = size_some ins in omega (arith, size_cons (Whole ins) [])

        effect : (t : Bool) → (int_le b.low i && int_le i b.high) ≡ t → exec objects inside (pc + size_of ins) (kind.Index b.low b.high words) p ≡ on (if t then put_address m.top p (pos (address q) +ℤ ((i -ℤ b.low) *ℤ pos words)) else Err (Raised exception.Constraint))
        effect t e = ap on (indexes objects inside m b.low b.high words n p (address q) i s.within x y ∙ ap (λ (z : Bool). if z then put_address m.top p (pos (address q) +ℤ ((i -ℤ b.low) *ℤ pos words)) else Err (Raised exception.Constraint)) e)

        go : (t : Bool) → (int_le b.low i && int_le i b.high) ≡ t → Ends objects inside code (at pc p) pc m (pc + size (Whole ins ∷ [])) need (address_value (in_array t (element b words q i)))
        go false e = inl (fails objects inside code pc (pc + size_of ins) (pc + size (Whole ins ∷ [])) (kind.Index b.low b.high words) p exception.Constraint stands.0 less (effect false e))
        go true e =
            let both_ = both_true (int_le b.low i) (int_le i b.high) e in
            let w = h both_.0 both_.1 in
            let sum = linear q k v w in
            let r = reach env m (element b words q i) s w in
            let is : nat_lt (address q + k) 9223372036854775808 ≡ true = grind (arith, nat_tests) in
            let done = put m.top p (pos (address q + k)) in
            let put_is : put_address m.top p (pos (address q) +ℤ ((i -ℤ b.low) *ℤ pos words)) ≡ Ok done = ap (λ (z : ℤ). put_address m.top p z) (scaled b.low i (address q) words both_.0) ∙ (rw is refl) in
            let step = goes objects inside code pc (pc + size_of ins) (kind.Index b.low b.high words) p done stands.0 (effect true e ∙ ap on put_is) in
            let step' = subst (λ (j : ℕ). Leads objects inside code (at pc p) (at j done)) len step in
            let fx = x.first in let fy = y.first in let tx = x.top in let ty = y.top in let py = y.within in let pr = py.room in
            let pushed_ = put_pushed m p (pos (address q + k)) s.within y.within (fy ∙ fx) (y.frame ∙ x.frame) (y.long ∙ x.long) (omega arith) (λ j l. y.kept j (omega arith) ∙ x.kept j l) in
            inl (done, step', subst (λ (j : ℕ). Pushed m done (pos j)) (sym sum) pushed_)

    index_value : (b : Bounds) (words : ℕ) (q : ObjectPlace) (x : Valued) → then_value x (λ i. address_value (in_array (int_le b.low i && int_le i b.high) (element b words q i))) ≡ address_value (indexed b words q x)
    index_value b words q (Ok i) = refl
    index_value b words q (Err f) = refl

    -- the address of an array, the index, the address of the component
    indexed_ends : (env : Variables) (ends : Target → ℕ) (ca cv : List Piece) (b : Bounds) (words pc na nv : ℕ) (m : Machine) (o : Placed) (x : Valued) → Shows linked depth floor V address env m → ((q : ObjectPlace) → o ≡ Ok q → V q × ((i : ℤ) → int_le b.low i ≡ true → int_le i b.high ≡ true → V (element b words q i)))
        → Stands code linked ends pc ((ca ++ cv) ++ index_code b words) → Ends objects inside code (at pc m) pc m (pc + size ca) na (address_value o) → ((n : Machine) (a : ℤ) → Pushed m n a → Ends objects inside code (at (pc + size ca) n) (pc + size ca) n ((pc + size ca) + size cv) nv x)
        → Ends objects inside code (at pc m) pc m (pc + size ((ca ++ cv) ++ index_code b words)) (max na (1 + nv)) (address_value (then_place o (λ q. indexed b words q x)))
    indexed_ends env ends ca cv b words pc na nv m (Ok q) x s h stands (inl z) run =
        let n = z.0 in let push = z.2 in
        let v = h q refl in
        let mid = pc + size ca in
        let mid2 = mid + size cv in
        let to = pc + size ((ca ++ cv) ++ index_code b words) in
        let same : pc + size (ca ++ cv) ≡ mid2 = omega (arith, size-append ca cv) in
        let si = subst (λ (k : ℕ). Stands code linked ends k (index_code b words)) same (stands_back code linked ends pc (ca ++ cv) (index_code b words) stands) in
        let total : mid2 + size (index_code b words) ≡ to = omega (arith, same, size-append (ca ++ cv) (index_code b words)) in
        let t = push.top in
        let inner_ = then_ends objects inside code (at mid n) n m mid mid2 mid to nv (max na (1 + nv)) x (λ i. address_value (in_array (int_le b.low i && int_le i b.high) (element b words q i))) push.first (omega arith) (omega arith) (omega arith) (omega (arith, total)) (run n (pos (address q)) push)
        (λ i p y. subst (λ (k : ℕ). Ends objects inside code (at mid2 p) mid2 m k (max na (1 + nv)) (address_value (in_array (int_le b.low i && int_le i b.high) (element b words q i)))) total (index_ends env ends b words mid2 (max na (1 + nv)) m n p q i s v.0 (v.1 i) push y si)) in
        subst (λ (k : Valued). Ends objects inside code (at pc m) pc m to (max na (1 + nv)) k) (index_value b words q x)
        (ends_after objects inside code (at pc m) (at mid n) m mid pc to (max na (1 + nv)) (then_value x (λ i. address_value (in_array (int_le b.low i && int_le i b.high) (element b words q i)))) (omega arith) z.1 inner_)
    indexed_ends env ends ca cv b words pc na nv m (Ok q) x s h stands (inr z) run =
        let total : (pc + size ca) + size cv + size (index_code b words) ≡ pc + size ((ca ++ cv) ++ index_code b words) = omega (arith, size-append (ca ++ cv) (index_code b words), size-append ca cv) in
        short_any objects inside code (at pc m) m pc (pc + size ((ca ++ cv) ++ index_code b words)) (max na (1 + nv)) (address_value (indexed b words q x)) (short_after objects inside code (at pc m) (at pc m) m m pc (pc + size ca) pc (pc + size ((ca ++ cv) ++ index_code b words)) na (max na (1 + nv)) refl (omega arith) (omega arith) (omega (arith, total)) (stays objects inside code (at pc m)) z)
    indexed_ends env ends ca cv b words pc na nv m (Err f) x s h stands z run =
        let total : (pc + size ca) + size cv + size (index_code b words) ≡ pc + size ((ca ++ cv) ++ index_code b words) = omega (arith, size-append (ca ++ cv) (index_code b words), size-append ca cv) in
        fails_on objects inside code (at pc m) (at pc m) m m pc (pc + size ca) pc (pc + size ((ca ++ cv) ++ index_code b words)) na (max na (1 + nv)) f refl (omega arith) (omega arith) (omega (arith, total)) (stays objects inside code (at pc m)) z

    -- the word at an address
    load_ends : (env : Variables) (ends : Target → ℕ) (c : List Piece) (pc need : ℕ) (m : Machine) (o : Placed) → Shows linked depth floor V address env m → ((q : ObjectPlace) → o ≡ Ok q → V q) → Stands code linked ends pc (c ++ of_size sized.Load 1) → Ends objects inside code (at pc m) pc m (pc + size c) need (address_value o)
        → Ends objects inside code (at pc m) pc m (pc + size (c ++ of_size sized.Load 1)) need (word_in env o)
    unfolding exec operation_of sized_operation
    load_ends env ends c pc need m (Ok p) s h stands (inl x) =
        let i = instr.Sized sized.Load 1 in
        let total : (pc + size c) + size_of i ≡ pc + size (c ++ Whole i ∷ []) = omega (arith, size-append c (Whole i ∷ []), size_cons (Whole i) []) in
        let here = stands_back code linked ends pc c (Whole i ∷ []) stands in
        let var = h p refl in
        let n = x.0 in let push = x.2 in
        let w = push.within in let wr = w.room in let t = push.top in let f = push.first in let a = s.above in let b = below p var in
        let effect = loads objects inside m n (address p) s.within push (omega arith) (omega arith) (opened_ p var) in
        let done = put m.top n (word_at m (address p)) in
        let step = goes objects inside code (pc + size c) ((pc + size c) + size_of i) (kind.Load 1) n done here.0 (ap on effect) in
        let step' = subst (λ (q : ℕ). Leads objects inside code (at (pc + size c) n) (at q done)) total step in
        let pushed_ = put_pushed m n (word_at m (address p)) s.within w push.first push.frame push.long (omega arith) (λ k l. push.kept k l) in
        inl (done, leads_on objects inside code (at pc m) (at (pc + size c) n) _ x.1 step', subst (λ (v : ℤ). Pushed m done v) (s.holds p var) pushed_)
    load_ends env ends c pc need m (Ok p) s h stands (inr x) = inr (short_after objects inside code (at pc m) (at pc m) m m pc (pc + size c) pc (pc + size (c ++ of_size sized.Load 1)) need need refl (omega arith) (omega arith) (omega (arith, size-append c (of_size sized.Load 1))) (stays objects inside code (at pc m)) x)
    load_ends env ends c pc need m (Err f) s h stands x = fails_on objects inside code (at pc m) (at pc m) m m pc (pc + size c) pc (pc + size (c ++ of_size sized.Load 1)) need need f refl (omega arith) (omega arith) (omega (arith, size-append c (of_size sized.Load 1))) (stays objects inside code (at pc m)) x

    -- a number that is known
    pub number_ends : (env : Variables) (ends : Target → ℕ) (z : ℤ) (pc need : ℕ) (m : Machine) → IsWithin m → 1 ≤ need → Stands code linked ends pc (number z) → Ends objects inside code (at pc m) pc m (pc + size (number z)) need (Ok z)
    unfolding exec operation_of
    number_ends env ends z pc need m w some stands =
        let less = const_some z in
        let more : pc + size_of (instr.Const z) ≡ pc + size (number z) = omega (arith, size_cons (Whole (instr.Const z)) []) in
        push_ends objects inside code (kind.Const z) pc _ _ need m z stands.0 more (omega (arith, more)) refl w some

    -- a step to the value after or before it
    step_by : (o : BinaryOperator) (p : PlainOne) → (ends : Target → ℕ) (pc need : ℕ) (m n : Machine) (a : ℤ) → IsScalar o → IsWithin m → Pushed m n a → 2 ≤ need → plain_for o ≡ p → binary_code o 1 ≡ Whole (instr.Plain p) ∷ [] → Stands code linked ends pc (number (pos 1) ++ one p) → Ends objects inside code (at pc n) pc m (pc + size (number (pos 1) ++ one p)) need (applied o a (pos 1))
    step_by o p ends pc need m n a scalar w x two is code_is stands =
        let t = x.top in let f = x.first in
        let total : (pc + size (number (pos 1))) + size (one p) ≡ pc + size (number (pos 1) ++ one p) = omega (arith, size-append (number (pos 1)) (one p)) in
        let first_part = number_ends (λ q. pos 0) ends (pos 1) pc 1 n x.within (omega arith) (stands_front code linked ends pc (number (pos 1)) (one p) stands) in
        let after = stands_back code linked ends pc (number (pos 1)) (one p) stands in
        let more = then_ends objects inside code (at pc n) n m pc (pc + size (number (pos 1))) pc (pc + size (number (pos 1) ++ one p)) 1 need (Ok (pos 1)) (λ b. applied o a b) f (omega arith) (omega arith) (omega arith) (omega (arith, total)) first_part
        (λ b q y. operator_ends objects inside code o 1 (pc + size (number (pos 1))) _ need linked ends m n q a b scalar w x y (subst (Stands code linked ends (pc + size (number (pos 1)))) (sym code_is) after) (ap (λ (c : List Piece). (pc + size (number (pos 1))) + size c) code_is ∙ total)) in
        more

    pub step_ends : (c : Conversion) (ends : Target → ℕ) (pc need : ℕ) (m n : Machine) (a : ℤ) → IsWithin m → Pushed m n a → 2 ≤ need → Stands code linked ends pc (step_code c) → Ends objects inside code (at pc n) pc m (pc + size (step_code c)) need (stepped c a)
    unfolding step_code stepped applied
    step_ends conversions.Succ ends pc need m n a w x two s = step_by plus plain.Add ends pc need m n a tt w x two refl refl s
      where
        plus : BinaryOperator
        plus = source.Plus
    step_ends conversions.Pred ends pc need m n a w x two s = step_by minus plain.Subtract ends pc need m n a tt w x two refl refl s
      where
        minus : BinaryOperator
        minus = source.Minus
    step_ends conversions.ToType ends pc need m n a w x two s = let same : pc ≡ pc + size [] = omega arith in inl (n, subst (λ (q : ℕ). Leads objects inside code (at pc n) (at q n)) same (stays objects inside code (at pc n)), x)
    step_ends conversions.Qualification ends pc need m n a w x two s = let same : pc ≡ pc + size [] = omega arith in inl (n, subst (λ (q : ℕ). Leads objects inside code (at pc n) (at q n)) same (stays objects inside code (at pc n)), x)
    step_ends conversions.Pos ends pc need m n a w x two s = let same : pc ≡ pc + size [] = omega arith in inl (n, subst (λ (q : ℕ). Leads objects inside code (at pc n) (at q n)) same (stays objects inside code (at pc n)), x)
    step_ends conversions.Val ends pc need m n a w x two s = let same : pc ≡ pc + size [] = omega arith in inl (n, subst (λ (q : ℕ). Leads objects inside code (at pc n) (at q n)) same (stays objects inside code (at pc n)), x)
    step_ends conversions.Milliseconds ends pc need m n a w x two s = let same : pc ≡ pc + size [] = omega arith in inl (n, subst (λ (q : ℕ). Leads objects inside code (at pc n) (at q n)) same (stays objects inside code (at pc n)), x)

    -- ---- short circuits

    -- what ends somewhere goes on from there
    pub on_to : (a : At) (m : Machine) (from mid to need : ℕ) (o : Valued) → mid ≤ to → ((n : Machine) → Leads objects inside code (at mid n) (at to n)) → Ends objects inside code a from m mid need o → Ends objects inside code a from m to need o
    on_to a m from mid to need (Ok v) le go (inl x) = inl (x.0, leads_on objects inside code a (at mid x.0) (at to x.0) x.1 (go x.0), x.2)
    on_to a m from mid to need (Ok v) le go (inr x) = inr (x.0, traps_after objects inside code a a from to from mid exception.Storage (omega arith) le (stays objects inside code a) x.1)
    on_to a m from mid to need (Err ConstraintError) le go (inl x) = inl (traps_after objects inside code a a from to from mid exception.Constraint (omega arith) le (stays objects inside code a) x)
    on_to a m from mid to need (Err ConstraintError) le go (inr x) = inr (x.0, traps_after objects inside code a a from to from mid exception.Storage (omega arith) le (stays objects inside code a) x.1)
    on_to a m from mid to need (Err ProgramError) le go (inl x) = inl (traps_after objects inside code a a from to from mid exception.Program (omega arith) le (stays objects inside code a) x)
    on_to a m from mid to need (Err ProgramError) le go (inr x) = inr (x.0, traps_after objects inside code a a from to from mid exception.Storage (omega arith) le (stays objects inside code a) x.1)
    on_to a m from mid to need (Err Meaningless) le go x = tt

    pub top_of : (m p : Machine) (v : ℤ) → IsWithin m → Pushed m p v → (p.frame < p.top) × (word_at p (p.top - 1) ≡ v)
    top_of m p v w x =
        let t = x.top in let f = x.frame in let s = w.stack in
        let down : p.top - 1 ≡ m.top = omega arith in
        (omega arith, ap (λ (k : ℕ). word_at p k) down ∙ x.word)

    -- JumpZero N, b, N:
    module _ (ends : Target → ℕ) (pc : ℕ) (b : List Piece) (stands : Stands code linked ends pc (guarded b)) where
      abbrev test : List Piece
      test = unless_zero ++ b

      abbrev pub test_ends : Target → ℕ
      test_ends = inner code linked construct.Test (pc + size test) ends

      tested : Stands code linked test_ends pc test
      unfolding guarded
      tested = opened code linked construct.Test ends pc test stands

      guard_size : size (guarded b) ≡ size test
      unfolding guarded
      guard_size = size-closed construct.Test test

      pub test_size : size (guarded b) ≡ 5 + size b
      test_size = guard_size ∙ omega (arith, size_cons (Leaving when.IfZero target.Next) b, jump_size when.IfZero (pos 0))

      pub at_zero : (m p : Machine) → IsWithin m → Pushed m p (pos 0) → Leads objects inside code (at pc p) (at (pc + size (guarded b)) (record p { top = p.top - 1 }))
      unfolding operation_of
      at_zero m p w x =
          let j = tested.0 in let t = top_of m p (pos 0) w x in
          let five = jump_size when.IfZero j.0 in
          let here = j.1 ∙ ap (λ (k : ℕ). Some (operation.Word (kind.JumpIfZero j.0), pc + k)) five in
          subst (λ (k : ℕ). Leads objects inside code (at pc p) (at (pc + k) (record p { top = p.top - 1 }))) (sym guard_size)
          (jumps_at_zero objects inside code pc (pc + 5) (pc + size test) j.0 p here j.3 j.2 t.0 t.1)

      pub at_one : (m p : Machine) → IsWithin m → Pushed m p (pos 1) → Leads objects inside code (at pc p) (at (pc + 5) (record p { top = p.top - 1 }))
      unfolding operation_of
      at_one m p w x =
          let j = tested.0 in let t = top_of m p (pos 1) w x in
          let five = jump_size when.IfZero j.0 in
          let here = j.1 ∙ ap (λ (k : ℕ). Some (operation.Word (kind.JumpIfZero j.0), pc + k)) five in
          passes_at_one objects inside code pc (pc + 5) j.0 p here t.0 t.1

      pub first_stands : Stands code linked test_ends (pc + 5) b
      first_stands = tested.1

    -- a jump that leaves the pieces
    pub leaves_by : (ends : Target → ℕ) (pc : ℕ) (t : Target) (n : Machine) → Stands code linked ends pc (Leaving when.Always t ∷ []) → Leads objects inside code (at pc n) (at (ends t) n)
    unfolding operation_of
    leaves_by ends pc t n s =
        let j = s.0 in
        let five = jump_size when.Always j.0 in
        let here = j.1 ∙ ap (λ (k : ℕ). Some (operation.Word (kind.Jump j.0), pc + k)) five in
        jumps objects inside code pc (pc + 5) (ends t) j.0 n here j.3 j.2

    -- a, Jump E
    pub joins : (ends : Target → ℕ) (pc : ℕ) (a : List Piece) (stands : Stands code linked ends pc (guarded (a ++ join))) (n : Machine) → Leads objects inside code (at (pc + 5 + size a) n) (at (ends target.Join) n)
    joins ends pc a stands n = leaves_by (test_ends ends pc (a ++ join) stands) (pc + 5 + size a) target.Join n (stands_back code linked (test_ends ends pc (a ++ join) stands) (pc + 5) a join (first_stands ends pc (a ++ join) stands))

    -- a where the word is 1, b where it is 0
    abbrev forked : List Piece → List Piece → List Piece
    forked a b = closed construct.Choice (guarded (a ++ join) ++ b)

    module _ (ends : Target → ℕ) (pc need : ℕ) (m p : Machine) (w : IsWithin m) (a b : List Piece) (stands : Stands code linked ends pc (forked a b)) where
      abbrev body : List Piece
      body = guarded (a ++ join) ++ b

      abbrev choice_ends : Target → ℕ
      choice_ends = inner code linked construct.Choice (pc + size body) ends

      whole : Stands code linked choice_ends pc body
      whole = opened code linked construct.Choice ends pc body stands

      guard : Stands code linked choice_ends pc (guarded (a ++ join))
      guard = stands_front code linked choice_ends pc (guarded (a ++ join)) b whole

      forked_size : size (forked a b) ≡ size body
      forked_size = size-closed construct.Choice body

      pub fork_zero : (o : Valued) → Pushed m p (pos 0) → ((ends' : Target → ℕ) (pc' : ℕ) (n : Machine) → Same m n → Stands code linked ends' pc' b → Ends objects inside code (at pc' n) pc' n (pc' + size b) need o) → Ends objects inside code (at pc p) pc m (pc + size (forked a b)) need o
      fork_zero o x rb =
          let n = record p { top = p.top - 1 } in
          let s = popped m p (pos 0) w x in
          let next = pc + size (guarded (a ++ join)) in
          let back = stands_back code linked choice_ends pc (guarded (a ++ join)) b whole in
          let ran = ends_same (at next n) m n next (next + size b) need o s (rb choice_ends next n s back) in
          let total : next + size b ≡ pc + size (forked a b) = omega (arith, forked_size, size-append (guarded (a ++ join)) b) in
          ends_after objects inside code (at pc p) (at next n) m next pc (pc + size (forked a b)) need o (omega arith) (at_zero choice_ends pc (a ++ join) guard m p w x)
          (subst (λ (k : ℕ). Ends objects inside code (at next n) next m k need o) total ran)

      pub fork_one : (o : Valued) → Pushed m p (pos 1) → ((ends' : Target → ℕ) (pc' : ℕ) (n : Machine) → Same m n → Stands code linked ends' pc' a → Ends objects inside code (at pc' n) pc' n (pc' + size a) need o) → Ends objects inside code (at pc p) pc m (pc + size (forked a b)) need o
      fork_one o x ra =
          let n = record p { top = p.top - 1 } in
          let s = popped m p (pos 1) w x in
          let ran = ends_same (at (pc + 5) n) m n (pc + 5) (pc + 5 + size a) need o s (ra (test_ends choice_ends pc (a ++ join) guard) (pc + 5) n s (stands_front code linked (test_ends choice_ends pc (a ++ join) guard) (pc + 5) a join (first_stands choice_ends pc (a ++ join) guard))) in
          let total : pc + size body ≡ pc + size (forked a b) = omega (arith, forked_size) in
          let le : pc + 5 + size a ≤ pc + size body = omega (arith, size-append (guarded (a ++ join)) b, test_size choice_ends pc (a ++ join) guard, size-append a join) in
          let on = on_to (at (pc + 5) n) m (pc + 5) (pc + 5 + size a) (pc + size body) need o le (joins choice_ends pc a guard) ran in
          ends_after objects inside code (at pc p) (at (pc + 5) n) m (pc + 5) pc (pc + size (forked a b)) need o (omega arith) (at_one choice_ends pc (a ++ join) guard m p w x)
          (subst (λ (k : ℕ). Ends objects inside code (at (pc + 5) n) (pc + 5) m k need o) total on)

    short_ends : (env : Variables) (o : ShortCircuit) (ends : Target → ℕ) (pc need : ℕ) (m p : Machine) (v : ℤ) (right : List Piece) (r : Valued) → Shows linked depth floor V address env m → Pushed m p v → 1 ≤ need → Stands code linked ends pc (short_code o right) → ((ends' : Target → ℕ) (pc' : ℕ) (n : Machine) → Shows linked depth floor V address env n → n.top ≡ m.top → Stands code linked ends' pc' right → Ends objects inside code (at pc' n) pc' n (pc' + size right) need r) → Ends objects inside code (at pc p) pc m (pc + size (short_code o right)) need (decided o v r)
    unfolding short_code decided
    short_ends env short.AndThen ends pc need m p v right r s x some stands run = go (two_truths v)
      where
        go : (v ≡ pos 0) ⊎ ((v ≡ pos 1) ⊎ (truth_of v ≡ None)) → Ends objects inside code (at pc p) pc m (pc + size (forked right (number (pos 0)))) need (with_truth (truth_of v) (λ b. if b then r else Ok (pos 0)))
        go (inr (inr e)) = rw e tt
        go (inl e) = rw e (fork_zero ends pc need m p s.within right (number (pos 0)) stands (Ok (pos 0)) (subst (Pushed m p) e x) (λ ends' pc' n y st. number_ends env ends' (pos 0) pc' need n y.within some st))
        go (inr (inl e)) = rw e (fork_one ends pc need m p s.within right (number (pos 0)) stands r (subst (Pushed m p) e x) (λ ends' pc' n y st. run ends' pc' n (same_shows env m n s y) y.top st))
    short_ends env short.OrElse ends pc need m p v right r s x some stands run = go (two_truths v)
      where
        go : (v ≡ pos 0) ⊎ ((v ≡ pos 1) ⊎ (truth_of v ≡ None)) → Ends objects inside code (at pc p) pc m (pc + size (forked (number (pos 1)) right)) need (with_truth (truth_of v) (λ b. if b then Ok (pos 1) else r))
        go (inr (inr e)) = rw e tt
        go (inl e) = rw e (fork_zero ends pc need m p s.within (number (pos 1)) right stands r (subst (Pushed m p) e x) (λ ends' pc' n y st. run ends' pc' n (same_shows env m n s y) y.top st))
        go (inr (inl e)) = rw e (fork_one ends pc need m p s.within (number (pos 1)) right stands (Ok (pos 1)) (subst (Pushed m p) e x) (λ ends' pc' n y st. number_ends env ends' (pos 1) pc' need n y.within some st))

    -- ---- whole expressions

    -- what the code of a value does, from any place and machine that shows the variables
    abbrev pub Gives : Variables → List Piece → ℕ → Valued → Type 0
    Gives env c need o = (ends : Target → ℕ) (pc : ℕ) (m : Machine) → Shows linked depth floor V address env m → Stands code linked ends pc c → Ends objects inside code (at pc m) pc m (pc + size c) need o

    more_room : (a : At) (m : Machine) (from to need need' : ℕ) (o : Valued) → need ≤ need' → Ends objects inside code a from m to need o → Ends objects inside code a from m to need' o
    more_room a m from to need need' (Ok v) le (inl x) = inl x
    more_room a m from to need need' (Ok v) le (inr x) = let l = x.0 in inr (omega arith, x.1)
    more_room a m from to need need' (Err ConstraintError) le (inl x) = inl x
    more_room a m from to need need' (Err ConstraintError) le (inr x) = let l = x.0 in inr (omega arith, x.1)
    more_room a m from to need need' (Err ProgramError) le (inl x) = inl x
    more_room a m from to need need' (Err ProgramError) le (inr x) = let l = x.0 in inr (omega arith, x.1)
    more_room a m from to need need' (Err Meaningless) le x = tt

    -- a value, and then more code that takes it
    then_gives : (env : Variables) (c d : List Piece) (need need' : ℕ) (o : Valued) (f : ℤ → Valued) → need ≤ need' → Gives env c need o → ((ends : Target → ℕ) (pc : ℕ) (m p : Machine) (v : ℤ) → Shows linked depth floor V address env m → Pushed m p v → Stands code linked ends pc d → Ends objects inside code (at pc p) pc m (pc + size d) need' (f v)) → Gives env (c ++ d) need' (then_value o f)
    then_gives env c d need need' o f le gives go ends pc m s stands =
        let total : (pc + size c) + size d ≡ pc + size (c ++ d) = omega (arith, size-append c d) in
        then_ends objects inside code (at pc m) m m pc (pc + size c) pc (pc + size (c ++ d)) need need' o f refl (omega arith) (omega arith) (omega arith) (omega (arith, total))
        (gives ends pc m s (stands_front code linked ends pc c d stands))
        (λ v p x. subst (λ (k : ℕ). Ends objects inside code (at (pc + size c) p) (pc + size c) m k need' (f v)) total (go ends (pc + size c) m p v s x (stands_back code linked ends pc c d stands)))

    static_gives : (env : Variables) (v : Option StaticValue) (c : List Piece) (n : ℕ) (r : Valued) (P : Type 0) → OrStatic v P → (P → Gives env c n r) → Gives env (static_or v c) (needs_of v n) (or_static v r)
    static_gives env (Some v) c n r P h g ends pc m s stands = number_ends env ends v.word pc 1 m s.within (omega arith) stands
    static_gives env None c n r P h g ends pc m s stands = g h ends pc m s stands

    binary_gives : (env : Variables) (o : BinaryOperator) (w nx ny : ℕ) (cx cy : List Piece) (x y : Valued) → IsScalar o → Gives env cx nx x → Gives env cy ny y → Gives env ((cx ++ cy) ++ binary_code o w) (max nx (1 + ny)) (then_value x (λ a. then_value y (applied o a)))
    binary_gives env o w nx ny cx cy x y scalar gx gy =
        subst (λ (c : List Piece). Gives env c (max nx (1 + ny)) (then_value x (λ a. then_value y (applied o a)))) (sym (append_assoc cx cy (binary_code o w)))
        (then_gives env cx (cy ++ binary_code o w) nx (max nx (1 + ny)) x (λ a. then_value y (applied o a)) (omega arith) gx
        (λ ends pc m p v s px stands.
        let total : (pc + size cy) + size (binary_code o w) ≡ pc + size (cy ++ binary_code o w) = omega (arith, size-append cy (binary_code o w)) in
        let t = px.top in
        then_ends objects inside code (at pc p) p m pc (pc + size cy) pc (pc + size (cy ++ binary_code o w)) ny (max nx (1 + ny)) y (applied o v) px.first (omega arith) (omega arith) (omega arith) (omega (arith, total))
        (gy ends pc p (pushed_shows env m p v s px) (stands_front code linked ends pc cy (binary_code o w) stands))
        (λ b q py. operator_ends objects inside code o w (pc + size cy) (pc + size (cy ++ binary_code o w)) (max nx (1 + ny)) linked ends m p q v b scalar s.within px py (stands_back code linked ends pc cy (binary_code o w) stands) total)))

    mutual
      pub value_gives : (env : Variables) (t : TypedTree) → IsIn V t → Gives env (value_of depth t) (needs t) (value env t)
      value_gives env (Labelled labels form) h = static_gives env labels.value (form_code depth labels.words form) (needs_form form) (value_of_form env form) (IsInForm V labels.words form) h (λ k. form_gives env labels.words form k)

      form_gives : (env : Variables) (w : ℕ) (form : FormTree) → IsInForm V w form → Gives env (form_code depth w form) (needs_form form) (value_of_form env form)
      form_gives env w (LiteralForm v) h = λ ends pc m s stands. number_ends env ends v.word pc 1 m s.within (omega arith) stands
      form_gives env w (NamedForm name) h = λ ends pc m s stands.
          subst (λ (k : ℕ). Stands code linked ends pc (address_of depth name ++ of_size sized.Load k) → Ends objects inside code (at pc m) pc m (pc + size (address_of depth name ++ of_size sized.Load k)) (needs_name name) (word_in env (placed env name))) (sym h.1)
          (λ st. load_ends env ends (address_of depth name) pc (needs_name name) m (placed env name) s (λ q e. variable_in V name q h.0 (placed_is env name q e)) st (address_gives env name h.0 ends pc m s (stands_front code linked ends pc (address_of depth name) (of_size sized.Load 1) st))) stands
      form_gives env w (UnaryForm operator x) h =
          then_gives env (value_of depth x) (unary_code operator) (needs x) (needs x) (value env x) (applied_to operator) (omega arith) (value_gives env x h)
          (λ ends pc m p v s y st. unary_ends objects inside code operator pc (needs x) linked ends m p v s.within y st)
      form_gives env w (BinaryForm operator x y) h = binary_gives env operator (words_of x) (needs x) (needs y) (value_of depth x) (value_of depth y) (value env x) (value env y) h.0 (value_gives env x h.1) (value_gives env y h.2)
      form_gives env w (ShortCircuitForm operator x y) h =
          let n = max 1 (max (needs x) (needs y)) in
          then_gives env (value_of depth x) (short_code operator (value_of depth y)) (needs x) n (value env x) (λ a. decided operator a (value env y)) (omega arith) (value_gives env x h.0)
          (λ ends pc m p v s z st. short_ends env operator ends pc n m p v (value_of depth y) (value env y) s z (omega arith) st
          (λ ends' pc' q sq tq stq. more_room (at pc' q) q pc' (pc' + size (value_of depth y)) (needs y) n (value env y) (omega arith) (value_gives env y h.1 ends' pc' q sq stq)))
      form_gives env w (ConvertedForm conversion x) h = converted_gives env conversion x h
      form_gives env w (MembershipForm x is_negated low high word) h = absurd h
      form_gives env w (AggregateForm values) h = absurd h
      form_gives env w (OthersForm count x) h = absurd h
      form_gives env w (CallForm call) h = absurd h
      form_gives env w ClockForm h = absurd h

      -- the address of a variable or of a component
      pub address_gives : (env : Variables) (name : NameTree) → IsName V name → Gives env (address_of depth name) (needs_name name) (address_value (placed env name))
      address_gives env (ObjectName p is_constant) h = λ ends pc m s stands. place_ends env ends p pc m h s stands
      address_gives env (ComponentName whole_ offset_) h = λ ends pc m s stands.
          component_ends env ends (address_of depth whole_) offset_ pc (needs_name whole_) m (placed env whole_) s (λ q e. (let i = placed_is env whole_ q e in (variable_in V whole_ q h.0 i, h.1 q i))) stands
          (address_gives env whole_ h.0 ends pc m s (stands_front code linked ends pc (address_of depth whole_) (of_size sized.Field offset_) stands))
      address_gives env (IndexedName array index b words) h = λ ends pc m s stands.
          let ca = address_of depth array in
          let cv = value_of depth index in
          let front = stands_front code linked ends pc (ca ++ cv) (index_code b words) stands in
          indexed_ends env ends ca cv b words pc (needs_name array) (needs index) m (placed env array) (value env index) s (λ q e. (let i = placed_is env array q e in (variable_in V array q h.0 i, λ k low high. h.2 q k i low high))) stands
          (address_gives env array h.0 ends pc m s (stands_front code linked ends pc ca cv front))
          (λ n a push. value_gives env index h.1 ends (pc + size ca) n (pushed_shows env m n a s push) (stands_back code linked ends pc ca cv front))

      converted_gives : (env : Variables) (c : Conversion) (x : ValueTree) → IsInValue V x → Gives env (converted_code depth c x) (needs_value x) (converted env c x)
      converted_gives env c (Checked x bounds) h =
          let n = max (needs x) 2 in
          subst (λ (k : List Piece). Gives env k n (then_value (value env x) (λ a. then_value (stepped c a) (within bounds)))) (sym (append_assoc (value_of depth x) (step_code c) (check_code bounds)))
          (then_gives env (value_of depth x) (step_code c ++ check_code bounds) (needs x) n (value env x) (λ a. then_value (stepped c a) (within bounds)) (omega arith) (value_gives env x h)
          (λ ends pc m p v s y st.
          let total : (pc + size (step_code c)) + size (check_code bounds) ≡ pc + size (step_code c ++ check_code bounds) = omega (arith, size-append (step_code c) (check_code bounds)) in
          then_ends objects inside code (at pc p) m m pc (pc + size (step_code c)) pc (pc + size (step_code c ++ check_code bounds)) n n (stepped c v) (within bounds) refl (omega arith) (omega arith) (omega arith) (omega (arith, total))
          (step_ends c ends pc n m p v s.within y (omega arith) (stands_front code linked ends pc (step_code c) (check_code bounds) st))
          (λ b q z. subst (λ (k : ℕ). Ends objects inside code (at (pc + size (step_code c)) q) (pc + size (step_code c)) m k n (within bounds b)) total (check_ends objects inside code bounds (pc + size (step_code c)) n linked ends m q b s.within z (stands_back code linked ends pc (step_code c) (check_code bounds) st)))))

    pub checked_gives : (env : Variables) (x : ValueTree) → IsInValue V x → Gives env (checked_code depth x) (needs_value x) (checked_value env x)
    checked_gives env (Checked x bounds) h =
        let n = max (needs x) 2 in
        then_gives env (value_of depth x) (check_code bounds) (needs x) n (value env x) (within bounds) (omega arith) (value_gives env x h)
        (λ ends pc m p v s y st. check_ends objects inside code bounds pc n linked ends m p v s.within y st)
