-- A call of a library-level procedure without parameters does what its statements mean over new words.
use Rattle.std.proofs.Common.{◌≡◌, ◌≢◌, ℕ, suc, ◌+◌, ◌-◌, ◌==◌, ◌<◌, ◌≤◌, List, [], ◌∷◌, true, false, Option, Some, Result, length, nat_le, refl, sym, ◌∙◌, ap, subst, arith, inl, inr, ⊎_elim}
use Rattle.std.proofs.lemmas.Bool.{cases_lt}
use Rattle.std.proofs.lemmas.Bool.Decides.{nat_tests}
use Rattle.std.specs.Prelude.{option_and_then}
use Rattle.al_base.specs.declared.unit_key.UnitKey.{UnitKey}
use Rattle.al_view.specs.declared.link.LinkSymbol.{LinkSymbol}
use Rattle.al_view.specs.declared.symbol.Symbol.{Symbol}
use Rattle.al_view.specs.declared.view.ObjectPlace.{ObjectPlace}
use Rattle.al_view.specs.declared.view.ObjectPlace.TheVariants as places
use Rattle.al_view_typed.specs.ExpressionTrees.{CallTree}
use Rattle.al_view_typed.specs.DeclarationTrees.{DeclarationTree}
use Rattle.al_view_typed.specs.StatementTrees.{StatementTree}
use Rattle.al_view_typed.specs.UnitTrees.{BodyTree}
use Rattle.al_instr.specs.declared.instruction.Instr.{Instr}
use Rattle.al_code.specs.LineLaws.{TreesTellCode}
use Rattle.al_link_image.specs.declared.parts.Region.{Region}
use Rattle.al_machine.specs.declared.regions.Entered.{Entered}
use Rattle.al_machine.specs.declared.code.Step.{Step}
use Rattle.al_machine.specs.declared.instruction.Exception.TheVariants as exception
use Rattle.al_machine.specs.declared.instruction.Flow.{Flow as MachineFlow}
use Rattle.al_machine.specs.declared.instruction.Trap.{Trap}
use Rattle.al_machine.specs.declared.instruction.Instruction.TheVariants as kind
use Rattle.al_machine.specs.declared.operation.Operation.{Operation}
use Rattle.al_machine.specs.declared.operation.Operation.TheVariants as operation
use Rattle.al_machine.specs.Bursts.{At, landing, landed, advanced_by}
use Rattle.al_machine.specs.Code.{fetch}
use Rattle.al_machine.specs.Machine.{Machine, IsWithin}
use Rattle.al_machine.specs.Memory.{is_open}
use Rattle.al_machine.specs.Stack.{word_at}
use Rattle.al_machine.specs.Table.{on, exec}
use Rattle.al_meaning.specs.Scalars.{Failure, ConstraintError, ProgramError, Meaningless}
use Rattle.al_meaning.specs.States.{further, State, Outcome, Gives, Raises, GoesOn, next, give, Words, same_place}
use Rattle.al_meaning.specs.Statements.{Flow, On, Exits, Returns}
use Rattle.al_meaning.specs.Partitions.{fresh, restored, ended_in, given_back}
use Rattle.al_meaning_code.specs.Running.{Lines, at, IsThere, Leads, Traps, Exhausts}
use Rattle.al_meaning_code.specs.Showing.{Linked, Reaches, Shows, Near}
use Rattle.al_meaning_code.specs.Effects.{table_line, line_or, RaisesAt, Reaching, Runs, CallRuns}
use Rattle.al_meaning_code.specs.Laws.{procedure, SeenInside}
use Rattle.al_meaning_code.proofs.Machines.{leads_on, stays, traps_after, goes, fails, carried_on}
use Rattle.al_meaning_code.proofs.Values.{reaches_kept}
use Rattle.al_meaning_code.proofs.CallSteps.{Framed, rooted_machine, called_machine, entered_machine, roots, roots_not, calls, enters, enters_not, framed_so, returns}

-- where the words of the callee lie
abbrev pub callee_address : ℕ → (ObjectPlace → ℕ) → ObjectPlace → ℕ
callee_address frame address (places.Frame d w) = frame + w
callee_address frame address (places.Static s w) = address (places.Static s w)

-- what a call comes to when the statements of the body have ended
abbrev pub finish : UnitKey → BodyTree → State → Outcome Flow → Outcome Words
finish unit b st o = next (ended_in b.depth st (next o (λ f. given_back unit b b.kind f))) (λ back. give back)

inside_one : (d : ℕ) → 1 ≤ d → nat_le 1 d ≡ true
inside_one d h = grind (arith, nat_tests)

module _ (objects : List Region) (inside : List Entered) (code : List Step) (lines : Lines) (linked : LinkSymbol → Instr → Instr) (depth floor small room words most : ℕ) (V : ObjectPlace → Type 0) (address : ObjectPlace → ℕ) (C : CallTree → Type 0)
    (below : (p : ObjectPlace) → V p → address p < floor) (opened_ : (p : ObjectPlace) → V p → is_open objects inside 0 (address p) 1 ≡ true) (linear : (p : ObjectPlace) (k : ℕ) → V p → V (further p k) → address (further p k) ≡ address p + k)
    (apart : (p q : ObjectPlace) → V p → V q → same_place p q ≡ false → address p ≢ address q) (alike : (p q : ObjectPlace) → V p → V q → same_place p q ≡ true → address p ≡ address q)
    (nested : (d w : ℕ) → V (places.Frame d w) → 1 ≤ d) (free : (k : ℕ) → floor ≤ k → is_open objects inside 0 k 1 ≡ true) (tell : TreesTellCode) (roomy : small ≤ room) (fit : 3 + words + room ≤ most) where
  abbrev Caller : State → Machine → Type 0
  Caller st m = Shows linked depth floor V address st.words m

  -- ---- what the callee's variables keep

  module _ (m : Machine) (w : IsWithin m) (above : floor ≤ m.top) where
    abbrev place_of : ObjectPlace → ℕ
    place_of = callee_address m.top address

    abbrev Mine : ObjectPlace → Type 0
    Mine = SeenInside (λ x k. V (places.Static x k)) words

    pub below_ : (p : ObjectPlace) → Mine p → place_of p < m.top + 3 + words
    below_ (places.Frame d k) h = let a = h.2 in omega arith
    below_ (places.Static s k) h = let b = below (places.Static s k) h in omega arith

    pub open_ : (p : ObjectPlace) → Mine p → is_open objects inside 0 (place_of p) 1 ≡ true
    open_ (places.Frame d k) h = free (m.top + k) (omega arith)
    open_ (places.Static s k) h = opened_ (places.Static s k) h

    pub linear_ : (p : ObjectPlace) (k : ℕ) → Mine p → Mine (further p k) → place_of (further p k) ≡ place_of p + k
    linear_ (places.Frame d w) k h i = omega arith
    linear_ (places.Static x w) k h i = linear (places.Static x w) k h i

    pub apart_ : (p q : ObjectPlace) → Mine p → Mine q → same_place p q ≡ false → place_of p ≢ place_of q
    apart_ (places.Frame d k) (places.Frame e j) h i diff = λ same.
        let k_is : k ≡ j = omega (arith, same) in
        let d_is : d ≡ e = h.0 ∙ sym i.0 in
        let yes_ : (d == e) ≡ true = grind (arith, nat_tests) in
        let also : (k == j) ≡ true = grind (arith, nat_tests) in
        absurd (let t : true ≡ false = (rw (yes_, also) at diff) in cc)
    apart_ (places.Frame d k) (places.Static s j) h i diff = λ same. let b = below (places.Static s j) i in absurd (omega (arith, same))
    apart_ (places.Static s k) (places.Frame e j) h i diff = λ same. let b = below (places.Static s k) h in absurd (omega (arith, same))
    apart_ (places.Static s k) (places.Static t j) h i diff = apart (places.Static s k) (places.Static t j) h i diff

    pub alike_ : (p q : ObjectPlace) → Mine p → Mine q → same_place p q ≡ true → place_of p ≡ place_of q
    alike_ (places.Frame d k) (places.Frame e j) h i same = let k_is : k ≡ j = grind (arith, nat_tests) in omega arith
    alike_ (places.Frame d k) (places.Static s j) h i same = absurd (cc)
    alike_ (places.Static s k) (places.Frame e j) h i same = absurd (cc)
    alike_ (places.Static s k) (places.Static t j) h i same = alike (places.Static s k) (places.Static t j) h i same

    abbrev Callee : State → Machine → Type 0
    Callee st n = Shows linked 1 (m.top + 3 + words) Mine place_of st.words n

    -- the frame that has begun shows fresh words
    begun_shows : (st : State) (n : Machine) (back : ℕ) → Caller st m → Framed m n back words → Callee (fresh 1 [] st) n
    begun_shows st n back s f = record { within = f.within; above = (let t = f.top in omega arith); lies = lies; holds = holds }
      where
        lies : (p : ObjectPlace) → Mine p → Reaches linked 1 (m.top + 3 + words) Mine place_of n p
        lies (places.Frame d k) h = let one_ : 1 - d ≡ 0 = (let e = h.0 in omega arith) in (n.frame, subst (λ (c : ℕ). Linked linked 1 (m.top + 3 + words) Mine place_of c n n.frame n.frame) (sym one_) refl, ap (λ (j : ℕ). j + k) f.frame)
        lies (places.Static y k) h = s.lies (places.Static y k) h

        holds : (p : ObjectPlace) → Mine p → word_at n (place_of p) ≡ (fresh 1 [] st).words p
        holds (places.Frame d k) h = let a = h.1 in let b = h.2 in let one_ : nat_le 1 d ≡ true = (let e = h.0 in inside_one d (omega arith)) in rw one_ (f.zeros (m.top + k) (omega arith) (omega arith))
        holds (places.Static y k) h = (let b = below (places.Static y k) h in f.kept (address (places.Static y k)) (omega arith)) ∙ s.holds (places.Static y k) h

    -- after its end the caller sees what was assigned to the objects of units
    ended_shows : (st after : State) (n q z : Machine) (back : ℕ) → Caller st m → Framed m n back words → Near Mine place_of (m.top + 3 + words) n q → Callee after q → z.first ≡ m.first → z.frame ≡ m.frame → z.top ≡ m.top → length z.memory ≡ length m.memory → ((k : ℕ) → word_at z k ≡ word_at q k) → Near V address floor m z × Caller (restored 1 st after) z
    ended_shows st after n q z back s f near c first frame top long words_ = (close, record { within = inside_; above = omega arith; lies = λ p h. reaches_kept objects inside code linked depth floor V address m z p first frame close.kept (s.lies p h); holds = holds })
      where
        stays_ : (k : ℕ) → k < floor → ((p : ObjectPlace) → V p → address p ≢ k) → word_at z k ≡ word_at m k
        stays_ k h other = words_ k ∙ near.kept k (omega arith) mine ∙ f.kept k (omega arith)
          where
            mine : (p : ObjectPlace) → Mine p → place_of p ≢ k
            mine (places.Frame d j) i = λ e. absurd (omega (arith, e))
            mine (places.Static y j) i = other (places.Static y j) i

        close : Near V address floor m z
        close = record { first = first; frame = frame; top = top; long = long; kept = stays_ }

        inside_ : IsWithin z
        inside_ = let a = w.memory in let b = w.own in let d = w.frame in let e = w.below in let g = w.stack in let h = w.room in record { memory = omega arith; own = omega arith; frame = omega arith; below = omega arith; stack = omega arith; room = omega arith }

        holds : (p : ObjectPlace) → V p → word_at z (address p) ≡ (restored 1 st after).words p
        holds (places.Frame d j) h = let one_ = inside_one d (nested d j h) in rw one_ (words_ (address (places.Frame d j)) ∙ near.kept (address (places.Frame d j)) (let b = below (places.Frame d j) h in omega arith) mine ∙ f.kept (address (places.Frame d j)) (let b = below (places.Frame d j) h in omega arith) ∙ s.holds (places.Frame d j) h)
          where
            mine : (p : ObjectPlace) → Mine p → place_of p ≢ address (places.Frame d j)
            mine (places.Frame e i) y = λ x. let b = below (places.Frame d j) h in absurd (omega (arith, x))
            mine (places.Static t i) y = apart (places.Static t i) (places.Frame d j) y h refl
        holds (places.Static y j) h = words_ (address (places.Static y j)) ∙ c.holds (places.Static y j) h

  -- ---- the call

  module _ (unit : UnitKey) (symbol : Symbol) (first : ℕ) (declarations_ : List DeclarationTree) (statements : List StatementTree) (line : UnitKey × ℕ) (st : State) (pc pc1 back place start end after fuel : ℕ) (m : Machine) (s : Shows linked depth floor V address st.words m)
      (root_here : fetch code pc ≡ Some (operation.Word kind.Root, pc1)) (call_here : fetch code pc1 ≡ Some (operation.Word (kind.Call place 0), back)) (there : IsThere code back)
      (enter_here : fetch code place ≡ Some (operation.Word (kind.Enter words), start)) (return_here : fetch code end ≡ Some (operation.Word (kind.Return 0), after))
      (exits : ℕ → ℕ) (home : ℕ) (ended : home ≡ end) (o : Outcome Flow)
      (body_runs : (n : Machine) → Shows linked 1 (m.top + 3 + words) (SeenInside (λ x k. V (places.Static x k)) words) (callee_address m.top address) (fresh 1 [] st).words n
      → Runs objects inside code lines linked 1 (m.top + 3 + words) room (SeenInside (λ x k. V (places.Static x k)) words) (callee_address m.top address) exits home line (at start n) n end fuel o) where
    w : IsWithin m
    w = s.within

    abbrev shaped : Outcome Flow → Type 0
    shaped o = CallRuns objects inside code lines linked depth floor most V address line (at pc m) m back (suc fuel) (finish unit (procedure symbol first words declarations_ statements) st o)

    -- no room
    lacks_any : Exhausts objects inside code (at pc m) m most → (o : Outcome Flow) → shaped o
    lacks_any lack (Gives On e) = inr lack
    lacks_any lack (Gives (Exits i) e) = tt
    lacks_any lack (Gives (Returns vs) e) = inr lack
    lacks_any lack (Raises ConstraintError told e) = inr lack
    lacks_any lack (Raises ProgramError told e) = inr lack
    lacks_any lack (Raises Meaningless told e) = tt
    lacks_any lack (GoesOn e) = inr lack

    short_frame : (a : At) → Leads objects inside code (at pc m) a → Traps objects inside code a a.place (suc a.place) exception.Storage → m.first + 16384 < m.top + 3 + words → (o : Outcome Flow) → shaped o
    short_frame a l t less o = lacks_any (omega (arith, fit), 0, suc a.place, traps_after objects inside code (at pc m) a 0 (suc a.place) a.place (suc a.place) exception.Storage (omega arith) (omega arith) l t) o

    -- what the statements did, as seen from the call
    module _ (n : Machine) (l : Leads objects inside code (at pc m) (at start n)) (some : 1 ≤ l.0) (f : Framed m n back words) where
      exhausts : Exhausts objects inside code (at start n) n room → Exhausts objects inside code (at pc m) m most
      exhausts x = let ft = f.top in let ff = f.first in let y = x.0 in (omega (arith, fit), x.1, x.2, traps_after objects inside code (at pc m) (at start n) x.1 x.2 x.1 x.2 exception.Storage (omega arith) (omega arith) l x.3)

      raises : (told : UnitKey × ℕ) (e : Failure) → RaisesAt objects inside code lines room told (at start n) n e → RaisesAt objects inside code lines most told (at pc m) m e
      raises told ConstraintError (inl t) = inl (record { last = t.last; leads = leads_on objects inside code (at pc m) (at start n) t.last l t.leads; next = t.next; instruction = t.instruction; there = t.there; raises = t.raises; told = t.told })
      raises told ConstraintError (inr x) = inr (exhausts x)
      raises told ProgramError (inl t) = inl (record { last = t.last; leads = leads_on objects inside code (at pc m) (at start n) t.last l t.leads; next = t.next; instruction = t.instruction; there = t.there; raises = t.raises; told = t.told })
      raises told ProgramError (inr x) = inr (exhausts x)
      raises told Meaningless x = tt

      not_link : (k : ℕ) → m.top ≤ k → k < m.top + 3 → (p : ObjectPlace) → SeenInside (λ x k. V (places.Static x k)) words p → callee_address m.top address p ≢ k
      not_link k low high (places.Frame d j) i = λ e. let a = i.1 in absurd (omega (arith, e))
      not_link k low high (places.Static y j) i = λ e. let b = below (places.Static y j) i in let a = s.above in absurd (omega (arith, e))

      comes_back : (e : State) → Reaching objects inside code lines linked 1 (m.top + 3 + words) room (SeenInside (λ x k. V (places.Static x k)) words) (callee_address m.top address) (at start n) end e.words n → Reaching objects inside code lines linked depth floor most V address (at pc m) back (restored 1 st e).words m
      unfolding exec w
      comes_back e x =
          let q = x.0 in let near = x.2 in
          let nt = near.top in let ft = f.top in let nf = near.first in let ff = f.first in let nl = near.long in let fl = f.long in let nr = near.frame in let fr = f.frame in
          let fw = f.within in let room_ = fw.room in
          let caller = near.kept (m.top + 1) (omega arith) (λ p i. not_link (m.top + 1) (omega arith) (omega arith) p i) ∙ f.caller in
          let return_ = near.kept (m.top + 2) (omega arith) (λ p i. not_link (m.top + 2) (omega arith) (omega arith) p i) ∙ f.return in
          let z = returns m w q back (nf ∙ ff) (nr ∙ fr) (omega arith) (omega arith) (nl ∙ fl) caller return_ in
          let shown = ended_shows m w s.above st e n q z.0 back s f near x.3 z.2 z.3 z.4 z.5 z.6 in
          let step : Leads objects inside code (at end q) (at back z.0) = (1, ap (λ (o : Option At). option_and_then (λ (y : At). Some y) o) (ap (λ (o : Option (Operation × ℕ)). advanced_by objects inside code o q) return_here ∙ ap (λ (r : Result (MachineFlow × Machine) Trap). landed code after r) z.1 ∙ ap (λ (o : Option (Operation × ℕ)). landing o back z.0) there.1)) in
          (z.0, leads_on objects inside code (at pc m) (at start n) (at back z.0) l (leads_on objects inside code (at start n) (at end q) (at back z.0) x.1 step), shown.0, shown.1)

      from_body : (o : Outcome Flow) → Runs objects inside code lines linked 1 (m.top + 3 + words) room (SeenInside (λ x k. V (places.Static x k)) words) (callee_address m.top address) exits home line (at start n) n end fuel o → shaped o
      from_body (Gives On e) (inl x) = inl (comes_back e x)
      from_body (Gives On e) (inr x) = inr (exhausts x)
      from_body (Gives (Exits i) e) x = tt
      from_body (Gives (Returns []) e) (inl x) = inl (comes_back e (x.0, subst (λ (k : ℕ). Leads objects inside code (at start n) (at k x.0)) ended x.1, x.2, x.3))
      from_body (Gives (Returns []) e) (inr x) = inr (exhausts x)
      from_body (Gives (Returns (v ∷ vs)) e) x = inr (exhausts x)
      from_body (Raises e told z) x = raises (table_line (line_or line told)) e x
      from_body (GoesOn z) (inl x) = let e = x.1 in inl (l.0 + x.0, omega arith, x.2, carried_on objects inside code l.0 x.0 (at pc m) (at start n) l.1 ∙ x.3)
      from_body (GoesOn z) (inr x) = inr (exhausts x)

    pub call_runs : shaped o
    unfolding exec w
    call_runs = ⊎_elim root_room no_room (cases_lt (m.first + 16384) (m.top + 3))
      where
        no_room : m.top + 3 ≤ m.first + 16384 → shaped o
        no_room room3 =
            let one_ = goes objects inside code pc pc1 kind.Root m (rooted_machine m w) root_here (ap on (roots m w room3)) in
            let two : Leads objects inside code (at pc1 (rooted_machine m w)) (at place (called_machine m w back)) = (1, ap (λ (o : Option At). option_and_then (λ (y : At). Some y) o) (ap (λ (o : Option (Operation × ℕ)). advanced_by objects inside code o (rooted_machine m w)) call_here ∙ ap (λ (r : Result (MachineFlow × Machine) Trap). landed code back r) (calls m w place back room3) ∙ ap (λ (o : Option (Operation × ℕ)). landing o place (called_machine m w back)) enter_here)) in
            let to_body : Leads objects inside code (at pc m) (at place (called_machine m w back)) = (one_.0 + 1, carried_on objects inside code one_.0 1 (at pc m) (at pc1 (rooted_machine m w)) one_.1 ∙ two.1) in
            ⊎_elim
            (λ (lack : m.first + 16384 < m.top + 3 + words). short_frame (at place (called_machine m w back)) to_body (fails objects inside code place start (suc place) (kind.Enter words) (called_machine m w back) exception.Storage enter_here (omega arith) (ap on (enters_not m w back words lack))) lack o)
            (λ (fits_ : m.top + 3 + words ≤ m.first + 16384).
            let n = entered_machine m w back words in
            let f = framed_so m w back words fits_ in
            let three = goes objects inside code place start (kind.Enter words) (called_machine m w back) n enter_here (ap on (enters m w back words fits_)) in
            let l : Leads objects inside code (at pc m) (at start n) = (to_body.0 + three.0, carried_on objects inside code to_body.0 three.0 (at pc m) (at place (called_machine m w back)) to_body.1 ∙ three.1) in
            from_body n l (omega arith) f o (body_runs n (begun_shows m w s.above st n back s f)))
            (cases_lt (m.first + 16384) (m.top + 3 + words))

        root_room : m.first + 16384 < m.top + 3 → shaped o
        root_room lack = short_frame (at pc m) (stays objects inside code (at pc m)) (fails objects inside code pc pc1 (suc pc) kind.Root m exception.Storage root_here (omega arith) (ap on (roots_not m w lack))) (omega arith) o
