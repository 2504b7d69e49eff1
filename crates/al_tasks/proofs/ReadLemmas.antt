-- What an event reads of memory.
use Rattle.std.proofs.Common.{◌≡◌, ℕ, ◌+◌, ◌-◌, ◌*◌, ◌<◌, ◌≤◌, ℤ, List, [], ◌∷◌, ◌++◌, Bool, true, false, not, cond, ◌&&◌, ◌||◌, ◌==◌, Option, Some, None, Result, Ok, Err, length, get_or, slice_get, nat_le, nat_lt, refl, sym, ◌∙◌, ap, subst, arith, inl}
use Rattle.std.proofs.lemmas.Bool.Decides.{nat_tests}
use Rattle.std.specs.Prelude.{pos, int_le}
use Rattle.std.specs.List.{list_any, list_all}
use Rattle.al_machine.specs.declared.instruction.Exception.TheVariants.{Program as ProgramError}
use Rattle.al_machine.specs.declared.instruction.Flow.{Flow}
use Rattle.al_machine.specs.declared.instruction.Flow.TheVariants.{On, To}
use Rattle.al_machine.specs.declared.instruction.Trap.{Trap}
use Rattle.al_machine.specs.declared.instruction.Trap.TheVariants as trap
use Rattle.al_link_image.specs.declared.parts.Region.{Region}
use Rattle.al_tasks.specs.declared.event.Event.{Event}
use Rattle.al_tasks.specs.declared.event.Event.TheVariants as event
use Rattle.al_machine.specs.declared.operation.Operation.{Operation}
use Rattle.al_machine.specs.declared.operation.Operation.TheVariants as operation
use Rattle.al_machine.specs.declared.operation.OutputInstruction.{OutputInstruction}
use Rattle.al_machine.specs.declared.operation.OutputInstruction.TheVariants as out
use Rattle.al_machine.specs.declared.operation.TaskInstruction.{TaskInstruction}
use Rattle.al_machine.specs.declared.operation.TaskInstruction.TheVariants as kind
use Rattle.al_machine.specs.Machine.{Machine, IsWithin}
use Rattle.al_machine.specs.Memory.{is_entered, copied}
use Rattle.al_machine.specs.Stack.{holds, word_at, pushed}
use Rattle.al_machine.specs.Table.{exec}
use Rattle.al_machine.specs.declared.regions.Entered.{Entered}
use Rattle.al_machine.specs.Code.{fetch}
use Rattle.al_machine.specs.Output.{text_of, by_word, integer_of, name_of}
use Rattle.al_tasks.specs.declared.event.Pause.TheVariants.{Activating, Delayed, Waiting, Ended}
use Rattle.al_tasks.specs.declared.event.Ending.{Ending}
use Rattle.al_tasks.specs.declared.event.Ending.TheVariants.{Finished, Stuck}
use Rattle.al_tasks.specs.Task.{Task, Program, World, is_created, is_activating, is_waiting, is_ended}
use Rattle.al_tasks.specs.World.{stuck, at_head, at_tail, is_inside_nothing, raises, released, pauses, goes_on, machine_of, raised_at, puts, jumps, flows, turns, inside, outside, enters, enters_entry, leaves, blocks, sleeps, wakes, creates, goes, begins, ends, seeds, pushes_waiting, handled, printed, performed, runs, ticks, step_by, step, after, load}
use Rattle.al_tasks.specs.Exclusion.{IsAlikeBut as Alike, AreAlikeBut, WordsAreUnread, Each, IsLaidOut}
use Rattle.al_machine.proofs.MoveLemmas.{IsSafe}
use Rattle.al_tasks.proofs.TwinLemmas.{TwinMachine, Twin, TwinFlow, own, twin-exec, twin-pushed, alike-copied, alike-zeroed}
use Rattle.al_tasks.specs.Fits.{Fits, Stands}
use Rattle.al_tasks.proofs.WordsLemmas.{safe_at, safe_here, fits-after, fits-load}

world_if : (q : ℕ) (b : Bool) (x y x' y' : World) → (b ≡ true → AreAlikeBut q x x') → (b ≡ false → AreAlikeBut q y y') → AreAlikeBut q (cond b x y) (cond b x' y')
world_if q true x y x' y' f g = f refl
world_if q false x y x' y' f g = g refl

-- a world that differs only in its memory
plain : (q : ℕ) (x : World) (ys : List ℤ) → Alike q x.memory ys → AreAlikeBut q x (record x { memory = ys })
plain q x ys a = record { rest = refl; words = a }

module _ (p : Program) (image : IsLaidOut p) (q : ℕ) (low : q < p.words) (w : World) (f : Fits p w) (ys : List ℤ) (alike : Alike q w.memory ys) where
  abbrev v : World
  v = record w { memory = ys }

  module _ (t : Task) (ts : List Task) (here : w.ready ≡ t ∷ ts) (safe : IsSafe p.objects t.held q) where
    abbrev m : Machine
    m = machine_of w t

    both : Each (Stands p) (t ∷ ts)
    both = subst (λ (l : List Task). Each (Stands p) l) here f.ready

    inside_own : IsWithin m
    inside_own =
        let s = both.0 in let len = f.memory in let room = image.room in
        record { memory = omega arith; own = let h = s.own in omega arith; frame = s.frame; below = s.below; stack = s.stack; room = s.room }

    low_own : q < t.registers.first
    low_own = let d = both.0.data_below in omega arith

    -- a word among the task's stack words
    own_word : (k : ℕ) → t.registers.first ≤ k → get_or ys k (pos 0) ≡ get_or w.memory k (pos 0)
    own_word k h = own q m ys inside_own low_own alike k h

    with_end : (end : Ending) → AreAlikeBut q (record w { ended = Some end }) (record v { ended = Some end })
    with_end end = plain q (record w { ended = Some end }) ys alike

    abbrev stand : ℕ → ℕ → ℕ → ℕ → List ℤ → World
    stand place first frame top memory = record w { memory = memory; ready = record t { place = place; registers = record { first = first; frame = frame; top = top } } ∷ ts }

    twin-goes_on : (place : ℕ) (a b : Machine) → TwinMachine q a b → AreAlikeBut q (goes_on t ts place a w) (goes_on t ts place b v)
    twin-goes_on place a b g = record {
      rest = ap (λ (n : ℕ). stand place n b.frame b.top b.memory) g.first ∙ ap (λ (n : ℕ). stand place a.first n b.top b.memory) g.frame ∙ ap (λ (n : ℕ). stand place a.first a.frame n b.memory) g.top;
      words = g.memory;
    }

    twin-jumps : (r : Option (Operation × ℕ)) (place : ℕ) (a b : Machine) → TwinMachine q a b → AreAlikeBut q (jumps r place t ts a w) (jumps r place t ts b v)
    twin-jumps None place a b g = let h = twin-goes_on place a b g in record { rest = ap stuck h.rest; words = h.words }
    twin-jumps (Some r) place a b g = twin-goes_on place a b g

    raised_alike : (next : ℕ) (x y : Trap) → y ≡ x → AreAlikeBut q (turns p next t ts w (Err x)) (turns p next t ts v (Err y))
    raised_alike next x y e = subst (λ (z : Trap). AreAlikeBut q (turns p next t ts w (Err x)) (turns p next t ts v (Err z))) (sym e) (at x)
      where
        at : (x : Trap) → AreAlikeBut q (turns p next t ts w (Err x)) (turns p next t ts v (Err x))
        at trap.Stuck = with_end Stuck
        at (trap.Raised e) = with_end (raised_at p e t.place)

    twin-turns : (next : ℕ) (r s : Result Machine Trap) → Twin q r s → AreAlikeBut q (turns p next t ts w r) (turns p next t ts v s)
    twin-turns next (Ok a) (Ok b) g = twin-goes_on next a b g
    twin-turns next (Ok a) (Err y) g = absurd g
    twin-turns next (Err x) (Ok b) g = absurd g
    twin-turns next (Err x) (Err y) g = raised_alike next x y g

    flow_raised : (next : ℕ) (x y : Trap) → y ≡ x → AreAlikeBut q (flows p next t ts w (Err x)) (flows p next t ts v (Err y))
    flow_raised next x y e = subst (λ (z : Trap). AreAlikeBut q (flows p next t ts w (Err x)) (flows p next t ts v (Err z))) (sym e) (at x)
      where
        at : (x : Trap) → AreAlikeBut q (flows p next t ts w (Err x)) (flows p next t ts v (Err x))
        at trap.Stuck = with_end Stuck
        at (trap.Raised e) = with_end (raised_at p e t.place)

    flow_same : (next : ℕ) (g h : Flow) (a b : Machine) → h ≡ g → TwinMachine q a b → AreAlikeBut q (flows p next t ts w (Ok (g, a))) (flows p next t ts v (Ok (h, b)))
    flow_same next g h a b e k = subst (λ (z : Flow). AreAlikeBut q (flows p next t ts w (Ok (g, a))) (flows p next t ts v (Ok (z, b)))) (sym e) (at g)
      where
        at : (g : Flow) → AreAlikeBut q (flows p next t ts w (Ok (g, a))) (flows p next t ts v (Ok (g, b)))
        at On = twin-goes_on next a b k
        at (To place) = twin-jumps (fetch p.code place) place a b k

    twin-flows : (next : ℕ) (r s : Result (Flow × Machine) Trap) → TwinFlow q r s → AreAlikeBut q (flows p next t ts w r) (flows p next t ts v s)
    twin-flows next (Ok (g, a)) (Ok (h, b)) k = flow_same next g h a b k.0 k.1
    twin-flows next (Ok (g, a)) (Err y) k = absurd k
    twin-flows next (Err x) (Ok (h, b)) k = absurd k
    twin-flows next (Err x) (Err y) k = flow_raised next x y k

    raised : AreAlikeBut q (raises p ProgramError t w) (raises p ProgramError t v)
    raised = with_end (raised_at p ProgramError t.place)

    twin-enters : (t' : Task) (o : ℕ) (r : Option Region) → AreAlikeBut q (enters p o r t t' ts w) (enters p o r t t' ts v)
    twin-enters t' o None = with_end Stuck
    twin-enters t' o (Some c) = world_if q (nat_le t.active c.ceiling) _ _ _ _ (λ _. world_if q (is_entered t.held o) _ _ _ _ (λ _. raised) (λ _. plain q (record w { ready = at_head (inside t' o c.ceiling) ts }) ys alike)) (λ _. raised)

    twin-enters_entry : (t' : Task) (o : ℕ) (r : Option Region) → AreAlikeBut q (enters_entry p o r t t' ts w) (enters_entry p o r t t' ts v)
    twin-enters_entry t' o None = with_end Stuck
    twin-enters_entry t' o (Some c) = world_if q (is_inside_nothing t.held) _ _ _ _ (λ _. twin-enters t' o (Some c)) (λ _. raised)

    twin-leaves : (t' : Task) (held : List Entered) → AreAlikeBut q (leaves held t' ts w) (leaves held t' ts v)
    twin-leaves t' [] = with_end Stuck
    twin-leaves t' (h ∷ hs) = plain q (leaves (h ∷ hs) t' ts w) ys alike

    twin-blocks : (t' : Task) (o : ℕ) (held : List Entered) → AreAlikeBut q (blocks p o held t t' ts w) (blocks p o held t t' ts v)
    twin-blocks t' o [] = with_end Stuck
    twin-blocks t' o (h ∷ i ∷ hs) = with_end Stuck
    twin-blocks t' o (h ∷ []) = world_if q (h.object == o) _ _ _ _ (λ _. world_if q (list_any (λ u. is_waiting o u.pause) w.paused) _ _ _ _ (λ _. raised) (λ _. plain q (pauses (outside t' h.before []) (Waiting o) ts w) ys alike)) (λ _. with_end Stuck)

    twin-sleeps : (moment : ℤ) (slept : Task) → AreAlikeBut q (sleeps moment slept ts w) (sleeps moment slept ts v)
    twin-sleeps moment slept = world_if q (int_le moment w.clock) _ _ _ _ (λ _. plain q (record w { ready = at_tail slept ts }) ys alike) (λ _. plain q (pauses slept (Delayed moment) ts w) ys alike)

    twin-wakes : (t' : Task) (o : ℕ) (r : Option Region) → AreAlikeBut q (wakes o r t t' ts w) (wakes o r t t' ts v)
    twin-wakes t' o None = with_end Stuck
    twin-wakes t' o (Some c) = world_if q (list_any (λ u. is_waiting o u.pause) w.paused) _ _ _ _ (λ _. plain q (released (is_waiting o) (record w { ready = t' ∷ ts })) ys alike) (λ _. with_end Stuck)

    twin-creates : (t' : Task) (place priority : ℕ) → w.created < p.tasks → AreAlikeBut q (creates p place priority t' ts w) (creates p place priority t' ts v)
    twin-creates t' place priority more = let len = f.memory in record { rest = refl; words = alike-zeroed q w.memory ys alike (p.words + 16384 * (w.created + 1)) 3 (omega arith) }

    twin-goes : (t' : Task) → AreAlikeBut q (goes t' ts w) (goes t' ts v)
    twin-goes t' = world_if q (w.created == 0) _ _ _ _ (λ _. plain q (record w { ready = t' ∷ ts; gone = true }) ys alike) (λ _. plain q (released is_created (pauses t' Activating ts (record w { gone = true; activations = w.created }))) ys alike)

    twin-begins : (t' : Task) → AreAlikeBut q (begins t' ts w) (begins t' ts v)
    twin-begins t' =
        let now = record w { ready = record t' { begun = true } ∷ ts; activations = w.activations - 1 } in
        world_if q (w.activations == 1) _ _ _ _ (λ _. plain q (released is_activating now) ys alike) (λ _. plain q now ys alike)

    twin-ends : (t' : Task) (us : List Task) → AreAlikeBut q (ends t' us w) (ends t' us v)
    twin-ends t' [] = let now = pauses t' Ended [] w in world_if q (list_all (λ u. is_ended u.pause) now.paused) _ _ _ _ (λ _. plain q (record now { ended = Some Finished }) ys alike) (λ _. plain q now ys alike)
    twin-ends t' (u ∷ us) = plain q (pauses t' Ended (u ∷ us) w) ys alike

    at_room : (address words : ℕ) (b : Bool) → (holds words m && nat_le (address + words) (length w.memory)) ≡ b → Twin q (cond b (Ok (record m { memory = copied w.memory (m.top - words) words address; top = m.top - words })) (Err trap.Stuck)) (cond b (Ok (record m { memory = copied ys (m.top - words) words address; top = m.top - words })) (Err trap.Stuck))
    at_room address words false e = refl
    at_room address words true e =
        let i = inside_own in let o = i.own in let r = i.room in let fr = i.frame in let l = low_own in
        let a : m.frame + words ≤ m.top = grind (arith, nat_tests) in
        let b : address + words ≤ length w.memory = grind (arith, nat_tests) in
        record { first = refl; frame = refl; top = refl; memory = alike-copied q w.memory ys alike (m.top - words) words address (omega arith) b (inl (omega arith)) }

    twin-seeds : (address words : ℕ) → Twin q (seeds address words m) (seeds address words (machine_of v t))
    twin-seeds address words = rw alike.long (at_room address words (holds words m && nat_le (address + words) (length w.memory)) refl)

    twin-handled : (i : TaskInstruction) (next : ℕ) → AreAlikeBut q (handled p i next t (record t { place = next }) ts w) (handled p i next t (record t { place = next }) ts v)
    unfolding handled
    twin-handled (kind.Task place priority) next = world_if q (w.gone || (nat_le p.tasks w.created || nat_lt 30 priority)) _ _ _ _ (λ _. with_end Stuck) (λ e. twin-creates (record t { place = next }) place priority (more w.gone (nat_lt 30 priority) e))
      where
        more : (a b : Bool) → (a || (nat_le p.tasks w.created || b)) ≡ false → w.created < p.tasks
        more a b e = grind (arith, nat_tests)
    twin-handled kind.Go next = world_if q (w.gone || not (is_inside_nothing t.held)) _ _ _ _ (λ _. with_end Stuck) (λ _. twin-goes (record t { place = next }))
    twin-handled kind.Begun next = world_if q (is_inside_nothing t.held && (not (t.number == 0) && not t.begun)) _ _ _ _ (λ _. twin-begins (record t { place = next })) (λ _. with_end Stuck)
    twin-handled kind.Done next = world_if q (is_inside_nothing t.held) _ _ _ _ (λ _. twin-ends (record t { place = next }) ts) (λ _. with_end Stuck)
    twin-handled kind.Now next = twin-turns next (pushed w.clock m) (pushed w.clock (machine_of v t)) (twin-pushed q m ys inside_own low_own alike w.clock)
    twin-handled kind.Sleep next =
        let slept = record t { place = next; registers = record { first = m.first; frame = m.frame; top = m.top - 1 } } in
        world_if q (is_inside_nothing t.held) _ _ _ _
        (λ _. world_if q (holds 1 m) _ _ _ _ (λ e.
        let i = inside_own in let fr = i.frame in
        let h : m.frame + 1 ≤ m.top = grind (arith, nat_tests) in
        rw (own_word (m.top - 1) (omega arith)) (twin-sleeps (word_at m (m.top - 1)) slept)) (λ _. with_end Stuck))
        (λ _. raised)
    twin-handled (kind.Enter o) next = twin-enters (record t { place = next }) o (slice_get p.objects o)
    twin-handled (kind.EnterEntry o) next = twin-enters_entry (record t { place = next }) o (slice_get p.objects o)
    twin-handled kind.Leave next = twin-leaves (record t { place = next }) t.held
    twin-handled (kind.Waiting o) next = twin-turns next (pushes_waiting o (slice_get p.objects o) w m) (pushes_waiting o (slice_get p.objects o) v (machine_of v t)) (at (slice_get p.objects o))
      where
        at : (r : Option Region) → Twin q (pushes_waiting o r w m) (pushes_waiting o r v (machine_of v t))
        at None = refl
        at (Some c) = twin-pushed q m ys inside_own low_own alike _
    twin-handled (kind.Wake o) next = twin-wakes (record t { place = next }) o (slice_get p.objects o)
    twin-handled (kind.Block o) next = twin-blocks (record t { place = next }) o t.held
    twin-handled (kind.Seed address words) next = world_if q (w.gone || not (is_inside_nothing t.held)) _ _ _ _ (λ _. with_end Stuck) (λ _. twin-turns next (seeds address words m) (seeds address words (machine_of v t)) (twin-seeds address words))

    same_word : (below : ℕ) (text : ℤ → Result (List ℕ) Trap) → by_word below (machine_of v t) text ≡ by_word below m text
    same_word below text = at (holds (below + 1) m) refl
      where
        at : (b : Bool) → holds (below + 1) m ≡ b → cond b (text (word_at (machine_of v t) (m.top - 1 - below))) (Err trap.Stuck) ≡ cond b (text (word_at m (m.top - 1 - below))) (Err trap.Stuck)
        at true e =
            let i = inside_own in let fr = i.frame in
            let h : m.frame + (below + 1) ≤ m.top = grind (arith, nat_tests) in
            ap text (own_word (m.top - 1 - below) (omega arith))
        at false e = refl

    same_text : (i : OutputInstruction) → text_of i (machine_of v t) ≡ text_of i m
    unfolding text_of
    same_text (out.PutText text) = refl
    same_text (out.PutInteger below) = same_word below integer_of
    same_text (out.PutName below names) = same_word below (name_of names)
    same_text out.NewLine = refl

    twin-puts : (next : ℕ) (r : Result (List ℕ) Trap) → AreAlikeBut q (puts p r t (record t { place = next }) ts w) (puts p r t (record t { place = next }) ts v)
    twin-puts next (Ok text) = plain q (record w { output = w.output ++ text; ready = record t { place = next } ∷ ts }) ys alike
    twin-puts next (Err trap.Stuck) = with_end Stuck
    twin-puts next (Err (trap.Raised e)) = with_end (raised_at p e t.place)

    twin-printed : (i : OutputInstruction) (next : ℕ) → AreAlikeBut q (printed p i t (record t { place = next }) ts w) (printed p i t (record t { place = next }) ts v)
    unfolding printed
    twin-printed i next = world_if q (is_inside_nothing t.held) _ _ _ _ (λ _. rw (same_text i) (twin-puts next (text_of i m))) (λ _. raised)

    twin-performed : (r : Option (Operation × ℕ)) → AreAlikeBut q (performed p r t ts w) (performed p r t ts v)
    unfolding performed
    twin-performed None = with_end Stuck
    twin-performed (Some (operation.Word i, next)) = twin-flows next (exec p.objects t.held next i m) (exec p.objects t.held next i (machine_of v t)) (twin-exec q m ys inside_own low_own alike p.objects t.held safe next i)
    twin-performed (Some (operation.Task i, next)) = twin-handled i next
    twin-performed (Some (operation.Output i, next)) = twin-printed i next

  twin-runs : (ready : List Task) → w.ready ≡ ready → safe_at p q ready → AreAlikeBut q (runs p w ready) (runs p v ready)
  twin-runs [] is safe = plain q w ys alike
  twin-runs (t ∷ ts) is safe = twin-performed t ts is safe (fetch p.code t.place)

  twin-ticks : AreAlikeBut q (ticks w) (ticks v)
  unfolding ticks
  twin-ticks = plain q _ ys alike

  twin-step : safe_at p q w.ready → (e : Event) → AreAlikeBut q (step p w e) (step p v e)
  twin-step safe e = at w.ended e
    where
      at : (s : Option Ending) (e : Event) → AreAlikeBut q (step_by p w s e) (step_by p v s e)
      at None event.Instr = twin-runs w.ready refl safe
      at None event.Tick = twin-ticks
      at (Some end) e = plain q w ys alike

-- only an instruction of the task inside an object reads the object's words
pub words_are_unread : (p : Program) → IsLaidOut p → (events : List Event) → WordsAreUnread p (after p (load p) events)
words_are_unread p image events e number place ys is out alike =
    let w = after p (load p) events in
    let o = is.0 in let inside = image.regions number o is.1 in let high = is.3 in
    let low : place < p.words = omega arith in
    twin-step p image place low w (fits-after p image (load p) events (fits-load p)) ys alike (safe_here p number place is w.ready out) e
