-- What every event keeps of memory.
use Rattle.std.proofs.Common.{◌≡◌, ℕ, zero, suc, ◌+◌, ◌-◌, ◌*◌, ◌<◌, ◌≤◌, ℤ, List, [], ◌∷◌, ◌++◌, Bool, true, false, not, cond, ◌&&◌, ◌||◌, ◌==◌, Option, Some, None, Result, Ok, Err, length, get_or, slice_get, nat_le, nat_lt, refl, sym, ◌∙◌, ap, subst, arith, inl, inr, ◌⊎◌}
use Rattle.std.proofs.lemmas.Bool.Decides.{nat_tests, leb_tells}
use Rattle.std.proofs.lemmas.List.{length-replicate}
use Rattle.std.specs.Prelude.{pos, int_le, ⊤}
use Rattle.std.specs.List.{list_any, list_all}
use Rattle.al_machine.specs.declared.instruction.Exception.TheVariants.{Program as ProgramError}
use Rattle.al_machine.specs.declared.instruction.Flow.{Flow}
use Rattle.al_machine.specs.declared.instruction.Flow.TheVariants.{On, To}
use Rattle.al_machine.specs.declared.instruction.Trap.{Trap}
use Rattle.al_machine.specs.declared.instruction.Trap.TheVariants as trap
use Rattle.al_link_image.specs.declared.parts.Region.{Region}
use Rattle.al_tasks.specs.declared.event.Event.{Event}
use Rattle.al_tasks.specs.declared.event.Event.TheVariants as event
use Rattle.al_machine.specs.declared.operation.Operation.{Operation}
use Rattle.al_machine.specs.declared.operation.Operation.TheVariants as operation
use Rattle.al_machine.specs.declared.operation.OutputInstruction.{OutputInstruction}
use Rattle.al_machine.specs.declared.operation.TaskInstruction.{TaskInstruction}
use Rattle.al_machine.specs.declared.operation.TaskInstruction.TheVariants as kind
use Rattle.al_machine.specs.declared.stack.Registers.{Registers}
use Rattle.al_machine.specs.Machine.{Machine, IsWithin}
use Rattle.al_machine.specs.Memory.{is_open, is_entered, lies_apart, copied}
use Rattle.al_machine.specs.Stack.{holds, word_at, pushed}
use Rattle.al_machine.specs.Table.{exec}
use Rattle.al_machine.specs.declared.regions.Entered.{Entered}
use Rattle.al_machine.specs.Code.{fetch}
use Rattle.al_machine.specs.Output.{text_of}
use Rattle.al_tasks.specs.declared.event.Pause.{Pause}
use Rattle.al_tasks.specs.declared.event.Pause.TheVariants.{Activating, Delayed, Waiting, Ended}
use Rattle.al_tasks.specs.declared.event.Ending.{Ending}
use Rattle.al_tasks.specs.declared.event.Ending.TheVariants.{Finished, Stuck}
use Rattle.al_tasks.specs.Task.{Task, Program, World, is_created, is_activating, is_waiting, is_ended}
use Rattle.al_tasks.specs.World.{at_head, at_tail, is_inside_nothing, stuck, raises, passing, released, pauses, goes_on, machine_of, raised_at, puts, jumps, flows, turns, inside, outside, enters, enters_entry, leaves, blocks, sleeps, wakes, creates, goes, begins, ends, seeds, pushes_waiting, handled, printed, performed, runs, ticks, step_by, step, after, load}
use Rattle.al_tasks.specs.Exclusion.{Each, IsWordOf, IsLaidOut, size, runs_inside, is_seed, runs_seed, seeds_now, WordsAreKept}
use Rattle.al_tasks.specs.Fits.{InPlace, Stands, Fits}
use Rattle.al_machine.proofs.MemoryLemmas.{length-copied, length-zeroed, zeroed_apart}
use Rattle.al_machine.proofs.MoveLemmas.{Moves, Good, GoodFlow, IsSafe, flow-exec, good-pushed}
use Rattle.al_tasks.proofs.WorldQueueLemmas.{each-at_head, each-at_tail, each-by_number, each-passing, each-failing, each-all_at_tail}

-- a word of an object that the task isn't inside is apart from all that is open to the task

apart_safe : (o : Region) (k from words : ℕ) → o.address ≤ k → k < o.address + o.words → lies_apart o from words ≡ true → (k < from) ⊎ (from + words ≤ k)
apart_safe o k from words low high e =
    elim (leb_tells (suc k) from) [
      | inl w ↦ inl w.1
      | inr w ↦ inr (at (leb_tells (from + words) k) w.1)
    ]
  where
    at : ((nat_le (from + words) k ≡ true) × (from + words ≤ k)) ⊎ ((nat_le (from + words) k ≡ false) × (k < from + words)) → from < suc k → from + words ≤ k
    at (inl w) h = w.1
    at (inr w) h = let above = w.1 in absurd (grind (arith, nat_tests))

both_left : (a b : Bool) → (a && b) ≡ true → a ≡ true
both_left true b e = refl
both_left false b e = absurd (cc)

both_right : (a b : Bool) → (a && b) ≡ true → b ≡ true
both_right true b e = e
both_right false b e = absurd (cc)

or_left : (a b : Bool) → b ≡ false → (a || b) ≡ true → a ≡ true
or_left true b f e = refl
or_left false b f e = absurd (cc)

open_safe : (os : List Region) (entered : List Entered) (start number k : ℕ) (o : Region) → slice_get os number ≡ Some o → o.address ≤ k → k < o.address + o.words → is_entered entered (start + number) ≡ false
    → (from words : ℕ) → is_open os entered start from words ≡ true → (k < from) ⊎ (from + words ≤ k)
open_safe [] entered start zero k o is low high out from words e = absurd (cc)
open_safe [] entered start (suc number) k o is low high out from words e = absurd (cc)
open_safe (x ∷ xs) entered start zero k o is low high out from words e =
    let same : x ≡ o = cc in
    let number : start + 0 ≡ start = omega arith in
    let out' = rw number at out in
    let first = both_left (lies_apart x from words || is_entered entered start) (is_open xs entered (start + 1) from words) e in
    apart_safe o k from words low high (subst (λ (y : Region). lies_apart y from words ≡ true) same (or_left (lies_apart x from words) (is_entered entered start) out' first))
open_safe (x ∷ xs) entered start (suc number) k o is low high out from words e =
    let there : start + suc number ≡ (start + 1) + number = omega arith in
    let out' = rw there at out in
    let rest = both_right (lies_apart x from words || is_entered entered start) (is_open xs entered (start + 1) from words) e in
    open_safe xs entered (start + 1) number k o is low high out' from words rest

-- the running task is inside none of the objects that have the word
abbrev pub safe_at : Program → ℕ → List Task → Type 0
safe_at p k [] = ⊤
safe_at p k (t ∷ ts) = IsSafe p.objects t.held k

-- the next world fits too, and if S holds the word at k is unchanged
pub record Kept (S : Type 0) (p : Program) (k : ℕ) (w w' : World) : Type 0 where
  pub fits : Fits p w'
  pub kept : S → get_or w'.memory k (pos 0) ≡ get_or w.memory k (pos 0)

module _ (S : Type 0) (p : Program) (image : IsLaidOut p) (k : ℕ) (low : S → k < p.words) where
  kept_if : (w : World) (b : Bool) (v u : World) → (b ≡ true → Kept S p k w v) → (b ≡ false → Kept S p k w u) → Kept S p k w (cond b v u)
  kept_if w true v u f g = f refl
  kept_if w false v u f g = g refl

  -- memory is unchanged, and the lists of tasks are others
  kept_tasks : (w w' : World) → Fits p w → w'.memory ≡ w.memory → w'.created ≡ w.created → Each (Stands p) w'.ready → Each (Stands p) w'.paused → Kept S p k w w'
  kept_tasks w w' f e c ready paused = record {
    fits = record { memory = ap (λ (l : List ℤ). length l) e ∙ f.memory; ready = ready; paused = paused; created = let h = f.created in omega arith };
    kept = λ _. ap (λ (l : List ℤ). get_or l k (pos 0)) e;
  }

  kept_released : (test : Pause → Bool) (w w' : World) → Kept S p k w w' → Kept S p k w (released test w')
  kept_released test w w' h =
      let f = h.fits in
      record {
        fits = record { memory = f.memory; ready = each-all_at_tail (Stands p) (passing test w'.paused) w'.ready (each-passing (Stands p) test w'.paused f.paused) f.ready; paused = each-failing (Stands p) test w'.paused f.paused; created = f.created };
        kept = h.kept;
      }

  module _ (w : World) (f : Fits p w) (t : Task) (ts : List Task) (here : w.ready ≡ t ∷ ts) (safe : S → IsSafe p.objects t.held k) where
    same : Kept S p k w w
    same = record { fits = f; kept = λ _. refl }

    -- a world that has ended
    with_end : (end : Ending) → Kept S p k w (record w { ended = Some end })
    with_end end = kept_tasks w (record w { ended = Some end }) f refl refl f.ready f.paused

    both : Each (Stands p) (t ∷ ts)
    both = subst (λ (l : List Task). Each (Stands p) l) here f.ready

    within : IsWithin (machine_of w t)
    within =
        let s = both.0 in let len = f.memory in let room = image.room in
        record { memory = omega arith; own = let h = s.own in omega arith; frame = s.frame; below = s.below; stack = s.stack; room = s.room }

    low_here : S → k < t.registers.first
    low_here s = let d = both.0.data_below in let l = low s in omega arith

    kept-goes_on : (place : ℕ) (m : Machine) → Moves S k (machine_of w t) m → Kept S p k w (goes_on t ts place m w)
    kept-goes_on place m g =
        let s = both.0 in let first = g.first in
        record {
          fits = record {
            memory = g.memory ∙ f.memory;
            ready = (record { data_below = let d = s.data_below in omega arith; own = let o = s.own in omega arith; frame = let h = g.frame in omega arith; below = let h = g.below in omega arith; stack = g.stack; room = let h = g.room in omega arith }, both.1);
            paused = f.paused;
            created = f.created;
          };
          kept = g.kept;
        }

    kept-jumps : (r : Option (Operation × ℕ)) (place : ℕ) (m : Machine) → Moves S k (machine_of w t) m → Kept S p k w (jumps r place t ts m w)
    kept-jumps None place m g =
        let h = kept-goes_on place m g in let f' = h.fits in
        record { fits = record { memory = f'.memory; ready = f'.ready; paused = f'.paused; created = f'.created }; kept = h.kept }
    kept-jumps (Some r) place m g = kept-goes_on place m g

    kept-flows : (next : ℕ) (r : Result (Flow × Machine) Trap) → GoodFlow S k (machine_of w t) r → Kept S p k w (flows p next t ts w r)
    kept-flows next (Ok (On, m)) g = kept-goes_on next m g
    kept-flows next (Ok (To place, m)) g = kept-jumps (fetch p.code place) place m g
    kept-flows next (Err trap.Stuck) g = with_end Stuck
    kept-flows next (Err (trap.Raised e)) g = with_end (raised_at p e t.place)

    kept-turns : (next : ℕ) (r : Result Machine Trap) → Good S k (machine_of w t) r → Kept S p k w (turns p next t ts w r)
    kept-turns next (Ok m) g = kept-goes_on next m g
    kept-turns next (Err trap.Stuck) g = with_end Stuck
    kept-turns next (Err (trap.Raised e)) g = with_end (raised_at p e t.place)

    raised : Kept S p k w (raises p ProgramError t w)
    raised = with_end (raised_at p ProgramError t.place)

    kept-enters : (t' : Task) (o : ℕ) (r : Option Region) → Stands p t' → Kept S p k w (enters p o r t t' ts w)
    kept-enters t' o None s = with_end Stuck
    kept-enters t' o (Some c) s =
        kept_if w (nat_le t.active c.ceiling) _ (raises p ProgramError t w)
        (λ _. kept_if w (is_entered t.held o) (raises p ProgramError t w) (record w { ready = at_head (inside t' o c.ceiling) ts }) (λ _. raised)
        (λ _. kept_tasks w (record w { ready = at_head (inside t' o c.ceiling) ts }) f refl refl (each-at_head (Stands p) (inside t' o c.ceiling) ts s both.1) f.paused))
        (λ _. raised)

    kept-enters_entry : (t' : Task) (o : ℕ) (r : Option Region) → Stands p t' → Kept S p k w (enters_entry p o r t t' ts w)
    kept-enters_entry t' o None s = with_end Stuck
    kept-enters_entry t' o (Some c) s = kept_if w (is_inside_nothing t.held) (enters p o (Some c) t t' ts w) (raises p ProgramError t w) (λ _. kept-enters t' o (Some c) s) (λ _. raised)

    kept-leaves : (t' : Task) (held : List Entered) → Stands p t' → Kept S p k w (leaves held t' ts w)
    kept-leaves t' [] s = with_end Stuck
    kept-leaves t' (h ∷ hs) s = kept_tasks w (leaves (h ∷ hs) t' ts w) f refl refl (each-at_head (Stands p) (outside t' h.before hs) ts s both.1) f.paused

    kept-pauses : (t' : Task) (pause : Pause) → Stands p t' → Kept S p k w (pauses t' pause ts w)
    kept-pauses t' pause s = kept_tasks w (pauses t' pause ts w) f refl refl both.1 (each-by_number (Stands p) (record t' { pause = pause }) w.paused s f.paused)

    kept-blocks : (t' : Task) (o : ℕ) (held : List Entered) → Stands p t' → Kept S p k w (blocks p o held t t' ts w)
    kept-blocks t' o [] s = with_end Stuck
    kept-blocks t' o (h ∷ i ∷ hs) s = with_end Stuck
    kept-blocks t' o (h ∷ []) s =
        kept_if w (h.object == o) _ (stuck w)
        (λ _. kept_if w (list_any (λ u. is_waiting o u.pause) w.paused) (raises p ProgramError t w) (pauses (outside t' h.before []) (Waiting o) ts w) (λ _. raised) (λ _. kept-pauses (outside t' h.before []) (Waiting o) s))
        (λ _. with_end Stuck)

    kept-sleeps : (moment : ℤ) (slept : Task) → Stands p slept → Kept S p k w (sleeps moment slept ts w)
    kept-sleeps moment slept s = kept_if w (int_le moment w.clock) (record w { ready = at_tail slept ts }) (pauses slept (Delayed moment) ts w)
        (λ _. kept_tasks w (record w { ready = at_tail slept ts }) f refl refl (each-at_tail (Stands p) slept ts s both.1) f.paused)
        (λ _. kept-pauses slept (Delayed moment) s)

    kept-moved : (w' : World) (t' : Task) → Stands p t' → w'.ready ≡ t' ∷ ts → w'.memory ≡ w.memory → w'.created ≡ w.created → w'.paused ≡ w.paused → Kept S p k w w'
    kept-moved w' t' s ready memory created paused =
        kept_tasks w w' f memory created (subst (λ (l : List Task). Each (Stands p) l) (sym ready) (s, both.1)) (subst (λ (l : List Task). Each (Stands p) l) (sym paused) f.paused)

    kept-wakes : (t' : Task) (o : ℕ) (r : Option Region) → Stands p t' → Kept S p k w (wakes o r t t' ts w)
    kept-wakes t' o None s = with_end Stuck
    kept-wakes t' o (Some c) s = kept_if w (list_any (λ u. is_waiting o u.pause) w.paused) (released (is_waiting o) (record w { ready = t' ∷ ts })) (stuck w)
        (λ _. kept_released (is_waiting o) w (record w { ready = t' ∷ ts }) (kept-moved (record w { ready = t' ∷ ts }) t' s refl refl refl refl)) (λ _. with_end Stuck)

    kept-creates : (t' : Task) (place priority : ℕ) → Stands p t' → w.created < p.tasks → Kept S p k w (creates p place priority t' ts w)
    kept-creates t' place priority s more =
        let len = f.memory in
        record {
          fits = record {
            memory = length-zeroed w.memory (p.words + 16384 * (w.created + 1)) 3 (omega arith) ∙ f.memory;
            ready = (s, both.1);
            paused = each-by_number (Stands p) _ w.paused (record { data_below = omega arith; own = omega arith; frame = omega arith; below = omega arith; stack = omega arith; room = omega arith }) f.paused;
            created = omega arith;
          };
          kept = λ h. let l = low h in zeroed_apart w.memory (p.words + 16384 * (w.created + 1)) 3 k (omega arith) (inl (omega arith));
        }

    kept-goes : (t' : Task) → Stands p t' → Kept S p k w (goes t' ts w)
    kept-goes t' s = kept_if w (w.created == 0) (record w { ready = t' ∷ ts; gone = true }) _
        (λ _. kept-moved (record w { ready = t' ∷ ts; gone = true }) t' s refl refl refl refl)
        (λ _. let v = pauses t' Activating ts (record w { gone = true; activations = w.created }) in
        kept_released is_created w v (kept_tasks w v f refl refl both.1 (each-by_number (Stands p) (record t' { pause = Activating }) w.paused s f.paused)))

    kept-begins : (t' : Task) → Stands p t' → Kept S p k w (begins t' ts w)
    kept-begins t' s =
        let now = record w { ready = record t' { begun = true } ∷ ts; activations = w.activations - 1 } in
        let h : Kept S p k w now = kept-moved now (record t' { begun = true }) s refl refl refl refl in
        kept_if w (w.activations == 1) (released is_activating now) now (λ _. kept_released is_activating w now h) (λ _. h)

    kept-ends : (t' : Task) (us : List Task) → us ≡ ts → Stands p t' → Kept S p k w (ends t' us w)
    kept-ends t' [] is s =
        let now = pauses t' Ended [] w in
        let h : Kept S p k w now = kept_tasks w now f refl refl tt (each-by_number (Stands p) (record t' { pause = Ended }) w.paused s f.paused) in
        let g = h.fits in
        kept_if w (list_all (λ u. is_ended u.pause) now.paused) (record now { ended = Some Finished }) now
        (λ _. record { fits = record { memory = g.memory; ready = g.ready; paused = g.paused; created = g.created }; kept = h.kept }) (λ _. h)
    kept-ends t' (u ∷ us) is s =
        kept_tasks w (pauses t' Ended (u ∷ us) w) f refl refl (subst (λ (l : List Task). Each (Stands p) l) (sym is) both.1) (each-by_number (Stands p) (record t' { pause = Ended }) w.paused s f.paused)

    kept-seeds : (address words next : ℕ) → (S → ⊥) → Kept S p k w (turns p next t ts w (seeds address words (machine_of w t)))
    kept-seeds address words next none = kept-turns next (seeds address words (machine_of w t)) (at (holds words m && nat_le (address + words) (length m.memory)) refl)
      where
        m : Machine
        m = machine_of w t

        at : (b : Bool) → (holds words m && nat_le (address + words) (length m.memory)) ≡ b → Good S k m (cond b (Ok (record m { memory = copied m.memory (m.top - words) words address; top = m.top - words })) (Err trap.Stuck))
        at false e = tt
        at true e =
            let i = within in let own = i.own in let room = i.room in let stack = i.stack in let frame = i.frame in
            let a : m.frame + words ≤ m.top = grind (arith, nat_tests) in
            let b : address + words ≤ length m.memory = grind (arith, nat_tests) in
            record {
              first = refl;
              memory = length-copied m.memory (m.top - words) words address (omega arith) b;
              frame = i.frame;
              below = i.below;
              stack = omega arith;
              room = omega arith;
              kept = λ s. absurd (none s);
            }

    kept-handled : (i : TaskInstruction) (next : ℕ) → (S → (not w.gone && is_seed (Some (operation.Task i, next))) ≡ false) → Kept S p k w (handled p i next t (record t { place = next }) ts w)
    unfolding handled
    kept-handled (kind.Task place priority) next seed = kept_if w (w.gone || (nat_le p.tasks w.created || nat_lt 30 priority)) (stuck w) _ (λ _. with_end Stuck)
        (λ e. kept-creates (record t { place = next }) place priority both.0 (more w.gone (nat_lt 30 priority) e))
      where
        more : (a b : Bool) → (a || (nat_le p.tasks w.created || b)) ≡ false → w.created < p.tasks
        more a b e = grind (arith, nat_tests)
    kept-handled kind.Go next seed = kept_if w (w.gone || not (is_inside_nothing t.held)) (stuck w) _ (λ _. with_end Stuck) (λ _. kept-goes (record t { place = next }) both.0)
    kept-handled kind.Begun next seed = kept_if w (is_inside_nothing t.held && (not (t.number == 0) && not t.begun)) _ (stuck w) (λ _. kept-begins (record t { place = next }) both.0) (λ _. with_end Stuck)
    kept-handled kind.Done next seed = kept_if w (is_inside_nothing t.held) _ (stuck w) (λ _. kept-ends (record t { place = next }) ts refl both.0) (λ _. with_end Stuck)
    kept-handled kind.Now next seed = kept-turns next (pushed w.clock (machine_of w t)) (good-pushed S k (machine_of w t) within low_here w.clock)
    kept-handled kind.Sleep next seed =
        let m = machine_of w t in
        let slept = record t { place = next; registers = record { first = m.first; frame = m.frame; top = m.top - 1 } } in
        kept_if w (is_inside_nothing t.held) _ (raises p ProgramError t w)
        (λ _. kept_if w (holds 1 m) _ (stuck w) (λ e. kept-sleeps (word_at m (m.top - 1)) slept (popped (grind (arith, nat_tests)))) (λ _. with_end Stuck))
        (λ _. raised)
      where
        popped : (let m = machine_of w t in m.frame + 1 ≤ m.top) → (let m = machine_of w t in let r : Registers = record { first = m.first; frame = m.frame; top = m.top - 1 } in InPlace p r)
        popped h = let s = both.0 in record { data_below = s.data_below; own = s.own; frame = s.frame; below = s.below; stack = omega arith; room = let r = s.room in omega arith }
    kept-handled (kind.Enter o) next seed = kept-enters (record t { place = next }) o (slice_get p.objects o) both.0
    kept-handled (kind.EnterEntry o) next seed = kept-enters_entry (record t { place = next }) o (slice_get p.objects o) both.0
    kept-handled kind.Leave next seed = kept-leaves (record t { place = next }) t.held both.0
    kept-handled (kind.Waiting o) next seed = kept-turns next (pushes_waiting o (slice_get p.objects o) w (machine_of w t)) (at (slice_get p.objects o))
      where
        at : (r : Option Region) → Good S k (machine_of w t) (pushes_waiting o r w (machine_of w t))
        at None = tt
        at (Some c) = good-pushed S k (machine_of w t) within low_here _
    kept-handled (kind.Wake o) next seed = kept-wakes (record t { place = next }) o (slice_get p.objects o) both.0
    kept-handled (kind.Block o) next seed = kept-blocks (record t { place = next }) o t.held both.0
    kept-handled (kind.Seed address words) next seed = kept_if w (w.gone || not (is_inside_nothing t.held)) (stuck w) _ (λ _. with_end Stuck) (λ e. kept-seeds address words next (λ s. no w.gone (not (is_inside_nothing t.held)) e (seed s)))
      where
        no : (a b : Bool) → (a || b) ≡ false → (not a && true) ≡ false → ⊥
        no true b e f = absurd (cc)
        no false b e f = absurd (cc)

    kept-puts : (next : ℕ) (r : Result (List ℕ) Trap) → Kept S p k w (puts p r t (record t { place = next }) ts w)
    kept-puts next (Ok text) = kept-moved (record w { output = w.output ++ text; ready = record t { place = next } ∷ ts }) (record t { place = next }) both.0 refl refl refl refl
    kept-puts next (Err trap.Stuck) = with_end Stuck
    kept-puts next (Err (trap.Raised e)) = with_end (raised_at p e t.place)

    kept-printed : (i : OutputInstruction) (next : ℕ) → Kept S p k w (printed p i t (record t { place = next }) ts w)
    unfolding printed
    kept-printed i next =
        kept_if w (is_inside_nothing t.held) _ (raises p ProgramError t w)
        (λ _. kept-puts next (text_of i (machine_of w t)))
        (λ _. raised)

    kept-performed : (r : Option (Operation × ℕ)) → (S → (not w.gone && is_seed r) ≡ false) → Kept S p k w (performed p r t ts w)
    unfolding performed
    kept-performed None seed = with_end Stuck
    kept-performed (Some (operation.Word i, next)) seed = kept-flows next (exec p.objects t.held next i (machine_of w t)) (flow-exec S k (machine_of w t) within low_here p.objects t.held safe next i)
    kept-performed (Some (operation.Task i, next)) seed = kept-handled i next seed
    kept-performed (Some (operation.Output i, next)) seed = kept-printed i next

  abbrev safe_of : List Task → Type 0
  safe_of ready = safe_at p k ready

  kept-runs : (w : World) (f : Fits p w) (ready : List Task) → w.ready ≡ ready → (S → (not w.gone && runs_seed p ready) ≡ false) → (S → safe_of ready) → Kept S p k w (runs p w ready)
  kept-runs w f [] is seed safe = record { fits = f; kept = λ _. refl }
  kept-runs w f (t ∷ ts) is seed safe = kept-performed w f t ts is safe (fetch p.code t.place) seed

  kept-ticks : (w : World) → Fits p w → Kept S p k w (ticks w)
  unfolding ticks
  kept-ticks w f = kept_released _ w _ (kept_tasks w _ f refl refl f.ready f.paused)

  kept-step : (w : World) → Fits p w → (S → seeds_now p w ≡ false) → (S → safe_of w.ready) → (e : Event) → Kept S p k w (step p w e)
  kept-step w f seed safe e = at w.ended e
    where
      at : (s : Option Ending) (e : Event) → Kept S p k w (step_by p w s e)
      at None event.Instr = kept-runs w f w.ready refl seed safe
      at None event.Tick = kept-ticks w f
      at (Some end) e = record { fits = f; kept = λ _. refl }

pub fits-step : (p : Program) → IsLaidOut p → (w : World) → Fits p w → (e : Event) → Fits p (step p w e)
fits-step p image w f e =
    let h = kept-step ⊥ p image 0 (λ n. absurd n) w f (λ n. absurd n) (λ n. absurd n) e in h.fits

pub fits-after : (p : Program) → IsLaidOut p → (w : World) (es : List Event) → Fits p w → Fits p (after p w es)
fits-after p image w [] f = f
fits-after p image w (e ∷ es) f = fits-after p image (step p w e) es (fits-step p image w f e)

pub fits-load : (p : Program) → Fits p (load p)
fits-load p = record {
  memory = length-replicate (size p) (pos 0);
  ready = (record { data_below = omega arith; own = omega arith; frame = omega arith; below = omega arith; stack = omega arith; room = omega arith }, tt);
  paused = tt;
  created = omega arith;
}

pub safe_here : (p : Program) (number place : ℕ) → IsWordOf p number place → (ready : List Task) → runs_inside ready number ≡ false → safe_at p place ready
safe_here p number place is [] out = tt
safe_here p number place is (t ∷ ts) out = open_safe p.objects t.held 0 number place is.0 is.1 is.2 is.3 (let zero_on : 0 + number ≡ number = omega arith in rw zero_on out)

-- no event changes the words of an object, except an instruction of the task inside it, and one that gives them their first
-- values
pub words_are_kept : (p : Program) → IsLaidOut p → (events : List Event) → WordsAreKept p (after p (load p) events)
words_are_kept p image events e number place is out seed =
    let w = after p (load p) events in
    let o = is.0 in let inside = image.regions number o is.1 in let high = is.3 in
    let h = kept-step (Unit {0}) p image place (λ _. omega arith) w (fits-after p image (load p) events (fits-load p)) (λ _. seed) (λ _. safe_here p number place is w.ready out) e in
    h.kept tt
