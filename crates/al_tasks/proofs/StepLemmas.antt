-- Every event keeps what is known of the tasks.
use Rattle.std.proofs.Common.{◌≡◌, ℕ, ◌-◌, ◌≤◌, ℤ, List, [], ◌∷◌, Bool, true, false, not, cond, ◌&&◌, ◌||◌, ◌==◌, Option, Some, None, Result, Ok, Err, slice_get, nat_le, nat_lt, refl, sym, subst, arith}
use Rattle.std.proofs.lemmas.Bool.Decides.{nat_tests}
use Rattle.std.specs.Prelude.{int_le}
use Rattle.std.specs.List.{list_any, list_all}
use Rattle.al_machine.specs.declared.instruction.Exception.TheVariants.{Program as ProgramError}
use Rattle.al_machine.specs.declared.instruction.Flow.{Flow}
use Rattle.al_machine.specs.declared.instruction.Flow.TheVariants.{On, To}
use Rattle.al_machine.specs.declared.instruction.Trap.{Trap}
use Rattle.al_machine.specs.declared.instruction.Trap.TheVariants as trap
use Rattle.al_link_image.specs.declared.parts.Region.{Region}
use Rattle.al_tasks.specs.declared.event.Event.{Event}
use Rattle.al_tasks.specs.declared.event.Event.TheVariants as event
use Rattle.al_machine.specs.declared.operation.Operation.{Operation}
use Rattle.al_machine.specs.declared.operation.Operation.TheVariants as operation
use Rattle.al_machine.specs.declared.operation.OutputInstruction.{OutputInstruction}
use Rattle.al_machine.specs.declared.operation.TaskInstruction.{TaskInstruction}
use Rattle.al_machine.specs.declared.operation.TaskInstruction.TheVariants as kind
use Rattle.al_machine.specs.Machine.{Machine}
use Rattle.al_machine.specs.Stack.{holds}
use Rattle.al_machine.specs.Memory.{is_entered}
use Rattle.al_machine.specs.declared.regions.Entered.{Entered}
use Rattle.al_machine.specs.Code.{fetch}
use Rattle.al_machine.specs.Output.{text_of}
use Rattle.al_tasks.specs.declared.event.Pause.TheVariants.{Activating, Delayed, Waiting, Ended}
use Rattle.al_tasks.specs.declared.event.Ending.{Ending}
use Rattle.al_tasks.specs.declared.event.Ending.TheVariants.{Finished}
use Rattle.al_tasks.specs.Task.{Task, Program, World, is_created, is_activating, is_waiting, is_ended}
use Rattle.al_tasks.specs.World.{at_head, at_tail, is_inside_nothing, stuck, raises, released, pauses, goes_on, machine_of, puts, jumps, flows, turns, inside, outside, enters, enters_entry, leaves, blocks, sleeps, wakes, creates, goes, begins, ends, handled, printed, performed, runs, ticks, step_by, step, after, load}
use Rattle.al_tasks.proofs.WorldQueueLemmas.{Sound, Away, HeldOk, sound-at_tail, sound-released, sound-rest, sound-paused, ok_away, sound-inside, sound-outside}

abbrev pub Keeps : Program → World → Type 0
Keeps p w = Sound p.objects w.ready w.paused

-- a test that decides between two worlds keeps it if both do
pub keeps_if : (p : Program) (b : Bool) (v w : World) → (b ≡ true → Keeps p v) → (b ≡ false → Keeps p w) → Keeps p (cond b v w)
keeps_if p true v w f g = f refl
keeps_if p false v w f g = g refl

pub free : (held : List Entered) → is_inside_nothing held ≡ true → held ≡ []
free [] e = refl
free (h ∷ hs) e = absurd (cc)

pub free_and : (held : List Entered) (b : Bool) → (is_inside_nothing held && b) ≡ true → held ≡ []
free_and [] b e = refl
free_and (h ∷ hs) b e = absurd (cc)

pub free_or : (held : List Entered) (b : Bool) → (b || not (is_inside_nothing held)) ≡ false → held ≡ []
free_or [] b e = refl
free_or (h ∷ hs) true e = absurd (cc)
free_or (h ∷ hs) false e = absurd (cc)

module _ (p : Program) (t : Task) (ts : List Task) (w : World) (s : Sound p.objects (t ∷ ts) w.paused) (here : w.ready ≡ t ∷ ts) where
  -- the world is unchanged
  pub same : Keeps p w
  same = subst (λ (l : List Task). Sound p.objects l w.paused) (sym here) s

  pub keeps-goes_on : (place : ℕ) (m : Machine) → Keeps p (goes_on t ts place m w)
  keeps-goes_on place m = record { tasks = s.tasks; levels = s.levels; above = s.above; away = s.away }

  pub keeps-jumps : (r : Option (Operation × ℕ)) (place : ℕ) (m : Machine) → Keeps p (jumps r place t ts m w)
  keeps-jumps None place m = keeps-goes_on place m
  keeps-jumps (Some r) place m = keeps-goes_on place m

  pub keeps-flows : (next : ℕ) (r : Result (Flow × Machine) Trap) → Keeps p (flows p next t ts w r)
  keeps-flows next (Ok (On, m)) = keeps-goes_on next m
  keeps-flows next (Ok (To place, m)) = keeps-jumps (fetch p.code place) place m
  keeps-flows next (Err trap.Stuck) = same
  keeps-flows next (Err (trap.Raised e)) = same

  pub keeps-turns : (next : ℕ) (r : Result Machine Trap) → Keeps p (turns p next t ts w r)
  keeps-turns next (Ok m) = keeps-goes_on next m
  keeps-turns next (Err trap.Stuck) = same
  keeps-turns next (Err (trap.Raised e)) = same

  -- the running task with another place
  abbrev pub at : ℕ → Task
  at next = record t { place = next }

  pub moved : (next : ℕ) → Sound p.objects (at next ∷ ts) w.paused
  moved next = record { tasks = s.tasks; levels = s.levels; above = s.above; away = s.away }

  pub away_at : (next : ℕ) → t.held ≡ [] → Away (at next)
  away_at next none = ok_away p.objects t none s.tasks.0

  pub rest : Sound p.objects ts w.paused
  rest = sound-rest p.objects t ts w.paused s

  pub keeps-enters : (next o : ℕ) (r : Option Region) → slice_get p.objects o ≡ r → Keeps p (enters p o r t (at next) ts w)
  keeps-enters next o None is = same
  keeps-enters next o (Some c) is =
      keeps_if p (nat_le t.active c.ceiling) _ (raises p ProgramError t w) (λ le. inner (is_entered t.held o) (grind (arith, nat_tests))) (λ _. same)
    where
      inner : (b : Bool) → t.active ≤ c.ceiling → Keeps p (cond b (raises p ProgramError t w) (record w { ready = at_head (inside (at next) o c.ceiling) ts }))
      inner true le = same
      inner false le = sound-inside p.objects (at next) o c ts w.paused is le (moved next)

  pub keeps-enters_entry : (next o : ℕ) (r : Option Region) → slice_get p.objects o ≡ r → Keeps p (enters_entry p o r t (at next) ts w)
  keeps-enters_entry next o None is = same
  keeps-enters_entry next o (Some c) is = keeps_if p (is_inside_nothing t.held) (enters p o (Some c) t (at next) ts w) (raises p ProgramError t w) (λ _. keeps-enters next o (Some c) is) (λ _. same)

  pub keeps-leaves : (next : ℕ) (held : List Entered) → t.held ≡ held → Keeps p (leaves held (at next) ts w)
  keeps-leaves next [] is = same
  keeps-leaves next (h ∷ hs) is = sound-outside p.objects (at next) h hs ts w.paused is (moved next)

  pub keeps-blocks : (next o : ℕ) (held : List Entered) → t.held ≡ held → Keeps p (blocks p o held t (at next) ts w)
  keeps-blocks next o [] is = same
  keeps-blocks next o (h ∷ i ∷ hs) is = same
  keeps-blocks next o (h ∷ []) is =
      keeps_if p (h.object == o) _ (stuck w) (λ _. inner (list_any (λ u. is_waiting o u.pause) w.paused)) (λ _. same)
    where
      ok : HeldOk p.objects t.base t.active (h ∷ [])
      ok = subst (λ (l : List Entered). HeldOk p.objects t.base t.active l) is s.tasks.0

      inner : (b : Bool) → Keeps p (cond b (raises p ProgramError t w) (pauses (outside (at next) h.before []) (Waiting o) ts w))
      inner true = same
      inner false = sound-paused p.objects (record (outside (at next) h.before []) { pause = Waiting o }) ts w.paused (refl, ok.2) rest

  pub keeps-sleeps : (moment : ℤ) (slept : Task) → Away slept → Keeps p (sleeps moment slept ts w)
  keeps-sleeps moment slept a = keeps_if p (int_le moment w.clock) (record w { ready = at_tail slept ts }) (pauses slept (Delayed moment) ts w)
      (λ _. sound-at_tail p.objects slept ts w.paused a rest)
      (λ _. sound-paused p.objects (record slept { pause = Delayed moment }) ts w.paused a rest)

  pub keeps-wakes : (next o : ℕ) (r : Option Region) → Keeps p (wakes o r t (at next) ts w)
  keeps-wakes next o None = same
  keeps-wakes next o (Some c) = keeps_if p (list_any (λ u. is_waiting o u.pause) w.paused) (released (is_waiting o) (record w { ready = at next ∷ ts })) (stuck w)
      (λ _. sound-released p.objects (is_waiting o) (at next ∷ ts) w.paused (moved next)) (λ _. same)

  pub keeps-creates : (next place priority : ℕ) → Keeps p (creates p place priority (at next) ts w)
  keeps-creates next place priority = sound-paused p.objects _ (at next ∷ ts) w.paused (refl, refl) (moved next)

  pub keeps-goes : (next : ℕ) → t.held ≡ [] → Keeps p (goes (at next) ts w)
  keeps-goes next none = keeps_if p (w.created == 0) (record w { ready = at next ∷ ts; gone = true }) _
      (λ _. moved next)
      (λ _. sound-released p.objects is_created ts _ (sound-paused p.objects (record (at next) { pause = Activating }) ts w.paused (away_at next none) rest))

  pub keeps-begins : (next : ℕ) → Keeps p (begins (at next) ts w)
  keeps-begins next =
      let now = record w { ready = record (at next) { begun = true } ∷ ts; activations = w.activations - 1 } in
      keeps_if p (w.activations == 1) (released is_activating now) now
      (λ _. sound-released p.objects is_activating (record (at next) { begun = true } ∷ ts) w.paused begun_now)
      (λ _. begun_now)
    where
      begun_now : Sound p.objects (record (at next) { begun = true } ∷ ts) w.paused
      begun_now = record { tasks = s.tasks; levels = s.levels; above = s.above; away = s.away }

-- the running task ends
pub keeps-ends : (p : Program) (t : Task) (ts : List Task) (w : World) → Away t → Sound p.objects ts w.paused → Keeps p (ends t ts w)
keeps-ends p t [] w a s =
    let now = pauses t Ended [] w in
    let k : Keeps p now = sound-paused p.objects (record t { pause = Ended }) [] w.paused a s in
    keeps_if p (list_all (λ u. is_ended u.pause) now.paused) (record now { ended = Some Finished }) now (λ _. k) (λ _. k)
keeps-ends p t (u ∷ us) w a s = sound-paused p.objects (record t { pause = Ended }) (u ∷ us) w.paused a s

module _ (p : Program) (t : Task) (ts : List Task) (w : World) (s : Sound p.objects (t ∷ ts) w.paused) (here : w.ready ≡ t ∷ ts) where
  keeps-handled : (i : TaskInstruction) (next : ℕ) → Keeps p (handled p i next t (record t { place = next }) ts w)
  unfolding handled
  keeps-handled (kind.Task place priority) next = keeps_if p (w.gone || (nat_le p.tasks w.created || nat_lt 30 priority)) (stuck w) _ (λ _. same p t ts w s here) (λ _. keeps-creates p t ts w s here next place priority)
  keeps-handled kind.Go next = keeps_if p (w.gone || not (is_inside_nothing t.held)) (stuck w) _ (λ _. same p t ts w s here) (λ e. keeps-goes p t ts w s here next (free_or t.held w.gone e))
  keeps-handled kind.Begun next = keeps_if p (is_inside_nothing t.held && (not (t.number == 0) && not t.begun)) _ (stuck w) (λ _. keeps-begins p t ts w s here next) (λ _. same p t ts w s here)
  keeps-handled kind.Done next = keeps_if p (is_inside_nothing t.held) _ (stuck w) (λ e. keeps-ends p (record t { place = next }) ts w (away_at p t ts w s here next (free t.held e)) (rest p t ts w s here)) (λ _. same p t ts w s here)
  keeps-handled kind.Now next = keeps-turns p t ts w s here next _
  keeps-handled kind.Sleep next =
      let m = machine_of w t in
      keeps_if p (is_inside_nothing t.held) _ (raises p ProgramError t w)
      (λ e. keeps_if p (holds 1 m) _ (stuck w) (λ _. keeps-sleeps p t ts w s here _ _ (ok_away p.objects t (free t.held e) s.tasks.0)) (λ _. same p t ts w s here))
      (λ _. same p t ts w s here)
  keeps-handled (kind.Enter o) next = keeps-enters p t ts w s here next o (slice_get p.objects o) refl
  keeps-handled (kind.EnterEntry o) next = keeps-enters_entry p t ts w s here next o (slice_get p.objects o) refl
  keeps-handled kind.Leave next = keeps-leaves p t ts w s here next t.held refl
  keeps-handled (kind.Waiting o) next = keeps-turns p t ts w s here next _
  keeps-handled (kind.Wake o) next = keeps-wakes p t ts w s here next o (slice_get p.objects o)
  keeps-handled (kind.Block o) next = keeps-blocks p t ts w s here next o t.held refl
  keeps-handled (kind.Seed address words) next = keeps_if p (w.gone || not (is_inside_nothing t.held)) (stuck w) _ (λ _. same p t ts w s here) (λ _. keeps-turns p t ts w s here next _)

  keeps-puts : (next : ℕ) (r : Result (List ℕ) Trap) → Keeps p (puts p r t (record t { place = next }) ts w)
  keeps-puts next (Ok text) = moved p t ts w s here next
  keeps-puts next (Err trap.Stuck) = same p t ts w s here
  keeps-puts next (Err (trap.Raised e)) = same p t ts w s here

  keeps-printed : (i : OutputInstruction) (next : ℕ) → Keeps p (printed p i t (record t { place = next }) ts w)
  unfolding printed
  keeps-printed i next =
      keeps_if p (is_inside_nothing t.held) _ (raises p ProgramError t w)
      (λ _. keeps-puts next (text_of i (machine_of w t)))
      (λ _. same p t ts w s here)

  pub keeps-performed : (r : Option (Operation × ℕ)) → Keeps p (performed p r t ts w)
  unfolding performed
  keeps-performed None = same p t ts w s here
  keeps-performed (Some (operation.Word i, next)) = keeps-flows p t ts w s here next _
  keeps-performed (Some (operation.Task i, next)) = keeps-handled i next
  keeps-performed (Some (operation.Output i, next)) = keeps-printed i next

pub keeps-runs : (p : Program) (w : World) (ready : List Task) → w.ready ≡ ready → Keeps p w → Keeps p (runs p w ready)
keeps-runs p w [] is k = k
keeps-runs p w (t ∷ ts) is k = keeps-performed p t ts w (subst (λ (l : List Task). Sound p.objects l w.paused) is k) is (fetch p.code t.place)

pub keeps-ticks : (p : Program) (w : World) → Keeps p w → Keeps p (ticks w)
unfolding ticks
keeps-ticks p w k = sound-released p.objects _ w.ready w.paused k

pub keeps-step : (p : Program) (w : World) (e : Event) → Keeps p w → Keeps p (step p w e)
keeps-step p w e k = at w.ended e
  where
    at : (s : Option Ending) (e : Event) → Keeps p (step_by p w s e)
    at None event.Instr = keeps-runs p w w.ready refl k
    at None event.Tick = keeps-ticks p w k
    at (Some end) e = k

pub keeps-after : (p : Program) (w : World) (es : List Event) → Keeps p w → Keeps p (after p w es)
keeps-after p w [] k = k
keeps-after p w (e ∷ es) k = keeps-after p (step p w e) es (keeps-step p w e k)

pub keeps-load : (p : Program) → Keeps p (load p)
keeps-load p = record { tasks = (refl, tt); levels = (tt, tt); above = (tt, tt); away = tt }
