-- The ready tasks in the order of their dispatch.
use Rattle.std.proofs.Common.{◌≡◌, ◌≢◌, ℕ, ◌<◌, ◌≤◌, List, [], ◌∷◌, Bool, true, false, cond, ◌==◌, Some, slice_get, nat_le, nat_lt, refl, sym, ◌∙◌, subst, arith, inl, inr}
use Rattle.std.proofs.lemmas.Bool.Decides.{eqb_tells, leb_tells}
use Rattle.al_link_image.specs.declared.parts.Region.{Region}
use Rattle.al_machine.specs.declared.regions.Entered.{Entered}
use Rattle.al_machine.specs.Memory.{is_entered}
use Rattle.al_tasks.specs.declared.event.Pause.{Pause}
use Rattle.al_tasks.specs.Task.{Task}
use Rattle.al_tasks.specs.World.{at_head, at_tail, by_number, passing, failing, all_at_tail, inside, outside}
use Rattle.al_tasks.specs.Exclusion.{Each, EachAfter, Apart, Above, Descends}

-- the active priority is the ceiling of the object entered last, and the one before was no higher; outside all objects it is the
-- base priority
abbrev pub HeldOk : List Region → ℕ → ℕ → List Entered → Type 0
HeldOk cs base active [] = active ≡ base
HeldOk cs base active (h ∷ hs) = ((o : Region) × (slice_get cs h.object ≡ Some o) × (o.ceiling ≡ active)) × (h.before ≤ active) × HeldOk cs base h.before hs

abbrev pub TaskOk : List Region → Task → Type 0
TaskOk cs t = HeldOk cs t.base t.active t.held

abbrev pub Away : Task → Type 0
Away t = (t.held ≡ []) × (t.active ≡ t.base)

-- what every event keeps of the ready tasks and the paused ones
pub record Sound (cs : List Region) (ready paused : List Task) : Type 0 where
  pub tasks : Each (TaskOk cs) ready
  pub levels : EachAfter Descends ready
  pub above : EachAfter Above ready
  pub away : Each Away paused

-- What holds of each task.

pub each-weaker : (P Q : Task → Type 0) → ((t : Task) → P t → Q t) → (ts : List Task) → Each P ts → Each Q ts
each-weaker P Q f [] h = tt
each-weaker P Q f (t ∷ ts) h = (f t h.0, each-weaker P Q f ts h.1)

pub each-both : (P Q R : Task → Type 0) → ((t : Task) → P t → Q t → R t) → (ts : List Task) → Each P ts → Each Q ts → Each R ts
each-both P Q R f [] h k = tt
each-both P Q R f (t ∷ ts) h k = (f t h.0 k.0, each-both P Q R f ts h.1 k.1)

pub each-at_head : (P : Task → Type 0) (t : Task) (ts : List Task) → P t → Each P ts → Each P (at_head t ts)
each-at_head P t [] p h = (p, tt)
each-at_head P t (u ∷ us) p h = at (nat_le u.active t.active)
    (each-at_head P t us p h.1)
  where
    at : (b : Bool) → Each P (at_head t us) → Each P (cond b (t ∷ u ∷ us) (u ∷ at_head t us))
    at true rest = (p, h)
    at false rest = (h.0, rest)

pub each-at_tail : (P : Task → Type 0) (t : Task) (ts : List Task) → P t → Each P ts → Each P (at_tail t ts)
each-at_tail P t [] p h = (p, tt)
each-at_tail P t (u ∷ us) p h = at (nat_le t.active u.active) (each-at_tail P t us p h.1)
  where
    at : (b : Bool) → Each P (at_tail t us) → Each P (cond b (u ∷ at_tail t us) (t ∷ u ∷ us))
    at true rest = (h.0, rest)
    at false rest = (p, h)

-- The order of levels.

pub levels-at_head : (t : Task) (ts : List Task) → EachAfter Descends ts → EachAfter Descends (at_head t ts)
levels-at_head t [] e = (tt, tt)
levels-at_head t (u ∷ us) e =
    elim (leb_tells u.active t.active) as (λ _. EachAfter Descends (at_head t (u ∷ us))) [
      | inl w ↦ let b : nat_le u.active t.active ≡ true = w.0 in rw b ((w.1, each-weaker (Descends u) (Descends t) (λ x h. omega arith) us e.0), e)
      | inr w ↦ let b : nat_le u.active t.active ≡ false = w.0 in rw b (each-at_head (Descends u) t us (omega arith) e.0, levels-at_head t us e.1)
    ]

pub levels-at_tail : (t : Task) (ts : List Task) → EachAfter Descends ts → EachAfter Descends (at_tail t ts)
levels-at_tail t [] e = (tt, tt)
levels-at_tail t (u ∷ us) e =
    elim (leb_tells t.active u.active) as (λ _. EachAfter Descends (at_tail t (u ∷ us))) [
      | inl w ↦ let b : nat_le t.active u.active ≡ true = w.0 in rw b (each-at_tail (Descends u) t us w.1 e.0, levels-at_tail t us e.1)
      | inr w ↦ let b : nat_le t.active u.active ≡ false = w.0 in rw b ((omega arith, each-weaker (Descends u) (Descends t) (λ x h. omega arith) us e.0), e)
    ]

-- Who is ahead of a task that is inside an object.

pub above-at_head : (t : Task) (ts : List Task) → Each (Above t) ts → Each (λ u. t.active < u.active → Above u t) ts → EachAfter Above ts → EachAfter Above (at_head t ts)
above-at_head t [] after ahead e = (tt, tt)
above-at_head t (u ∷ us) after ahead e =
    elim (leb_tells u.active t.active) as (λ _. EachAfter Above (at_head t (u ∷ us))) [
      | inl w ↦ let b : nat_le u.active t.active ≡ true = w.0 in rw b (after, e)
      | inr w ↦ let b : nat_le u.active t.active ≡ false = w.0 in rw b (each-at_head (Above u) t us (ahead.0 w.1) e.0, above-at_head t us after.1 ahead.1 e.1)
    ]

pub above-at_tail : (t : Task) (ts : List Task) → Away t → EachAfter Descends ts → EachAfter Above ts → EachAfter Above (at_tail t ts)
above-at_tail t [] a l e = (tt, tt)
above-at_tail t (u ∷ us) a l e =
    elim (leb_tells t.active u.active) as (λ _. EachAfter Above (at_tail t (u ∷ us))) [
      | inl w ↦ let b : nat_le t.active u.active ≡ true = w.0 in rw b (each-at_tail (Above u) t us (λ n. absurd (n a.0)) e.0, above-at_tail t us a l.1 e.1)
      | inr w ↦ let b : nat_le t.active u.active ≡ false = w.0 in let own = a.1 in rw b ((λ _. omega arith, each-weaker (Descends u) (Above t) (λ x h _. omega arith) us l.0), e)
    ]

pub each-by_number : (P : Task → Type 0) (t : Task) (ts : List Task) → P t → Each P ts → Each P (by_number t ts)
each-by_number P t [] p h = (p, tt)
each-by_number P t (u ∷ us) p h = at (nat_lt t.number u.number) (each-by_number P t us p h.1)
  where
    at : (b : Bool) → Each P (by_number t us) → Each P (cond b (t ∷ u ∷ us) (u ∷ by_number t us))
    at true rest = (p, h)
    at false rest = (h.0, rest)

pub each-passing : (P : Task → Type 0) (test : Pause → Bool) (ts : List Task) → Each P ts → Each P (passing test ts)
each-passing P test [] h = tt
each-passing P test (t ∷ ts) h = at (test t.pause) (each-passing P test ts h.1)
  where
    at : (b : Bool) → Each P (passing test ts) → Each P (cond b (t ∷ passing test ts) (passing test ts))
    at true rest = (h.0, rest)
    at false rest = rest

pub each-failing : (P : Task → Type 0) (test : Pause → Bool) (ts : List Task) → Each P ts → Each P (failing test ts)
each-failing P test [] h = tt
each-failing P test (t ∷ ts) h = at (test t.pause) (each-failing P test ts h.1)
  where
    at : (b : Bool) → Each P (failing test ts) → Each P (cond b (failing test ts) (t ∷ failing test ts))
    at true rest = rest
    at false rest = (h.0, rest)

pub each-all_at_tail : (P : Task → Type 0) (ts ready : List Task) → Each P ts → Each P ready → Each P (all_at_tail ts ready)
each-all_at_tail P [] ready h k = k
each-all_at_tail P (t ∷ ts) ready h k = each-all_at_tail P ts (at_tail t ready) h.1 (each-at_tail P t ready h.0 k)

-- What is known of a task's active priority.

pub base_le : (cs : List Region) (base active : ℕ) (held : List Entered) → HeldOk cs base active held → base ≤ active
base_le cs base active [] h = omega arith
base_le cs base active (x ∷ xs) h = let below = base_le cs base x.before xs h.2 in omega arith

-- the ceiling of an object that a task is inside is between the task's base and its active priority
pub held_ceiling : (cs : List Region) (base active : ℕ) (held : List Entered) (o : ℕ) → HeldOk cs base active held → is_entered held o ≡ true → (c : Region) × (slice_get cs o ≡ Some c) × (base ≤ c.ceiling) × (c.ceiling ≤ active)
held_ceiling cs base active [] o h m = absurd (cc)
held_ceiling cs base active (x ∷ xs) o h m =
    elim (eqb_tells x.object o) as (λ _. (c : Region) × (slice_get cs o ≡ Some c) × (base ≤ c.ceiling) × (c.ceiling ≤ active)) [
      | inl w ↦
          let c = h.0.0 in
          let below = base_le cs base active (x ∷ xs) h in
          let is = h.0.2 in
          (c, subst (λ (k : ℕ). slice_get cs k ≡ Some c) w.1 h.0.1, omega arith, omega arith)
      | inr w ↦
          let b : (x.object == o) ≡ false = w.0 in
          let inner = held_ceiling cs base x.before xs o h.2 (rw b at m) in
          (inner.0, inner.1, inner.2, let le = inner.3 in omega arith)
    ]

pub apart-above : (cs : List Region) (y x : Task) → TaskOk cs y → TaskOk cs x → Above y x → Apart y x
apart-above cs y x oy ox a o hy hx =
    let cy = held_ceiling cs y.base y.active y.held o oy hy in
    let cx = held_ceiling cs x.base x.active x.held o ox hx in
    let both : cy.0 ≡ cx.0 = let l = cy.1 in let r = cx.1 in cc in
    let same : cy.0.ceiling ≡ cx.0.ceiling = cc in
    let lies : x.active < y.base = a (λ e. let f : is_entered [] o ≡ true = subst (λ (l : List Entered). is_entered l o ≡ true) e hx in absurd (cc)) in
    let le = cy.2 in let ge = cx.3 in
    omega arith

pub each_apart : (cs : List Region) (y : Task) (ts : List Task) → TaskOk cs y → Each (TaskOk cs) ts → Each (Above y) ts → Each (Apart y) ts
each_apart cs y ts oy = each-both (TaskOk cs) (Above y) (Apart y) (λ x ox a. apart-above cs y x oy ox a) ts

pub all_apart : (cs : List Region) (ts : List Task) → Each (TaskOk cs) ts → EachAfter Above ts → EachAfter Apart ts
all_apart cs [] ok a = tt
all_apart cs (t ∷ ts) ok a = (each_apart cs t ts ok.0 ok.1 a.0, all_apart cs ts ok.1 a.1)

pub away_ok : (cs : List Region) (t : Task) → Away t → TaskOk cs t
away_ok cs t a = subst (λ (l : List Entered). HeldOk cs t.base t.active l) (sym a.0) a.1

-- a task that becomes ready is inside nothing
pub sound-at_tail : (cs : List Region) (t : Task) (ready paused : List Task) → Away t → Sound cs ready paused → Sound cs (at_tail t ready) paused
sound-at_tail cs t ready paused a s = record {
  tasks = each-at_tail (TaskOk cs) t ready (away_ok cs t a) s.tasks;
  levels = levels-at_tail t ready s.levels;
  above = above-at_tail t ready a s.levels s.above;
  away = s.away;
}

pub sound-all_at_tail : (cs : List Region) (ts ready paused : List Task) → Each Away ts → Sound cs ready paused → Sound cs (all_at_tail ts ready) paused
sound-all_at_tail cs [] ready paused a s = s
sound-all_at_tail cs (t ∷ ts) ready paused a s = sound-all_at_tail cs ts (at_tail t ready) paused a.1 (sound-at_tail cs t ready paused a.0 s)

-- paused tasks become ready
pub sound-released : (cs : List Region) (test : Pause → Bool) (ready paused : List Task) → Sound cs ready paused → Sound cs (all_at_tail (passing test paused) ready) (failing test paused)
sound-released cs test ready paused s =
    let r = sound-all_at_tail cs (passing test paused) ready paused (each-passing Away test paused s.away) s in
    record { tasks = r.tasks; levels = r.levels; above = r.above; away = each-failing Away test paused s.away }

-- without the running task
pub sound-rest : (cs : List Region) (t : Task) (ts paused : List Task) → Sound cs (t ∷ ts) paused → Sound cs ts paused
sound-rest cs t ts paused s = record { tasks = s.tasks.1; levels = s.levels.1; above = s.above.1; away = s.away }

-- a task that is inside nothing pauses
pub sound-paused : (cs : List Region) (t : Task) (ready paused : List Task) → Away t → Sound cs ready paused → Sound cs ready (by_number t paused)
sound-paused cs t ready paused a s = record {
  tasks = s.tasks;
  levels = s.levels;
  above = s.above;
  away = each-by_number Away t paused a s.away;
}

-- the running task, if it is inside nothing, may pause
pub ok_away : (cs : List Region) (t : Task) → t.held ≡ [] → TaskOk cs t → Away t
ok_away cs t is ok = (is, subst (λ (l : List Entered). HeldOk cs t.base t.active l) is ok)

-- the running task enters an object
pub sound-inside : (cs : List Region) (t : Task) (o : ℕ) (c : Region) (ts paused : List Task) → slice_get cs o ≡ Some c → t.active ≤ c.ceiling → Sound cs (t ∷ ts) paused → Sound cs (at_head (inside t o c.ceiling) ts) paused
sound-inside cs t o c ts paused is le s = record {
  tasks = each-at_head (TaskOk cs) (inside t o c.ceiling) ts ((c, is, refl), le, s.tasks.0) s.tasks.1;
  levels = levels-at_head (inside t o c.ceiling) ts s.levels.1;
  above = above-at_head (inside t o c.ceiling) ts (each-weaker (Above t) (Above (inside t o c.ceiling)) (λ x h. h) ts s.above.0) (each-weaker (Descends t) (λ u. c.ceiling < u.active → Above u (inside t o c.ceiling)) (λ u h k. absurd (omega arith)) ts s.levels.0) s.above.1;
  away = s.away;
}

-- a task ahead of one that leaves an object
ahead-leave : (cs : List Region) (u : Task) (base p : ℕ) (held : List Entered) → u.held ≡ held → TaskOk cs u → (u.held ≢ [] → u.active < base) → base ≤ p → p < u.active → p < u.base
ahead-leave cs u base p [] is ok above le lt =
    let own : u.active ≡ u.base = subst (λ (l : List Entered). HeldOk cs u.base u.active l) is ok in
    omega arith
ahead-leave cs u base p (x ∷ xs) is ok above le lt =
    let low : u.active < base = above (λ e. let f : (x ∷ xs) ≡ [] = sym is ∙ e in absurd (cc)) in
    absurd (omega arith)

-- the running task leaves the object that it entered last
pub sound-outside : (cs : List Region) (t : Task) (h : Entered) (hs : List Entered) (ts paused : List Task) → t.held ≡ h ∷ hs → Sound cs (t ∷ ts) paused → Sound cs (at_head (outside t h.before hs) ts) paused
sound-outside cs t h hs ts paused is s =
    let ok : HeldOk cs t.base t.active (h ∷ hs) = subst (λ (l : List Entered). HeldOk cs t.base t.active l) is s.tasks.0 in
    record {
      tasks = each-at_head (TaskOk cs) (outside t h.before hs) ts ok.2 s.tasks.1;
      levels = levels-at_head (outside t h.before hs) ts s.levels.1;
      above = above-at_head (outside t h.before hs) ts (each-weaker (Above t) (Above (outside t h.before hs)) (λ x k. k) ts s.above.0) (each-both (TaskOk cs) (Above t) (λ u. h.before < u.active → Above u (outside t h.before hs)) (λ u o a lt n. ahead-leave cs u t.base h.before u.held refl o a (base_le cs t.base h.before hs ok.2) lt) ts s.tasks.1 s.above.0) s.above.1;
      away = s.away;
    }
