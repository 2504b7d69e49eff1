-- Builds in which some units were edited: each step of the walk, over a store.
use Rattle.std.proofs.Common.{◌≡◌, ◌⊎◌, inl, inr, ◌&&◌, ◌||◌, ◌++◌, ◌∙◌, ℕ, ◌<◌, arith, Bool, true, false, not, List, [], ◌∷◌, Option, Some, None, append-nil, append_assoc, map, length, length-append, ◌+◌, refl, sym, ap, subst, is_some, if◌then◌else◌}
use Rattle.std.specs.List.{Contains, IsDistinct, list_any}
use Rattle.std.specs.Option.{option_map}
use Rattle.std.proofs.lemmas.Bool.{true≢false}
use Rattle.std.proofs.lemmas.Bool.Decides.{nat_tests}
use Rattle.std.proofs.lemmas.List.Folds.{list_any-append}
use Rattle.al_base.specs.Batch.{Key, key_of}
use Rattle.al_base.specs.declared.unit_key.UnitKey.{UnitKey}
use Rattle.al_base_shortage.specs.Counts.{one_more}
use Rattle.al_unit_graph.specs.Dependence.{direct}
use Rattle.al_unit_graph.specs.Headers.{Header, Library}
use Rattle.al_unit_graph.specs.Orders.{in_order}
use Rattle.al_unit_faults.specs.Reached.{is_faultless}
use Rattle.al_view.specs.Symbols.{same_unit}
use Rattle.al_view.proofs.SymbolLemmas.{same_unit-one, same_unit-self}
use Rattle.al_query.specs.Known.{has_unit}
use Rattle.al_query.specs.Reads.{Agrees}
use Rattle.al_query.specs.declared.answer.AnswerKind.{AnswerKind}
use Rattle.al_query.specs.declared.query.Query.{Query}
use Rattle.al_query.proofs.KnownLemmas.{has_unit-first, has_unit-left}
use Rattle.al_query_outcome.specs.Equations.{IsSetting, Setting, is_reached, is_sound, unit_named}
use Rattle.al_query_outcome.specs.Results.{Outcome}
use Rattle.al_query_outcome.proofs.Members.{all-same, has-contains}
use Rattle.al_query_outcome.proofs.Names.{tested}
use Rattle.al_query_store.specs.Stored.{base}
use Rattle.al_query_store.specs.declared.slots.Held.{Held}
use Rattle.al_query_store.proofs.TestLemmas.{marks-test}
use Rattle.al_query_store.specs.Changes.{AreMarkedAsBefore, with_made}
use Rattle.al_query_store.specs.Keyed.{State, entry_of, first_of, now_at, settled_at, state}
use Rattle.al_engine_refresh.specs.EntryLaw.{AllKeepLaw, HasCurrent, IsCurrent, KeepsLaw, TextMeaning}
use Rattle.al_engine_refresh.specs.Stored.{Stored, log_of, outcome_of}
use Rattle.al_engine_refresh.specs.Moves.{Entries, IsLeft, has_moved}
use Rattle.al_engine_refresh.specs.Staying.{is_there}
use Rattle.al_engine_refresh.specs.Builds.{IsBuilt, IsOrder, Picked, has_sound_dependences, no_units, present, raised, results_of, text_of}
use Rattle.al_engine_refresh.specs.Handling.{Handled, within}
use Rattle.al_engine_refresh.specs.Moving.{AreLeaving, IsCompared, IsSteady, MarksFollow, Turned, last_table, now_table}
use Rattle.al_engine_refresh.specs.Progress.{Progress}
use Rattle.al_engine_refresh.proofs.Comparing.{quiet-unmoved}
use Rattle.al_engine_refresh.proofs.Following.{turned-unit}
use Rattle.al_engine_refresh.proofs.HandleTurned.{check-handled, here-now, others-now, others-turned}
use Rattle.al_engine_refresh.proofs.OrderSteps.{distinct-from, in-rest, moved-left, rest-apart}
use Rattle.al_engine_refresh.proofs.RefreshLemmas.{built-end, handled-left, next-now}
use Rattle.al_engine_refresh.proofs.SteadyLemmas.{steady-made, steady-none}
use Rattle.al_engine.specs.RecheckEdits.{AreEdits, IsBaseOfNone, IsRenewal, units_of}
use Rattle.al_engine.specs.Rechecks.{AreReady, HasOrder, IsUpdated, setting_of}
use Rattle.al_engine.specs.Walks.{AreInOrder, IsUnread, IsWalked, is_edited}
use Rattle.al_engine.specs.declared.edited.EditedUnit.{EditedUnit}
use Rattle.al_engine.proofs.KeyOrders.{same-units}
use Rattle.al_engine.proofs.OrderLemmas.{marks-ready, marks-same, order-distinct, reached-alike}
use Rattle.al_engine.proofs.RecheckLemmas.{as-long, rechecked}
use Rattle.al_engine.proofs.RowLemmas.{IsFirst, few-in-order, first-of, none-of, one-end}
use Rattle.al_engine.proofs.Skipping.{edited-not, edited-some, faultless-some, in-order, none-out, skipped, sound-some, there-some}
use Rattle.al_engine.proofs.StayLemmas.{settled-left, will-stay}

or_true : (b : Bool) → (b || true) ≡ true
or_true true = refl
or_true false = refl

-- a unit of a list is in every longer list with it
in-end : (us vs : List UnitKey) (w : UnitKey) → has_unit vs w ≡ true → has_unit (us ++ vs) w ≡ true
in-end us vs w h = list_any-append (same_unit w) us vs ∙ ap (λ (b : Bool). has_unit us w || b) h ∙ or_true (has_unit us w)

-- a unit isn't in a list that is longer by one unit
not-more : (us : List UnitKey) (v w : UnitKey) → has_unit (us ++ v ∷ []) w ≡ false → (has_unit us w ≡ false) × (same_unit w v ≡ false)
not-more us v w h = by (has_unit us w) (same_unit w v) refl refl (sym (list_any-append (same_unit w) us (v ∷ [])) ∙ h)
  where
    by : (a b : Bool) → has_unit us w ≡ a → same_unit w v ≡ b → (a || (b || false)) ≡ false → (has_unit us w ≡ false) × (same_unit w v ≡ false)
    by false false e k n = (e, k)
    by true b e k n = absurd (true≢false n)
    by false true e k n = absurd (true≢false n)

-- a unit of a list that is longer by one unit is in the list, or is that unit
one-more : (us : List UnitKey) (v w : UnitKey) → has_unit (us ++ v ∷ []) w ≡ true → (has_unit us w ≡ true) ⊎ (w ≡ v)
one-more us v w h = by (has_unit us w) (same_unit w v) refl refl (sym (list_any-append (same_unit w) us (v ∷ [])) ∙ h)
  where
    by : (a b : Bool) → has_unit us w ≡ a → same_unit w v ≡ b → (a || (b || false)) ≡ true → (has_unit us w ≡ true) ⊎ (w ≡ v)
    by true b e k n = inl e
    by false true e k n = inr (same_unit-one w v k)
    by false false e k n = absurd (true≢false (sym n))

-- the end of a list that has each unit once has each once
once-after : (us vs : List UnitKey) → IsDistinct same_unit (us ++ vs) → IsDistinct same_unit vs
unfolding IsDistinct
once-after [] vs once = once
once-after (v ∷ us) vs once = once-after us vs once.1

-- one more check
pub one-counted : (n m before : ℕ) (checked more : List UnitKey) (u : UnitKey) → m ≡ one_more before → before ≡ raised n (length checked) → more ≡ checked ++ u ∷ [] → m ≡ raised n (length more)
one-counted n m before checked more u is was added =
    let long : length more ≡ length checked + 1 = ap length added ∙ length-append checked (u ∷ []) in
    is ∙ ap one_more was ∙ by n (length checked) ∙ ap (raised n) (sym long)
  where
    by : (n k : ℕ) → one_more (raised n k) ≡ raised n (k + 1)
    by n k = grind (arith, nat_tests)

module _ (meaning : TextMeaning) (header : List ℕ → Header) (pre : Query → AnswerKind) (lib : Library) (order : List UnitKey) (has : HasOrder header pre lib order) (edits : List EditedUnit) (old : Entries) (ready : AreReady pre old) (given : AreEdits meaning header pre lib old edits) where
  abbrev fl : UnitKey → Bool
  fl u = is_faultless lib (key_of u)

  abbrev s : Setting
  s = setting_of header pre lib

  abbrev is : IsSetting s
  is = has.0

  abbrev units : List UnitKey
  units = units_of edits

  abbrev Walked : Entries → List UnitKey → List UnitKey → List UnitKey → Type 0
  Walked = IsWalked meaning header pre lib order has edits old

  -- all units that have an entry are reached
  now-settled : (w : UnitKey) → now_at old w ≡ settled_at old w
  now-settled w = reached-alike pre old ready w ∙ given.reached w

  -- no unit leaves, and no entry is made yet
  leaving-old : AreLeaving lib old
  leaving-old = record {
    leaves = λ w. still w ∙ sym (none w (is_some (state old w).settled) refl);
    unreached = λ w l. absurd (true≢false (sym l ∙ still w));
  }
    where
      still : (w : UnitKey) → (state old w).leaves ≡ false
      still w = ap (λ (x : State Stored). x.leaves) (ready.quiet w)

      held : (o : Option (Held Stored)) → is_some o ≡ true → is_some (option_map (λ (h : Held Stored). h.entry) o) ≡ true
      held None k = k
      held (Some h) k = refl

      none : (w : UnitKey) (b : Bool) → is_some (state old w).settled ≡ b → (is_some (state old w).settled && not (is_there lib w)) ≡ false
      none w false k = ap (λ (b : Bool). b && not (is_there lib w)) k
      none w true k = ap (λ (b : Bool). b && not (is_there lib w)) k ∙ ap not (there-some meaning header pre lib order units (settled_at old) has given.renewable w (held (state old w).settled k))

  none-made : (w : UnitKey) → (state old w).made ≡ None
  none-made w = ap (λ (x : State Stored). x.made) (ready.quiet w)

  -- nothing is done yet
  pub begins : Walked old [] order []
  begins = record {
    parts = refl;
    progress = record {
      law = λ w e k. absurd (cc);
      ordered = has.1.after;
      there = λ w m. absurd (true≢false (sym m));
      undone = λ w m. refl;
      valid = λ g fits w m. absurd (true≢false (sym m));
      picked = λ g fits. no_units;
    };
    among = λ w m. absurd (true≢false (sym m));
    others = λ w m. now-settled w;
    unmoved = λ w m. quiet-unmoved old ready.quiet w;
    steady = steady-none lib old [] refl none-made leaving-old;
    marks = marks-ready pre old ready;
    left = λ u. refl;
  }

  pub unread-begins : IsUnread lib old old
  unread-begins = record {
    reached = λ w t. λ i. has_sound_dependences lib (results_of (λ v. now-settled v i)) w;
    marks = λ w h k. marks-same pre old ready w h k;
  }

  -- the settled entries have the answers of the last build
  agrees-last : (w : UnitKey) (d : Stored) → settled_at old w ≡ Some d → Agrees (last_table pre old) d.log
  agrees-last w d at = subst (λ (f : UnitKey → Option Stored). Agrees (present pre (results_of f)) d.log) (λ i v. sym (given.reached v) i) (by (is_reached (setting_of header pre given.renewable.old) (results_of (settled_at old)) w) refl)
    where
      by : (b : Bool) → is_reached (setting_of header pre given.renewable.old) (results_of (settled_at old)) w ≡ b → Agrees (present pre (results_of (settled_at old))) d.log
      by true r = (subst (λ (o : Option Stored). HasCurrent o (text_of given.renewable.old w) (present pre (results_of (settled_at old)))) at (given.renewable.rechecked.current w r)).1
      by false r =
          let none : None ≡ Some d = sym (given.renewable.rechecked.unreached w r) ∙ at in
          absurd (cc)

  module _ (now : Entries) (left : IsLeft old now) (marks : MarksFollow pre now) (as_before : AreMarkedAsBefore now) where
    -- if no mark differs, they have those of now
    agrees-held : (w : UnitKey) (h g : Held Stored) → (state old w).settled ≡ Some h → (state now w).settled ≡ Some g → base g ≡ base h → Agrees (now_table pre now) (log_of h.entry)
    agrees-held w h g was here same =
        let marked : g.marks.now ≡ h.marks.last = as_before w g here ∙ ap (λ (x : Held Stored). x.marks.last) same in
        let last = (marks-test (last_table pre old) (log_of h.entry) h.marks.last (ready.marks w h was)).1 (agrees-last w h.entry (ap entry_of was)) in
        let now_marks = (marks-test (now_table pre now) (log_of g.entry) g.marks.now (marks w g here)).0 (ap (λ (l : List Bool). list_any (λ d. d) l) marked ∙ last) in
        subst (λ (x : Held Stored). Agrees (now_table pre now) (log_of x.entry)) same now_marks

    agrees-now : (w : UnitKey) (d : Stored) → settled_at old w ≡ Some d → Agrees (now_table pre now) d.log
    agrees-now w d at = by (state old w).settled refl (state now w).settled refl (ap (λ (x : State Stored). x.settled) (left w)) at
      where
        by : (o : Option (Held Stored)) → (state old w).settled ≡ o → (n : Option (Held Stored)) → (state now w).settled ≡ n → option_map base (state now w).settled ≡ option_map base (state old w).settled → entry_of (state old w).settled ≡ Some d → Agrees (now_table pre now) d.log
        by None was n here same k =
            let none : None ≡ Some d = sym (ap entry_of was) ∙ k in
            absurd (cc)
        by (Some h) was None here same k =
            let none : None ≡ Some (base h) = sym (ap (option_map base) here) ∙ same ∙ ap (option_map base) was in
            absurd (cc)
        by (Some h) was (Some g) here same k =
            let held : Some (base g) ≡ Some (base h) = sym (ap (option_map base) here) ∙ same ∙ ap (option_map base) was in
            let one : base g ≡ base h = cc in
            let there : Some h.entry ≡ Some d = sym (ap entry_of was) ∙ k in
            let entry : h.entry ≡ d = cc in
            subst (λ (x : Stored). Agrees (now_table pre now) x.log) entry (agrees-held w h g was here one)

  -- a unit that isn't done has the same entry as before
  others-before : (now : Entries) (before rest checked : List UnitKey) → Walked now before rest checked → (w : UnitKey) → has_unit before w ≡ false → now_at now w ≡ settled_at old w
  others-before now before rest checked walked w out = by (has_unit checked w) refl
    where
      by : (b : Bool) → has_unit checked w ≡ b → now_at now w ≡ settled_at old w
      by true m = absurd (true≢false (sym (walked.among w m).0 ∙ out))
      by false m = walked.others w m

  -- a unit that isn't in the order has none
  out-none : (now : Entries) (before rest checked : List UnitKey) → Walked now before rest checked → (w : UnitKey) → has_unit (before ++ rest) w ≡ false → now_at now w ≡ None
  out-none now before rest checked walked w out = by (has_unit before w) refl
    where
      by : (b : Bool) → has_unit before w ≡ b → now_at now w ≡ None
      by true m = absurd (true≢false (sym (has_unit-left before rest w m) ∙ out))
      by false m = others-before now before rest checked walked w m ∙ none-out meaning header pre lib order units (settled_at old) has given.renewable w (ap (λ (us : List UnitKey). has_unit us w) walked.parts ∙ out)

  -- units that weren't edited are skipped, if what was checked reached no other unit
  pub skips : (now : Entries) (before mid rest checked : List UnitKey) → Walked now before (mid ++ rest) checked → IsUnread lib old now → ((w : UnitKey) → has_unit mid w ≡ true → is_edited edits w ≡ false) → Walked now (before ++ mid) rest checked
  skips now before mid rest checked walked unread apart = record {
    parts = walked.parts ∙ sym (append_assoc before mid rest);
    progress =
        skipped meaning header pre lib order units (settled_at old) has given.renewable (now_at now) before mid rest checked walked.progress
        (others-before now before (mid ++ rest) checked walked) apart unread.reached (agrees-now now walked.left walked.marks unread.marks);
    among = λ w m. let two = walked.among w m in (has_unit-left before mid w two.0, two.1);
    others = walked.others;
    unmoved = λ w m. walked.unmoved w (in-end mid rest w m);
    steady = walked.steady;
    marks = walked.marks;
    left = walked.left;
  }

  -- an edited unit is checked, under the present answers
  module _ (now new : Entries) (before rest checked : List UnitKey) (u : UnitKey) (walked : Walked now before (u ∷ rest) checked) (unread : IsUnread lib old now) (edited : is_edited edits u ≡ true) (e : Stored) (keeps : KeepsLaw meaning header u e) (current : IsCurrent e (text_of lib u) (now_table pre now)) (turned : Turned pre (with_made log_of e) u now new) (left : IsLeft now new) where
    once : (has_unit before u ≡ false) × IsDistinct same_unit (u ∷ rest)
    once = distinct-from before u rest (subst (λ (us : List UnitKey). IsDistinct same_unit us) walked.parts (order-distinct header pre lib order has))

    held : is_some (settled_at old u) ≡ true
    held = edited-some meaning header pre lib order units (settled_at old) has given.renewable u edited

    sound-now : has_sound_dependences lib (results_of (now_at now)) u ≡ true
    sound-now =
        unread.reached u (faultless-some meaning header pre lib order units (settled_at old) has given.renewable u held)
        ∙ sound-some meaning header pre lib order units (settled_at old) has given.renewable u held

    settled-now : settled_at now u ≡ settled_at old u
    settled-now = settled-left old now walked.left u

    not-current : HasCurrent (settled_at now u) (text_of lib u) (now_table pre now) → ⊥
    not-current c =
        edited-not meaning header pre lib order units (settled_at old) has given.renewable u edited (now_table pre now)
        (subst (λ (o : Option Stored). HasCurrent o (text_of lib u) (now_table pre now)) settled-now c)

    abbrev more : List UnitKey
    more = checked ++ u ∷ []

    handled : Handled meaning header u (text_of lib u) (has_sound_dependences lib (results_of (now_at now)) u) (now_table pre now) (settled_at old u) (record { at = within before (now_at now); checked = checked; count = 0 }) (record { at = within (before ++ u ∷ []) (now_at new); checked = more; count = one_more 0 })
    handled =
        handled-left meaning header u _ _ _ (settled_at old u) (settled_at now u) _ _ settled-now
        (check-handled meaning header pre u (text_of lib u) (has_sound_dependences lib (results_of (now_at now)) u) (now_table pre now) now new before checked 0 once.0 sound-now not-current e keeps current turned more (one_more 0) refl refl)

    among-more : (w : UnitKey) → has_unit more w ≡ true → (has_unit (before ++ u ∷ []) w ≡ true) × (is_edited edits w ≡ true)
    among-more w m = by (one-more checked u w m)
      where
        by : (has_unit checked w ≡ true) ⊎ (w ≡ u) → (has_unit (before ++ u ∷ []) w ≡ true) × (is_edited edits w ≡ true)
        by (inl k) = let two = walked.among w k in (has_unit-left before (u ∷ []) w two.0, two.1)
        by (inr k) = subst (λ (x : UnitKey). (has_unit (before ++ u ∷ []) x ≡ true) × (is_edited edits x ≡ true)) (sym k) (in-end before (u ∷ []) u (has_unit-first u []), edited)

    others-more : (w : UnitKey) → has_unit more w ≡ false → now_at new w ≡ settled_at old w
    others-more w m =
        let two = not-more checked u w m in
        others-now pre (with_made log_of e) u now new turned w (turned-unit w u false two.1) ∙ walked.others w two.0

    pub checks : Walked new (before ++ u ∷ []) rest more
    checks = record {
      parts = walked.parts ∙ sym (append_assoc before (u ∷ []) rest);
      progress =
          next-now meaning header lib fl pre is (settled_at old) now new before rest checked more u walked.progress
          (out-none now before (u ∷ rest) checked walked)
          given.renewable.rechecked.law 0 (one_more 0) handled;
      among = among-more;
      others = others-more;
      unmoved = λ w m. moved-left u now new (others-turned pre (with_made log_of e) u now new turned) w (rest-apart u rest once.1 w m) ∙ walked.unmoved w (in-rest u rest w m);
      steady = steady-made pre lib u now new (walked.unmoved u (has_unit-first u rest)) checked walked.steady e turned more refl;
      marks = turned.marks walked.marks;
      left = λ w. left w ∙ walked.left w;
    }

    -- it reaches no other unit, if none depends on it directly, or it is as sound as before, and no mark differs
    pub stays-unread : IsBaseOfNone lib u ⊎ (is_sound (results_of (now_at new) u) ≡ is_sound (results_of (now_at now) u)) → AreMarkedAsBefore new → IsUnread lib old new
    stays-unread why as_before = record {
      reached = λ w t. all-same (λ (k : Key). is_sound (results_of (now_at new) (unit_named k))) (λ (k : Key). is_sound (results_of (now_at now) (unit_named k))) (direct lib (key_of w)) (λ k c. alike w t k c) ∙ unread.reached w t;
      marks = as_before;
    }
      where
        other : (d : UnitKey) → same_unit u d ≡ false → is_sound (results_of (now_at new) d) ≡ is_sound (results_of (now_at now) d)
        other d k = ap (λ (o : Option Stored). is_sound (option_map outcome_of o)) (others-now pre (with_made log_of e) u now new turned d k)

        here : (w : UnitKey) → fl w ≡ true → (k : Key) → Contains (direct lib (key_of w)) k → u ≡ unit_named k → IsBaseOfNone lib u ⊎ (is_sound (results_of (now_at new) u) ≡ is_sound (results_of (now_at now) u)) → is_sound (results_of (now_at new) (unit_named k)) ≡ is_sound (results_of (now_at now) (unit_named k))
        here w t k c same (inl none) = absurd (none w t (subst (λ (x : UnitKey). Contains (direct lib (key_of w)) (key_of x)) (sym same) c))
        here w t k c same (inr sound) = subst (λ (x : UnitKey). is_sound (results_of (now_at new) x) ≡ is_sound (results_of (now_at now) x)) same sound

        alike : (w : UnitKey) → fl w ≡ true → (k : Key) → Contains (direct lib (key_of w)) k → is_sound (results_of (now_at new) (unit_named k)) ≡ is_sound (results_of (now_at now) (unit_named k))
        alike w t k c = elim (tested (same_unit u (unit_named k))) as (λ _. is_sound (results_of (now_at new) (unit_named k)) ≡ is_sound (results_of (now_at now) (unit_named k))) [
          | inl m ↦ here w t k c (same_unit-one u (unit_named k) m) why
          | inr m ↦ other (unit_named k) m
        ]

  -- if all units are done, the build is as it should be
  pub ends : (now : Entries) (before checked : List UnitKey) → Walked now before [] checked → IsBuilt meaning header s (settled_at old) (now_at now) order checked
  ends now before checked walked =
      let whole : before ≡ order = sym (append-nil before) ∙ sym walked.parts in
      built-end meaning header lib fl pre is (settled_at old) now order [] checked has.1 refl
      (λ w out. out-none now before [] checked walked w (sym (ap (λ (us : List UnitKey). has_unit us w) walked.parts) ∙ out))
      (subst (λ (us : List UnitKey). Progress meaning header lib fl pre is (settled_at old) (within us (now_at now)) us [] checked) whole walked.progress)

  -- all but the edited units have the same entries as before
  pub renews : (now : Entries) (before rest checked : List UnitKey) → Walked now before rest checked → IsRenewal (settled_at old) units (now_at now)
  renews now before rest checked walked = record { others = others; there = there }
    where
      others : (w : UnitKey) → has_unit units w ≡ false → now_at now w ≡ settled_at old w
      others w out = by (has_unit checked w) refl
        where
          by : (b : Bool) → has_unit checked w ≡ b → now_at now w ≡ settled_at old w
          by true m = absurd (true≢false (sym (walked.among w m).1 ∙ out))
          by false m = walked.others w m

      some-made : (r : Bool) (m o : Option (Held Stored)) → r ≡ true → is_some m ≡ true → is_some (if r then first_of (entry_of m) (entry_of o) else None) ≡ true
      some-made true None o a b = absurd (true≢false (sym b))
      some-made true (Some h) o a b = refl
      some-made false m o a b = absurd (true≢false (sym a))

      there : (w : UnitKey) → has_unit units w ≡ true → is_some (now_at now w) ≡ true
      there w edited = by (has_unit checked w) refl
        where
          by : (b : Bool) → has_unit checked w ≡ b → is_some (now_at now w) ≡ true
          by true m =
              let made = (walked.steady.listed w).0 (has-contains checked w m) in
              some-made (state now w).is_reached (state now w).made (state now w).settled (walked.steady.are_made.reached w made) made
          by false m = ap is_some (walked.others w m) ∙ edited-some meaning header pre lib order units (settled_at old) has given.renewable w edited

  -- the walk over the rest of the order gives what a build of the whole order gives
  pub built-rest : (now new : Entries) (before rest checked more : List UnitKey) → Walked now before rest checked
      → (IsOrder s is.rank (before ++ rest) → AllKeepLaw meaning header (settled_at now) → Progress meaning header lib fl pre is (settled_at now) (within before (now_at now)) before rest checked → ((w : UnitKey) → has_unit (before ++ rest) w ≡ false → now_at now w ≡ None) → IsBuilt meaning header s (settled_at now) (now_at new) (before ++ rest) more)
      → IsBuilt meaning header s (settled_at old) (now_at new) order more
  built-rest now new before rest checked more walked builds =
      let same : (w : UnitKey) → settled_at now w ≡ settled_at old w = λ w. settled-left old now walked.left w in
      subst (λ (us : List UnitKey). IsBuilt meaning header s (settled_at old) (now_at new) us more) (sym walked.parts)
      (subst (λ (at : UnitKey → Option Stored). IsBuilt meaning header s at (now_at new) (before ++ rest) more) (λ i w. same w i)
      (builds
      (subst (λ (us : List UnitKey). IsOrder s is.rank us) walked.parts has.1)
      (subst (λ (at : UnitKey → Option Stored). AllKeepLaw meaning header at) (λ i w. sym (same w) i) given.renewable.rechecked.law)
      (subst (λ (at : UnitKey → Option Stored). Progress meaning header lib fl pre is at (within before (now_at now)) before rest checked) (λ i w. sym (same w) i) walked.progress)
      (out-none now before rest checked walked)))

  pub once-rest : (now : Entries) (before rest checked : List UnitKey) → Walked now before rest checked → IsDistinct same_unit rest
  once-rest now before rest checked walked = once-after before rest (subst (λ (us : List UnitKey). IsDistinct same_unit us) walked.parts (order-distinct header pre lib order has))

  -- the next edited unit: those before it are skipped
  abbrev Later : List UnitKey → List UnitKey → Type 0
  Later rest row = Picked (λ u. is_edited edits u ≡ true) rest row

  abbrev first_in : (rest : List UnitKey) (u : UnitKey) (more : List UnitKey) → Later rest (u ∷ more) → IsFirst edits rest u more
  first_in rest u more later = first-of edits rest u more later

  pub edited-first : (rest : List UnitKey) (u : UnitKey) (more : List UnitKey) → Later rest (u ∷ more) → is_edited edits u ≡ true
  edited-first rest u more later = (first_in rest u more later).edited

  pub to-edited : (now : Entries) (before rest checked : List UnitKey) (u : UnitKey) (more : List UnitKey) (later : Later rest (u ∷ more)) → Walked now before rest checked → IsUnread lib old now → Walked now (before ++ (first_in rest u more later).mid) (u ∷ (first_in rest u more later).after) checked
  to-edited now before rest checked u more later walked unread =
      let f = first_in rest u more later in
      skips now before f.mid (u ∷ f.after) checked (subst (λ (us : List UnitKey). Walked now before us checked) f.parts walked) unread f.apart

  pub unmoved-edited : (now : Entries) (before rest checked : List UnitKey) (u : UnitKey) (more : List UnitKey) (later : Later rest (u ∷ more)) → Walked now before rest checked → IsUnread lib old now → has_moved now u ≡ false
  unmoved-edited now before rest checked u more later walked unread = (to-edited now before rest checked u more later walked unread).unmoved u (has_unit-first u (first_in rest u more later).after)

  -- it is checked
  module _ (now new : Entries) (before rest checked : List UnitKey) (u : UnitKey) (more : List UnitKey) (later : Later rest (u ∷ more)) (walked : Walked now before rest checked) (unread : IsUnread lib old now) (e : Stored) (keeps : KeepsLaw meaning header u e) (current : IsCurrent e (text_of lib u) (now_table pre now)) (turned : Turned pre (with_made log_of e) u now new) (left : IsLeft now new) where
    abbrev front : List UnitKey
    front = before ++ (first_in rest u more later).mid

    abbrev after-u : List UnitKey
    after-u = (first_in rest u more later).after

    abbrev walked-to : Walked now front (u ∷ after-u) checked
    walked-to = to-edited now before rest checked u more later walked unread

    pub checked-walked : (row : List UnitKey) → row ≡ checked ++ u ∷ [] → Walked new (front ++ u ∷ []) after-u row
    checked-walked row is = subst (λ (us : List UnitKey). Walked new (front ++ u ∷ []) after-u us) (sym is) (checks now new front after-u checked u walked-to unread (first_in rest u more later).edited e keeps current turned left)

    pub checked-later : Later after-u more
    checked-later = (first_in rest u more later).others

    pub checked-unread : IsBaseOfNone lib u ⊎ (is_sound (results_of (now_at new) u) ≡ is_sound (results_of (now_at now) u)) → AreMarkedAsBefore new → IsUnread lib old new
    checked-unread = stays-unread now new front after-u checked u walked-to unread (first_in rest u more later).edited e keeps current turned left

    -- the rest comes after it in the order
    rest-is : (b after : List UnitKey) → order ≡ b ++ u ∷ after → after-u ≡ after
    rest-is b after is =
        one-end front b u after-u after
        (distinct-from front u after-u (subst (λ (us : List UnitKey). IsDistinct same_unit us) walked-to.parts (order-distinct header pre lib order has))).0
        (distinct-from b u after (subst (λ (us : List UnitKey). IsDistinct same_unit us) is (order-distinct header pre lib order has))).0
        (sym walked-to.parts ∙ is)

    pub rest-walked : (row : List UnitKey) → row ≡ checked ++ u ∷ [] → (b after : List UnitKey) → order ≡ b ++ u ∷ after → Walked new (front ++ u ∷ []) after row
    rest-walked row added b after is = subst (λ (us : List UnitKey). Walked new (front ++ u ∷ []) us row) (rest-is b after is) (checked-walked row added)

  -- no edited unit is left
  pub to-end : (now : Entries) (before rest checked : List UnitKey) → Later rest [] → Walked now before rest checked → IsUnread lib old now → Walked now (before ++ rest) [] checked
  to-end now before rest checked later walked unread =
      skips now before rest [] checked (subst (λ (us : List UnitKey). Walked now before us checked) (sym (append-nil rest)) walked) unread (none-of edits rest later)

  -- a unit that is checked isn't a base, if it isn't marked as one
  pub none-based : (row : List EditedUnit) → AreInOrder order edits row → (e : EditedUnit) → Contains row e → (b : Type 0) → (e.is_base ≡ false) ⊎ b → IsBaseOfNone lib e.unit ⊎ b
  none-based row is e c b (inl k) = inl (given.alone e (is.among e c) k)
  none-based row is e c b (inr k) = inr k

  -- an edited unit is in the order
  pub edited-ordered : (u : UnitKey) → is_edited edits u ≡ true → has_unit order u ≡ true
  edited-ordered u h = in-order meaning header pre lib order units (settled_at old) has given.renewable u (edited-some meaning header pre lib order units (settled_at old) has given.renewable u h)

  pub few-alike : length edits < 2 → AreInOrder order edits edits
  few-alike few = few-in-order order (order-distinct header pre lib order has) edits edited-ordered (λ e f rest is. never e f rest (subst (λ (es : List EditedUnit). length es < 2) is few))
    where
      never : (e f : EditedUnit) (rest : List EditedUnit) → length (e ∷ f ∷ rest) < 2 → ⊥
      never e f rest less = absurd (omega (arith, less))

  module _ (new : Entries) (row sorted : List UnitKey) (built : IsBuilt meaning header s (settled_at old) (now_at new) order row) (listed : map key_of sorted ≡ in_order (map key_of row)) where
    pub walk-updated : IsLeft old new → IsSteady lib row new → MarksFollow pre new → (count : ℕ) → IsCompared new count → IsUpdated meaning header pre lib old new sorted count
    walk-updated left steady marks count counted = record {
      rechecked = rechecked meaning header s is.rank (settled_at old) (now_at new) order row sorted built has.1 listed;
      staying = will-stay lib old new left steady.leaving steady.are_made;
      marks = marks;
      compared = counted;
      made = λ u. let same = same-units row sorted listed u in (λ h. (steady.listed u).0 (same.0 h), λ h. same.1 ((steady.listed u).1 h));
      are_made = steady.are_made;
      leaving = steady.leaving;
    }

    pub walk-counted : (n m : ℕ) → m ≡ raised n (length row) → m ≡ raised n (length sorted)
    walk-counted n m is_ = is_ ∙ ap (raised n) (sym (as-long meaning header s is.rank (settled_at old) (now_at new) order row sorted built has.1 listed))
