-- Units that weren't edited, and aren't reached by what was checked, are as a build leaves them: a walk over an order may skip
-- them.
use Rattle.std.proofs.Common.{◌≡◌, ◌⊎◌, inl, inr, ℕ, ◌<◌, Bool, true, false, ◌&&◌, ◌||◌, List, [], ◌∷◌, ◌++◌, Option, Some, None, append-nil, append_assoc, is_some, refl, sym, ap, subst, ◌∙◌, if◌then◌else◌}
use Rattle.std.specs.List.{list_all}
use Rattle.std.specs.Option.{option_map}
use Rattle.std.proofs.lemmas.Bool.{true≢false}
use Rattle.std.proofs.lemmas.List.Folds.{list_any-append}
use Rattle.al_base.specs.Batch.{Key, key_of}
use Rattle.al_base.specs.declared.unit_key.UnitKey.{UnitKey}
use Rattle.al_unit_graph.specs.Headers.{Header, Library}
use Rattle.al_unit_faults.specs.Reached.{is_faultless}
use Rattle.al_view.specs.Symbols.{same_unit}
use Rattle.al_view.proofs.SymbolLemmas.{both, same_unit-one}
use Rattle.al_query.specs.Known.{has_unit}
use Rattle.al_query.specs.Reads.{Agrees}
use Rattle.al_query.specs.declared.answer.AnswerKind.{AnswerKind}
use Rattle.al_query.specs.declared.query.Query.{Query}
use Rattle.al_query.proofs.KnownLemmas.{has_unit-first, has_unit-left}
use Rattle.al_query_outcome.specs.Equations.{IsSetting, Setting, is_reached, is_sound, table, unit_named}
use Rattle.al_query_outcome.specs.Results.{Outcome}
use Rattle.al_query_outcome.proofs.Names.{tested}
use Rattle.al_engine_refresh.specs.EntryLaw.{AllKeepLaw, HasCurrent, KeepsLaw, TextMeaning}
use Rattle.al_engine_refresh.specs.Stored.{Stored, outcome_of}
use Rattle.al_engine_refresh.specs.Staying.{is_there}
use Rattle.al_engine_refresh.specs.Builds.{NeedsCheck, Picked, StandsAfter, has_sound_dependences, left, no_units, results_of, taken, text_of}
use Rattle.al_engine_refresh.specs.Handling.{within}
use Rattle.al_engine_refresh.specs.Progress.{Fits, Progress, Valid}
use Rattle.al_engine_refresh.proofs.Moves.{SameBelow, ValidBelow, entry-moves, reached-alike}
use Rattle.al_engine_refresh.proofs.OrderSteps.{in-rest}
use Rattle.al_engine.specs.Rechecks.{HasOrder, setting_of}
use Rattle.al_engine.specs.RecheckEdits.{IsForAnother, IsRenewable}
use Rattle.al_engine.proofs.OrderLemmas.{faultless-after}

-- none of these units is picked
left-each : (P : UnitKey → Type 0) (us : List UnitKey) → ((w : UnitKey) → has_unit us w ≡ true → P w → ⊥) → Picked P us []
left-each P [] never = no_units
left-each P (v ∷ us) never = left (never v (has_unit-first v us)) (left-each P us (λ w h. never w (in-rest v us w h)))

-- no more units are picked, if the list is longer by units that aren't picked
picked-more : (P : UnitKey → Type 0) (us more vs : List UnitKey) → Picked P us vs → ((w : UnitKey) → has_unit more w ≡ true → P w → ⊥) → Picked P (us ++ more) vs
picked-more P _ more _ no_units never = left-each P more never
picked-more P _ more _ (taken {u = v} {us = us} {vs = vs} holds rest) never = taken holds (picked-more P us more vs rest never)
picked-more P _ more _ (left {u = v} {us = us} {vs = vs} not rest) never = left not (picked-more P us more vs rest never)

-- the rest of an order comes after its beginning
stands-from : (s : Setting) (rank : UnitKey → ℕ) (seen before rest : List UnitKey) → StandsAfter s rank seen (before ++ rest) → StandsAfter s rank (seen ++ before) rest
stands-from s rank seen [] rest after = subst (λ (us : List UnitKey). StandsAfter s rank us rest) (sym (append-nil seen)) after
stands-from s rank seen (v ∷ before) rest after = subst (λ (us : List UnitKey). StandsAfter s rank us rest) (append_assoc seen (v ∷ []) before) (stands-from s rank (seen ++ v ∷ []) before rest after.3)

-- all units of lower rank come before a unit of the beginning
lower-before : (s : Setting) (rank : UnitKey → ℕ) (seen before rest : List UnitKey) → StandsAfter s rank seen (before ++ rest) → (w : UnitKey) → has_unit before w ≡ true → (d : UnitKey) → s.is_faultless d ≡ true → rank d < rank w → has_unit (seen ++ before) d ≡ true
lower-before s rank seen [] rest after w h d t less = absurd (true≢false (sym h))
lower-before s rank seen (v ∷ before) rest after w h d t less = by (same_unit w v) refl h (λ k. lower-before s rank (seen ++ v ∷ []) before rest after.3 w k d t less)
  where
    by : (b : Bool) → same_unit w v ≡ b → (b || has_unit before w) ≡ true → (has_unit before w ≡ true → has_unit ((seen ++ v ∷ []) ++ before) d ≡ true) → has_unit (seen ++ v ∷ before) d ≡ true
    by true e k later = has_unit-left seen (v ∷ before) d (after.2 d t (subst (λ (x : UnitKey). rank d < rank x) (same_unit-one w v e) less))
    by false e k later = subst (λ (us : List UnitKey). has_unit us d ≡ true) (append_assoc seen (v ∷ []) before) (later k)

-- a unit that has no entry has none among others
within-none : (b : Bool) (o : Option Stored) → o ≡ None → (if b then o else None) ≡ None
within-none true o e = e
within-none false o e = refl

within-some : (b : Bool) (o : Option Stored) (d : Stored) → (if b then o else None) ≡ Some d → o ≡ Some d
within-some true o d e = e
within-some false o d e = absurd (cc)

-- a unit that comes after others is none of them
apart-before : (s : Setting) (rank : UnitKey → ℕ) (seen mid rest : List UnitKey) → StandsAfter s rank seen (mid ++ rest) → (w : UnitKey) → has_unit mid w ≡ true → has_unit seen w ≡ false
apart-before s rank seen [] rest after w h = absurd (true≢false (sym h))
apart-before s rank seen (v ∷ mid) rest after w h = by (same_unit w v) refl h (λ k. apart-before s rank (seen ++ v ∷ []) mid rest after.3 w k)
  where
    fewer : (b c : Bool) → (b || c) ≡ false → b ≡ false
    fewer false c k = refl
    fewer true c k = absurd (true≢false k)

    by : (b : Bool) → same_unit w v ≡ b → (b || has_unit mid w) ≡ true → (has_unit mid w ≡ true → has_unit (seen ++ v ∷ []) w ≡ false) → has_unit seen w ≡ false
    by true e k later = subst (λ (x : UnitKey). has_unit seen x ≡ false) (sym (same_unit-one w v e)) after.0
    by false e k later = fewer (has_unit seen w) (has_unit (v ∷ []) w) (sym (list_any-append (same_unit w) seen (v ∷ [])) ∙ later k)

module _ (meaning : TextMeaning) (header : List ℕ → Header) (pre : Query → AnswerKind) (new : Library) (order : List UnitKey) (units : List UnitKey) (entries : UnitKey → Option Stored) (has : HasOrder header pre new order) (was : IsRenewable meaning header pre new entries units) where
  abbrev s0 : Setting
  s0 = setting_of header pre was.old

  abbrev s1 : Setting
  s1 = setting_of header pre new

  abbrev fl : UnitKey → Bool
  fl w = is_faultless new (key_of w)

  abbrev is : IsSetting s1
  is = has.0

  abbrev f0 : UnitKey → Option Outcome
  f0 = results_of entries

  -- each unit is reached as before
  reached-as : (w : UnitKey) → is_reached s0 f0 w ≡ is_reached s1 f0 w
  reached-as w = λ i. was.alone.faultless (key_of w) i && list_all (λ (k : Key). is_sound (f0 (unit_named k))) (was.alone.dependences (key_of w) i)

  -- a unit that breaks a rule has no entry
  pub none-faulty : (w : UnitKey) → fl w ≡ false → entries w ≡ None
  none-faulty w t = was.rechecked.unreached w (ap (λ (b : Bool). b && has_sound_dependences was.old f0 w) (was.alone.faultless (key_of w) ∙ t))

  -- a unit that has an entry was reached
  reached-some : (w : UnitKey) → is_some (entries w) ≡ true → is_reached s1 f0 w ≡ true
  reached-some w some = by (is_reached s0 f0 w) refl
    where
      by : (b : Bool) → is_reached s0 f0 w ≡ b → is_reached s1 f0 w ≡ true
      by true r = sym (reached-as w) ∙ r
      by false r = absurd (true≢false (sym some ∙ ap is_some (was.rechecked.unreached w r)))

  pub faultless-some : (w : UnitKey) → is_some (entries w) ≡ true → fl w ≡ true
  faultless-some w some = (both (fl w) (has_sound_dependences new f0 w) (reached-some w some)).0

  pub sound-some : (w : UnitKey) → is_some (entries w) ≡ true → has_sound_dependences new f0 w ≡ true
  sound-some w some = (both (fl w) (has_sound_dependences new f0 w) (reached-some w some)).1

  -- an edited unit has an entry, which is for another source
  pub edited-some : (w : UnitKey) → has_unit units w ≡ true → is_some (entries w) ≡ true
  edited-some w h = let e = was.alone.edited w h in ap is_some e.1

  pub edited-not : (w : UnitKey) → has_unit units w ≡ true → (t : Query → AnswerKind) → HasCurrent (entries w) (text_of new w) t → ⊥
  edited-not w h t c =
      let e = was.alone.edited w h in
      e.2 (subst (λ (o : Option Stored). HasCurrent o (text_of new w) t) e.1 c).0

  -- a unit that has an entry is in the library, and in the order
  pub there-some : (w : UnitKey) → is_some (entries w) ≡ true → is_there new w ≡ true
  there-some w some = ap is_some (is.headed w (faultless-some w some))

  pub in-order : (w : UnitKey) → is_some (entries w) ≡ true → has_unit order w ≡ true
  in-order w some = has.1.whole w (faultless-some w some)

  pub none-out : (w : UnitKey) → has_unit order w ≡ false → entries w ≡ None
  none-out w out = by (entries w) refl
    where
      by : (o : Option Stored) → entries w ≡ o → entries w ≡ None
      by None e = e
      by (Some d) e = absurd (true≢false (sym (in-order w (ap is_some e)) ∙ out))

  -- these units are done, and the entries of all units are these now
  module _ (at : UnitKey → Option Stored) (before mid rest checked : List UnitKey) (p : Progress meaning header new fl pre is entries (within before at) before (mid ++ rest) checked)
      (others : (w : UnitKey) → has_unit before w ≡ false → at w ≡ entries w)
      (apart : (w : UnitKey) → has_unit mid w ≡ true → has_unit units w ≡ false)
      (reached : (w : UnitKey) → fl w ≡ true → has_sound_dependences new (results_of at) w ≡ has_sound_dependences new f0 w)
      (agree : (w : UnitKey) (d : Stored) → entries w ≡ Some d → Agrees (table s1 (results_of at)) d.log) where
    abbrev f : UnitKey → Option Outcome
    f = results_of at

    abbrev done : List UnitKey
    done = before ++ mid

    -- the entries of the units that are done, before and then
    abbrev at0 : UnitKey → Option Stored
    at0 = within before at

    abbrev at1 : UnitKey → Option Stored
    at1 = within done at

    in-before : (w : UnitKey) → has_unit before w ≡ true → has_unit done w ≡ true
    in-before w m = has_unit-left before mid w m

    in-mid : (w : UnitKey) → has_unit mid w ≡ true → has_unit done w ≡ true
    in-mid w m = list_any-append (same_unit w) before mid ∙ ap (λ (b : Bool). has_unit before w || b) m ∙ or_true (has_unit before w)
      where
        or_true : (b : Bool) → (b || true) ≡ true
        or_true true = refl
        or_true false = refl

    -- a unit that is done comes before the skipped ones or is among them
    which : (w : UnitKey) → has_unit done w ≡ true → (has_unit before w ≡ true) ⊎ ((has_unit before w ≡ false) × (has_unit mid w ≡ true))
    which w m = by (has_unit before w) refl
      where
        by : (b : Bool) → has_unit before w ≡ b → (has_unit before w ≡ true) ⊎ ((has_unit before w ≡ false) × (has_unit mid w ≡ true))
        by true e = inl e
        by false e = inr (e, sym (list_any-append (same_unit w) before mid ∙ ap (λ (b : Bool). b || has_unit mid w) e) ∙ m)

    kept0 : (w : UnitKey) → has_unit before w ≡ true → at0 w ≡ at w
    kept0 w m = ap (λ (b : Bool). if b then at w else None) m

    kept1 : (w : UnitKey) → has_unit done w ≡ true → at1 w ≡ at w
    kept1 w m = ap (λ (b : Bool). if b then at w else None) m

    after : StandsAfter s1 is.rank before (mid ++ rest)
    after = p.ordered

    there-mid : (w : UnitKey) → has_unit mid w ≡ true → fl w ≡ true
    there-mid w m = faultless-after s1 is.rank before (mid ++ rest) after w (has_unit-left mid rest w m)

    there : (w : UnitKey) → has_unit done w ≡ true → fl w ≡ true
    there w m = elim (which w m) as (λ _. fl w ≡ true) [ inl b ↦ p.there w b | inr b ↦ there-mid w b.1 ]

    none : (w : UnitKey) → fl w ≡ false → at w ≡ None
    none w t = by (has_unit before w) refl
      where
        by : (b : Bool) → has_unit before w ≡ b → at w ≡ None
        by true m = absurd (true≢false (sym (p.there w m) ∙ t))
        by false m = others w m ∙ none-faulty w t

    law : AllKeepLaw meaning header at
    law w d k = by (has_unit before w) refl
      where
        by : (b : Bool) → has_unit before w ≡ b → KeepsLaw meaning header w d
        by true m = p.law w d (kept0 w m ∙ k)
        by false m = was.rechecked.law w d (sym (others w m) ∙ k)

    reached-now : (w : UnitKey) → fl w ≡ true → is_reached s1 f w ≡ is_reached s0 f0 w
    reached-now w t = ap (λ (b : Bool). fl w && b) (reached w t) ∙ sym (reached-as w)

    -- the entry of a unit that is skipped and reached is as before
    found : (w : UnitKey) (o : Option Stored) → entries w ≡ o → at w ≡ entries w → fl w ≡ true → has_unit units w ≡ false → is_reached s0 f0 w ≡ true → HasCurrent o (text_of was.old w) (table s0 f0) → Valid meaning header new fl pre is at f w
    found w None k same t n r c = absurd c
    found w (Some d) k same t n r c = inr (d, reached-now w t ∙ r, same ∙ k, (c.0 ∙ was.alone.texts w t n, agree w d k))

    -- it is as it should be, as long as these are the outcomes
    valid-mid : (w : UnitKey) → has_unit before w ≡ false → has_unit mid w ≡ true → Valid meaning header new fl pre is at f w
    valid-mid w out m = by (is_reached s0 f0 w) refl
      where
        by : (b : Bool) → is_reached s0 f0 w ≡ b → Valid meaning header new fl pre is at f w
        by true r = found w (entries w) refl (others w out) (there-mid w m) (apart w m) r (was.rechecked.current w r)
        by false r = inl (reached-now w (there-mid w m) ∙ r, others w out ∙ was.rechecked.unreached w r)

    -- the same with other entries, if those of this unit are equal
    valid-at : (a b : UnitKey → Option Stored) (g : UnitKey → Option Outcome) (w : UnitKey) → a w ≡ b w → Valid meaning header new fl pre is a g w → Valid meaning header new fl pre is b g w
    valid-at a b g w same (inl v) = inl (v.0, sym same ∙ v.1)
    valid-at a b g w same (inr v) = inr (v.0, v.1, sym same ∙ v.2, v.3)

    -- the outcomes of now fit the units that are done
    fits-now : Fits meaning header new fl pre is entries at0 before f
    fits-now d (inl m) = ap (option_map outcome_of) (sym (kept0 d m))
    fits-now d (inr t) = ap (option_map outcome_of) (none d t ∙ sym (within-none (has_unit before d) (at d) (none d t)))

    valid-now : (w : UnitKey) → has_unit done w ≡ true → Valid meaning header new fl pre is at f w
    valid-now w m = elim (which w m) as (λ _. Valid meaning header new fl pre is at f w) [
      | inl b ↦ valid-at at0 at f w (kept0 w b) (p.valid f fits-now w b)
      | inr b ↦ valid-mid w b.0 b.1
    ]

    lower : (w : UnitKey) → has_unit mid w ≡ true → (d : UnitKey) → fl d ≡ true → is.rank d < is.rank w → has_unit done d ≡ true
    lower w m d t less = lower-before s1 is.rank before mid rest after w m d t less

    module _ (g : UnitKey → Option Outcome) (fits : Fits meaning header new fl pre is entries at1 done g) where
      fits-before : Fits meaning header new fl pre is entries at0 before g
      fits-before d (inl m) = fits d (inl (in-before d m)) ∙ ap (option_map outcome_of) (kept1 d (in-before d m) ∙ sym (kept0 d m))
      fits-before d (inr t) = fits d (inr t) ∙ ap (option_map outcome_of) (within-none (has_unit done d) (at d) (none d t) ∙ sym (within-none (has_unit before d) (at d) (none d t)))

      same : (d : UnitKey) → (has_unit done d ≡ true) ⊎ (fl d ≡ false) → f d ≡ g d
      same d (inl m) = sym (fits d (inl m) ∙ ap (option_map outcome_of) (kept1 d m))
      same d (inr t) = ap (option_map outcome_of) (none d t) ∙ sym (fits d (inr t) ∙ ap (option_map outcome_of) (within-none (has_unit done d) (at d) (none d t)))

      same-below : (w : UnitKey) → has_unit mid w ≡ true → SameBelow meaning header new fl pre is (is.rank w) f g
      same-below w m d low = elim (tested (fl d)) as (λ _. f d ≡ g d) [ inl t ↦ same d (inl (lower w m d t (low t))) | inr t ↦ same d (inr t) ]

      valid-below : (w : UnitKey) → has_unit mid w ≡ true → ValidBelow meaning header new fl pre is at (is.rank w) f
      valid-below w m = record {
        valid = λ d t less. (valid-now d (lower w m d t less), refl);
        none = λ d t. ap (option_map outcome_of) (none d t);
      }

      valid-skipped : (w : UnitKey) → has_unit before w ≡ false → has_unit mid w ≡ true → Valid meaning header new fl pre is at1 g w
      valid-skipped w out m = by (valid-mid w out m)
        where
          alike : is_reached s1 f w ≡ is_reached s1 g w
          alike = reached-alike meaning header new fl pre is w f g (same-below w m)

          by : Valid meaning header new fl pre is at f w → Valid meaning header new fl pre is at1 g w
          by (inl v) = inl (sym alike ∙ v.0, kept1 w (in-mid w m) ∙ v.1)
          by (inr v) = inr (v.0, sym alike ∙ v.1, kept1 w (in-mid w m) ∙ v.2, (v.3.0, entry-moves meaning header new fl pre is at law w f g v.1 (valid-below w m) (same-below w m) v.0 (law w v.0 v.2) v.3.0 v.3.1))

      valid-done : (w : UnitKey) → has_unit done w ≡ true → Valid meaning header new fl pre is at1 g w
      valid-done w m = elim (which w m) as (λ _. Valid meaning header new fl pre is at1 g w) [
        | inl b ↦ valid-at at0 at1 g w (kept0 w b ∙ sym (kept1 w m)) (p.valid g fits-before w b)
        | inr b ↦ valid-skipped w b.0 b.1
      ]

      none-checked : (w : UnitKey) → has_unit mid w ≡ true → NeedsCheck s1 entries (text_of new) g w → ⊥
      none-checked w m n = by (has_unit before w) refl
        where
          met : (has_unit before w ≡ false) → Valid meaning header new fl pre is at1 g w → ⊥
          met out (inl v) = true≢false (sym n.0 ∙ v.0)
          met out (inr v) = n.1 (subst (λ (o : Option Stored). HasCurrent o (text_of new w) (table s1 g)) (sym v.2 ∙ kept1 w (in-mid w m) ∙ others w out) v.3)

          by : (b : Bool) → has_unit before w ≡ b → ⊥
          by true e = absurd (true≢false (sym e ∙ apart-before s1 is.rank before mid rest after w m))
          by false e = met e (valid-skipped w e m)

    pub skipped : Progress meaning header new fl pre is entries at1 done rest checked
    skipped = record {
      law = λ w d k. law w d (within-some (has_unit done w) (at w) d k);
      ordered = stands-from s1 is.rank before mid rest after;
      there = there;
      undone = λ w m. ap (λ (b : Bool). if b then at w else None) m;
      valid = λ g fits w m. valid-done g fits w m;
      picked = λ g fits. picked-more (NeedsCheck s1 entries (text_of new) g) before mid checked (p.picked g (fits-before g fits)) (none-checked g fits);
    }
