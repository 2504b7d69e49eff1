-- New entries of the edited units, under the answers that there are with them, are what a build makes if they reach no other
-- unit.
use Rattle.std.proofs.Common.{◌≡◌, inl, inr, ℕ, Bool, true, false, ◌&&◌, List, [], ◌∷◌, Option, Some, None, is_some, refl, sym, ap, subst, ◌∙◌, if◌then◌else◌}
use Rattle.std.specs.List.{list_all}
use Rattle.std.specs.Option.{option_map}
use Rattle.std.proofs.lemmas.Bool.{true≢false}
use Rattle.al_base.specs.Batch.{Key, key_of}
use Rattle.al_base.specs.declared.unit_key.UnitKey.{UnitKey}
use Rattle.al_unit_graph.specs.Headers.{Header, Library}
use Rattle.al_unit_faults.specs.Reached.{is_faultless}
use Rattle.al_view.proofs.SymbolLemmas.{both}
use Rattle.al_query.specs.Known.{has_unit}
use Rattle.al_query.proofs.KnownLemmas.{has_unit-first}
use Rattle.al_query.specs.declared.answer.AnswerKind.{AnswerKind}
use Rattle.al_query.specs.declared.query.Query.{Query}
use Rattle.al_query_outcome.specs.Equations.{IsSetting, Setting, is_reached, is_sound, table, unit_named}
use Rattle.al_query_outcome.specs.Results.{Outcome}
use Rattle.al_query_outcome.proofs.Names.{tested}
use Rattle.al_engine_refresh.specs.EntryLaw.{AllKeepLaw, HasCurrent, KeepsLaw, TextMeaning}
use Rattle.al_engine_refresh.specs.Stored.{Stored, outcome_of}
use Rattle.al_engine_refresh.specs.Builds.{IsBuilt, NeedsCheck, Picked, has_sound_dependences, left, no_units, results_of, taken, text_of}
use Rattle.al_engine_refresh.specs.Progress.{Fits, Progress, Valid}
use Rattle.al_engine_refresh.proofs.BuildLemmas.{finish}
use Rattle.al_engine_refresh.proofs.Moves.{SameBelow, ValidBelow, entry-moves, reached-alike}
use Rattle.al_engine_refresh.proofs.OrderSteps.{in-rest}
use Rattle.al_engine.specs.RecheckEdits.{IsRenewable}
use Rattle.al_engine.specs.Rechecks.{HasOrder, IsRechecked, setting_of}
use Rattle.al_engine.proofs.OrderLemmas.{faultless-after}
use Rattle.al_engine.specs.Renewals.{AreListed, AreRenewed, RenewalsAreRechecked}

-- the units of a list that are among some units
picked_of : List UnitKey → List UnitKey → List UnitKey
picked_of units [] = []
picked_of units (u ∷ us) = if has_unit units u then u ∷ picked_of units us else picked_of units us

picked-are : (P : UnitKey → Type 0) (units us : List UnitKey) → ((u : UnitKey) → has_unit us u ≡ true → has_unit units u ≡ true → P u) → ((u : UnitKey) → has_unit us u ≡ true → has_unit units u ≡ false → P u → ⊥) → Picked P us (picked_of units us)
unfolding picked_of
picked-are P units [] each never = no_units
picked-are P units (v ∷ us) each never =
    by (has_unit units v) refl (picked-are P units us (λ w h m. each w (in-rest v us w h) m) (λ w h m. never w (in-rest v us w h) m))
  where
    by : (b : Bool) → has_unit units v ≡ b → Picked P us (picked_of units us) → Picked P (v ∷ us) (if b then v ∷ picked_of units us else picked_of units us)
    by true m rest = taken (each v (has_unit-first v us) m) rest
    by false m rest = left (never v (has_unit-first v us) m) rest

module _ (meaning : TextMeaning) (header : List ℕ → Header) (pre : Query → AnswerKind) (lib : Library) (entries made : UnitKey → Option Stored) (order units : List UnitKey) (has : HasOrder header pre lib order) (was : IsRenewable meaning header pre lib entries units) (now : AreRenewed meaning header pre lib entries units made) where
  abbrev s0 : Setting
  s0 = setting_of header pre was.old

  abbrev s1 : Setting
  s1 = setting_of header pre lib

  abbrev fl : UnitKey → Bool
  fl w = is_faultless lib (key_of w)

  abbrev is : IsSetting s1
  is = has.0

  abbrev f0 : UnitKey → Option Outcome
  f0 = results_of entries

  abbrev f : UnitKey → Option Outcome
  f = results_of made

  -- each unit is reached as in the last build
  reached-now : (w : UnitKey) → fl w ≡ true → is_reached s1 f w ≡ is_reached s0 f0 w
  reached-now w t =
      ap (λ (b : Bool). fl w && b) (now.reached w t)
      ∙ sym (λ i. was.alone.faultless (key_of w) i && list_all (λ (k : Key). is_sound (f0 (unit_named k))) (was.alone.dependences (key_of w) i))

  -- a unit that had an entry was reached
  reached-before : (u : UnitKey) → is_some (entries u) ≡ true → is_reached s0 f0 u ≡ true
  reached-before u some = by (is_reached s0 f0 u) refl
    where
      by : (b : Bool) → is_reached s0 f0 u ≡ b → is_reached s0 f0 u ≡ true
      by true r = r
      by false r = absurd (true≢false (sym some ∙ ap is_some (was.rechecked.unreached u r)))

  -- an edited unit had an entry, and breaks no rule
  had-entry : (u : UnitKey) → has_unit units u ≡ true → is_some (entries u) ≡ true
  had-entry u m = let e = was.alone.edited u m in ap is_some e.1

  faultless : (u : UnitKey) → has_unit units u ≡ true → fl u ≡ true
  faultless u m =
      sym (was.alone.faultless (key_of u)) ∙ (both (is_faultless was.old (key_of u)) (has_sound_dependences was.old f0 u) (reached-before u (had-entry u m))).0

  -- an edited unit is reached
  reached-edited : (u : UnitKey) → has_unit units u ≡ true → is_reached s1 f u ≡ true
  reached-edited u m =
      reached-now u (faultless u m) ∙ reached-before u (had-entry u m)

  law : AllKeepLaw meaning header made
  law u e k = by (has_unit units u) refl
    where
      by : (b : Bool) → has_unit units u ≡ b → KeepsLaw meaning header u e
      by true m = now.law u e m k
      by false m = was.rechecked.law u e (sym (now.renewal.others u m) ∙ k)

  -- a unit that breaks a rule has no entry, and neither has one outside of the order
  none : (u : UnitKey) → fl u ≡ false → made u ≡ None
  none u t = by (has_unit units u) refl
    where
      by : (b : Bool) → has_unit units u ≡ b → made u ≡ None
      by true m = absurd (true≢false (sym (faultless u m) ∙ t))
      by false m = now.renewal.others u m ∙ was.rechecked.unreached u (ap (λ (b : Bool). b && has_sound_dependences was.old f0 u) (was.alone.faultless (key_of u) ∙ t))

  none-outside : (u : UnitKey) → has_unit order u ≡ false → made u ≡ None
  none-outside u out = by (fl u) refl
    where
      by : (b : Bool) → fl u ≡ b → made u ≡ None
      by true t = absurd (true≢false (sym (has.1.whole u t) ∙ out))
      by false t = none u t

  -- the entry of an edited unit
  valid-edited : (u : UnitKey) (o : Option Stored) → made u ≡ o → has_unit units u ≡ true → Valid meaning header lib fl pre is made f u
  valid-edited u None k m = absurd (true≢false (sym (now.renewal.there u m) ∙ ap is_some k))
  valid-edited u (Some e) k m = inr (e, reached-edited u m, k, now.current u e m k)

  -- the entry of another unit that is reached
  valid-other : (u : UnitKey) (o : Option Stored) → entries u ≡ o → fl u ≡ true → has_unit units u ≡ false → is_reached s0 f0 u ≡ true → HasCurrent o (text_of was.old u) (table s0 f0) → Valid meaning header lib fl pre is made f u
  valid-other u None k t m r c = absurd c
  valid-other u (Some e) k t m r c = inr (e, reached-now u t ∙ r, now.renewal.others u m ∙ k, (c.0 ∙ was.alone.texts u t m, now.unread u e m k))

  valid : (u : UnitKey) → fl u ≡ true → Valid meaning header lib fl pre is made f u
  valid u t = by (has_unit units u) refl (is_reached s0 f0 u) refl
    where
      by : (b : Bool) → has_unit units u ≡ b → (c : Bool) → is_reached s0 f0 u ≡ c → Valid meaning header lib fl pre is made f u
      by true m c r = valid-edited u (made u) refl m
      by false m true r = valid-other u (entries u) refl t m r (was.rechecked.current u r)
      by false m false r = inl (reached-now u t ∙ r, now.renewal.others u m ∙ was.rechecked.unreached u r)

  below : (n : ℕ) → ValidBelow meaning header lib fl pre is made n f
  below n = record {
    valid = λ d t less. (valid d t, refl);
    none = λ d t. ap (option_map outcome_of) (none d t);
  }

  -- under every map that has the outcomes of these entries
  module _ (g : UnitKey → Option Outcome) (fits : Fits meaning header lib fl pre is entries made order g) where
    same : (n : ℕ) → SameBelow meaning header lib fl pre is n f g
    same n d low = elim (tested (fl d)) as (λ _. f d ≡ g d) [ inl t ↦ sym (fits d (inl (has.1.whole d t))) | inr t ↦ sym (fits d (inr t)) ]

    alike : (u : UnitKey) → is_reached s1 f u ≡ is_reached s1 g u
    alike u = reached-alike meaning header lib fl pre is u f g (same (is.rank u))

    valid-under : (u : UnitKey) → Valid meaning header lib fl pre is made f u → Valid meaning header lib fl pre is made g u
    valid-under u (inl v) = inl (sym (alike u) ∙ v.0, v.1)
    valid-under u (inr v) = inr (v.0, sym (alike u) ∙ v.1, v.2, (v.3.0, entry-moves meaning header lib fl pre is made law u f g v.1 (below (is.rank u)) (same (is.rank u)) v.0 (law u v.0 v.2) v.3.0 v.3.1))

    -- an edited unit needs a check, and no other one does
    needs : (u : UnitKey) → has_unit units u ≡ true → NeedsCheck s1 entries (text_of lib) g u
    needs u m =
        let e = was.alone.edited u m in
        (sym (alike u) ∙ reached-edited u m, (λ c. e.2 (subst (λ (o : Option Stored). HasCurrent o (text_of lib u) (table s1 g)) e.1 c).0))

    needs-none : (u : UnitKey) → fl u ≡ true → has_unit units u ≡ false → NeedsCheck s1 entries (text_of lib) g u → ⊥
    needs-none u t m n = by (valid-under u (valid u t))
      where
        by : Valid meaning header lib fl pre is made g u → ⊥
        by (inl v) = true≢false (sym n.0 ∙ v.0)
        by (inr v) = n.1 (subst (λ (o : Option Stored). HasCurrent o (text_of lib u) (table s1 g)) (sym v.2 ∙ now.renewal.others u m) v.3)

  in-faultless : (u : UnitKey) → has_unit order u ≡ true → fl u ≡ true
  in-faultless u m = faultless-after s1 is.rank [] order has.1.after u m

  progress : Progress meaning header lib fl pre is entries made order [] (picked_of units order)
  progress = record {
    law = law;
    ordered = tt;
    there = in-faultless;
    undone = none-outside;
    valid = λ g fits u m. valid-under g fits u (valid u (in-faultless u m));
    picked = λ g fits. picked-are (NeedsCheck s1 entries (text_of lib) g) units order (λ u h m. needs g fits u m) (λ u h m. needs-none g fits u (in-faultless u h) m);
  }

  built : IsBuilt meaning header s1 entries made order (picked_of units order)
  built = finish meaning header lib fl pre is entries made order (picked_of units order) has.1 progress

  fits-now : Fits meaning header lib fl pre is entries made order f
  fits-now d m = refl

  needs-edited : (u : UnitKey) → NeedsCheck s1 entries (text_of lib) f u → has_unit units u ≡ true
  needs-edited u n = by (has_unit units u) refl
    where
      by : (b : Bool) → has_unit units u ≡ b → has_unit units u ≡ true
      by true m = m
      by false m = absurd (needs-none f fits-now u (both (fl u) (has_sound_dependences lib f u) n.0).0 m n)

  pub rechecked : (listed : List UnitKey) → AreListed units listed → IsRechecked meaning header s1 entries made listed
  rechecked listed are = record {
    law = built.law;
    solves = built.solves;
    only = built.only;
    current = built.current;
    unreached = built.unreached;
    rechecked = λ u. ((λ c. needs f fits-now u ((are.0 u).0 c)), (λ n. (are.0 u).1 (needs-edited u n)));
    ascend = are.1;
  }

pub renewals_are_rechecked : RenewalsAreRechecked
renewals_are_rechecked meaning header pre lib entries made order units listed has was now are = rechecked meaning header pre lib entries made order units has was now listed are
