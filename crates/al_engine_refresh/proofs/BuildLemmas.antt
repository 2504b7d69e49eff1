-- A build in progress: what holds of the units that are done, under every map that has their outcomes.
use Rattle.std.proofs.Common.{◌≡◌, ◌⊎◌, inl, inr, ℕ, zero, suc, ◌<◌, Bool, true, false, ◌||◌, List, [], ◌∷◌, ◌++◌, Option, Some, None, refl, sym, ◌∙◌, ap, subst, arith}
use Rattle.std.specs.Option.{option_map}
use Rattle.al_base.specs.declared.unit_key.UnitKey.{UnitKey}
use Rattle.al_view.specs.Symbols.{same_unit}
use Rattle.al_view.proofs.SymbolLemmas.{both, same_unit-one, same_unit-self}
use Rattle.al_query.specs.Known.{has_unit}
use Rattle.al_query.proofs.KnownLemmas.{has_unit-cases, has_unit-first, has_unit-left, has_unit-right}
use Rattle.al_query.specs.declared.answer.AnswerKind.{AnswerKind}
use Rattle.al_query.specs.declared.query.Query.{Query}
use Rattle.al_unit_graph.specs.Headers.{Header, Library}
use Rattle.al_query_outcome.specs.Equations.{IsSetting, Setting, Solves, is_reached, outcome, table}
use Rattle.al_query_outcome.specs.Results.{Outcome}
use Rattle.al_query_outcome.proofs.Names.{tested}
use Rattle.al_engine_refresh.specs.EntryLaw.{AllKeepLaw, HasCurrent, IsCurrent, KeepsLaw, TextMeaning}
use Rattle.al_engine_refresh.specs.Stored.{Stored, outcome_of}
use Rattle.al_engine_refresh.specs.Builds.{IsBuilt, IsOrder, NeedsCheck, Picked, no_units, taken, left, has_sound_dependences, results_of, setting, text_of, with_texts}
use Rattle.al_engine_refresh.specs.Handling.{Becomes, Handled, passed, used, rechecked}
pub use Rattle.al_engine_refresh.specs.Progress.{Fits, Progress}
use Rattle.al_engine_refresh.proofs.Moves.{SameBelow, Valid, ValidBelow, entry-moves, reached-alike}

-- one unit more at the end
picked-taken : (P : UnitKey → Type 0) (us vs : List UnitKey) (u : UnitKey) → Picked P us vs → P u → Picked P (us ++ u ∷ []) (vs ++ u ∷ [])
picked-taken P us vs u no_units h = taken h no_units
picked-taken P us vs u (taken k p) h = taken k (picked-taken P _ _ u p h)
picked-taken P us vs u (left k p) h = left k (picked-taken P _ _ u p h)

picked-left : (P : UnitKey → Type 0) (us vs : List UnitKey) (u : UnitKey) → Picked P us vs → (P u → ⊥) → Picked P (us ++ u ∷ []) vs
picked-left P us vs u no_units h = left h no_units
picked-left P us vs u (taken k p) h = taken k (picked-left P _ _ u p h)
picked-left P us vs u (left k p) h = left k (picked-left P _ _ u p h)

-- a unit is the last one or one before it
last-or-before : (us : List UnitKey) (u v : UnitKey) → has_unit (us ++ u ∷ []) v ≡ true → (has_unit us v ≡ true) ⊎ (v ≡ u)
last-or-before us u v h = elim (has_unit-cases us (u ∷ []) v h) as (λ _. (has_unit us v ≡ true) ⊎ (v ≡ u)) [ inl m ↦ inl m | inr m ↦ inr (one (same_unit v u) refl m) ]
  where
    one : (b : Bool) → same_unit v u ≡ b → (b || false) ≡ true → v ≡ u
    one true is k = same_unit-one v u is
    one false is k = absurd (cc)

module _ (meaning : TextMeaning) (header : List ℕ → Header) (lib : Library) (fl : UnitKey → Bool) (pre : Query → AnswerKind) (is : IsSetting (setting header lib fl pre)) (old : UnitKey → Option Stored) where
  abbrev s : Setting
  s = setting header lib fl pre

  abbrev Fitting : (UnitKey → Option Stored) → List UnitKey → (UnitKey → Option Outcome) → Type 0
  Fitting = Fits meaning header lib fl pre is old

  abbrev Going : (UnitKey → Option Stored) → List UnitKey → List UnitKey → List UnitKey → Type 0
  Going = Progress meaning header lib fl pre is old

  pub start : (order : List UnitKey) → IsOrder s is.rank order → Going (λ u. None) [] order []
  start order o = record {
    law = λ u e k. absurd (cc);
    ordered = o.after;
    there = λ u k. absurd (cc);
    undone = λ u k. refl;
    valid = λ g fits u k. absurd (cc);
    picked = λ g fits. no_units;
  }

  module _ (at : UnitKey → Option Stored) (done rest checked : List UnitKey) (p : Going at done rest checked) where
    none-there : (d : UnitKey) → fl d ≡ false → at d ≡ None
    none-there d k =
        elim (tested (has_unit done d)) as (λ _. at d ≡ None) [
          | inl m ↦ let t = p.there d m in absurd (cc)
          | inr m ↦ p.undone d m
        ]

    -- below a unit before which all lower ones are done
    valid-below : (n : ℕ) → ((d : UnitKey) → fl d ≡ true → is.rank d < n → has_unit done d ≡ true) → (g : UnitKey → Option Outcome) → Fitting at done g → ValidBelow meaning header lib fl pre is at n g
    valid-below n lower g fits = record {
      valid = λ d t less. (p.valid g fits d (lower d t less), fits d (inl (lower d t less)));
      none = λ d t. fits d (inr t) ∙ ap (option_map outcome_of) (none-there d t);
    }

    same-below : (n : ℕ) → ((d : UnitKey) → fl d ≡ true → is.rank d < n → has_unit done d ≡ true) → (f g : UnitKey → Option Outcome) → Fitting at done f → Fitting at done g → (d : UnitKey) → (fl d ≡ true → is.rank d < n) → f d ≡ g d
    same-below n lower f g fits gits d low =
        elim (tested (fl d)) as (λ _. f d ≡ g d) [
          | inl t ↦ fits d (inl (lower d t (low t))) ∙ sym (gits d (inl (lower d t (low t))))
          | inr t ↦ fits d (inr t) ∙ sym (gits d (inr t))
        ]

  module _ (at new : UnitKey → Option Stored) (done rest checked more : List UnitKey) (u : UnitKey) (p : Going at done (u ∷ rest) checked) (laws : AllKeepLaw meaning header old) where
    f : UnitKey → Option Outcome
    f = results_of at

    -- a unit that is done, or breaks a rule, is another
    apart-done : (v : UnitKey) → has_unit done v ≡ true → same_unit u v ≡ false
    apart-done v m = elim (tested (same_unit u v)) as (λ _. same_unit u v ≡ false) [ inl k ↦ let n : has_unit done v ≡ false = subst (λ (x : UnitKey). has_unit done x ≡ false) (same_unit-one u v k) p.ordered.0 in absurd (cc) | inr k ↦ k ]

    apart-faulty : (v : UnitKey) → fl v ≡ false → same_unit u v ≡ false
    apart-faulty v m = elim (tested (same_unit u v)) as (λ _. same_unit u v ≡ false) [ inl k ↦ let n : fl v ≡ true = subst (λ (x : UnitKey). fl x ≡ true) (same_unit-one u v k) p.ordered.1 in absurd (cc) | inr k ↦ k ]

    fits-f : Fitting at done f
    unfolding f
    fits-f d m = refl

    module _ (others : (v : UnitKey) → same_unit u v ≡ false → new v ≡ at v) where
      fits-old : (g : UnitKey → Option Outcome) → Fitting new (done ++ u ∷ []) g → Fitting at done g
      fits-old g fits d (inl m) = fits d (inl (has_unit-left done (u ∷ []) d m)) ∙ ap (option_map outcome_of) (others d (apart-done d m))
      fits-old g fits d (inr m) = fits d (inr m) ∙ ap (option_map outcome_of) (others d (apart-faulty d m))

      module _ (g : UnitKey → Option Outcome) (fits : Fitting at done g) where
        alike : is_reached s f u ≡ is_reached s g u
        alike = reached-alike meaning header lib fl pre is u f g (same-below at done (u ∷ rest) checked p (is.rank u) p.ordered.2 f g fits-f fits)

        reached-is : is_reached s f u ≡ has_sound_dependences lib f u
        reached-is = rw p.ordered.1 refl

        -- an entry of this unit that may be used now may be used at the end, and the other way round
        forth : (e : Stored) → KeepsLaw meaning header u e → is_reached s f u ≡ true → IsCurrent e (text_of lib u) (table s f) → IsCurrent e (text_of lib u) (table s g)
        forth e k r c =
            (c.0, entry-moves meaning header lib fl pre is at p.law u f g r (valid-below at done (u ∷ rest) checked p (is.rank u) p.ordered.2 f fits-f) (same-below at done (u ∷ rest) checked p (is.rank u) p.ordered.2 f g fits-f fits) e k c.0 c.1)

        back : (o : Option Stored) → ((e : Stored) → o ≡ Some e → KeepsLaw meaning header u e) → is_reached s g u ≡ true → HasCurrent o (text_of lib u) (table s g) → HasCurrent o (text_of lib u) (table s f)
        back None k r c = c
        back (Some e) k r c =
            (c.0, entry-moves meaning header lib fl pre is at p.law u g f r (valid-below at done (u ∷ rest) checked p (is.rank u) p.ordered.2 g fits) (same-below at done (u ∷ rest) checked p (is.rank u) p.ordered.2 g f fits fits-f) e (k e refl) c.0 c.1)

        valid-same : (v : UnitKey) → new v ≡ at v → Valid meaning header lib fl pre is at g v → Valid meaning header lib fl pre is new g v
        valid-same v same (inl w) = inl (w.0, same ∙ w.1)
        valid-same v same (inr w) = inr (w.0, w.1, same ∙ w.2, w.3)

      -- the unit becomes valid, and is picked rightly
      progress : (Valid_here : (g : UnitKey → Option Outcome) → Fitting at done g → Valid meaning header lib fl pre is new g u) → AllKeepLaw meaning header new → ((g : UnitKey → Option Outcome) → Fitting at done g → Picked (NeedsCheck s old (text_of lib) g) (done ++ u ∷ []) more) → Going new (done ++ u ∷ []) rest more
      progress here law picks = record {
        law = law;
        ordered = p.ordered.3;
        there = λ v m. elim (last-or-before done u v m) as (λ _. fl v ≡ true) [ inl k ↦ p.there v k | inr k ↦ subst (λ (x : UnitKey). fl x ≡ true) (sym k) p.ordered.1 ];
        undone = λ v m. not_yet v m (tested (has_unit done v)) (tested (same_unit u v));
        valid = λ g fits v m. elim (last-or-before done u v m) as (λ _. Valid meaning header lib fl pre is new g v) [
          | inl k ↦ valid-same g (fits-old g fits) v (others v (apart-done v k)) (p.valid g (fits-old g fits) v k)
          | inr k ↦ subst (λ (x : UnitKey). Valid meaning header lib fl pre is new g x) (sym k) (here g (fits-old g fits))
        ];
        picked = λ g fits. picks g (fits-old g fits);
      }
        where
          not_yet : (v : UnitKey) → has_unit (done ++ u ∷ []) v ≡ false → (has_unit done v ≡ true) ⊎ (has_unit done v ≡ false) → (same_unit u v ≡ true) ⊎ (same_unit u v ≡ false) → new v ≡ None
          not_yet v m (inl k) b = let t = has_unit-left done (u ∷ []) v k in absurd (cc)
          not_yet v m (inr k) (inl b) = let t : has_unit (done ++ u ∷ []) v ≡ true = subst (λ (x : UnitKey). has_unit (done ++ u ∷ []) x ≡ true) (same_unit-one u v b) (has_unit-right done (u ∷ []) u (has_unit-first u [])) in absurd (cc)
          not_yet v m (inr k) (inr b) = others v b ∙ p.undone v k

    -- an entry is written
    others-become : (e : Stored) → Becomes at u e new → (v : UnitKey) → same_unit u v ≡ false → new v ≡ at v
    others-become e b v k = b v ∙ rw k refl

    here-becomes : (e : Stored) → Becomes at u e new → new u ≡ Some e
    here-becomes e b = b u ∙ rw (same_unit-self u) refl

    law-becomes : (e : Stored) → KeepsLaw meaning header u e → Becomes at u e new → AllKeepLaw meaning header new
    law-becomes e k b v d is_ =
        elim (tested (same_unit u v)) as (λ _. KeepsLaw meaning header v d) [
          | inl w ↦
              let same : u ≡ v = same_unit-one u v w in
              let one : Some e ≡ Some d = sym (here-becomes e b) ∙ ap new same ∙ is_ in
              let entry : e ≡ d = cc in
              subst (λ (x : UnitKey). KeepsLaw meaning header x d) same (subst (λ (x : Stored). KeepsLaw meaning header u x) entry k)
          | inr w ↦ p.law v d (sym (others-become e b v w) ∙ is_)
        ]

    law-same : ((v : UnitKey) → new v ≡ at v) → AllKeepLaw meaning header new
    law-same same v d is_ = p.law v d (sym (same v) ∙ is_)

    abbrev Here : (UnitKey → Option Outcome) → Type 0
    Here g = Valid meaning header lib fl pre is new g u

    pub next : (count after : ℕ) → Handled meaning header u (text_of lib u) (has_sound_dependences lib (results_of at) u) (table s (results_of at)) (old u) (record { at = at; checked = checked; count = count }) (record { at = new; checked = more; count = after }) → Going new (done ++ u ∷ []) rest more
    unfolding f
    next count after (passed r same c n) =
        progress (λ v k. same v) (λ g fits. inl (unreached g fits, same u ∙ p.undone u p.ordered.0)) (law-same same)
        (λ g fits. subst (λ (l : List UnitKey). Picked (NeedsCheck s old (text_of lib) g) (done ++ u ∷ []) l) (sym c) (picked-left (NeedsCheck s old (text_of lib) g) done checked u (p.picked g fits) (λ w. let t = unreached g fits in let h = w.0 in absurd (cc))))
      where
        unreached : (g : UnitKey → Option Outcome) → Fitting at done g → is_reached s g u ≡ false
        unreached g fits = sym (alike (λ v k. same v) g fits) ∙ reached-is (λ v k. same v) g fits ∙ r
    next count after (used r e o cur b c n) =
        progress (others-become e b) (λ g fits. inr (e, reached g fits, here-becomes e b, moved g fits)) (law-becomes e (laws u e o) b)
        (λ g fits. subst (λ (l : List UnitKey). Picked (NeedsCheck s old (text_of lib) g) (done ++ u ∷ []) l) (sym c) (picked-left (NeedsCheck s old (text_of lib) g) done checked u (p.picked g fits) (λ w. w.1 (subst (λ (x : Option Stored). HasCurrent x (text_of lib u) (table s g)) (sym o) (moved g fits)))))
      where
        now : (g : UnitKey → Option Outcome) → Fitting at done g → is_reached s f u ≡ true
        now g fits = reached-is (others-become e b) g fits ∙ r

        reached : (g : UnitKey → Option Outcome) → Fitting at done g → is_reached s g u ≡ true
        reached g fits = sym (alike (others-become e b) g fits) ∙ now g fits

        moved : (g : UnitKey → Option Outcome) → Fitting at done g → IsCurrent e (text_of lib u) (table s g)
        moved g fits = forth (others-become e b) g fits e (laws u e o) (now g fits) cur
    next count after (rechecked r no_ e k cur b c n) =
        progress (others-become e b) (λ g fits. inr (e, reached g fits, here-becomes e b, forth (others-become e b) g fits e k (now g fits) cur)) (law-becomes e k b)
        (λ g fits. subst (λ (l : List UnitKey). Picked (NeedsCheck s old (text_of lib) g) (done ++ u ∷ []) l) (sym c) (picked-taken (NeedsCheck s old (text_of lib) g) done checked u (p.picked g fits) (reached g fits, λ w. no_ (back (others-become e b) g fits (old u) (laws u) (reached g fits) w))))
      where
        now : (g : UnitKey → Option Outcome) → Fitting at done g → is_reached s f u ≡ true
        now g fits = reached-is (others-become e b) g fits ∙ r

        reached : (g : UnitKey → Option Outcome) → Fitting at done g → is_reached s g u ≡ true
        reached g fits = sym (alike (others-become e b) g fits) ∙ now g fits

    -- the same under the table of another map that has the outcomes of the units that are done
    module _ (g : UnitKey → Option Outcome) (fits : Fitting at done g) where
      sound-same : ((v : UnitKey) → same_unit u v ≡ false → new v ≡ at v) → has_sound_dependences lib f u ≡ has_sound_dependences lib g u
      sound-same others = sym (reached-is others g fits) ∙ alike others g fits ∙ rw p.ordered.1 refl

      reached-by : ((v : UnitKey) → same_unit u v ≡ false → new v ≡ at v) → has_sound_dependences lib g u ≡ true → is_reached s g u ≡ true
      reached-by others r = sym (alike others g fits) ∙ reached-is others g fits ∙ sound-same others ∙ r

      current-back : ((v : UnitKey) → same_unit u v ≡ false → new v ≡ at v) → (e : Stored) → KeepsLaw meaning header u e → has_sound_dependences lib g u ≡ true → IsCurrent e (text_of lib u) (table s g) → IsCurrent e (text_of lib u) (table s f)
      current-back others e k r c = back others g fits (Some e) (λ x is_. let one : e ≡ x = cc in subst (λ (y : Stored). KeepsLaw meaning header u y) one k) (reached-by others r) c

      current-forth : ((v : UnitKey) → same_unit u v ≡ false → new v ≡ at v) → (o : Option Stored) → ((e : Stored) → o ≡ Some e → KeepsLaw meaning header u e) → has_sound_dependences lib g u ≡ true → HasCurrent o (text_of lib u) (table s f) → HasCurrent o (text_of lib u) (table s g)
      current-forth others None k r c = c
      current-forth others (Some e) k r c = forth others g fits e (k e refl) (alike others g fits ∙ reached-by others r) c

      moved-handled : (count after : ℕ) → Handled meaning header u (text_of lib u) (has_sound_dependences lib g u) (table s g) (old u) (record { at = at; checked = checked; count = count }) (record { at = new; checked = more; count = after }) → Handled meaning header u (text_of lib u) (has_sound_dependences lib f u) (table s f) (old u) (record { at = at; checked = checked; count = count }) (record { at = new; checked = more; count = after })
      moved-handled count after (passed r same c n) = passed (sound-same (λ v k. same v) ∙ r) same c n
      moved-handled count after (used r e o cur b c n) =
          let others = others-become e b in
          used (sound-same others ∙ r) e o (current-back others e (laws u e o) r cur) b c n
      moved-handled count after (rechecked r no_ e k cur b c n) =
          let others = others-become e b in
          rechecked (sound-same others ∙ r) (λ w. no_ (current-forth others (old u) (laws u) r w)) e k (current-back others e k r cur) b c n

      pub next-by : (count after : ℕ) → Handled meaning header u (text_of lib u) (has_sound_dependences lib g u) (table s g) (old u) (record { at = at; checked = checked; count = count }) (record { at = new; checked = more; count = after }) → Going new (done ++ u ∷ []) rest more
      unfolding f
      next-by count after h = next count after (moved-handled count after h)

  -- if all units are done, the build is what it should be
  module _ (new : UnitKey → Option Stored) (order checked : List UnitKey) (o : IsOrder s is.rank order) (p : Going new order [] checked) where
    abbrev end : UnitKey → Option Outcome
    end = results_of new

    valid-end : (u : UnitKey) → fl u ≡ true → Valid meaning header lib fl pre is new end u
    valid-end u t = p.valid end (λ d m. refl) u (o.whole u t)

    none-end : (u : UnitKey) → fl u ≡ false → new u ≡ None
    none-end u t = none-there new order [] checked p u t

    not_reached : (g : UnitKey → Option Outcome) (u : UnitKey) → fl u ≡ false → is_reached s g u ≡ false
    not_reached g u t = rw t refl

    outcome-reached : (g : UnitKey → Option Outcome) (u : UnitKey) → is_reached s g u ≡ true → outcome (with_texts meaning lib) s g u ≡ Some (meaning u (text_of lib u) (table s g))
    outcome-reached g u r = rw r refl

    outcome-unreached : (g : UnitKey → Option Outcome) (u : UnitKey) → is_reached s g u ≡ false → outcome (with_texts meaning lib) s g u ≡ None
    outcome-unreached g u r = rw r refl

    -- the outcome of an entry that may be used
    entry-outcome : (e : Stored) (u : UnitKey) → new u ≡ Some e → (g : UnitKey → Option Outcome) → IsCurrent e (text_of lib u) (table s g) → outcome_of e ≡ meaning u (text_of lib u) (table s g)
    entry-outcome e u n g c = (p.law u e n).reads (table s g) c.1 ∙ ap (λ (x : List ℕ). meaning u x (table s g)) c.0

    solves-end : Solves (with_texts meaning lib) s end
    solves-end u =
        elim (tested (fl u)) as (λ _. end u ≡ outcome (with_texts meaning lib) s end u) [
          | inl t ↦ by (valid-end u t)
          | inr t ↦ ap (option_map outcome_of) (none-end u t) ∙ sym (outcome-unreached end u (not_reached end u t))
        ]
      where
        by : Valid meaning header lib fl pre is new end u → end u ≡ outcome (with_texts meaning lib) s end u
        by (inl v) = ap (option_map outcome_of) v.1 ∙ sym (outcome-unreached end u v.0)
        by (inr v) = ap (option_map outcome_of) v.2 ∙ ap (λ (x : Outcome). Some x) (entry-outcome v.0 u v.2 end v.3) ∙ sym (outcome-reached end u v.1)

    below-end : (n : ℕ) → ValidBelow meaning header lib fl pre is new n end
    below-end n = record { valid = λ d t less. (valid-end d t, refl); none = λ d t. ap (option_map outcome_of) (none-end d t) }

    gone : (g : UnitKey → Option Outcome) → Solves (with_texts meaning lib) s g → (u : UnitKey) → fl u ≡ false → end u ≡ g u
    gone g solves u t = ap (option_map outcome_of) (none-end u t) ∙ sym (outcome-unreached g u (not_reached g u t)) ∙ sym (solves u)

    same-at : (g : UnitKey → Option Outcome) → Solves (with_texts meaning lib) s g → (u : UnitKey) → SameBelow meaning header lib fl pre is (is.rank u) end g → Valid meaning header lib fl pre is new end u → end u ≡ g u
    same-at g solves u same (inl v) = ap (option_map outcome_of) v.1 ∙ sym (outcome-unreached g u (sym (reached-alike meaning header lib fl pre is u end g same) ∙ v.0)) ∙ sym (solves u)
    same-at g solves u same (inr v) =
        let moved : IsCurrent v.0 (text_of lib u) (table s g) = (v.3.0, entry-moves meaning header lib fl pre is new p.law u end g v.1 (below-end (is.rank u)) same v.0 (p.law u v.0 v.2) v.3.0 v.3.1) in
        ap (option_map outcome_of) v.2 ∙ ap (λ (x : Outcome). Some x) (entry-outcome v.0 u v.2 g moved) ∙ sym (outcome-reached g u (sym (reached-alike meaning header lib fl pre is u end g same) ∙ v.1)) ∙ sym (solves u)

    only-below : (g : UnitKey → Option Outcome) → Solves (with_texts meaning lib) s g → (n : ℕ) (u : UnitKey) → (fl u ≡ true → is.rank u < n) → end u ≡ g u
    only-below g solves zero u low = elim (tested (fl u)) as (λ _. end u ≡ g u) [ inl t ↦ let r = low t in absurd (omega (arith, r)) | inr t ↦ gone g solves u t ]
    only-below g solves (suc n) u low =
        elim (tested (fl u)) as (λ _. end u ≡ g u) [
          | inl t ↦ let less = low t in same-at g solves u (λ d e. only-below g solves n d (λ k. let r = e k in omega (arith, less, r))) (valid-end u t)
          | inr t ↦ gone g solves u t
        ]

    current-end : (u : UnitKey) → is_reached s end u ≡ true → HasCurrent (new u) (text_of lib u) (table s end)
    current-end u r = by (valid-end u (both (fl u) (has_sound_dependences lib end u) r).0)
      where
        by : Valid meaning header lib fl pre is new end u → HasCurrent (new u) (text_of lib u) (table s end)
        by (inl v) = let n = v.0 in absurd (cc)
        by (inr v) = subst (λ (x : Option Stored). HasCurrent x (text_of lib u) (table s end)) (sym v.2) v.3

    unreached-end : (u : UnitKey) → is_reached s end u ≡ false → new u ≡ None
    unreached-end u r = elim (tested (fl u)) as (λ _. new u ≡ None) [ inl t ↦ by (valid-end u t) | inr t ↦ none-end u t ]
      where
        by : Valid meaning header lib fl pre is new end u → new u ≡ None
        by (inl v) = v.1
        by (inr v) = let n = v.1 in absurd (cc)

    pub finish : IsBuilt meaning header s old new order checked
    finish = record {
      law = p.law;
      solves = solves-end;
      only = λ g solves u. sym (only-below g solves (suc (is.rank u)) u (λ t. omega arith));
      current = current-end;
      unreached = unreached-end;
      rechecked = p.picked end (λ d m. refl);
    }
