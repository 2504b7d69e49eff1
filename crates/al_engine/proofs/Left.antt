-- What a build finds of the last one while it is under way.
use Rattle.std.proofs.Common.{◌≡◌, ◌||◌, Bor, Vec, IsTrue, Bool, false, List, [], ◌∷◌, Option, Some, None, IfSome, refl, sym, ap, subst, ◌∙◌}
use Rattle.std.specs.Prelude.{MatchOption}
use Rattle.std.specs.Option.{option_map}
use Rattle.al_base.specs.declared.unit_key.UnitKey.{UnitKey}
use Rattle.al_view.specs.Symbols.{same_unit}
use Rattle.al_query_store.specs.Stored.{base}
use Rattle.al_query_store.specs.declared.slots.Held.{Held}
use Rattle.al_query_store.specs.Keyed.{State, entry_of, now_at, settled_at, state}
use Rattle.al_engine_refresh.specs.Stored.{Stored}
use Rattle.al_engine_refresh.specs.Moves.{Entries, IsLeft}
use Rattle.al_query.specs.Known.{has_unit}
use Rattle.al_engine_refresh.proofs.Following.{turned-unit}
use Rattle.al_engine.specs.RecheckEdits.{IsRenewal, units_of}
use Rattle.al_engine.specs.declared.edited.EditedUnit.{EditedUnit}

entry-based : (o n : Option (Held Stored)) → option_map base n ≡ option_map base o → entry_of n ≡ entry_of o
entry-based None None e = refl
entry-based (Some h) None e = absurd (cc)
entry-based None (Some h) e = absurd (cc)
entry-based (Some h) (Some g) e = let same : base g ≡ base h = cc in ap (λ (x : Held Stored). Some x.entry) same

module _ (old new : Entries) (left : IsLeft old new) where
  -- the settled entries are as before
  pub settled-left : (u : UnitKey) → settled_at new u ≡ settled_at old u
  settled-left u = entry-based (state old u).settled (state new u).settled (ap (λ (s : State Stored). s.settled) (left u))

  -- all settled entries but some are those of now
  pub others-left : (found : Option (Bor (List EditedUnit))) → IfSome found (λ edits. IsRenewal (settled_at old) (units_of edits.now) (now_at new)) → IfSome found (λ edits. (w : UnitKey) → has_unit (units_of edits.now) w ≡ false → now_at new w ≡ settled_at new w)
  others-left None is = tt
  others-left (Some edits) is = λ w k. is.others w k ∙ sym (settled-left w)

-- if exactly one unit has another entry, all other units have the same entries as before
pub others-alone : (now settled : UnitKey → Option Stored) (edits : Option (Bor (List EditedUnit))) (unit : Option (Bor UnitKey)) → IfSome unit (λ u. MatchOption edits ⊥ (λ e. units_of e.now ≡ u.now ∷ [])) → IfSome edits (λ e. (w : UnitKey) → has_unit (units_of e.now) w ≡ false → now w ≡ settled w) → IfSome unit (λ u. (w : UnitKey) → same_unit u.now w ≡ false → now w ≡ settled w)
others-alone now settled edits None is others = tt
others-alone now settled None (Some u) is others = absurd is
others-alone now settled (Some e) (Some u) is others = λ w k.
    others w (ap (λ (us : List UnitKey). has_unit us w) is ∙ ap (λ (b : Bool). b || false) (turned-unit u.now w false k))

-- what is known if there are edited units is known if there is one
pub known-alone : (K : Type 0) (edits : Option (Bor (List EditedUnit))) (unit : Option (Bor UnitKey)) → IfSome unit (λ u. MatchOption edits ⊥ (λ e. units_of e.now ≡ u.now ∷ [])) → IfSome edits (λ _. K) → IfSome unit (λ _. K)
known-alone K edits None is has = tt
known-alone K None (Some u) is has = absurd is
known-alone K (Some e) (Some u) is has = has

-- the edited units, if all other units have the same entries as before
module _ {Y : Type 0} (edited : Option (Vec EditedUnit Y)) (is_renewal : Bool) where
  abbrev Names : Option (Bor (List EditedUnit)) → Type 0
  Names found = IfSome found (λ edits. IsTrue is_renewal × MatchOption edited ⊥ (λ e. e.items ≡ edits.now))

  -- what holds of the edited units holds of these
  pub of-edited : (P : List EditedUnit → Type 0) (found : Option (Bor (List EditedUnit))) → Names found → IfSome edited (λ e. P e.items) → IfSome found (λ edits. P edits.now)
  of-edited P None is has = tt
  of-edited P (Some edits) is has = by edited is.1 has
    where
      by : (o : Option (Vec EditedUnit Y)) → MatchOption o ⊥ (λ e. e.items ≡ edits.now) → IfSome o (λ e. P e.items) → P edits.now
      by None none h = absurd none
      by (Some e) same h = subst P same h

  pub renewed-by : (old made : UnitKey → Option Stored) (found : Option (Bor (List EditedUnit))) → Names found → (IsTrue is_renewal → MatchOption edited ⊥ (λ e. IsRenewal old (units_of e.items) made)) → IfSome found (λ edits. IsRenewal old (units_of edits.now) made)
  renewed-by old made None is renewed = tt
  renewed-by old made (Some edits) is renewed = by edited is.1 (renewed is.0)
    where
      by : (o : Option (Vec EditedUnit Y)) → MatchOption o ⊥ (λ e. e.items ≡ edits.now) → MatchOption o ⊥ (λ e. IsRenewal old (units_of e.items) made) → IsRenewal old (units_of edits.now) made
      by None none h = absurd none
      by (Some e) same h = subst (λ (us : List EditedUnit). IsRenewal old (units_of us) made) same h
