-- The edited units in an order: what comes before the first of them, and after one.
use Rattle.std.proofs.Common.{◌≡◌, ◌||◌, ◌++◌, ◌∙◌, Bool, true, false, List, [], ◌∷◌, map, Option, Some, None, cond, refl, sym, ap, subst}
use Rattle.std.specs.List.{AllByRecursion, Contains, IsDistinct, find}
use Rattle.std.proofs.lemmas.Bool.{true≢false}
use Rattle.std.proofs.Common.{inl, inr}
use Rattle.std.proofs.lemmas.List.Elements.{Contains-append_cases}
use Rattle.al_base_graph.proofs.Members.{first, first_or_later, later, nowhere}
use Rattle.al_base.specs.declared.unit_key.UnitKey.{UnitKey}
use Rattle.al_view.specs.Symbols.{same_unit}
use Rattle.al_view.proofs.SymbolLemmas.{same_unit-one, same_unit-self}
use Rattle.al_query.specs.Known.{has_unit}
use Rattle.al_engine_refresh.specs.Builds.{Picked, left, no_units, taken}
use Rattle.al_engine_refresh.proofs.Following.{turned-unit}
use Rattle.al_engine_refresh.proofs.OrderSteps.{distinct-from, rest-apart}
use Rattle.al_engine.specs.RecheckEdits.{units_of}
use Rattle.al_engine.specs.Walks.{AreInOrder, is_edited}
use Rattle.al_engine.specs.declared.edited.EditedUnit.{EditedUnit}

not-true : (b : Bool) → (b ≡ true → ⊥) → b ≡ false
not-true false never = refl
not-true true never = absurd (never refl)

module _ (edits : List EditedUnit) where
  abbrev Edited : UnitKey → Type 0
  Edited u = is_edited edits u ≡ true

  -- what comes before the first edited unit, and after it
  pub record IsFirst (rest : List UnitKey) (u : UnitKey) (more : List UnitKey) : Type 0 where
    pub mid : List UnitKey
    pub after : List UnitKey
    pub parts : rest ≡ mid ++ u ∷ after
    pub apart : (w : UnitKey) → has_unit mid w ≡ true → is_edited edits w ≡ false
    pub edited : Edited u
    pub others : Picked Edited after more

  among-more : (v : UnitKey) (mid : List UnitKey) → (Edited v → ⊥) → ((w : UnitKey) → has_unit mid w ≡ true → is_edited edits w ≡ false) → (w : UnitKey) → has_unit (v ∷ mid) w ≡ true → is_edited edits w ≡ false
  among-more v mid not apart w h = by (same_unit w v) refl h (apart w)
    where
      by : (b : Bool) → same_unit w v ≡ b → (b || has_unit mid w) ≡ true → (has_unit mid w ≡ true → is_edited edits w ≡ false) → is_edited edits w ≡ false
      by true e k later = subst (λ (x : UnitKey). is_edited edits x ≡ false) (sym (same_unit-one w v e)) (not-true (is_edited edits v) not)
      by false e k later = later k

  pub first-of : (rest : List UnitKey) (u : UnitKey) (more : List UnitKey) → Picked Edited rest (u ∷ more) → IsFirst rest u more
  first-of _ u more (taken {us = us} holds others) = record { mid = []; after = us; parts = refl; apart = λ w h. absurd (true≢false (sym h)); edited = holds; others = others }
  first-of _ u more (left {u = v} {us = us} not others) =
      let f = first-of us u more others in
      record { mid = v ∷ f.mid; after = f.after; parts = ap (λ (xs : List UnitKey). v ∷ xs) f.parts; apart = among-more v f.mid not f.apart; edited = f.edited; others = f.others }

  -- if none is picked, none was edited
  pub none-of : (rest : List UnitKey) → Picked Edited rest [] → (w : UnitKey) → has_unit rest w ≡ true → is_edited edits w ≡ false
  none-of _ no_units w h = absurd (true≢false (sym h))
  none-of _ (left {u = v} {us = us} not others) w h = among-more v us not (none-of us others) w h

-- in a list that has each unit once, a unit is followed by one end of the list
pub one-end : (front before : List UnitKey) (u : UnitKey) (rest after : List UnitKey) → has_unit front u ≡ false → has_unit before u ≡ false → front ++ u ∷ rest ≡ before ++ u ∷ after → rest ≡ after
one-end [] [] u rest after f b same = let one : u ∷ rest ≡ u ∷ after = same in cc
one-end [] (v ∷ before) u rest after f b same =
    let one : u ∷ rest ≡ v ∷ (before ++ u ∷ after) = same in
    let first : u ≡ v = cc in
    absurd (met u v before b first)
  where
    met : (u v : UnitKey) (us : List UnitKey) → (same_unit u v || has_unit us u) ≡ false → u ≡ v → ⊥
    met u v us h e = true≢false (sym (ap (λ (b : Bool). b || has_unit us u) (subst (λ (x : UnitKey). same_unit u x ≡ true) e (same_unit-self u))) ∙ h)
one-end (w ∷ front) [] u rest after f b same =
    let one : w ∷ (front ++ u ∷ rest) ≡ u ∷ after = same in
    let first : u ≡ w = cc in
    absurd (met u w front f first)
  where
    met : (u v : UnitKey) (us : List UnitKey) → (same_unit u v || has_unit us u) ≡ false → u ≡ v → ⊥
    met u v us h e = true≢false (sym (ap (λ (b : Bool). b || has_unit us u) (subst (λ (x : UnitKey). same_unit u x ≡ true) e (same_unit-self u))) ∙ h)
one-end (w ∷ front) (v ∷ before) u rest after f b same =
    let one : w ∷ (front ++ u ∷ rest) ≡ v ∷ (before ++ u ∷ after) = same in
    let later : front ++ u ∷ rest ≡ before ++ u ∷ after = cc in
    one-end front before u rest after (fewer (same_unit u w) (has_unit front u) f) (fewer (same_unit u v) (has_unit before u) b) later
  where
    fewer : (a c : Bool) → (a || c) ≡ false → c ≡ false
    fewer false c k = k
    fewer true c k = absurd (true≢false k)

-- no unit is picked from units of which none was edited
picks-none : (P : UnitKey → Type 0) (us : List UnitKey) → ((w : UnitKey) → has_unit us w ≡ true → P w → ⊥) → Picked P us []
picks-none P [] never = no_units
picks-none P (v ∷ us) never = left (never v (here v us)) (picks-none P us (λ w h. never w (there w v us h)))
  where
    here : (v : UnitKey) (us : List UnitKey) → has_unit (v ∷ us) v ≡ true
    here v us = ap (λ (b : Bool). b || has_unit us v) (same_unit-self v)

    there : (w v : UnitKey) (us : List UnitKey) → has_unit us w ≡ true → has_unit (v ∷ us) w ≡ true
    there w v us h = ap (λ (b : Bool). same_unit w v || b) h ∙ or_true (same_unit w v)
      where
        or_true : (b : Bool) → (b || true) ≡ true
        or_true true = refl
        or_true false = refl

-- one unit is picked of a list that has it once
picks-one : (u : UnitKey) (us : List UnitKey) → IsDistinct same_unit us → has_unit us u ≡ true → Picked (λ w. (same_unit w u || false) ≡ true) us (u ∷ [])
unfolding IsDistinct
picks-one u [] once h = absurd (true≢false (sym h))
picks-one u (v ∷ us) once h = by (same_unit u v) refl h (λ k. picks-one u us once.1 k)
  where
    never : (w : UnitKey) → same_unit w u ≡ false → (same_unit w u || false) ≡ true → ⊥
    never w k n = true≢false (sym n ∙ ap (λ (x : Bool). x || false) k)

    by : (b : Bool) → same_unit u v ≡ b → (b || has_unit us u) ≡ true → (has_unit us u ≡ true → Picked (λ w. (same_unit w u || false) ≡ true) us (u ∷ [])) → Picked (λ w. (same_unit w u || false) ≡ true) (v ∷ us) (u ∷ [])
    by true e k later =
        let one : u ≡ v = same_unit-one u v e in
        subst (λ (x : UnitKey). Picked (λ w. (same_unit w u || false) ≡ true) (x ∷ us) (u ∷ [])) one
        (taken (ap (λ (b : Bool). b || false) (same_unit-self u))
        (picks-none (λ w. (same_unit w u || false) ≡ true) us (λ w m n.
        never w (turned-unit u w false (subst (λ (x : UnitKey). same_unit x w ≡ false) (sym one) (rest-apart v us once w m))) n)))
    by false e k later = left (λ n. never v (turned-unit u v false e) n) (later k)

-- fewer than two edited units are in any order that has them
pub few-in-order : (order : List UnitKey) → IsDistinct same_unit order → (edits : List EditedUnit) → ((u : UnitKey) → is_edited edits u ≡ true → has_unit order u ≡ true) → (one : (e f : EditedUnit) (rest : List EditedUnit) → edits ≡ e ∷ f ∷ rest → ⊥) → AreInOrder order edits edits
few-in-order order once [] within few = record {
  units = picks-none (λ u. is_edited [] u ≡ true) order (λ w m n. true≢false (sym n));
  among = λ e c. c;
}
few-in-order order once (e ∷ []) within few = record {
  units = picks-one e.unit order once (within e.unit (ap (λ (b : Bool). b || false) (same_unit-self e.unit)));
  among = λ f c. c;
}
few-in-order order once (e ∷ f ∷ rest) within few = absurd (few e f rest refl)

-- the edit of a unit
pub find-none : (edits : List EditedUnit) (u : UnitKey) → find (λ e. same_unit u e.unit) edits ≡ None → is_edited edits u ≡ false
find-none [] u k = refl
find-none (e ∷ es) u k = by (same_unit u e.unit) refl k (find-none es u)
  where
    by : (b : Bool) → same_unit u e.unit ≡ b → cond b (Some e) (find (λ f. same_unit u f.unit) es) ≡ None → (find (λ f. same_unit u f.unit) es ≡ None → is_edited es u ≡ false) → is_edited (e ∷ es) u ≡ false
    by true m k later = absurd (cc)
    by false m k later = ap (λ (b : Bool). b || is_edited es u) m ∙ later k

pub find-some : (edits : List EditedUnit) (u : UnitKey) (e : EditedUnit) → find (λ f. same_unit u f.unit) edits ≡ Some e → Contains edits e × (e.unit ≡ u) × (is_edited edits u ≡ true)
find-some [] u e k = absurd (cc)
find-some (d ∷ ds) u e k = by (same_unit u d.unit) refl k (find-some ds u e)
  where
    or_true : (b : Bool) → (b || true) ≡ true
    or_true true = refl
    or_true false = refl

    by : (b : Bool) → same_unit u d.unit ≡ b → cond b (Some d) (find (λ f. same_unit u f.unit) ds) ≡ Some e → (find (λ f. same_unit u f.unit) ds ≡ Some e → Contains ds e × (e.unit ≡ u) × (is_edited ds u ≡ true)) → Contains (d ∷ ds) e × (e.unit ≡ u) × (is_edited (d ∷ ds) u ≡ true)
    by true m k then =
        let one : d ≡ e = cc in
        (subst (λ (x : EditedUnit). Contains (d ∷ ds) x) one (first d ds), sym (ap (λ (x : EditedUnit). x.unit) one) ∙ sym (same_unit-one u d.unit m), ap (λ (b : Bool). b || is_edited ds u) m)
    by false m k then =
        let is = then k in
        (later d ds e is.0, is.1, ap (λ (b : Bool). same_unit u d.unit || b) is.2 ∙ or_true (same_unit u d.unit))

-- one more unit of a list, which is picked or not
picks-last : (P : UnitKey → Type 0) (us vs : List UnitKey) (u : UnitKey) → Picked P us vs → P u → Picked P (us ++ u ∷ []) (vs ++ u ∷ [])
picks-last P _ _ u no_units p = taken p no_units
picks-last P _ _ u (taken {u = v} {us = us} {vs = vs} holds rest) p = taken holds (picks-last P us vs u rest p)
picks-last P _ _ u (left {u = v} {us = us} {vs = vs} not rest) p = left not (picks-last P us vs u rest p)

leaves-last : (P : UnitKey → Type 0) (us vs : List UnitKey) (u : UnitKey) → Picked P us vs → (P u → ⊥) → Picked P (us ++ u ∷ []) vs
leaves-last P _ _ u no_units p = left p no_units
leaves-last P _ _ u (taken {u = v} {us = us} {vs = vs} holds rest) p = taken holds (leaves-last P us vs u rest p)
leaves-last P _ _ u (left {u = v} {us = us} {vs = vs} not rest) p = left not (leaves-last P us vs u rest p)

units-last : (row : List EditedUnit) (e : EditedUnit) → units_of (row ++ e ∷ []) ≡ units_of row ++ e.unit ∷ []
units-last [] e = refl
units-last (d ∷ ds) e = ap (λ (us : List UnitKey). d.unit ∷ us) (units-last ds e)

-- the edited units of an order that is longer by one unit
pub row-begins : (edits : List EditedUnit) → AreInOrder [] edits []
row-begins edits = record { units = no_units; among = λ e c. absurd (nowhere e c) }

pub row-takes : (order : List UnitKey) (edits row : List EditedUnit) (u : UnitKey) (e : EditedUnit) → AreInOrder order edits row → find (λ f. same_unit u f.unit) edits ≡ Some e → AreInOrder (order ++ u ∷ []) edits (row ++ e ∷ [])
row-takes order edits row u e is found =
    let f = find-some edits u e found in
    record {
      units =
          subst (λ (vs : List UnitKey). Picked (λ w. is_edited edits w ≡ true) (order ++ u ∷ []) vs) (sym (units-last row e))
          (subst (λ (w : UnitKey). Picked (λ w. is_edited edits w ≡ true) (order ++ u ∷ []) (units_of row ++ w ∷ [])) (sym f.1) (picks-last (λ w. is_edited edits w ≡ true) order (units_of row) u is.units f.2));
      among = λ d c. elim (Contains-append_cases row (e ∷ []) d c) as (λ _. Contains edits d) [
        | inl h ↦ is.among d h
        | inr h ↦ elim (first_or_later e [] d h) as (λ _. Contains edits d) [ inl k ↦ subst (λ (x : EditedUnit). Contains edits x) k f.0 | inr k ↦ absurd (nowhere d k) ]
      ];
    }

pub row-leaves : (order : List UnitKey) (edits row : List EditedUnit) (u : UnitKey) → AreInOrder order edits row → find (λ f. same_unit u f.unit) edits ≡ None → AreInOrder (order ++ u ∷ []) edits row
row-leaves order edits row u is none = record {
  units = leaves-last (λ w. is_edited edits w ≡ true) order (units_of row) u is.units (λ m. true≢false (sym m ∙ find-none edits u none));
  among = is.among;
}
