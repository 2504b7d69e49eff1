-- The files have no errors after some units were edited, if nothing else was.
use Rattle.std.proofs.Common.{◌≡◌, ◌||◌, Bor, Bool, true, false, List, [], ◌∷◌, Option, Some, None, IfSome, refl, sym, ap, subst}
use Rattle.std.specs.List.{list_all}
use Rattle.std.proofs.lemmas.Bool.{true≢false}
use Rattle.al_view.specs.Symbols.{same_unit}
use Rattle.al_view.proofs.SymbolLemmas.{both, same_unit-one}
use Rattle.std.specs.Prelude.{MatchOption}
use Rattle.std.specs.Option.{option_map}
use Rattle.al_base.specs.declared.unit_key.UnitKey.{UnitKey}
use Rattle.al_unit_graph.specs.Headers.{Library}
use Rattle.al_query.specs.Known.{has_unit}
use Rattle.al_query_outcome.specs.Equations.{is_sound}
use Rattle.al_engine_refresh.specs.Stored.{Stored, outcome_of}
use Rattle.al_engine_refresh.specs.Builds.{results_of}
use Rattle.al_engine_refresh.specs.Found.{findings_of}
use Rattle.al_engine.specs.RecheckEdits.{units_of}
use Rattle.al_engine.specs.declared.edited.EditedUnit.{EditedUnit}
use Rattle.al_engine.specs.Renewed.{IsCleanBut}

-- each of these units is sound
abbrev pub AreSound : (UnitKey → Option Stored) → List EditedUnit → Type 0
AreSound made edits = (u : UnitKey) → has_unit (units_of edits) u ≡ true → is_sound (results_of made u) ≡ true

pub each-sound : (made : UnitKey → Option Stored) (edits : List EditedUnit) → list_all (λ e. is_sound (results_of made e.unit)) edits ≡ true → AreSound made edits
each-sound made [] all u h = absurd (true≢false (sym h))
each-sound made (e ∷ es) all u h = by (same_unit u e.unit) refl h (each-sound made es (both (is_sound (results_of made e.unit)) (list_all (λ f. is_sound (results_of made f.unit)) es) all).1 u)
  where
    two : (is_sound (results_of made e.unit) ≡ true) × (list_all (λ f. is_sound (results_of made f.unit)) es ≡ true)
    two = both (is_sound (results_of made e.unit)) (list_all (λ f. is_sound (results_of made f.unit)) es) all

    by : (b : Bool) → same_unit u e.unit ≡ b → (b || has_unit (units_of es) u) ≡ true → (has_unit (units_of es) u ≡ true → is_sound (results_of made u) ≡ true) → is_sound (results_of made u) ≡ true
    by true k m later = subst (λ (x : UnitKey). is_sound (results_of made x) ≡ true) (sym (same_unit-one u e.unit k)) two.0
    by false k m later = later m

pub clean-now : (lib : Library) (old made : UnitKey → Option Stored) (found : Option (Bor (List EditedUnit))) → IfSome found (λ edits. IsCleanBut lib old (units_of edits.now)) → IfSome found (λ edits. (w : UnitKey) → has_unit (units_of edits.now) w ≡ false → made w ≡ old w) → MatchOption found ⊥ (λ edits. AreSound made edits.now) → findings_of lib (results_of made) ≡ []
clean-now lib old made None but others sound = absurd sound
clean-now lib old made (Some edits) but others sound = but (results_of made) (λ w k. ap (option_map outcome_of) (others w k)) sound
