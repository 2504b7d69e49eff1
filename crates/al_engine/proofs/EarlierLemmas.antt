-- The result of compiling that a build goes on from.
use Rattle.std.proofs.Common.{◌≡◌, ◌∙◌, ℕ, Bool, true, false, List, Option, Some, None, Result, Ok, Err, IfOk, IfSome, refl, sym, ap, subst}
use Rattle.std.specs.Prelude.{MatchOption}
use Rattle.std.proofs.lemmas.Bool.{true≢false}
use Rattle.al_base.specs.declared.unit_key.UnitKey.{UnitKey}
use Rattle.al_unit_graph.specs.Headers.{Library}
use Rattle.al_view.specs.Symbols.{same_unit}
use Rattle.al_query_outcome.specs.Equations.{is_sound}
use Rattle.al_query_outcome.specs.Results.{Outcome}
use Rattle.al_engine.specs.BatchRenewals.{KeepsBut, KeepsPartition}
use Rattle.al_engine.specs.Earlier.{IsBase, IsBehind, KeepsEarlier, base_at, compiled_at, earlier_or, over}
use Rattle.al_engine.specs.Patches.{linked_in}
use Rattle.al_engine.specs.declared.compiled.Compiled.{Compiled}
use Rattle.al_engine.specs.declared.earlier.Base.{Base}
use Rattle.al_engine.specs.declared.earlier.Earlier.{Earlier}
use Rattle.al_engine.specs.declared.rebuilding.Rebuilt.{Rebuilt}

-- one unit has another outcome now, or another one again
module _ (lib : Library) (f f0 : UnitKey → Option Outcome) (unit : UnitKey) (others : (w : UnitKey) → same_unit unit w ≡ false → f w ≡ f0 w) where
  but-again : (main : List ℕ) (compiled : Compiled) → KeepsBut lib f0 main unit compiled → KeepsBut lib f main unit compiled
  but-again main compiled kept = record { outcomes = kept.outcomes; others = λ w k. others w k ∙ kept.others w k; sound = kept.sound; keeps = kept.keeps }

  but-first : (main : List ℕ) (compiled : Compiled) → is_sound (f0 unit) ≡ true → KeepsPartition lib f0 main compiled → KeepsBut lib f main unit compiled
  but-first main compiled sound keeps = record { outcomes = f0; others = others; sound = sound; keeps = keeps }

  module _ (gave : Rebuilt) (b : Base) where
    -- the result of the last build
    pub last-base : (main : List ℕ) → KeepsPartition lib f0 main gave.compiled → (b.is_earlier ≡ false) × (b.main ≡ main) × (b.unit ≡ unit) → is_sound (f0 b.unit) ≡ true → IsBase lib f gave b
    last-base main keeps is sound = record {
      keeps =
          subst (λ (c : Compiled). KeepsBut lib f b.main b.unit c) (sym (ap (base_at gave) is.0))
          (subst (λ (m : List ℕ). KeepsBut lib f m b.unit gave.compiled) (sym is.1)
          (subst (λ (u : UnitKey). KeepsBut lib f main u gave.compiled) (sym is.2) (but-first main gave.compiled (subst (λ (u : UnitKey). is_sound (f0 u) ≡ true) is.2 sound) keeps)));
      behind = λ t. absurd (true≢false (sym t ∙ is.0));
    }

    -- the earlier one
    pub earlier-base : KeepsEarlier lib f0 gave.earlier → linked_in gave.compiled ≡ None → (b.is_earlier ≡ true) × (b.unit ≡ unit) × MatchOption gave.earlier ⊥ (λ k. (k.unit ≡ unit) × (b.main ≡ k.main)) → IsBase lib f gave b
    earlier-base keeps none is = by gave.earlier refl keeps is.2
      where
        by : (o : Option Earlier) → gave.earlier ≡ o → KeepsEarlier lib f0 o → MatchOption o ⊥ (λ k. (k.unit ≡ unit) × (b.main ≡ k.main)) → IsBase lib f gave b
        by None e kept m = absurd m
        by (Some k) e kept m =
            let at : base_at gave b.is_earlier ≡ k.compiled = ap (base_at gave) is.0 ∙ ap (λ (o : Option Earlier). earlier_or o gave.compiled) e in
            record {
              keeps =
                  subst (λ (c : Compiled). KeepsBut lib f b.main b.unit c) (sym at)
                  (subst (λ (n : List ℕ). KeepsBut lib f n b.unit k.compiled) (sym m.1)
                  (subst (λ (u : UnitKey). KeepsBut lib f k.main u k.compiled) (sym is.1) (but-again k.main k.compiled (subst (λ (u : UnitKey). KeepsBut lib f0 k.main u k.compiled) m.0 kept))));
              behind = λ _. none;
            }

  -- the last result, if it was found
  pub last-found : {E : Type 0} (gave : Rebuilt) (main : List ℕ) → KeepsPartition lib f0 main gave.compiled → (r : Result (Option Base) E) → IfOk r (λ found. IfSome found (λ b. (b.is_earlier ≡ false) × (b.main ≡ main) × (b.unit ≡ unit))) → IfOk r (λ found. IfSome found (λ b. is_sound (f0 b.unit) ≡ true)) → IfOk r (λ found. IfSome found (IsBase lib f gave))
  last-found gave main keeps (Err e) is sound = tt
  last-found gave main keeps (Ok None) is sound = tt
  last-found gave main keeps (Ok (Some b)) is sound = last-base gave b main keeps is sound

-- what is kept behind a build without an image
pub kept-behind : (lib : Library) (f : UnitKey → Option Outcome) (gave : Rebuilt) (b : Base) (k : Earlier) → k ≡ record { main = b.main; unit = b.unit; compiled = compiled_at gave.compiled gave.earlier b.is_earlier } → IsBase lib f gave b → KeepsEarlier lib f (Some k)
kept-behind lib f gave b k is base = subst (λ (x : Earlier). KeepsBut lib f x.main x.unit x.compiled) (sym is) base.keeps

-- there is nothing to keep
pub none-kept : (lib : Library) (f : UnitKey → Option Outcome) (earlier : Option Earlier) → earlier ≡ None → KeepsEarlier lib f earlier
none-kept lib f earlier is = subst (λ (o : Option Earlier). KeepsEarlier lib f o) (sym is) tt
