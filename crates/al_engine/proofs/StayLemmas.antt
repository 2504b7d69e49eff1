-- Which entries there will be once a build is settled.
use Rattle.std.proofs.Common.{◌≡◌, ◌&&◌, Bool, true, false, not, Option, Some, None, refl, sym, ◌∙◌, ap, is_some, if◌then◌else◌}
use Rattle.std.specs.Option.{option_map}
use Rattle.std.proofs.lemmas.Bool.{true≢false}
use Rattle.al_base.specs.declared.unit_key.UnitKey.{UnitKey}
use Rattle.al_unit_graph.specs.Headers.{Library}
use Rattle.al_query_store.specs.Stored.{base}
use Rattle.al_query_store.specs.declared.slots.Held.{Held}
use Rattle.al_query_store.specs.Keyed.{State, entry_of, first_of, now_at, or_settled, settled_at, settled_state, state}
use Rattle.al_engine_refresh.specs.Stored.{Stored}
use Rattle.al_engine_refresh.specs.Moves.{Entries, IsLeft}
use Rattle.al_engine_refresh.specs.Staying.{is_there, or_else, staying}
use Rattle.al_engine_refresh.specs.Moving.{AreLeaving, AreMade}
use Rattle.al_engine.specs.Rechecks.{will_be}

entry-base : (o : Option (Held Stored)) → entry_of (option_map base o) ≡ entry_of o
entry-base None = refl
entry-base (Some h) = refl

-- what the last build settled is unchanged while a build is under way
pub settled-left : (old new : Entries) → IsLeft old new → (u : UnitKey) → settled_at new u ≡ settled_at old u
settled-left old new left u = sym (entry-base (state new u).settled) ∙ ap (λ (s : State Stored). entry_of s.settled) (left u) ∙ entry-base (state old u).settled

made-entry : (o other : Option (Held Stored)) → entry_of (or_settled o other) ≡ first_of (entry_of o) (entry_of other)
made-entry None other = refl
made-entry (Some h) other = refl

-- the settled entry of a unit after a build
abbrev ends : Bool → Option (Held Stored) → Option (Held Stored) → Bool → Option Stored
ends l m o r = entry_of (settled_state (record { settled = o; made = m; was_reached = false; is_reached = r; leaves = l })).settled

or_else-same : (o : Option Stored) (b : Bool) → o ≡ or_else o (if b then o else None)
or_else-same (Some e) b = refl
or_else-same None true = refl
or_else-same None false = refl

module _ (lib : Library) (old new : Entries) (left : IsLeft old new) (is : AreLeaving lib new) (are_made : AreMade new) where
  pub will-stay : (u : UnitKey) → will_be new u ≡ staying lib (settled_at old) (now_at new) u
  will-stay u =
      by (state new u).leaves refl (state new u).is_reached refl (is_there lib u) refl (state new u).made refl (state new u).settled refl
      ∙ ap (λ (o : Option Stored). or_else (now_at new u) (if is_there lib u then o else None)) (settled-left old new left u)
    where
      by : (l : Bool) → (state new u).leaves ≡ l → (r : Bool) → (state new u).is_reached ≡ r → (t : Bool) → is_there lib u ≡ t → (m : Option (Held Stored)) → (state new u).made ≡ m → (o : Option (Held Stored)) → (state new u).settled ≡ o
          → will_be new u ≡ or_else (now_at new u) (if is_there lib u then settled_at new u else None)
      by l el r er t et m em o eo =
          ap (λ (x : Bool). ends x (state new u).made (state new u).settled (state new u).is_reached) el
          ∙ ap (λ (x : Option (Held Stored)). ends l x (state new u).settled (state new u).is_reached) em
          ∙ ap (λ (x : Option (Held Stored)). ends l m x (state new u).is_reached) eo
          ∙ ap (ends l m o) er
          ∙ cases l el r er t et m em o eo
          ∙ sym
          (ap (λ (x : Bool). or_else (if x then first_of (entry_of (state new u).made) (entry_of (state new u).settled) else None) (if is_there lib u then settled_at new u else None)) er
          ∙ ap (λ (x : Option (Held Stored)). or_else (if r then first_of (entry_of x) (entry_of (state new u).settled) else None) (if is_there lib u then settled_at new u else None)) em
          ∙ ap (λ (x : Option (Held Stored)). or_else (if r then first_of (entry_of m) (entry_of x) else None) (if is_there lib u then entry_of x else None)) eo
          ∙ ap (λ (x : Bool). or_else (if r then first_of (entry_of m) (entry_of o) else None) (if x then entry_of o else None)) et)
        where
          cases : (l : Bool) → (state new u).leaves ≡ l → (r : Bool) → (state new u).is_reached ≡ r → (t : Bool) → is_there lib u ≡ t → (m : Option (Held Stored)) → (state new u).made ≡ m → (o : Option (Held Stored)) → (state new u).settled ≡ o
              → ends l m o r ≡ or_else (if r then first_of (entry_of m) (entry_of o) else None) (if t then entry_of o else None)
          cases true el true er t et m em o eo = absurd (true≢false (sym er ∙ is.unreached u el))
          cases true el false er true et m em (Some h) eo = let no : true ≡ false = sym el ∙ is.leaves u ∙ ap (λ (x : Option (Held Stored)). is_some x && not (is_there lib u)) eo ∙ ap not et in absurd (true≢false no)
          cases true el false er t et m em None eo = let no : true ≡ false = sym el ∙ is.leaves u ∙ ap (λ (x : Option (Held Stored)). is_some x && not (is_there lib u)) eo in absurd (true≢false no)
          cases true el false er false et m em (Some h) eo = refl
          cases false el true er t et (Some g) em o eo = refl
          cases false el true er t et None em o eo = or_else-same (entry_of o) t
          cases false el false er t et (Some g) em o eo = absurd (true≢false (sym (are_made.reached u (ap is_some em)) ∙ er))
          cases false el false er true et None em o eo = refl
          cases false el false er false et None em (Some h) eo = let no : false ≡ true = sym el ∙ is.leaves u ∙ ap (λ (x : Option (Held Stored)). is_some x && not (is_there lib u)) eo ∙ ap not et in absurd (true≢false (sym no))
          cases false el false er false et None em None eo = refl
