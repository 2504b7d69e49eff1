-- Why the last build checked a unit, or why not, in words.
use Rattle.std.specs.Prelude.{ℕ, zero, suc, ◌≡◌, ◌++◌, Bool, true, false, List, Option, Some, None, codes, decimal, length, map, option_map, position, slice_get}
use Rattle.std.specs.List.{list_any}
use Rattle.al_base.specs.Batch.{Key}
use Rattle.al_base.specs.Files.{Texts}
use Rattle.al_base.specs.declared.unit_key.UnitKey.{UnitKey}
use Rattle.al_engine.specs.States.{Held, last_checked, last_reasons}
use Rattle.al_engine.specs.declared.reasons.Reason.{Reason}
use Rattle.al_engine.specs.declared.reasons.Reason.TheVariants.{New, Text, Answered, Current}
use Rattle.al_query_store.specs.Keyed.{now_at}
use Rattle.al_session.specs.EngineMeanings.{state_of}
use Rattle.al_session_served.specs.Library.{State, file_unit_of}
use Rattle.al_view.specs.Symbols.{same_unit}
use Rattle.al_why.specs.Changes.{change_words}

-- the reason at a place
abbrev pub reason_at : List Reason → Option ℕ → Option Reason
reason_at reasons None = None
reason_at reasons (Some at) = slice_get reasons at

-- the reason of a unit, of those that were checked for these reasons
abbrev pub reason_among : List UnitKey → List Reason → UnitKey → Option Reason
reason_among checked reasons unit = reason_at reasons (position (same_unit unit) checked)

-- none of several answers has changed
abbrev pub several_words : ℕ → List ℕ
several_words count = codes "not checked: none of the " ++ decimal count ++ codes " answers that it asked for has changed"

-- so many answers are as before
abbrev pub current_words : ℕ → List ℕ
current_words zero = codes "not checked: it asked for no answer"
current_words (suc zero) = codes "not checked: the answer that it asked for hasn't changed"
current_words (suc (suc n)) = several_words (suc (suc n))

abbrev pub reason_words : Reason → List ℕ
reason_words New = codes "checked: no earlier check of it is kept"
reason_words Text = codes "checked: its source changed"
reason_words (Answered change) = codes "checked: " ++ change_words change.query change.before change.now
reason_words (Current count) = current_words count

-- why a unit was checked; or that it needn't be; or that it couldn't be; or none if it isn't there
abbrev pub why_words : Option Reason → Option ℕ → Bool → Option (List ℕ)
why_words (Some reason) look_ups is_there = Some (reason_words reason)
why_words None (Some count) is_there = Some (current_words count)
why_words None None true = Some (codes "not checked: it or a unit that it needs has errors")
why_words None None false = None

-- whether a file holds a unit
abbrev pub is_held : UnitKey → Option UnitKey → Bool
is_held unit None = false
is_held unit (Some held) = same_unit held unit

abbrev pub holds : UnitKey → List ℕ × Option UnitKey → Bool
holds unit file = is_held unit file.1

-- a library with this last build gives these words of a unit: by the reason why the build checked it, by how many answers are stored of its check if
-- the build could check it, and by the files, which hold these units
abbrev pub IsWhy : {C P : Type 0} → (Texts → List (List ℕ × Option Key)) → State → Held C P → UnitKey → Option (List ℕ) → Type 0
IsWhy units_of state held unit told =
    (files : List (List ℕ × Option UnitKey)) × (map file_unit_of files ≡ units_of state.now)
    × (state_of held.files held.built ≡ state)
    × (told ≡ why_words (reason_among (last_checked held.built) (last_reasons held.built) unit) (option_map (λ e. length e.log) (now_at held.cache.store unit)) (list_any (holds unit) files))
