use Rattle.std.proofs.Common.{◌≡◌, ℕ, Bool, true, false, List, Option, Some, None, if◌then◌else◌}
use Rattle.al_base.specs.declared.unit_key.UnitKey.{UnitKey}
use Rattle.al_unit_graph.specs.Headers.{Header}
use Rattle.al_engine_refresh.specs.EntryLaw.{KeepsLaw, TextMeaning}
use Rattle.al_engine_refresh.specs.Stored.{Stored}
use Rattle.al_engine_refresh.specs.Staying.{is_there, or_else}
use Rattle.al_engine_refresh.proofs.keep_laws.staying_keep_the_law.Goals as goal

one_of : (meaning : TextMeaning) (header : List ℕ → Header) (u : UnitKey) (e : Stored) (made old : Option Stored) (there : Bool) → ((x : Stored) → made ≡ Some x → KeepsLaw meaning header u x) → ((x : Stored) → old ≡ Some x → KeepsLaw meaning header u x) → or_else made (if there then old else None) ≡ Some e → KeepsLaw meaning header u e
one_of meaning header u e (Some x) old there m o is = m e is
one_of meaning header u e None old true m o is = o e is
one_of meaning header u e None old false m o is = absurd (cc)

pub returns : goal.returns
returns g meaning header lib old made before now u e is = one_of meaning header u e (made u) (old u) (is_there lib u) (now u) (before u) is
