-- A build of a library that is done except for its image.
use Rattle.std.specs.Prelude.{ℕ, List, Option, IfSome}
use Rattle.al_base.specs.declared.unit_key.UnitKey.{UnitKey}
use Rattle.al_unit_graph.specs.Headers.{Header, Library}
use Rattle.al_query.specs.declared.answer.AnswerKind.{AnswerKind}
use Rattle.al_query.specs.declared.query.Query.{Query}
use Rattle.al_query_store.specs.Keyed.{now_at, settled_at}
use Rattle.al_engine_refresh.specs.Moves.{Entries}
use Rattle.al_engine_refresh.specs.Builds.{results_of}
use Rattle.al_engine_refresh.specs.Moving.{now_table}
use Rattle.al_engine_refresh.specs.EntryLaw.{AllKeepLaw, TextMeaning}
use Rattle.al_engine.specs.Rechecks.{IsUpdated, will_be}
use Rattle.al_engine.specs.Earlier.{IsBase, over}
use Rattle.al_engine.specs.Plans.{IsClosedPlan, IsPlanned}
use Rattle.al_engine.specs.Reasons.{AreReasons}
use Rattle.al_engine.specs.declared.earlier.Base.{Base}
use Rattle.al_engine.specs.declared.planned.Planned.{Planned}
use Rattle.al_engine.specs.declared.reasons.Reason.{Reason}
use Rattle.al_engine.specs.declared.rebuilding.Rebuilt.{Rebuilt}

-- which units it checked, the entries that it made over those of before, and how many stored answers it compared; the result of
-- compiling with the present outcomes up to the image, over the result that it goes on from, which is closed; and the entries that
-- there will be keep the reads law
pub record IsPrepared (meaning : TextMeaning) (header : List ℕ → Header) (predefined : Query → AnswerKind) (lib : Library) (main : List ℕ) (gave : Rebuilt) (old : Entries) (base : Option Base) (planned : Planned) (new : Entries) (checked : List UnitKey) (reasons : List Reason) (compared : ℕ) : Type 0 where
  pub updated : IsUpdated meaning header predefined lib old new checked compared
  pub is_planned : IsPlanned lib (results_of (now_at new)) main (over gave base) planned
  pub is_base : IfSome base (IsBase lib (results_of (now_at new)) gave)
  pub closed : IsClosedPlan (over gave base) planned
  pub law : AllKeepLaw meaning header (will_be new)
  -- why each unit was checked
  pub are_reasons : AreReasons (now_table predefined new) lib (settled_at new) checked reasons
