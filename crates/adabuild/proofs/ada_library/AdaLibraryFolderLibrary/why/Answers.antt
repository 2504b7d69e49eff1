use Rattle.std.proofs.Common.{List, Result, Ok, Err, IfOk, ap, ◌∙◌}
use Rattle.std.specs.List.{list_any}
use Rattle.al_base.specs.declared.unit_key.UnitKey.{UnitKey}
use Rattle.al_engine.specs.States.{last_checked}
use Rattle.al_engine.specs.declared.reasons.Reason.{Reason}
use Rattle.adabuild.specs.Why.{holds, reason_among}
use Rattle.adabuild.proofs.WhyTold.{same_words}
use Rattle.adabuild.proofs.ada_library.AdaLibraryFolderLibrary.why.Goals as goal

under_ok : {A E : Type 0} (P Q : A → Type 0) (r : Result A E) → ((a : A) → P a → Q a) → IfOk r P → IfOk r Q
under_ok P Q (Ok a) f p = f a p
under_ok P Q (Err e) f p = p

pub returns : goal.returns
returns g c = under_ok _ _ c.why_words.result (λ told is. (
  c.engine-engine.result.now,
  (
    c.in_ok-units.field-0.items,
    c.in_ok-units.ensures,
    c.engine-engine.ensures,
    is ∙ same_words _ _ _ _ _ _
        (c.reason_among.ensures
        ∙ ap (λ (us : List UnitKey). reason_among us c.last_reasons.result.now c.args.unit.now) c.last_checked.ensures
        ∙ ap (λ (rs : List Reason). reason_among (last_checked c.engine-engine.result.now.built) rs c.args.unit.now) c.last_reasons.ensures)
        c.look_ups.ensures
        (c.is_among.ensures ∙ ap (list_any (holds c.args.unit.now)) c.deref.ensures.value),
  ),
)) c.why_words.ensures
