use Rattle.std.proofs.Common.{◌≡◌, ◌∙◌, ◌++◌, ℕ, [], ◌∷◌, true, false, List, sym, subst, ap}
use Rattle.std.proofs.lemmas.Bool.{true≢false}
use Rattle.std.specs.Prelude.{OnOk}
use Rattle.al_base_shortage.specs.Counts.{one_more}
use Rattle.al_engine_refresh.specs.EntryLaw.{HasCurrent, IsCurrent}
use Rattle.al_engine_refresh.specs.Stored.{log_of}
use Rattle.al_query_store.specs.Changes.{with_made}
use Rattle.al_query_store.specs.Keyed.{now_at, settled_at, state, with_reached}
use Rattle.al_engine_refresh.specs.Builds.{has_sound_dependences, results_of, text_of}
use Rattle.al_engine_refresh.specs.Moving.{now_table}
use Rattle.al_engine_refresh.proofs.HandleLemmas.{current-some, on_ok}
use Rattle.al_engine_refresh.proofs.HandleTurned.{check-handled, others-turned, pass-handled, use-handled}
use Rattle.al_engine_refresh.proofs.SteadyLemmas.{steady-made, steady-reached}
use Rattle.al_engine_refresh.proofs.Turning.{none-made, on_ok_two}
use Rattle.al_engine_refresh.proofs.unit.refresh_unit.Goals as goal

-- it isn't reached
pub returns-then-not-branch-clause-handled : goal.returns-then-not-branch-clause-handled
returns-then-not-branch-clause-handled g c before apart follows =
    let pre = g.P.Answers.table c.args.predefined.now in
    let store = c.args.entries.now in
    let unit = c.args.unit.now in
    let text = text_of c.args.sources.now unit in
    let sound = has_sound_dependences c.args.sources.now (results_of (now_at store)) unit in
    on_ok c.turn.result _ _
    (pass-handled g.C.UnitCheck.meaning g.C.Text.ReadText.header pre unit text sound (now_table pre store) store c.turn.new.entries before c.args.done.now.checked (g.C.UnitCheck.count c.args.checker.now) apart (sym c.in_ok-rests_on_sound.ensures ∙ c.if-not-branch.true))
    c.turn.ensures.turned

pub returns-then-not-branch-clause-marks : goal.returns-then-not-branch-clause-marks
returns-then-not-branch-clause-marks g c follows = on_ok c.turn.result _ _ (λ turned. turned.marks follows) c.turn.ensures.turned

pub returns-then-not-branch-clause-others : goal.returns-then-not-branch-clause-others
returns-then-not-branch-clause-others g c =
    on_ok c.turn.result _ _ (others-turned (g.P.Answers.table c.args.predefined.now) (with_reached false) c.args.unit.now c.args.entries.now c.turn.new.entries) c.turn.ensures.turned

pub returns-then-not-branch-clause-steady : goal.returns-then-not-branch-clause-steady
returns-then-not-branch-clause-steady g c is =
    on_ok c.turn.result _ _ (steady-reached (g.P.Answers.table c.args.predefined.now) c.args.sources.now c.args.unit.now c.args.entries.now c.turn.new.entries c.requires c.args.done.now.checked is false) c.turn.ensures.turned

-- its entry is used again
pub returns-then-has_current-clause-handled : goal.returns-then-has_current-clause-handled
returns-then-has_current-clause-handled g c before apart follows =
    let pre = g.P.Answers.table c.args.predefined.now in
    let store = c.args.entries.now in
    let unit = c.args.unit.now in
    let text = text_of c.args.sources.now unit in
    let sound = has_sound_dependences c.args.sources.now (results_of (now_at store)) unit in
    let read = c.as_slice.ensures.value ∙ ap (λ v. v.items) c.deref.ensures ∙ c.in_ok-text.ensures in
    let has : HasCurrent (settled_at store unit) text (now_table pre store) = subst (λ (x : List ℕ). HasCurrent (settled_at store unit) x (now_table pre store)) read ((c.has_current.ensures.current (now_table pre store) follows).0 c.if-has_current.true) in
    let held = current-some (settled_at store unit) text (now_table pre store) has in
    on_ok c.turn-then-has_current.result _ _
    (use-handled g.C.UnitCheck.meaning g.C.Text.ReadText.header pre unit text sound (now_table pre store) store c.turn-then-has_current.new.entries before c.args.done.now.checked (g.C.UnitCheck.count c.args.checker.now) apart (sym c.in_ok-rests_on_sound.ensures ∙ c.if-not-branch.false) (none-made (state store unit) c.requires) held.0 held.1 held.2)
    c.turn-then-has_current.ensures.turned

pub returns-then-has_current-clause-marks : goal.returns-then-has_current-clause-marks
returns-then-has_current-clause-marks g c follows = on_ok c.turn-then-has_current.result _ _ (λ turned. turned.marks follows) c.turn-then-has_current.ensures.turned

pub returns-then-has_current-clause-others : goal.returns-then-has_current-clause-others
returns-then-has_current-clause-others g c =
    on_ok c.turn-then-has_current.result _ _ (others-turned (g.P.Answers.table c.args.predefined.now) (with_reached true) c.args.unit.now c.args.entries.now c.turn-then-has_current.new.entries) c.turn-then-has_current.ensures.turned

pub returns-then-has_current-clause-steady : goal.returns-then-has_current-clause-steady
returns-then-has_current-clause-steady g c is =
    on_ok c.turn-then-has_current.result _ _ (steady-reached (g.P.Answers.table c.args.predefined.now) c.args.sources.now c.args.unit.now c.args.entries.now c.turn-then-has_current.new.entries c.requires c.args.done.now.checked is true) c.turn-then-has_current.ensures.turned

-- it is checked
pub returns-clause-handled : goal.returns-clause-handled
returns-clause-handled g c before apart follows =
    let pre = g.P.Answers.table c.args.predefined.now in
    let store = c.args.entries.now in
    let unit = c.args.unit.now in
    let text = text_of c.args.sources.now unit in
    let sound = has_sound_dependences c.args.sources.now (results_of (now_at store)) unit in
    let t = now_table pre store in
    let read = c.in_ok-text.ensures in
    let not : HasCurrent (settled_at store unit) text t → ⊥ = λ has. true≢false (sym ((c.has_current.ensures.current t follows).1 (subst (λ (x : List ℕ). HasCurrent (settled_at store unit) x t) (sym (c.as_slice.ensures.value ∙ ap (λ v. v.items) c.deref.ensures ∙ read)) has)) ∙ c.if-has_current.false) in
    let both : OnOk c.check_anew.result ((c.check_anew.new.done.checked ≡ c.args.done.now.checked ++ unit ∷ []) × (g.C.UnitCheck.count c.check_anew.new.checker ≡ one_more (g.C.UnitCheck.count c.args.checker.now))) = on_ok_two c.check_anew.result _ _ _ (λ checked counted. (checked, counted)) c.check_anew.ensures.checked c.check_anew.ensures.counted in
    on_ok_two c.check_anew.result _ _ _
    (λ made more. check-handled g.C.UnitCheck.meaning g.C.Text.ReadText.header pre unit text sound t store c.check_anew.new.entries before c.args.done.now.checked (g.C.UnitCheck.count c.args.checker.now) apart (sym c.in_ok-rests_on_sound.ensures ∙ c.if-not-branch.false) not made.0 made.1 (subst (λ (x : List ℕ). IsCurrent made.0 x t) read made.2) made.3 c.check_anew.new.done.checked (g.C.UnitCheck.count c.check_anew.new.checker) more.0 more.1)
    c.check_anew.ensures.made both

pub returns-clause-marks : goal.returns-clause-marks
returns-clause-marks g c follows = on_ok c.check_anew.result _ _ (λ made. made.3.marks follows) c.check_anew.ensures.made

pub returns-clause-others : goal.returns-clause-others
returns-clause-others g c =
    on_ok c.check_anew.result _ _ (λ made. others-turned (g.P.Answers.table c.args.predefined.now) (with_made log_of made.0) c.args.unit.now c.args.entries.now c.check_anew.new.entries made.3) c.check_anew.ensures.made

pub returns-clause-steady : goal.returns-clause-steady
returns-clause-steady g c is =
    on_ok_two c.check_anew.result _ _ _
    (λ made checked. steady-made (g.P.Answers.table c.args.predefined.now) c.args.sources.now c.args.unit.now c.args.entries.now c.check_anew.new.entries c.requires c.args.done.now.checked is made.0 made.3 c.check_anew.new.done.checked checked)
    c.check_anew.ensures.made c.check_anew.ensures.checked
