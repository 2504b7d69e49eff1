use Rattle.std.proofs.Common.{◌≡◌, ◌++◌, ◌∷◌, ◌+◌, ◌<◌, ◌≤◌, ◌∙◌, ℕ, true, List, [], add-one, arith, drop, get_or, length, sym, ap, subst}
use Rattle.std.specs.List.{Contains}
use Rattle.std.proofs.Math.Seq.{drop-cons}
use Rattle.std.proofs.Math.ListN.{drop_of_length-le}
use Rattle.al_base.specs.Batch.{key_of}
use Rattle.al_base.specs.declared.unit_key.UnitKey.{UnitKey}
use Rattle.al_unit_faults.specs.Reached.{is_faultless}
use Rattle.al_engine_refresh.specs.Builds.{Picked}
use Rattle.al_engine.specs.RecheckEdits.{units_of}
use Rattle.al_engine.specs.Walks.{IsWalked, is_edited}
use Rattle.al_engine.specs.declared.edited.EditedUnit.{EditedUnit}
use Rattle.al_engine.proofs.RowLemmas.{first-of}
use Rattle.al_engine.proofs.WalkLemmas.{begins, built-rest, checked-later, checked-unread, checked-walked, edited-first, edited-ordered, ends, none-based, once-rest, one-counted, renews, rest-walked, to-end, unmoved-edited, unread-begins}
use Rattle.al_engine.proofs.walking.walk.Goals as goal

-- the edited units from a place on
later-at : (edits row : List EditedUnit) (rest : List UnitKey) (i : ℕ) (e : EditedUnit) → i < length row → e ≡ get_or row i e → Picked (λ u. is_edited edits u ≡ true) rest (units_of (drop i row)) → Picked (λ u. is_edited edits u ≡ true) rest (e.unit ∷ units_of (drop (i + 1) row))
later-at edits row rest i e less is later =
    let from : drop i row ≡ get_or row i e ∷ drop (i + 1) row = rw add-one (drop-cons row i e less) in
    subst (λ (us : List UnitKey). Picked (λ u. is_edited edits u ≡ true) rest us) (ap units_of (from ∙ ap (λ (x : EditedUnit). x ∷ drop (i + 1) row) (sym is))) later

none-at : (edits row : List EditedUnit) (rest : List UnitKey) (i : ℕ) → length row ≤ i → Picked (λ u. is_edited edits u ≡ true) rest (units_of (drop i row)) → Picked (λ u. is_edited edits u ≡ true) rest []
none-at edits row rest i past later = subst (λ (us : List UnitKey). Picked (λ u. is_edited edits u ≡ true) rest us) (ap units_of (drop_of_length-le row past)) later

pub loop-edited-init : goal.loop-edited-init
loop-edited-init g c =
    let meaning = g.C.UnitCheck.meaning in
    let header = g.C.Text.ReadText.header in
    let pre = g.P.Answers.table c.args.predefined.now in
    let lib = c.args.sources.now in
    let order = c.args.order.now in
    let has = c.requires.order in
    let edits = c.args.edits.now in
    let old = c.args.entries.now in
    let ready = c.requires.ready in
    let given = c.requires.edits in
    record {
      before = [];
      rest = order;
      walked = λ has. subst (λ (us : List UnitKey). IsWalked meaning header pre lib order has edits old old [] order us) (sym c.requires.begun) (begins meaning header pre lib order has edits old ready given);
      unread = unread-begins meaning header pre lib order has edits old ready given;
      later = c.requires.row.units;
      compared = λ h. h;
      counted = λ n h. h;
    }

pub check_edited-requires : goal.check_edited-requires
check_edited-requires g c =
    let meaning = g.C.UnitCheck.meaning in
    let header = g.C.Text.ReadText.header in
    let pre = g.P.Answers.table c.args.predefined.now in
    let lib = c.args.sources.now in
    let order = c.args.order.now in
    let has = c.requires.order in
    let edits = c.args.edits.now in
    let old = c.args.entries.now in
    let ready = c.requires.ready in
    let given = c.requires.edits in
    let now = c.loop-edited.entries in
    let inv = c.loop-edited.invariant in
    let e = c.edited-item.result in
    let u = e.unit in
    let i = c.loop-edited.edited-index in
    let more = units_of (drop (i + 1) c.args.row.now) in
    let later = later-at edits c.args.row.now inv.rest i e c.loop-edited-test.true c.edited-item.is inv.later in
    unmoved-edited meaning header pre lib order has edits old ready given now inv.before inv.rest c.loop-edited.done.checked u more later (inv.walked has) inv.unread

pub returns-in_err-is_unread-clause-left : goal.returns-in_err-is_unread-clause-left
returns-in_err-is_unread-clause-left g c =
    let meaning = g.C.UnitCheck.meaning in
    let header = g.C.Text.ReadText.header in
    let pre = g.P.Answers.table c.args.predefined.now in
    let lib = c.args.sources.now in
    let order = c.args.order.now in
    let has = c.requires.order in
    let edits = c.args.edits.now in
    let old = c.args.entries.now in
    let ready = c.requires.ready in
    let given = c.requires.edits in
    let now = c.loop-edited.entries in
    let inv = c.loop-edited.invariant in
    λ w. c.check_edited.ensures.left w ∙ (inv.walked has).left w

pub refresh_rest-requires-clause-marks : goal.refresh_rest-requires-clause-marks
refresh_rest-requires-clause-marks g c =
    let meaning = g.C.UnitCheck.meaning in
    let header = g.C.Text.ReadText.header in
    let pre = g.P.Answers.table c.args.predefined.now in
    let lib = c.args.sources.now in
    let order = c.args.order.now in
    let has = c.requires.order in
    let edits = c.args.edits.now in
    let old = c.args.entries.now in
    let ready = c.requires.ready in
    let given = c.requires.edits in
    let now = c.loop-edited.entries in
    let inv = c.loop-edited.invariant in
    let e = c.edited-item.result in
    let u = e.unit in
    let i = c.loop-edited.edited-index in
    let more = units_of (drop (i + 1) c.args.row.now) in
    let later = later-at edits c.args.row.now inv.rest i e c.loop-edited-test.true c.edited-item.is inv.later in
    let new = c.check_edited.new.entries in
    let k = c.in_ok-is_unread.ensures in
    let m = k.made in
    let place = c.units_after-rest.ensures (edited-ordered meaning header pre lib order has edits old ready given u (edited-first meaning header pre lib order has edits old ready given inv.rest u more later)) in
    (rest-walked meaning header pre lib order has edits old ready given now new inv.before inv.rest c.loop-edited.done.checked u more later (inv.walked has) inv.unread m.0 m.1 m.2 m.3 c.check_edited.ensures.left c.check_edited.new.done.checked k.checked place.0 c.units_after-rest.result.now place.1).marks

pub refresh_rest-requires-clause-once : goal.refresh_rest-requires-clause-once
refresh_rest-requires-clause-once g c =
    let meaning = g.C.UnitCheck.meaning in
    let header = g.C.Text.ReadText.header in
    let pre = g.P.Answers.table c.args.predefined.now in
    let lib = c.args.sources.now in
    let order = c.args.order.now in
    let has = c.requires.order in
    let edits = c.args.edits.now in
    let old = c.args.entries.now in
    let ready = c.requires.ready in
    let given = c.requires.edits in
    let now = c.loop-edited.entries in
    let inv = c.loop-edited.invariant in
    let e = c.edited-item.result in
    let u = e.unit in
    let i = c.loop-edited.edited-index in
    let more = units_of (drop (i + 1) c.args.row.now) in
    let later = later-at edits c.args.row.now inv.rest i e c.loop-edited-test.true c.edited-item.is inv.later in
    let new = c.check_edited.new.entries in
    let k = c.in_ok-is_unread.ensures in
    let m = k.made in
    let place = c.units_after-rest.ensures (edited-ordered meaning header pre lib order has edits old ready given u (edited-first meaning header pre lib order has edits old ready given inv.rest u more later)) in
    once-rest meaning header pre lib order has edits old ready given new _ c.units_after-rest.result.now _ (rest-walked meaning header pre lib order has edits old ready given now new inv.before inv.rest c.loop-edited.done.checked u more later (inv.walked has) inv.unread m.0 m.1 m.2 m.3 c.check_edited.ensures.left c.check_edited.new.done.checked k.checked place.0 c.units_after-rest.result.now place.1)

pub refresh_rest-requires-clause-unmoved : goal.refresh_rest-requires-clause-unmoved
refresh_rest-requires-clause-unmoved g c =
    let meaning = g.C.UnitCheck.meaning in
    let header = g.C.Text.ReadText.header in
    let pre = g.P.Answers.table c.args.predefined.now in
    let lib = c.args.sources.now in
    let order = c.args.order.now in
    let has = c.requires.order in
    let edits = c.args.edits.now in
    let old = c.args.entries.now in
    let ready = c.requires.ready in
    let given = c.requires.edits in
    let now = c.loop-edited.entries in
    let inv = c.loop-edited.invariant in
    let e = c.edited-item.result in
    let u = e.unit in
    let i = c.loop-edited.edited-index in
    let more = units_of (drop (i + 1) c.args.row.now) in
    let later = later-at edits c.args.row.now inv.rest i e c.loop-edited-test.true c.edited-item.is inv.later in
    let new = c.check_edited.new.entries in
    let k = c.in_ok-is_unread.ensures in
    let m = k.made in
    let place = c.units_after-rest.ensures (edited-ordered meaning header pre lib order has edits old ready given u (edited-first meaning header pre lib order has edits old ready given inv.rest u more later)) in
    (rest-walked meaning header pre lib order has edits old ready given now new inv.before inv.rest c.loop-edited.done.checked u more later (inv.walked has) inv.unread m.0 m.1 m.2 m.3 c.check_edited.ensures.left c.check_edited.new.done.checked k.checked place.0 c.units_after-rest.result.now place.1).unmoved

pub returns-in_err-refresh_rest-clause-left : goal.returns-in_err-refresh_rest-clause-left
returns-in_err-refresh_rest-clause-left g c =
    let meaning = g.C.UnitCheck.meaning in
    let header = g.C.Text.ReadText.header in
    let pre = g.P.Answers.table c.args.predefined.now in
    let lib = c.args.sources.now in
    let order = c.args.order.now in
    let has = c.requires.order in
    let edits = c.args.edits.now in
    let old = c.args.entries.now in
    let ready = c.requires.ready in
    let given = c.requires.edits in
    let now = c.loop-edited.entries in
    let inv = c.loop-edited.invariant in
    λ w. c.refresh_rest.ensures.left w ∙ c.check_edited.ensures.left w ∙ (inv.walked has).left w

pub returns-then-not-is_unread-clause-built : goal.returns-then-not-is_unread-clause-built
returns-then-not-is_unread-clause-built g c =
    let meaning = g.C.UnitCheck.meaning in
    let header = g.C.Text.ReadText.header in
    let pre = g.P.Answers.table c.args.predefined.now in
    let lib = c.args.sources.now in
    let order = c.args.order.now in
    let has = c.requires.order in
    let edits = c.args.edits.now in
    let old = c.args.entries.now in
    let ready = c.requires.ready in
    let given = c.requires.edits in
    let now = c.loop-edited.entries in
    let inv = c.loop-edited.invariant in
    let e = c.edited-item.result in
    let u = e.unit in
    let i = c.loop-edited.edited-index in
    let more = units_of (drop (i + 1) c.args.row.now) in
    let later = later-at edits c.args.row.now inv.rest i e c.loop-edited-test.true c.edited-item.is inv.later in
    let new = c.check_edited.new.entries in
    let k = c.in_ok-is_unread.ensures in
    let m = k.made in
    let place = c.units_after-rest.ensures (edited-ordered meaning header pre lib order has edits old ready given u (edited-first meaning header pre lib order has edits old ready given inv.rest u more later)) in
    let walked = rest-walked meaning header pre lib order has edits old ready given now new inv.before inv.rest c.loop-edited.done.checked u more later (inv.walked has) inv.unread m.0 m.1 m.2 m.3 c.check_edited.ensures.left c.check_edited.new.done.checked k.checked place.0 c.units_after-rest.result.now place.1 in
    let last = c.in_ok-refresh_rest.ensures in
    built-rest meaning header pre lib order has edits old ready given new c.refresh_rest.new.entries _ c.units_after-rest.result.now _ c.refresh_rest.new.done.checked walked
    (λ o laws p none. last.built _ (λ w. is_faultless lib (key_of w)) has.0 o laws p none)

pub returns-then-not-is_unread-clause-counted : goal.returns-then-not-is_unread-clause-counted
returns-then-not-is_unread-clause-counted g c =
    let meaning = g.C.UnitCheck.meaning in
    let header = g.C.Text.ReadText.header in
    let pre = g.P.Answers.table c.args.predefined.now in
    let lib = c.args.sources.now in
    let order = c.args.order.now in
    let has = c.requires.order in
    let edits = c.args.edits.now in
    let old = c.args.entries.now in
    let ready = c.requires.ready in
    let given = c.requires.edits in
    let now = c.loop-edited.entries in
    let inv = c.loop-edited.invariant in
    let e = c.edited-item.result in
    let u = e.unit in
    let i = c.loop-edited.edited-index in
    let more = units_of (drop (i + 1) c.args.row.now) in
    let later = later-at edits c.args.row.now inv.rest i e c.loop-edited-test.true c.edited-item.is inv.later in
    let new = c.check_edited.new.entries in
    let k = c.in_ok-is_unread.ensures in
    let m = k.made in
    λ n h. c.in_ok-refresh_rest.ensures.counted n (one-counted n _ (g.C.UnitCheck.count c.loop-edited.checker) c.loop-edited.done.checked _ u k.counted (inv.counted n h) k.checked)

pub returns-then-not-is_unread-clause-compared : goal.returns-then-not-is_unread-clause-compared
returns-then-not-is_unread-clause-compared g c =
    let meaning = g.C.UnitCheck.meaning in
    let header = g.C.Text.ReadText.header in
    let pre = g.P.Answers.table c.args.predefined.now in
    let lib = c.args.sources.now in
    let order = c.args.order.now in
    let has = c.requires.order in
    let edits = c.args.edits.now in
    let old = c.args.entries.now in
    let ready = c.requires.ready in
    let given = c.requires.edits in
    let now = c.loop-edited.entries in
    let inv = c.loop-edited.invariant in
    let e = c.edited-item.result in
    let u = e.unit in
    let i = c.loop-edited.edited-index in
    let more = units_of (drop (i + 1) c.args.row.now) in
    let later = later-at edits c.args.row.now inv.rest i e c.loop-edited-test.true c.edited-item.is inv.later in
    let new = c.check_edited.new.entries in
    let k = c.in_ok-is_unread.ensures in
    let m = k.made in
    λ h. c.in_ok-refresh_rest.ensures.compared (k.compared (inv.compared h))

pub returns-then-not-is_unread-clause-steady : goal.returns-then-not-is_unread-clause-steady
returns-then-not-is_unread-clause-steady g c =
    let meaning = g.C.UnitCheck.meaning in
    let header = g.C.Text.ReadText.header in
    let pre = g.P.Answers.table c.args.predefined.now in
    let lib = c.args.sources.now in
    let order = c.args.order.now in
    let has = c.requires.order in
    let edits = c.args.edits.now in
    let old = c.args.entries.now in
    let ready = c.requires.ready in
    let given = c.requires.edits in
    let now = c.loop-edited.entries in
    let inv = c.loop-edited.invariant in
    let e = c.edited-item.result in
    let u = e.unit in
    let i = c.loop-edited.edited-index in
    let more = units_of (drop (i + 1) c.args.row.now) in
    let later = later-at edits c.args.row.now inv.rest i e c.loop-edited-test.true c.edited-item.is inv.later in
    let new = c.check_edited.new.entries in
    let k = c.in_ok-is_unread.ensures in
    let m = k.made in
    let place = c.units_after-rest.ensures (edited-ordered meaning header pre lib order has edits old ready given u (edited-first meaning header pre lib order has edits old ready given inv.rest u more later)) in
    let walked = rest-walked meaning header pre lib order has edits old ready given now new inv.before inv.rest c.loop-edited.done.checked u more later (inv.walked has) inv.unread m.0 m.1 m.2 m.3 c.check_edited.ensures.left c.check_edited.new.done.checked k.checked place.0 c.units_after-rest.result.now place.1 in
    let last = c.in_ok-refresh_rest.ensures in
    last.steady walked.steady

pub returns-then-not-is_unread-clause-left : goal.returns-then-not-is_unread-clause-left
returns-then-not-is_unread-clause-left g c =
    let meaning = g.C.UnitCheck.meaning in
    let header = g.C.Text.ReadText.header in
    let pre = g.P.Answers.table c.args.predefined.now in
    let lib = c.args.sources.now in
    let order = c.args.order.now in
    let has = c.requires.order in
    let edits = c.args.edits.now in
    let old = c.args.entries.now in
    let ready = c.requires.ready in
    let given = c.requires.edits in
    let now = c.loop-edited.entries in
    let inv = c.loop-edited.invariant in
    λ w. c.refresh_rest.ensures.left w ∙ c.check_edited.ensures.left w ∙ (inv.walked has).left w

pub loop-edited-preserved : goal.loop-edited-preserved
loop-edited-preserved g c =
    let meaning = g.C.UnitCheck.meaning in
    let header = g.C.Text.ReadText.header in
    let pre = g.P.Answers.table c.args.predefined.now in
    let lib = c.args.sources.now in
    let order = c.args.order.now in
    let has = c.requires.order in
    let edits = c.args.edits.now in
    let old = c.args.entries.now in
    let ready = c.requires.ready in
    let given = c.requires.edits in
    let now = c.loop-edited.entries in
    let inv = c.loop-edited.invariant in
    let e = c.edited-item.result in
    let u = e.unit in
    let i = c.loop-edited.edited-index in
    let more = units_of (drop (i + 1) c.args.row.now) in
    let later = later-at edits c.args.row.now inv.rest i e c.loop-edited-test.true c.edited-item.is inv.later in
    let new = c.check_edited.new.entries in
    let k = c.in_ok-is_unread.ensures in
    let m = k.made in
    let unread = k.unread c.if-not-is_unread.false in
    let first = first-of edits inv.rest u more later in
    record {
      before = (inv.before ++ first.mid) ++ u ∷ [];
      rest = first.after;
      walked = λ has. checked-walked meaning header pre lib order has edits old ready given now new inv.before inv.rest c.loop-edited.done.checked u more later (inv.walked has) inv.unread m.0 m.1 m.2 m.3 c.check_edited.ensures.left c.check_edited.new.done.checked k.checked;
      unread = checked-unread meaning header pre lib order has edits old ready given now new inv.before inv.rest c.loop-edited.done.checked u more later (inv.walked has) inv.unread m.0 m.1 m.2 m.3 c.check_edited.ensures.left (none-based meaning header pre lib order has edits old ready given c.args.row.now c.requires.row e (i, c.loop-edited-test.true, sym c.edited-item.is) _ unread.0) unread.1;
      later = checked-later meaning header pre lib order has edits old ready given now new inv.before inv.rest c.loop-edited.done.checked u more later (inv.walked has) inv.unread m.0 m.1 m.2 m.3 c.check_edited.ensures.left;
      compared = λ h. k.compared (inv.compared h);
      counted = λ n h. one-counted n _ (g.C.UnitCheck.count c.loop-edited.checker) c.loop-edited.done.checked _ u k.counted (inv.counted n h) k.checked;
    }

pub returns-clause-built : goal.returns-clause-built
returns-clause-built g c =
    let meaning = g.C.UnitCheck.meaning in
    let header = g.C.Text.ReadText.header in
    let pre = g.P.Answers.table c.args.predefined.now in
    let lib = c.args.sources.now in
    let order = c.args.order.now in
    let has = c.requires.order in
    let edits = c.args.edits.now in
    let old = c.args.entries.now in
    let ready = c.requires.ready in
    let given = c.requires.edits in
    let now = c.loop-edited.entries in
    let inv = c.loop-edited.invariant in
    let later = none-at edits c.args.row.now inv.rest c.loop-edited.edited-index c.loop-edited-test.false inv.later in
    let walked = to-end meaning header pre lib order has edits old ready given now inv.before inv.rest c.loop-edited.done.checked later (inv.walked has) inv.unread in
    ends meaning header pre lib order has edits old ready given now (inv.before ++ inv.rest) c.loop-edited.done.checked walked

pub returns-clause-renewed : goal.returns-clause-renewed
returns-clause-renewed g c =
    let meaning = g.C.UnitCheck.meaning in
    let header = g.C.Text.ReadText.header in
    let pre = g.P.Answers.table c.args.predefined.now in
    let lib = c.args.sources.now in
    let order = c.args.order.now in
    let has = c.requires.order in
    let edits = c.args.edits.now in
    let old = c.args.entries.now in
    let ready = c.requires.ready in
    let given = c.requires.edits in
    let now = c.loop-edited.entries in
    let inv = c.loop-edited.invariant in
    λ is. renews meaning header pre lib order has edits old ready given now inv.before inv.rest c.loop-edited.done.checked (inv.walked has)

pub returns-clause-counted : goal.returns-clause-counted
returns-clause-counted g c =
    let meaning = g.C.UnitCheck.meaning in
    let header = g.C.Text.ReadText.header in
    let pre = g.P.Answers.table c.args.predefined.now in
    let lib = c.args.sources.now in
    let order = c.args.order.now in
    let has = c.requires.order in
    let edits = c.args.edits.now in
    let old = c.args.entries.now in
    let ready = c.requires.ready in
    let given = c.requires.edits in
    let now = c.loop-edited.entries in
    let inv = c.loop-edited.invariant in
    inv.counted

pub returns-clause-marks : goal.returns-clause-marks
returns-clause-marks g c =
    let meaning = g.C.UnitCheck.meaning in
    let header = g.C.Text.ReadText.header in
    let pre = g.P.Answers.table c.args.predefined.now in
    let lib = c.args.sources.now in
    let order = c.args.order.now in
    let has = c.requires.order in
    let edits = c.args.edits.now in
    let old = c.args.entries.now in
    let ready = c.requires.ready in
    let given = c.requires.edits in
    let now = c.loop-edited.entries in
    let inv = c.loop-edited.invariant in
    (inv.walked has).marks

pub returns-clause-compared : goal.returns-clause-compared
returns-clause-compared g c =
    let meaning = g.C.UnitCheck.meaning in
    let header = g.C.Text.ReadText.header in
    let pre = g.P.Answers.table c.args.predefined.now in
    let lib = c.args.sources.now in
    let order = c.args.order.now in
    let has = c.requires.order in
    let edits = c.args.edits.now in
    let old = c.args.entries.now in
    let ready = c.requires.ready in
    let given = c.requires.edits in
    let now = c.loop-edited.entries in
    let inv = c.loop-edited.invariant in
    inv.compared

pub returns-clause-steady : goal.returns-clause-steady
returns-clause-steady g c =
    let meaning = g.C.UnitCheck.meaning in
    let header = g.C.Text.ReadText.header in
    let pre = g.P.Answers.table c.args.predefined.now in
    let lib = c.args.sources.now in
    let order = c.args.order.now in
    let has = c.requires.order in
    let edits = c.args.edits.now in
    let old = c.args.entries.now in
    let ready = c.requires.ready in
    let given = c.requires.edits in
    let now = c.loop-edited.entries in
    let inv = c.loop-edited.invariant in
    (inv.walked has).steady

pub returns-clause-left : goal.returns-clause-left
returns-clause-left g c =
    let meaning = g.C.UnitCheck.meaning in
    let header = g.C.Text.ReadText.header in
    let pre = g.P.Answers.table c.args.predefined.now in
    let lib = c.args.sources.now in
    let order = c.args.order.now in
    let has = c.requires.order in
    let edits = c.args.edits.now in
    let old = c.args.entries.now in
    let ready = c.requires.ready in
    let given = c.requires.edits in
    let now = c.loop-edited.entries in
    let inv = c.loop-edited.invariant in
    (inv.walked has).left
