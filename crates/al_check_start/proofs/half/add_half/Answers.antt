use Rattle.std.proofs.Common.{◌∙◌, ◌∷◌, [], ◌++◌, List, Some, None, ap, sym, subst, append-nil, ℕ}
use Rattle.al_base.specs.declared.unit_key.UnitKey.{UnitKey}
use Rattle.al_query.specs.Known.{AreKnown, known_after}
use Rattle.al_query.specs.declared.query.Property.TheVariants.{Kind}
use Rattle.al_check_start.specs.Starts.{half_kind, key}
use Rattle.al_check_start.proofs.Knowing.{asked-other, half-other, half-answered, known-join, learned-later}
use Rattle.al_check_start.proofs.half.add_half.Goals as goal

pub returns-in-Some-clause-answered : goal.returns-in-Some-clause-answered
returns-in-Some-clause-answered g c t h =
    let own = c.args.own.now in
    let unit = c.args.unit.now in
    let answered = c.in_ok-answer.ensures.answered t h in
    let another = sym c.is_unit.ensures ∙ c.if-is_unit.false in
    let found = c.in-Some.ensures ∙ ap (half_kind unit.kind) (c.kind.ensures ∙ answered.1 ∙ asked-other t own unit Kind another) in
    let name = c.in_ok-name-in-Some.ensures ∙ c.as_slice.ensures in (
      answered.0,
      c.in_ok-push-in-Some.ensures.items
          ∙ ap (λ (n : List ℕ). c.args.halves.now.items ++ key n c.in-Some.kind ∷ []) name
          ∙ ap (λ (l : List UnitKey). c.args.halves.now.items ++ l) (sym (half-other t own unit (Some c.in-Some.kind) another found)),
    )

pub returns-in-Some-clause-learned : goal.returns-in-Some-clause-learned
returns-in-Some-clause-learned g c before known =
    let unit = c.args.unit.now in
    let now = known_after known c.ask_another.new.recorder.log in
    let another = sym c.is_unit.ensures ∙ c.if-is_unit.false in
    let name = c.in_ok-name-in-Some.ensures ∙ c.as_slice.ensures in
    let is = c.in_ok-push-in-Some.ensures.items ∙ ap (λ (n : List ℕ). c.args.halves.now.items ++ key n c.in-Some.kind ∷ []) name in
    let half = c.in_ok-answer.ensures.half known (key unit.name c.in-Some.kind) another (half-answered unit c.in-Some.kind c.in_ok-answer.answer (sym (c.in-Some.ensures ∙ ap (half_kind unit.kind) c.kind.ensures))) in
    subst (λ (l : List UnitKey). AreKnown now l) (sym is)
    (known-join now c.args.halves.now.items (key unit.name c.in-Some.kind ∷ []) (learned-later (unit ∷ []) c.args.halves.now.items c.args.recorder.now.log c.ask_another.new.recorder.log c.in_ok-answer.ensures.asks before known) (half, tt))

pub returns-clause-answered : goal.returns-clause-answered
returns-clause-answered g c t h =
    let own = c.args.own.now in
    let unit = c.args.unit.now in
    let answered = c.in_ok-answer.ensures.answered t h in
    let another = sym c.is_unit.ensures ∙ c.if-is_unit.false in
    let found = c.in-None.ensures ∙ ap (half_kind unit.kind) (c.kind.ensures ∙ answered.1 ∙ asked-other t own unit Kind another) in
    (answered.0, sym (append-nil c.args.halves.now.items) ∙ ap (λ (l : List UnitKey). c.args.halves.now.items ++ l) (sym (half-other t own unit None another found)))

pub returns-clause-learned : goal.returns-clause-learned
returns-clause-learned g c before =
    learned-later (c.args.unit.now ∷ []) c.args.halves.now.items c.args.recorder.now.log c.ask_another.new.recorder.log c.in_ok-answer.ensures.asks before
