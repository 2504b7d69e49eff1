use Rattle.std.proofs.Common.{◌∙◌, ◌++◌, List, ap, sym, subst}
use Rattle.std.specs.List.{flat_map}
use Rattle.al_base.specs.declared.unit_key.UnitKey.{UnitKey}
use Rattle.al_query.specs.Known.{AreKnown, known_after}
use Rattle.al_check_start.specs.Starts.{half_of}
use Rattle.al_check_start.proofs.Knowing.{known-asked, known-join}
use Rattle.al_check_start.proofs.known.with_halves.Goals as goal

pub returns-clause-answered : goal.returns-clause-answered
returns-clause-answered g c t h =
    let answered = c.in_ok-halves.ensures.answered t h in
    (answered.0, c.in_ok-found.ensures ∙ ap (λ (l : List UnitKey). c.args.units.items ++ l) (answered.1 ∙ ap (flat_map (half_of t c.args.own.now)) c.as_slice.ensures.value))

pub returns-clause-known : goal.returns-clause-known
returns-clause-known g c known before =
    let now = known_after known c.halves_of.new.recorder.log in
    subst (λ (l : List UnitKey). AreKnown now l) (sym c.in_ok-found.ensures)
    (known-join now c.args.units.items c.in_ok-halves.halves.items
    (known-asked c.as_slice.result.now known c.args.units.items c.args.recorder.now.log c.halves_of.new.recorder.log c.in_ok-halves.ensures.asks before)
    (c.in_ok-halves.ensures.learned known))
