use Rattle.std.proofs.Common.{◌≡◌, ◌∙◌, ◌∷◌, [], ℕ, List, Some, true, ap, subst}
use Rattle.al_base.specs.declared.unit_key.UnitKey.{UnitKey}
use Rattle.al_query_outcome.specs.ReadsLaw.{subunit}
use Rattle.al_query.specs.Asked.{AsksOf, by_property}
use Rattle.al_query.specs.Known.{body, has_unit}
use Rattle.al_query.proofs.AskLemmas.{asks_of-left, asks_of-units}
use Rattle.al_check_start.specs.Starts.{outward, parent_body}
use Rattle.al_check_start.proofs.Knowing.{asks-both, known-among, only-among}
use Rattle.al_check_start.proofs.known.round_subunit.Goals as goal

pub returns-clause-answered : goal.returns-clause-answered
returns-clause-answered g c t h =
    let outer = c.in_ok-units.ensures.answered t h in
    let first = c.in_ok-first.ensures.answered t outer.0 in
    let own = c.args.own.now in
    (first.0, outer.1 ∙ ap (λ (u : UnitKey). outward t own c.args.most (Some u)) (first.1 ∙ ap (parent_body t own) c.as_slice.ensures))

pub returns-clause-asks : goal.returns-clause-asks
returns-clause-asks g c =
    let name = c.args.parent.now.name in
    let base = body name ∷ subunit name ∷ [] in
    let start = c.args.recorder.now.log in
    let mid = c.parent_body_of.new.recorder.log in
    let end = c.outward_from.new.recorder.log in
    let one = subst (λ (n : List ℕ). AsksOf (body n ∷ []) by_property start mid) c.as_slice.ensures c.in_ok-first.ensures.asks in
    let is = subst (λ (n : List ℕ). has_unit (body n ∷ subunit n ∷ []) c.in_ok-first.first ≡ true) c.as_slice.ensures c.in_ok-first.ensures.is in
    asks-both base start mid end (asks_of-left (body name ∷ []) (subunit name ∷ []) by_property start mid one)
    (asks_of-units (c.in_ok-first.first ∷ []) base by_property mid end (only-among c.in_ok-first.first base is) c.in_ok-units.ensures.asks)

pub returns-clause-known : goal.returns-clause-known
returns-clause-known g c =
    let name = c.args.parent.now.name in
    let base = body name ∷ subunit name ∷ [] in
    let is = subst (λ (n : List ℕ). has_unit (body n ∷ subunit n ∷ []) c.in_ok-first.first ≡ true) c.as_slice.ensures c.in_ok-first.ensures.is in
    known-among (c.in_ok-first.first ∷ []) base c.in_ok-units.units.items c.outward_from.new.recorder.log (only-among c.in_ok-first.first base is) c.in_ok-units.ensures.known
