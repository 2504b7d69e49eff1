use Rattle.std.proofs.Common.{◌≡◌, ◌∙◌, arith, take, ap}
use Rattle.std.proofs.lemmas.List.{take_all}
use Rattle.al_scope.specs.UnitPlaces.{inside, with_clauses}
use Rattle.al_scope.proofs.UnitPlaceLemmas.{inside-more, inside-none}
use Rattle.al_scope.proofs.clauses.use_inside.Goals as goal

pub loop-used-preserved : goal.loop-used-preserved
loop-used-preserved c =
    let i = c.loop-used.invariant in
    record {
      regions = inside-more c.args.part.now c.args.uses.now c.loop-used.used-index c.used-item.result c.args.scope.now.regions c.loop-used.scope.regions c.use_if_inside.new.scope.regions (omega arith) c.used-item.is i.regions c.in_ok-use_if_inside.ensures.regions;
      depth = c.use_if_inside.ensures.depth ∙ i.depth;
      mentioned = c.use_if_inside.ensures.mentioned ∙ i.mentioned;
    }

pub returns-clause-regions : goal.returns-clause-regions
returns-clause-regions c =
    let all : take c.loop-used.used-index c.args.uses.now ≡ c.args.uses.now = take_all c.loop-used.used-index c.args.uses.now (omega arith) in
    c.loop-used.invariant.regions ∙ ap (λ l. with_clauses (inside l c.args.part.now) c.args.scope.now.regions) all

pub returns-in_err-use_if_inside-clause-takes_none : goal.returns-in_err-use_if_inside-clause-takes_none
returns-in_err-use_if_inside-clause-takes_none c none =
    let isnt = inside-none c.args.part.now c.args.uses.now c.loop-used.used-index c.used-item.result (omega arith) c.used-item.is none in
    let used = c.in_err-use_if_inside.ensures.takes_none isnt in
    absurd (cc)
