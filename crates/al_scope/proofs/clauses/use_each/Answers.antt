use Rattle.std.proofs.Common.{◌≡◌, ◌∙◌, arith, take, ap}
use Rattle.std.proofs.lemmas.List.{take_all}
use Rattle.al_scope.specs.UnitPlaces.{with_clauses}
use Rattle.al_scope.proofs.UnitPlaceLemmas.{with_clauses-more}
use Rattle.al_scope.proofs.clauses.use_each.Goals as goal

pub loop-clause-preserved : goal.loop-clause-preserved
loop-clause-preserved c =
    let i = c.loop-clause.invariant in
    record {
      regions = with_clauses-more c.args.clauses.now c.loop-clause.clause-index c.clause-item.result c.args.scope.now.regions c.loop-clause.scope.regions c.use_clause.new.scope.regions (omega arith) c.clause-item.is i.regions c.in_ok-use_clause.ensures.regions;
      depth = c.use_clause.ensures.depth ∙ i.depth;
      mentioned = c.use_clause.ensures.mentioned ∙ i.mentioned;
    }

pub returns-clause-regions : goal.returns-clause-regions
returns-clause-regions c =
    let all : take c.loop-clause.clause-index c.args.clauses.now ≡ c.args.clauses.now = take_all c.loop-clause.clause-index c.args.clauses.now (omega arith) in
    c.loop-clause.invariant.regions ∙ ap (λ l. with_clauses l c.args.scope.now.regions) all
