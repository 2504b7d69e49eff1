use Rattle.std.proofs.Common.{Option, subst}
use Rattle.std.specs.Option.{option_map}
use Rattle.al_query_store.specs.Changes.{ComparesUnit}
use Rattle.al_engine_refresh.specs.Stored.{Stored, log_of, outcome_of}
use Rattle.al_engine_refresh.specs.Builds.{present}
use Rattle.al_engine_refresh.proofs.moving.compare.Goals as goal

pub returns-clause-marked : goal.returns-clause-marked
returns-clause-marked g c =
    subst (λ (o : Option Stored). ComparesUnit log_of (present (g.P.Answers.table c.args.predefined.now) (λ u. option_map outcome_of o)) c.args.unit.now c.args.entries.now c.mark.new.self) c.in_ok-entry.ensures c.in_ok-count.ensures.marked

pub returns-clause-counted : goal.returns-clause-counted
returns-clause-counted g c = (c.in_ok-count.count, c.in_ok-count.ensures.counted, c.raised_by.ensures)
