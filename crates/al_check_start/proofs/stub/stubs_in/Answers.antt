use Rattle.std.proofs.Common.{◌∙◌, ap}
use Rattle.al_query_outcome.specs.Left.{last_of}
use Rattle.al_check_start.proofs.Steps.{stubs-turned}
use Rattle.al_check_start.proofs.stub.stubs_in.Goals as goal

pub returns-clause-answered : goal.returns-clause-answered
returns-clause-answered g c t h =
    let known = c.in_ok-add_stubs.ensures.answered t h in (
      known.0,
      c.new.ensures ∙ stubs-turned t c.args.most c.args.name.now c.in_ok-stub.stub c.args.next c.new-parts.result.items c.add_stubs.new.parts.items c.reverse.new.self.items
          (c.in_ok-stub.ensures ∙ c.last_of.ensures) c.new-parts.ensures.items known.1 c.reverse.ensures.items,
    )
