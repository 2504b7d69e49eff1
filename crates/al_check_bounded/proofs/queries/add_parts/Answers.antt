use Rattle.std.proofs.lemmas.Result.{on_ok_weaker}
use Rattle.al_check_bounded.specs.Questions.{named_in}
use Rattle.al_check_bounded.proofs.Joined.{all_parts}
use Rattle.al_check_bounded.proofs.queries.add_parts.Goals as goal

pub returns : goal.returns
returns c =
    on_ok_weaker c.add_stubs.result (λ last.
    all_parts (named_in c.args.unit.now c.args.names.now) c.args.stubs.now c.args.queries.now.items c.add_names.new.queries.items c.add_names-2.new.queries.items c.add_names-3.new.queries.items c.add_stubs.new.queries.items
    c.in_ok-add_names.ensures c.in_ok-add_names-2.ensures c.in_ok-add_names-3.ensures last) c.add_stubs.ensures
