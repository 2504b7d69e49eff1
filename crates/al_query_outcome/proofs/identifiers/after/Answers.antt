use Rattle.std.proofs.Common.{◌+◌, sym, arith}
use Rattle.std.proofs.lemmas.List.{drop_all}
use Rattle.al_query_outcome.proofs.identifiers.after.Goals as goal

pub returns : goal.returns
returns c = sym (drop_all (c.args.prefix + 1) c.args.name.now (omega arith))
