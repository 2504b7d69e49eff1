use Rattle.std.proofs.Common.{sym, ◌∙◌}
use Rattle.std.specs.Cmp.Lexicographic.{bytes_decides, pointwise_decides}
use Rattle.al_engine.proofs.headers.same_names.Goals as goal

pub returns : goal.returns
returns c = λ is. (pointwise_decides bytes_decides c.args.a.now c.args.b.now).0 (sym c.eq.ensures ∙ is)
