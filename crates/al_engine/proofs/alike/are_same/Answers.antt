use Rattle.std.proofs.Common.{sym, ◌∙◌}
use Rattle.al_engine.proofs.Files.{same_texts}
use Rattle.al_engine.proofs.alike.are_same.Goals as goal

pub returns : goal.returns
returns c = λ is. same_texts (λ n. n.now) c.args.a.now c.args.b.now (sym c.eq.ensures ∙ is)
