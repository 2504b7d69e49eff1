use Rattle.std.proofs.Common.{refl}
use Rattle.al_decl.proofs.Outcomes.{if_ok}
use Rattle.al_decl.proofs.Waiting.{body_waits}
use Rattle.al_decl.proofs.body.complete.Goals as goal

pub returns-clause-made : goal.returns-clause-made
returns-clause-made c = if_ok c.finish_body.result _ _ (λ checked made. body_waits _ c.args.env.now _ _ _ made c.in_ok-body.ensures refl) c.finish_body.ensures.made
