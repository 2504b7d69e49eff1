use Rattle.std.proofs.Common.{arith, ap, ◌∙◌}
use Rattle.std.specs.Option.{option_map}
use Rattle.std.proofs.lemmas.Grind.{common_steps}
use Rattle.al_session_served.proofs.Words.{cut_at-position, parts_at}
use Rattle.al_session_served.proofs.line.cut_at.Goals as goal

pub returns-in-Some : goal.returns-in-Some
returns-in-Some c =
    let cut = ap (option_map (parts_at c.args.bytes.now)) c.in-Some.ensures ∙ cut_at-position c.args.byte c.args.bytes.now in
    grind (arith, common_steps, cut)

pub returns-in-None : goal.returns-in-None
returns-in-None c = ap (option_map (parts_at c.args.bytes.now)) c.in-None.ensures ∙ cut_at-position c.args.byte c.args.bytes.now
