use Rattle.al_engine.proofs.WalkLemmas.{few-alike}
use Rattle.al_engine.proofs.walking.walk_in_order.Goals as goal

-- fewer than two edited units are in the order as they are given
pub walk-requires-clause-row : goal.walk-requires-clause-row
walk-requires-clause-row g c =
    few-alike g.C.UnitCheck.meaning g.C.Text.ReadText.header (g.P.Answers.table c.args.predefined.now) c.args.sources.now c.args.order.now c.requires.order c.args.edits.now c.args.entries.now c.requires.ready c.requires.edits c.if-edits-lt2.true
