use Rattle.std.proofs.Common.{◌≡◌, rules, slice_get}
use Rattle.al_view.proofs.SameLemmas.{same_more}
use Rattle.al_view.proofs.same_views.InterfaceSame.is_same.Goals as goal

pub loop-i-preserved : goal.loop-i-preserved
loop-i-preserved c =
    let next : slice_get c.args.self.now c.loop-i.i ≡ slice_get c.args.other.now c.loop-i.i = search rules in
    same_more c.args.self.now c.args.other.now c.loop-i.i next c.loop-i.invariant
