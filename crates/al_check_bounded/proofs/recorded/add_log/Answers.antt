use Rattle.std.proofs.Common.{[], arith}
use Rattle.al_query.specs.declared.answer.AnswerKind.{AnswerKind}
use Rattle.al_query.specs.declared.answer.AnswerKind.TheVariants.{Nothing}
use Rattle.al_query.specs.declared.query.Property.TheVariants.{Kind}
use Rattle.al_query.specs.declared.query.Query.{Query}
use Rattle.al_query.specs.declared.query.Query.TheVariants.{Of}
use Rattle.al_base.specs.declared.unit_key.UnitKind.TheVariants.{Decl}
use Rattle.al_check_bounded.specs.Questions.{shown_in}
use Rattle.al_check_bounded.proofs.Joined.{views-at}
use Rattle.al_check_bounded.proofs.recorded.add_log.Goals as goal

pub loop-i-preserved : goal.loop-i-preserved
loop-i-preserved c =
    let e : Query × AnswerKind = (Of (record { name = []; kind = Decl }) Kind, Nothing) in
    views-at (shown_in c.args.wanted.now) c.args.log.now c.loop-i.i e c.args.found.now.items c.loop-i.found.items c.add_at.new.found.items (omega arith) c.loop-i.invariant (c.in_ok-add_at.ensures e)
