use Rattle.std.proofs.Common.{◌&&◌, Bool, Option, Some, sym, subst}
use Rattle.slab.specs.Slab.{Slab}
use Rattle.al_query_store.specs.Reads.{same_place}
use Rattle.al_query_store.specs.Marking.{Differs, IsMarked, IsSized, answer_at, answer_in, is_of}
use Rattle.al_query_store.specs.Stored.{AreUntouched, SameBase}
use Rattle.al_query_store.specs.declared.slots.Held.{Held}
use Rattle.al_query_store.proofs.MarkLemmas.{base-marked, noted-marked, one_marked, room_there, sized-marked}
use Rattle.al_query_store.proofs.marking.mark_place.Goals as goal

pub set_mark-requires : goal.set_mark-requires
set_mark-requires g c =
    let h = c.in-Some.held.now in
    let r = c.args.place.now in
    let answered = subst (λ (o : Option Bool). Differs (g.A.Answers.table c.args.asked.now) c.args.unit.now (answer_in g.E.Logged.log (Some h) r.at) o) c.in-Some-2.is c.in_ok-differs.ensures in
    room_there g.E.Logged.log (g.A.Answers.table c.args.asked.now) c.args.unit.now c.args.entries.now h r c.in-Some-2.differs c.requires.sized (sym c.in-Some.ensures) answered

pub returns-clause-sized : goal.returns-clause-sized
returns-clause-sized g c =
    let there = sym c.in-Some.ensures in
    subst (λ (s : Slab (Held g.row.E.Denot)). IsSized g.E.Logged.log s) (sym (c.set_mark.ensures c.in-Some.held.now there))
    (sized-marked c.args.entries.now c.args.place.now.entry c.args.place.now.at c.in-Some.held.now c.in-Some-2.differs there g.E.Logged.log c.requires.sized)

pub returns-clause-untouched : goal.returns-clause-untouched
returns-clause-untouched g c =
    let there = sym c.in-Some.ensures in
    subst (λ (s : Slab (Held g.row.E.Denot)). AreUntouched s c.push.new.self.items) (sym (c.set_mark.ensures c.in-Some.held.now there))
    (noted-marked c.args.entries.now c.args.place.now.entry c.args.place.now.at c.in-Some.held.now c.in-Some-2.differs there c.args.touched.now.items c.push.new.self.items c.in_ok-push.ensures.items c.requires.untouched)

pub returns-clause-base : goal.returns-clause-base
returns-clause-base g c =
    let there = sym c.in-Some.ensures in
    subst (λ (s : Slab (Held g.row.E.Denot)). SameBase c.args.entries.now s) (sym (c.set_mark.ensures c.in-Some.held.now there))
    (base-marked c.args.entries.now c.args.place.now.entry c.args.place.now.at c.in-Some.held.now c.in-Some-2.differs there)

pub returns-clause-marked : goal.returns-clause-marked
returns-clause-marked g c =
    let log = g.E.Logged.log in
    let t = g.A.Answers.table c.args.asked.now in
    let u = c.args.unit.now in
    let s = c.args.entries.now in
    let h = c.in-Some.held.now in
    let r = c.args.place.now in
    let there = sym c.in-Some.ensures in
    let answered = subst (λ (o : Option Bool). Differs t u (answer_in log (Some h) r.at) o) c.in-Some-2.is c.in_ok-differs.ensures in
    subst (λ (n : Slab (Held g.row.E.Denot)). IsMarked log t (λ p. is_of u (answer_at log s p) && same_place p r) s n) (sym (c.set_mark.ensures h there))
    (one_marked log t u s h r c.in-Some-2.differs c.requires.sized there answered)
