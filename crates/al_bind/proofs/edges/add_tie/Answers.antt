use Rattle.std.proofs.Common.{List, map, sym, subst}
use Rattle.al_base.specs.Batch.{key_of}
use Rattle.al_base_graph.specs.declared.edge.Edge.{Edge}
use Rattle.al_bind.specs.Numbers.{Adds, IsFor, TiesBy}
use Rattle.al_bind.proofs.TieLemmas.{no_end, no_edge, one_edge}
use Rattle.al_bind.proofs.edges.add_tie.Goals as goal

pub returns-in_default : goal.returns-in_default
returns-in_default c = no_end c.args.sources.now (map key_of c.args.places.now.keys.items) c.requires.ascend c.args.x c.args.reason (key_of c.args.y.now) c.args.edges.now.items c.in_default.ensures

pub returns-in_ok-push : goal.returns-in_ok-push
returns-in_ok-push c =
    let keys = map key_of c.args.places.now.keys.items in
    let y = key_of c.args.y.now in
    let P : List Edge → Type 0 = λ ts. Adds c.args.edges.now.items ts (TiesBy c.args.sources.now keys c.args.x (IsFor c.args.reason y)) in
    subst P (sym c.in_ok-push.ensures.items) (one_edge c.args.sources.now keys c.requires.ascend c.args.x c.args.reason y c.in-Some.end c.in-Some.ensures c.args.edges.now.items c.if-end-x.true)

pub returns-else-end-x : goal.returns-else-end-x
returns-else-end-x c = no_edge c.args.sources.now (map key_of c.args.places.now.keys.items) c.requires.ascend c.args.x c.args.reason (key_of c.args.y.now) c.in-Some.end c.in-Some.ensures c.args.edges.now.items c.if-end-x.false
