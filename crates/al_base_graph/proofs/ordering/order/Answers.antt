use Rattle.std.proofs.Common.{◌≡◌, ℕ, ◌<◌, List, [], length, get_or, subst, sym, ap, ◌∙◌, inl, inr, arith}
use Rattle.std.specs.List.{All}
use Rattle.std.proofs.lemmas.Bool.{cases_lt}
use Rattle.std.proofs.lemmas.List.{get_or_past}
use Rattle.al_base_graph.specs.Graphs.{IsClosed}
use Rattle.al_base_graph.specs.Orders.{IsLeast, IsStuck, IsOrder}
use Rattle.al_base_graph.specs.Placings.{IsPlacing, TellStuck}
use Rattle.al_base_graph.proofs.PlacingLemmas.{tell_stuck, all_placed, order_not_stuck}
use Rattle.al_base_graph.proofs.CycleLemmas.{first_stuck}
use Rattle.al_base_graph.proofs.ordering.order.Goals as goal

over : (g : List (List ℕ)) (order missing ready : List ℕ) → ready ≡ [] → IsPlacing g order missing ready → IsPlacing g order missing []
over g order missing ready e placing = let P : List ℕ → Type 0 = λ ks. IsPlacing g order missing ks in subst P e placing

none_missing : (missing : List ℕ) → All (λ count. count ≡ 0) missing → (a : ℕ) → get_or missing a 0 ≡ 0
none_missing missing all a = elim (cases_lt a (length missing)) [ inl below ↦ all a 0 below | inr past ↦ get_or_past missing a 0 past ]

pub returns-in-None : goal.returns-in-None
returns-in-None c =
    let g = c.args.graph.now in
    let s = c.run.new.self in
    let placing = over g s.order.items s.missing.items s.ready.nodes.keys c.in_ok-run.ensures.over c.in_ok-run.ensures.placing in
    let P : List ℕ → Type 0 = λ xs. All (λ count. count ≡ 0) xs in
    let none = none_missing s.missing.items (subst P c.deref.ensures.value c.in-None.ensures) in
    let is = all_placed g s.order.items s.missing.items c.in_ok-placing.ensures.closed placing none in
    (is, order_not_stuck g s.order.items is)

pub from-requires-clause-stuck : goal.from-requires-clause-stuck
from-requires-clause-stuck c =
    let g = c.args.graph.now in
    let s = c.run.new.self in
    let placing = over g s.order.items s.missing.items s.ready.nodes.keys c.in_ok-run.ensures.over c.in_ok-run.ensures.placing in
    let P : List ℕ → Type 0 = λ xs. TellStuck g xs in
    subst P (sym c.deref-in-Some.ensures.value) (tell_stuck g s.order.items s.missing.items c.in_ok-placing.ensures.closed placing)

pub from-requires-clause-first : goal.from-requires-clause-first
from-requires-clause-first c =
    let g = c.args.graph.now in
    let s = c.run.new.self in
    let placing = over g s.order.items s.missing.items s.ready.nodes.keys c.in_ok-run.ensures.over c.in_ok-run.ensures.placing in
    let P : List ℕ → Type 0 = λ xs. IsLeast (λ a. 0 < get_or xs a 0) c.in-Some.first in
    first_stuck g s.missing.items c.in-Some.first (tell_stuck g s.order.items s.missing.items c.in_ok-placing.ensures.closed placing) (subst P c.deref.ensures.value c.in-Some.ensures)
