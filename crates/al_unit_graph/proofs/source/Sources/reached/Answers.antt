use Rattle.std.proofs.Common.{◌≡◌, ◌+◌, ◌<◌, ◌≤◌, map, length, get_or, ap, subst, sym, ◌∙◌, arith}
use Rattle.std.proofs.lemmas.Grind.{common_steps}
use Rattle.al_base.specs.Batch.{key_of}
use Rattle.al_unit_graph.specs.Closures.{next, is_same_key, with_items}
use Rattle.al_unit_graph.proofs.ClosureLemmas.{IsClosedTo, same_key, closed_at_start, closed_further, closed_at_end}
use Rattle.al_unit_graph.proofs.source.Sources.reached.Goals as goal

pub loop-i-init : goal.loop-i-init
loop-i-init c =
    let first = map key_of c.args.first.now in
    let same = c.in_ok-add_all.ensures.keys ∙ ap (λ ks. with_items is_same_key (map key_of ks) first) c.new-list.ensures.keys in (
      subst (λ ks. IsClosedTo (next c.args.self.now c.args.step) first ks 0) (sym same) (closed_at_start is_same_key same_key (next c.args.self.now c.args.step) first),
      c.in_ok-add_all.ensures.seen,
    )

pub loop-i-preserved : goal.loop-i-preserved
loop-i-preserved c =
    let first = map key_of c.args.first.now in
    let keys = map key_of c.loop-i.list.keys.items in
    let key = key_of c.index.result.now in
    let within : c.loop-i.i < length keys = grind (arith, common_steps, c.if-i-len.false, c.len.ensures) in
    let here : get_or keys c.loop-i.i key ≡ key = grind (arith, common_steps, c.index.ensures, within) in
    let more = map key_of c.in_ok-more.more.items in
    let leads : more ≡ next c.args.self.now c.args.step (get_or keys c.loop-i.i key) = c.in_ok-more.ensures ∙ ap (λ k. next c.args.self.now c.args.step k) (sym here) in
    let same = c.in_ok-add_all-2.ensures.keys ∙ ap (λ ms. with_items is_same_key keys (map key_of ms)) c.as_slice.ensures.value ∙ ap (λ ms. with_items is_same_key keys ms) leads in (
      subst (λ ks. IsClosedTo (next c.args.self.now c.args.step) first ks (c.loop-i.i + 1)) (sym same) (closed_further is_same_key same_key (next c.args.self.now c.args.step) first keys c.loop-i.i key c.loop-i.invariant.0 within),
      c.in_ok-add_all-2.ensures.seen,
    )

pub returns-then-i-len : goal.returns-then-i-len
returns-then-i-len c =
    let keys = map key_of c.loop-i.list.keys.items in
    let ended : length keys ≤ c.loop-i.i = grind (arith, common_steps, c.if-i-len.true, c.len.ensures) in
    closed_at_end (next c.args.self.now c.args.step) (map key_of c.args.first.now) keys c.loop-i.i c.loop-i.invariant.0 ended

pub returns : goal.returns
returns c =
    let keys = map key_of c.loop-i.list.keys.items in
    let small = c.loop-i.list.keys.small in
    let ok = c.loop-i.list.keys.ok in
    let ended : length keys ≤ c.loop-i.i = grind (arith, common_steps, c.loop-i-test.false, small, ok) in
    closed_at_end (next c.args.self.now c.args.step) (map key_of c.args.first.now) keys c.loop-i.i c.loop-i.invariant.0 ended
