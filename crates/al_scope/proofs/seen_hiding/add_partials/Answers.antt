use Rattle.std.proofs.Common.{◌≡◌, ◌∙◌, ◌++◌, List, arith, take, ap, sym}
use Rattle.std.specs.List.{flat_map}
use Rattle.std.proofs.lemmas.List.{take_all}
use Rattle.al_view.specs.declared.types.TypeView.{TypeView}
use Rattle.al_scope.proofs.HidingLemmas.{append-none}
use Rattle.al_scope.specs.Hidden.{partial_if_hidden}
use Rattle.al_scope.proofs.Lists.{flat_more}
use Rattle.al_scope.proofs.seen_hiding.add_partials.Goals as goal

pub loop-of-init : goal.loop-of-init
loop-of-init c = sym (append-none c.args.recasts.now)

pub loop-of-preserved : goal.loop-of-preserved
loop-of-preserved c =
    flat_more (partial_if_hidden c.args.names.now) c.args.recasts.now c.loop-of.recasts c.add_partial.new.recasts c.args.types.now c.loop-of.of-index c.of-item.result (omega arith) c.of-item.is c.loop-of.invariant c.in_ok-add_partial.ensures

pub returns : goal.returns
returns c =
    let all : take c.loop-of.of-index c.args.types.now ≡ c.args.types.now = take_all c.loop-of.of-index c.args.types.now (omega arith) in
    c.loop-of.invariant ∙ ap (λ (l : List TypeView). c.args.recasts.now ++ flat_map (partial_if_hidden c.args.names.now) l) all
