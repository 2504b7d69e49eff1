use Rattle.std.proofs.Common.{◌≡◌, ◌++◌, ◌∙◌, List, ℕ, arith, take, ap, map, sym}
use Rattle.std.proofs.lemmas.List.{take_all}
use Rattle.al_scope.proofs.HidingLemmas.{append-none}
use Rattle.al_scope.proofs.Lists.{map_after}
use Rattle.al_check_start.specs.UnitsAt.{named_in}
use Rattle.al_check_start.proofs.hidden.add_names.Goals as goal

pub loop-name-init : goal.loop-name-init
loop-name-init c = sym (append-none c.args.hidden.now)

pub loop-name-preserved : goal.loop-name-preserved
loop-name-preserved c =
    map_after (named_in c.args.unit.now) c.args.hidden.now c.loop-name.hidden c.add_name.new.hidden c.args.names.now c.loop-name.name-index c.name-item.result (omega arith) c.name-item.is c.loop-name.invariant c.in_ok-add_name.ensures

pub returns : goal.returns
returns c =
    let all : take c.loop-name.name-index c.args.names.now ≡ c.args.names.now = take_all c.loop-name.name-index c.args.names.now (omega arith) in
    c.loop-name.invariant ∙ ap (λ (l : List (List ℕ)). c.args.hidden.now ++ map (named_in c.args.unit.now) l) all
