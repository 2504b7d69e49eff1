use Rattle.std.proofs.Common.{ℕ, List, [], ap, arith, ◌∙◌}
use Rattle.std.specs.List.{flat_map, list_all}
use Rattle.al_view.specs.ViewUses.{view_uses}
use Rattle.al_view.specs.declared.view.ViewKind.{ViewKind}
use Rattle.al_check_promises.proofs.Listed.{all_given, ends}
use Rattle.al_check_promises.proofs.Items.{goes_on, stops_at}
use Rattle.al_check_promises.proofs.interfaces.declared_pass.Goals as goal

pub returns-then-not-views_pass : goal.returns-then-not-views_pass
returns-then-not-views_pass g c =
    let p = g.T.LinkTest.passing c.args.test.now in
    let d : List ℕ × List ViewKind = ([], []) in
    stops_at (λ e. list_all p (flat_map view_uses e.1)) c.args.interface.now c.loop-i.i d c.views_pass.result _ (omega arith)
    (c.views_pass.ensures ∙ ap (λ (vs : List ViewKind). list_all p (flat_map view_uses vs)) (c.views_at.ensures d)) c.if-not-views_pass.true
    (all_given p (λ e. flat_map view_uses e.1) c.args.interface.now)

pub loop-i-preserved : goal.loop-i-preserved
loop-i-preserved g c =
    let p = g.T.LinkTest.passing c.args.test.now in
    let d : List ℕ × List ViewKind = ([], []) in
    goes_on (λ e. list_all p (flat_map view_uses e.1)) c.args.interface.now c.loop-i.i d c.views_pass.result c.loop-i.invariant (omega arith)
    (c.views_pass.ensures ∙ ap (λ (vs : List ViewKind). list_all p (flat_map view_uses vs)) (c.views_at.ensures d)) c.if-not-views_pass.false

pub returns : goal.returns
returns g c =
    let p = g.T.LinkTest.passing c.args.test.now in
    ends (λ e. list_all p (flat_map view_uses e.1)) c.args.interface.now c.loop-i.i _ (omega arith) c.loop-i.invariant
    (all_given p (λ e. flat_map view_uses e.1) c.args.interface.now)
