use Rattle.std.proofs.Common.{◌∙◌, ℕ, List, [], Option, None, sym, subst, ap, arith}
use Rattle.al_base.specs.declared.unit_key.UnitKey.{UnitKey}
use Rattle.al_query_store.specs.Keyed.{now_at, settled_at}
use Rattle.al_engine_refresh.specs.EntryLaw.{AllKeepLaw}
use Rattle.al_engine_refresh.specs.Stored.{Stored}
use Rattle.al_engine_refresh.specs.Builds.{IsBuilt, setting}
use Rattle.al_engine_refresh.specs.Moving.{IsCompared}
use Rattle.al_engine_refresh.specs.Progress.{Progress}
use Rattle.al_engine_refresh.proofs.BuildLemmas.{start}
use Rattle.al_engine_refresh.proofs.Comparing.{compared-none, quiet-unmoved}
use Rattle.al_engine_refresh.proofs.LoopLemmas.{count-start}
use Rattle.al_engine_refresh.proofs.RefreshLemmas.{settled-left, unreached-none}
use Rattle.al_engine_refresh.proofs.SteadyLemmas.{steady-none}
use Rattle.al_engine_refresh.proofs.refreshed.refresh.Goals as goal

pub refresh_rest-requires-clause-marks : goal.refresh_rest-requires-clause-marks
refresh_rest-requires-clause-marks g c = c.in_ok-leave_out.ensures.out.marks c.requires.marks

pub refresh_rest-requires-clause-unmoved : goal.refresh_rest-requires-clause-unmoved
refresh_rest-requires-clause-unmoved g c u h = c.in_ok-leave_out.ensures.out.unmoved u h (c.requires.there u h)

pub returns-clause-built : goal.returns-clause-built
returns-clause-built g c fl is o laws =
    let meaning = g.C.UnitCheck.meaning in
    let header = g.C.Text.ReadText.header in
    let pre = g.P.Answers.table c.args.predefined.now in
    let lib = c.args.sources.now in
    let old = c.args.entries.now in
    let store = c.leave_out.new.entries in
    let order = c.args.order.now in
    let out = c.in_ok-leave_out.ensures.out in
    let none = ap (λ d. d.checked) c.begun-done.ensures in
    let same = settled-left old store c.leave_out.ensures.left in
    subst (λ (at : UnitKey → Option Stored). IsBuilt meaning header (setting header lib fl pre) at (now_at c.refresh_rest.new.entries) order c.refresh_rest.new.done.checked) (λ j u. same u j)
    (c.in_ok-refresh_rest.ensures.built [] fl is o
    (subst (λ (at : UnitKey → Option Stored). AllKeepLaw meaning header at) (λ j u. sym (same u) j) laws)
    (subst (λ (us : List UnitKey). Progress meaning header lib fl pre is (settled_at store) (λ u. None) [] order us) (sym none) (start meaning header lib fl pre is (settled_at store) order o))
    (λ u h. unreached-none store u (out.reached u h)))

pub returns-clause-counted : goal.returns-clause-counted
returns-clause-counted g c =
    let n = g.C.UnitCheck.count c.args.checker.now in
    c.in_ok-refresh_rest.ensures.counted n (count-start n c.checks-before.result _ c.checks-before.ensures (omega arith) (ap (λ d. d.checked) c.begun-done.ensures))

pub returns-clause-compared : goal.returns-clause-compared
returns-clause-compared g c =
    c.in_ok-refresh_rest.ensures.compared
    (c.in_ok-leave_out.ensures.compared (subst (λ (n : ℕ). IsCompared c.args.entries.now n) (sym (ap (λ d. d.compared) c.begun-done.ensures)) (compared-none c.args.entries.now (quiet-unmoved c.args.entries.now c.requires.quiet))))

pub returns-clause-steady : goal.returns-clause-steady
returns-clause-steady g c =
    let out = c.in_ok-leave_out.ensures.out in
    c.in_ok-refresh_rest.ensures.steady (steady-none c.args.sources.now c.leave_out.new.entries _ (ap (λ d. d.checked) c.begun-done.ensures) out.made out.leaving)

pub returns-clause-left : goal.returns-clause-left
returns-clause-left g c u = c.refresh_rest.ensures.left u ∙ c.leave_out.ensures.left u
