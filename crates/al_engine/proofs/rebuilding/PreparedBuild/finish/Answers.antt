use Rattle.std.proofs.Common.{List, ap, sym, subst, ◌∙◌}
use Rattle.al_base.specs.declared.unit_key.UnitKey.{UnitKey}
use Rattle.al_query_store.specs.Keyed.{State, entry_of, now_at, settled_at, settled_state, state}
use Rattle.al_engine_refresh.specs.Stored.{Stored}
use Rattle.al_engine_refresh.specs.Builds.{present, results_of}
use Rattle.al_engine.specs.Rechecks.{IsRechecked, setting_of}
use Rattle.al_engine.proofs.ReadyLemmas.{entry-held, ready-now, reached-now}
use Rattle.std.specs.Prelude.{Option}
use Rattle.al_engine.specs.Reasons.{AreReasons}
use Rattle.al_engine.specs.declared.reasons.Reason.{Reason}
use Rattle.al_engine.proofs.Left.{settled-left}
use Rattle.al_engine.specs.Rebuilds.{IsWithin}
use Rattle.al_engine.proofs.WithinLemmas.{within}
use Rattle.al_engine.proofs.rebuilding.PreparedBuild.finish.Goals as goal

pub returns-clause-rebuilt : goal.returns-clause-rebuilt
returns-clause-rebuilt g c = λ header predefined lib main old left is.
    let meaning = g.C.UnitCheck.meaning in
    let mid = c.args.cache.now.store in
    let new = c.settle.new.self.store in
    let ended = c.settle.ensures.settled in
    let units = c.args.self.checked.items in
    let now = is.updated in (
      record {
        made = now_at mid;
        rechecked = subst (λ (us : List UnitKey). IsRechecked meaning header (setting_of header predefined lib) (settled_at old) (now_at mid) us) (sym c.new.ensures) now.rechecked;
        is_batch = c.in_ok-patched.ensures.batch lib (results_of (now_at mid)) main is.is_planned;
        entries = λ u. ap (λ (s : State Stored). entry_of s.settled) (ended u) ∙ entry-held (settled_state (state mid u)).settled ∙ now.staying u;
        earlier = c.in_ok-patched.ensures.earlier lib (results_of (now_at mid)) is.is_base;
      },
      record {
        reached = reached-now meaning header predefined lib old mid new units c.args.self.compared now ended;
        ready = ready-now meaning header predefined lib old mid new units c.args.self.compared now ended;
        compared = subst (λ (us : List UnitKey). IsWithin lib us old new c.args.self.compared) (sym c.new.ensures) (within lib units old mid new left ended now.leaving now.made c.args.self.compared now.compared);
        reasons =
            subst (λ (us : List UnitKey). AreReasons (present predefined (results_of (now_at mid))) lib (settled_at old) us c.new-2.result) (sym c.new.ensures)
            (subst (λ (rs : List Reason). AreReasons (present predefined (results_of (now_at mid))) lib (settled_at old) units rs) (sym c.new-2.ensures)
            (subst (λ (at : UnitKey → Option Stored). AreReasons (present predefined (results_of (now_at mid))) lib at units c.args.self.reasons.items) (λ i u. settled-left old mid left u i) is.are_reasons));
      },
    )
