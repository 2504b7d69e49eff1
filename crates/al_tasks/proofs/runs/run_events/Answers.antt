use Rattle.std.proofs.Common.{◌≡◌, ◌∙◌, ◌+◌, ◌<◌, ◌≤◌, ℕ, suc, true, false, ap, sym, arith}
use Rattle.al_tasks.specs.Runs.{is_going, ran}
use Rattle.al_tasks.specs.Seen.{seen}
use Rattle.al_tasks.specs.Bursts.{Moment, goes, went}
use Rattle.al_tasks.proofs.ActLemmas.{on_err}
use Rattle.al_tasks.proofs.RunLemmas.{ran_went, went_on, went_stopped, not_going}
use Rattle.al_tasks.proofs.runs.run_events.Goals as goal

pub returns-in_default : goal.returns-in_default
returns-in_default c =
    let p = c.args.program.now in
    let n = c.args.n in
    let x : Moment = (c.args.since, seen c.args.state.now) in
    let l = c.loop-done in
    let stop : goes (went p n l.done x) ≡ false = ap (λ (x : Moment). goes x) (sym l.invariant.at) ∙ ap is_going (sym c.status_of.ensures) ∙ not_going c.status_of.result c.in_default.not-Going in
    record {
      ok = went_stopped p n l.done c.args.steps x l.invariant.within stop ∙ sym l.invariant.at;
      err = tt;
      fits = l.invariant.fits;
    }

pub returns-in_err-turned-clause-err : goal.returns-in_err-turned-clause-err
returns-in_err-turned-clause-err c =
    let p = c.args.program.now in
    let n = c.args.n in
    let since = c.args.since in
    let w = seen c.args.state.now in
    let l = c.loop-done in
    on_err c.from_residual.result ((x : ℕ) × (x < c.args.steps) × (seen c.turn.new.state ≡ ran p x n since w))
    (l.done, (let t = c.loop-done-test.true in omega arith), c.in_err-turned.ensures.err ∙ ap (λ (x : Moment). x.1) l.invariant.at ∙ sym (ran_went p n l.done since w))

pub loop-done-preserved : goal.loop-done-preserved
loop-done-preserved c =
    let p = c.args.program.now in
    let n = c.args.n in
    let l = c.loop-done in
    let t = c.in_ok-turned.turned in
    let ok = c.in_ok-turned.ensures.ok in
    let below = ok.1 in
    let test = c.loop-done-test.true in
    record {
      at = sym ok.2 ∙ ap (λ (x : Moment). went p n t.done x) l.invariant.at ∙ sym (went_on p n l.done t.done (c.args.since, seen c.args.state.now));
      few = let a = c.in_ok-turned.ensures.few in let b = l.invariant.few in omega arith;
      within = omega arith;
      fits = c.in_ok-turned.ensures.fits;
    }

pub returns-clause-ok : goal.returns-clause-ok
returns-clause-ok c =
    let p = c.args.program.now in
    let n = c.args.n in
    let l = c.loop-done in
    let same : c.args.steps ≡ l.done = let a = c.loop-done-test.false in let b = l.invariant.within in omega arith in
    ap (λ (k : ℕ). went p n k (c.args.since, seen c.args.state.now)) same ∙ sym l.invariant.at
