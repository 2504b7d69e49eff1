use Rattle.std.proofs.Common.{◌≡◌, ◌∙◌, ◌+◌, ◌≤◌, ℕ, false, ap, sym, subst, refl, arith}
use Rattle.al_tasks.specs.Bursts.{Moment, goes, went}
use Rattle.al_tasks.specs.Partitions.{Partition, part_of_run}
use Rattle.al_tasks.specs.Runs.{is_going, status_of}
use Rattle.al_tasks.proofs.ActLemmas.{on_err}
use Rattle.al_tasks.proofs.RunLemmas.{went_on, went_since, went_stopped, not_going}
use Rattle.al_tasks.proofs.world.World.watched_run_on.Goals as goal

-- a part of a run followed by another part
more : (n a b since : ℕ) (w v : Partition) (last : ℕ) → ◌≡◌ {A = ℕ × Partition} (last, v) (part_of_run a n since w) → part_of_run b n last v ≡ part_of_run (a + b) n since w
more n a b since w v last at =
    let both : Moment → ℕ × Partition = λ x. (x.0, record w { world = x.1 }) in
    ap (λ (y : ℕ × Partition). part_of_run b n y.0 y.1) at ∙ ap both (sym (went_on w.program n a b (since, w.world)))

pub loop-done-preserved : goal.loop-done-preserved
loop-done-preserved g c =
    let l = c.loop-done in
    let a = c.in_ok-advanced.advanced in
    let ok = c.in_ok-advanced.ensures.ok in
    let below = ok.1 in
    let test = c.loop-done-test.true in
    record {
      at = ok.2 ∙ more c.args.n l.done a.done c.args.since c.args.self.now l.self l.last l.invariant.at;
      few = let x = c.in_ok-advanced.ensures.few in let y = l.invariant.few in omega arith;
      within = omega arith;
    }

pub returns-in_default-clause-ok : goal.returns-in_default-clause-ok
returns-in_default-clause-ok g c =
    let l = c.loop-done in
    let w = c.args.self.now in
    let both : Moment → ℕ × Partition = λ x. (x.0, record w { world = x.1 }) in
    let stop : goes (went w.program c.args.n l.done (c.args.since, w.world)) ≡ false = ap (λ (y : ℕ × Partition). is_going (status_of y.1.world)) (sym l.invariant.at) ∙ ap is_going (sym c.status.ensures) ∙ not_going c.status.result c.in_default.not-Going in
    l.invariant.at ∙ sym (ap both (went_stopped w.program c.args.n l.done c.args.steps (c.args.since, w.world) l.invariant.within stop))

pub returns-clause-ok : goal.returns-clause-ok
returns-clause-ok g c =
    let l = c.loop-done in
    let same : l.done ≡ c.args.steps = let a = c.loop-done-test.false in let b = l.invariant.within in omega arith in
    l.invariant.at ∙ ap (λ (k : ℕ). part_of_run k c.args.n c.args.since c.args.self.now) same

-- at most n instructions come after the last tick, at the end of any part of a run
few_since : (n k since : ℕ) (w v : Partition) (last : ℕ) → ◌≡◌ {A = ℕ × Partition} (last, v) (part_of_run k n since w) → since ≤ n → last ≤ n
few_since n k since w v last at h =
    let same : last ≡ (part_of_run k n since w).0 = ap (λ (y : ℕ × Partition). y.0) at in
    subst (λ (x : ℕ). x ≤ n) (sym same) (went_since w.program n k (since, w.world) h)

pub returns-in_default-clause-few : goal.returns-in_default-clause-few
returns-in_default-clause-few g c = few_since c.args.n c.loop-done.done c.args.since c.args.self.now c.loop-done.self c.loop-done.last c.loop-done.invariant.at

pub returns-clause-few : goal.returns-clause-few
returns-clause-few g c = few_since c.args.n c.loop-done.done c.args.since c.args.self.now c.loop-done.self c.loop-done.last c.loop-done.invariant.at

pub returns-in_err-look_on-clause-err : goal.returns-in_err-look_on-clause-err
returns-in_err-look_on-clause-err g c =
    let l = c.loop-done in
    let a = c.in_ok-advanced.advanced in
    let ok = c.in_ok-advanced.ensures.ok in
    let below = ok.1 in
    let test = c.loop-done-test.true in
    let at : ◌≡◌ {A = ℕ × Partition} (a.since, c.advance.new.self) (part_of_run (l.done + a.done) c.args.n c.args.since c.args.self.now) = ok.2 ∙ more c.args.n l.done a.done c.args.since c.args.self.now l.self l.last l.invariant.at in
    let within : l.done + a.done ≤ c.args.steps = omega arith in
    on_err c.from_residual-in_err-look_on.result ((x : ℕ) × (x ≤ c.args.steps) × (c.advance.new.self ≡ (part_of_run x c.args.n c.args.since c.args.self.now).1)) (l.done + a.done, within, ap (λ (y : ℕ × Partition). y.1) at)
