use Rattle.std.proofs.Common.{subst}
use Rattle.al_scope.specs.UseClauses.{EachOnce, Uses}
use Rattle.al_scope.proofs.UseLemmas.{sorted_uses}
use Rattle.al_scope.specs.Places.{use_parts, used_part}
use Rattle.al_scope.proofs.PartLemmas.{parts-of, parts-then}
use Rattle.std.proofs.Common.{◌≡◌, ℕ, List, ◌∙◌, ◌++◌, ap, sym}
use Rattle.al_scope.specs.declared.uses.PackageUse.{PackageUse}
use Rattle.al_scope.specs.UseClauses.{uses_of}
use Rattle.al_scope.specs.Visible.{opened_by, potential}
use Rattle.al_scope.proofs.HidingLemmas.{append-assoc, append-none}
use Rattle.al_scope.proofs.uses.UseClauses.potential.Goals as goal

pub loop-package_name-preserved : goal.loop-package_name-preserved
loop-package_name-preserved g c =
    let i = c.loop-package_name.invariant in
    let steps = c.in-Some.ensures.steps in
    let views = c.loop-package_name.views in
    let mentioned = c.args.mentioned.now in
    let name = c.args.name.now in
    record {
      asked = c.ask_used.ensures.asked ∙ i.asked;
      asks = let done = i.asks.0 in
          let rest = use_parts (uses_of c.next.new.self) in
          let part = used_part (c.in-Some.package_name.now.items, c.in-Some.used.now.value) in
          let named : used_part (c.as_slice.result.now, c.deref.result.now) ≡ part =
          ap (λ (k : List ℕ). used_part (k, c.deref.result.now)) c.as_slice.ensures.value ∙ ap (λ (u : PackageUse). used_part (c.in-Some.package_name.now.items, u)) c.deref.ensures in
          let one = parts-of (used_part (c.as_slice.result.now, c.deref.result.now)) part name c.loop-package_name.recorder.log c.ask_used.new.recorder.log named c.in_ok-opened.ensures.asks in (
            done ++ part,
            append-assoc done part rest ∙ ap (λ es. done ++ use_parts (uses_of es)) (sym steps) ∙ i.asks.1,
            parts-then done part name c.args.recorder.now.log c.loop-package_name.recorder.log c.ask_used.new.recorder.log i.asks.2 one,
          );
      answered = λ t h. let answered = c.in_ok-opened.ensures.answered t h in
          let before = i.answered t answered.0 in
          let rest = potential t mentioned name (uses_of c.next.new.self) in
          let opened = opened_by t mentioned name (c.in-Some.package_name.now.items, c.in-Some.used.now.value) in
          let one = answered.1
          ∙ ap (λ k. opened_by t mentioned name (k, c.deref.result.now)) c.as_slice.ensures.value
          ∙ ap (λ (u : PackageUse). opened_by t mentioned name (c.in-Some.package_name.now.items, u)) c.deref.ensures in
          let more = c.in_ok-append.ensures ∙ ap (λ l. views ++ l) (c.as_slice-in-loop-package_name.ensures ∙ one) in
          (before.0, ap (λ l. l ++ rest) more ∙ append-assoc views opened rest ∙ ap (λ es. views ++ potential t mentioned name (uses_of es)) (sym steps) ∙ before.1);
    }

pub returns-clause-answered : goal.returns-clause-answered
returns-clause-answered g c t h =
    let answered = c.loop-package_name.invariant.answered t h in
    let views = c.loop-package_name.views in
    (answered.0, sym (append-none views) ∙ ap (λ es. views ++ potential t c.args.mentioned.now c.args.name.now (uses_of es)) (sym c.in-None.ensures.steps.0) ∙ answered.1)

pub returns-clause-asks : goal.returns-clause-asks
returns-clause-asks g c =
    let done = c.loop-package_name.invariant.asks in
    let all = sym (append-none done.0) ∙ ap (λ es. done.0 ++ use_parts (uses_of es)) (sym c.in-None.ensures.steps.0) ∙ done.1 in
    parts-of done.0 (use_parts c.args.self.now) c.args.name.now c.args.recorder.now.log c.loop-package_name.recorder.log all done.2

pub returns-clause-each : goal.returns-clause-each
returns-clause-each g c = subst (λ (us : Uses). EachOnce us) c.self.view_is (sorted_uses c.self.inside.by_package.entries c.iter-package_name-items.ensures.ordered)
