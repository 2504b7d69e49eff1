use Rattle.std.proofs.Common.{◌≡◌, ℕ, ◌+◌, ◌<◌, List, [], length, get_or, subst, sym, ap, ◌∙◌, arith}
use Rattle.al_unit_graph.specs.Traces.{is_changed}
use Rattle.std.proofs.lemmas.List.{get_or_default}
use Rattle.al_unit_faults.proofs.ObsoleteStepLemmas.{AreThose, those_yes, those_no}
use Rattle.al_unit_faults.proofs.wanted.WantedFiles.changed.Goals as goal
use Rattle.al_unit_faults.proofs.wanted.WantedFiles.changed.Goals.{then-is_changed+in_ok-push, else-is_changed}

pub loop-number-preserved : goal.loop-number-preserved
loop-number-preserved c =
    let names = c.args.self.now.names.items in
    let i = c.loop-number.number in
    let value : c.deref-name-items.result.now ≡ names = c.deref-name-items.ensures.value in
    let same_length : length c.deref-name-items.result.now ≡ length names = ap length value in
    let within : i < length names = omega arith in
    let p = λ (a : ℕ). is_changed c.args.built.now c.args.now.now (get_or names a []) in
    let at : c.as_slice.result.now ≡ get_or names i [] =
    c.as_slice.ensures ∙ c.name-item.is ∙ ap (λ ns. get_or ns i c.name-item.result) value ∙ get_or_default names i c.name-item.result [] within in
    let told : c.is_changed.result ≡ p i = c.is_changed.ensures ∙ ap (λ f. is_changed c.args.built.now c.args.now.now f) at in
    let P : List ℕ → Type 0 = λ xs. AreThose p (i + 1) xs in
    elim c.if-is_changed.branch [
      | then-is_changed+in_ok-push w ↦
          subst P (sym (ap (λ v. v.items) w.numbers-is ∙ w.in_ok-push.ensures.items))
          (those_yes p i c.loop-number.numbers.items c.loop-number.invariant (sym told ∙ w.if-is_changed.true))
      | else-is_changed w ↦
          subst P (sym (ap (λ v. v.items) w.numbers-is))
          (those_no p i c.loop-number.numbers.items c.loop-number.invariant (sym told ∙ w.if-is_changed.false))
    ]

pub returns : goal.returns
returns c =
    let names = c.args.self.now.names.items in
    let same_length : length c.deref-name-items.result.now ≡ length names = ap length c.deref-name-items.ensures.value in
    let ended : c.loop-number.number ≡ length names = omega arith in
    let p = λ (a : ℕ). is_changed c.args.built.now c.args.now.now (get_or names a []) in
    let P : ℕ → Type 0 = λ n. AreThose p n c.loop-number.numbers.items in
    subst P ended c.loop-number.invariant
