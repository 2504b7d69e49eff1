use Rattle.std.proofs.Common.{◌≡◌, ℕ, map, get_or, nat_lt, sym, ◌∙◌, ap, arith}
use Rattle.al_overload.specs.declared.term.Choice.{Choice}
use Rattle.al_overload.specs.Counts.{plain_all, size}
use Rattle.al_overload.specs.Labelling.{NodeAs, preferred_all, suits}
use Rattle.al_overload.proofs.Counting.{only-choice, none-next, kind-unfit, kind-elsewhere, kind-apart, beq-is, beq-not}
use Rattle.al_overload.proofs.choose.pick.Goals as goal
use Rattle.al_overload.proofs.choose.pick.Goals.{else-choice-is_root-via-then-choice-is_root+then-fits+else-is_any, else-choice-is_root-via-then-choice-is_root+else-fits, else-choice-is_root-via-else-choice-is_root}

pub returns-then-is_any-clause-one : goal.returns-then-is_any-clause-one
returns-then-is_any-clause-one c =
    let choices = c.args.choices.now in
    let i = c.loop-choice.choice-index in
    let d : Choice = c.choice-item.result in
    let e : d ≡ get_or choices i d = c.choice-item.is in
    let found = only-choice (plain_all c.args._operands.now) c.args.expected.now c.args.is_root choices i d (omega arith) c.requires.counted c.loop-choice.invariant.1
    (ap (λ (x : Choice). x.candidate.is_root) (sym e) ∙ beq-is _ _ c.if-choice-is_root.true)
    (ap (λ (x : Choice). suits x.candidate c.args.expected.now) (sym e) ∙ sym c.fits.ensures ∙ c.if-fits.true)
    (ap (λ (x : Choice). nat_lt 0 (size x.ways)) (sym e) ∙ (sym c.is_any.ensures ∙ c.if-is_any.true)) c.requires.one in
    rw e found.1

pub returns-then-is_any-clause-head : goal.returns-then-is_any-clause-head
returns-then-is_any-clause-head c =
    let choices = c.args.choices.now in
    let i = c.loop-choice.choice-index in
    let d : Choice = c.choice-item.result in
    let e : d ≡ get_or choices i d = c.choice-item.is in
    let found = only-choice (plain_all c.args._operands.now) c.args.expected.now c.args.is_root choices i d (omega arith) c.requires.counted c.loop-choice.invariant.1
    (ap (λ (x : Choice). x.candidate.is_root) (sym e) ∙ beq-is _ _ c.if-choice-is_root.true)
    (ap (λ (x : Choice). suits x.candidate c.args.expected.now) (sym e) ∙ sym c.fits.ensures ∙ c.if-fits.true)
    (ap (λ (x : Choice). nat_lt 0 (size x.ways)) (sym e) ∙ (sym c.is_any.ensures ∙ c.if-is_any.true)) c.requires.one in
    found.0
    ∙ ap (λ (n : ℕ). map (NodeAs n c.args.is_root) (preferred_all (plain_all c.args._operands.now) (get_or choices i d).candidate.operands)) (sym c.loop-choice.invariant.0)
    ∙ ap (λ (x : Choice). map (NodeAs c.loop-choice.number c.args.is_root) (preferred_all (plain_all c.args._operands.now) x.candidate.operands)) (sym e)

pub loop-choice-preserved : goal.loop-choice-preserved
loop-choice-preserved c =
    let choices = c.args.choices.now in
    let args = plain_all c.args._operands.now in
    let t = c.args.expected.now in
    let i = c.loop-choice.choice-index in
    let d : Choice = c.choice-item.result in
    let e : d ≡ get_or choices i d = c.choice-item.is in (
      omega (arith, c.loop-choice.invariant.0),
      none-next args t c.args.is_root choices i d (omega arith) c.loop-choice.invariant.1
          (elim c.else-choice-is_root.branch [
            | else-choice-is_root-via-then-choice-is_root+then-fits+else-is_any w ↦
                kind-unfit args t c.args.is_root choices i d (omega arith) c.requires.counted (ap (λ (x : Choice). nat_lt 0 (size x.ways)) (sym e) ∙ (sym w.is_any.ensures ∙ w.if-is_any.false))
            | else-choice-is_root-via-then-choice-is_root+else-fits w ↦
                kind-elsewhere args t c.args.is_root i (get_or choices i d).candidate (ap (λ (x : Choice). suits x.candidate t) (sym e) ∙ sym w.fits.ensures ∙ w.if-fits.false)
            | else-choice-is_root-via-else-choice-is_root w ↦
                kind-apart args t c.args.is_root i (get_or choices i d).candidate (λ p. beq-not _ _ w.if-choice-is_root.false (ap (λ (x : Choice). x.candidate.is_root) e ∙ p))
          ]),
    )
