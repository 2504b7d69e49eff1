-- Each test is for one rule.
use Rattle.std.proofs.Common.{arith, refl, sym, subst, ◌∙◌}
use Rattle.std.proofs.lemmas.Bool.{false≢true}
use Rattle.al_view.specs.declared.types.Bounds.{Bounds}
use Rattle.al_stmts.specs.Choosing.{Covers}
use Rattle.al_stmts.proofs.ApartLemmas.{apart_once}
use Rattle.al_stmts.proofs.judging.are_ranges_right.Goals as goal
use Rattle.al_stmts.proofs.judging.are_ranges_right.Goals.{then-not-are_apart-via-then-not-are_apart, then-not-are_apart-via-else-not-are_apart+then-not-are_of_selector}

pub returns-then-not-are_apart : goal.returns-then-not-are_apart
returns-then-not-are_apart c = (
  λ e. absurd (false≢true e),
  λ right.
      elim c.then-not-are_apart.branch [
        | then-not-are_apart-via-then-not-are_apart w ↦
            let twice = c.are_apart.ensures.meet w.if-not-are_apart.true in
            absurd (omega (arith, twice.1, right.once twice.0))
        | then-not-are_apart-via-else-not-are_apart+then-not-are_of_selector w ↦
            absurd (false≢true (sym w.if-not-are_of_selector.true ∙ w.are_of_selector.ensures.1 right.within))
      ],
)

pub returns-then-has_others : goal.returns-then-has_others
returns-then-has_others c = (
  λ h. record {
    once = λ v. apart_once c.args.ranges.now v (c.are_apart.ensures.apart c.if-not-are_apart.false);
    within = c.are_of_selector.ensures.0 c.if-not-are_of_selector.false;
    complete = λ no. absurd (false≢true (sym no ∙ c.if-has_others.true));
  },
  λ right. c.if-has_others.true,
)

pub returns-else-has_others : goal.returns-else-has_others
returns-else-has_others c =
    let P : Bounds → Type 0 = λ b. Covers c.args.ranges.now b in (
      λ h. record {
        once = λ v. apart_once c.args.ranges.now v (c.are_apart.ensures.apart c.if-not-are_apart.false);
        within = c.are_of_selector.ensures.0 c.if-not-are_of_selector.false;
        complete = λ no. subst P c.covered.ensures (c.are_covering.ensures.0 h);
      },
      λ right. c.are_covering.ensures.1 (subst P (sym c.covered.ensures) (right.complete c.if-has_others.false)),
    )
