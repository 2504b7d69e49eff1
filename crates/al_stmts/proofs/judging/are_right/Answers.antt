-- The sorted ranges that have values choose each value as often as all ranges.
use Rattle.std.proofs.Common.{Bool, List, refl, sym, subst, ◌∙◌}
use Rattle.al_view.specs.declared.types.Bounds.{Bounds}
use Rattle.al_stmts.specs.Choosing.{ChoosesRight, ranges_of}
use Rattle.al_stmts.proofs.JudgingLemmas.{chooses_right_same}
use Rattle.al_stmts.proofs.judging.are_right.Goals as goal

pub returns : goal.returns
returns c =
    let P : Bool → Type 0 = λ o. ChoosesRight c.args.selector o c.in_ok-ranges.ranges.items in
    let Q : List Bounds → Type 0 = λ rs. ChoosesRight c.args.selector c.have_others.result rs in (
      λ h. record {
        of_type = sym c.are_of_type.ensures ∙ c.if-not-are_of_type.false;
        others = c.is_others_in_place.ensures.0 c.if-not-is_others_in_place.false;
        ranges = chooses_right_same _ _ c.in_ok-ranges.ranges.items (ranges_of c.args.alternatives.now) c.in_ok-ranges.ensures.same
            (subst P c.have_others.ensures (subst Q c.as_slice.ensures.value (c.are_ranges_right.ensures.0 h)));
      },
      λ right. c.are_ranges_right.ensures.1
          (subst Q (sym c.as_slice.ensures.value) (subst P (sym c.have_others.ensures)
          (chooses_right_same _ _ (ranges_of c.args.alternatives.now) c.in_ok-ranges.ranges.items (λ v. sym (c.in_ok-ranges.ensures.same v)) right.ranges))),
    )
