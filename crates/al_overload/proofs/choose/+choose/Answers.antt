use Rattle.std.proofs.Common.{rules, sym, ap, ◌∙◌, List, arith}
use Rattle.al_overload.specs.Counts.{candidates, labels_of, plain, plain_all}
use Rattle.al_overload.specs.Labelling.{Node, preferred, preferred_all}
use Rattle.al_overload.specs.declared.term.Choice.{Choice}
use Rattle.al_overload.specs.declared.term.Terms.{Terms, size-Terms}
use Rattle.al_overload.specs.declared.term.Term.TheViews.{sized-MoreTerms}
use Rattle.al_overload.specs.declared.term.Terms.TheVariants.{MoreTerms}
use Rattle.al_overload.specs.declared.types.Expected.{Expected}
use Rattle.al_overload.proofs.ChainLemmas.{more_listed, sliced, stepped_is}
use Rattle.al_overload.proofs.choose.+choose.Goals as goal

pub choose_each-loop-rest-preserved : goal.choose_each-loop-rest-preserved
choose_each-loop-rest-preserved t c =
    let a = ap size-Terms c.in-MoreTerms.is in let b = ap size-Terms c.deref-rest.ensures in (
      more_listed c.loop-rest.each.items c.push.new.self.items c.in_ok-chosen.chosen _ _
          (preferred_all (plain_all c.loop-rest.rest.now) c.loop-rest.rest_expected.now) _
          c.in_ok-push.ensures.items c.in_ok-chosen.ensures
          (ap (λ (ts : Terms). preferred_all (plain_all ts) c.loop-rest.rest_expected.now) c.in-MoreTerms.is
          ∙ sliced (plain c.in-MoreTerms.operand.value) (plain_all c.in-MoreTerms.more.value) c.loop-rest.rest_expected.now c.first-item.result c.in-len1-up.len_at_least c.first-item.is
          ∙ search rules)
          c.loop-rest.invariant.0,
      search rules,
      search rules,
      omega (arith, sized-MoreTerms c.in-MoreTerms.operand c.in-MoreTerms.more, a, b, c.loop-rest.invariant.3),
    )

pub step-returns-in_ok-others-in-MoreTerms-clause-chosen : goal.step-returns-in_ok-others-in-MoreTerms-clause-chosen
step-returns-in_ok-others-in-MoreTerms-clause-chosen t c =
    stepped_is c.pick-number.result.0 c.prefers_root-is_root.result _ _
    (preferred_all (plain_all c.args.operands.now) c.pick-number.result.1.now.candidate.operands)
    (labels_of c.in_ok-others-in-MoreTerms.others) _
    c.in_ok-others-in-MoreTerms.ensures
    (ap (λ (ts : Terms). preferred_all (plain_all ts) c.pick-number.result.1.now.candidate.operands) c.in-MoreTerms.is
    ∙ ap (λ (es : List Expected). preferred_all (plain_all (MoreTerms c.in-MoreTerms.operand c.in-MoreTerms.more)) es) (sym c.as_slice.ensures)
    ∙ sliced (plain c.in-MoreTerms.operand.value) (plain_all c.in-MoreTerms.more.value) c.as_slice.result.now c.first-item.result c.in-len1-up.len_at_least c.first-item.is
    ∙ search rules)
    (ap (λ (cs : List Choice). preferred (Node (candidates cs) (plain_all c.args.operands.now)) c.args.expected.now) (sym c.as_slice-choices.ensures)
    ∙ c.prefers_root-is_root.ensures
    ∙ c.pick-number.ensures.head)
