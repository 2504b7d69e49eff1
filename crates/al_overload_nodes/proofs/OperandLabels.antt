-- The labellings of operands: from each place on, those that come one after another are those by their places.
use Rattle.std.proofs.Common.{◌≡◌, ℕ, zero, suc, ◌+◌, ◌-◌, Bool, false, Option, Some, refl, sym, ap, ◌∙◌, add-one, arith}
use Rattle.std.proofs.lemmas.Bool.Decides.{nat_tests}
use Rattle.std.specs.Prelude.{◌==◌, if◌then◌else◌}
use Rattle.al_overload.specs.Labelling.{Label, NodeAs, Labels, NoLabel, MoreLabels}
use Rattle.al_overload_nodes.specs.OperandLabels.{labels_after, labels_from, next_label, operand_labels}
use Rattle.al_overload.specs.Labels.{nth_label, operand_label}

none_from : (k : ℕ) → labels_from k NoLabel ≡ NoLabel
none_from zero = refl
none_from (suc k) = ap labels_after (none_from k)

more_from : (k : ℕ) (l : Label) (more : Labels) → labels_from (suc k) (MoreLabels l more) ≡ labels_from k more
more_from zero l more = refl
more_from (suc k) l more = ap labels_after (more_from k l more)

suc_positive : (k : ℕ) → (suc k == 0) ≡ false
suc_positive k = grind (arith, nat_tests)

-- after the first
nth_after : (k : ℕ) (l : Label) (more : Labels) → nth_label (suc k) (MoreLabels l more) ≡ nth_label k more
nth_after k l more =
    let less : suc k - 1 ≡ k = omega arith in
    ap (λ (b : Bool). if b then Some l else nth_label (suc k - 1) more) (suc_positive k) ∙ ap (λ (j : ℕ). nth_label j more) less

nth_is_next : (k : ℕ) (ls : Labels) → nth_label k ls ≡ next_label (labels_from k ls)
nth_is_next k NoLabel = sym (ap next_label (none_from k))
nth_is_next zero (MoreLabels l more) = refl
nth_is_next (suc k) (MoreLabels l more) = nth_after k l more ∙ nth_is_next k more ∙ sym (ap next_label (more_from k l more))

operand_is_next : (k : ℕ) (label : Label) → operand_label k label ≡ next_label (labels_from k (operand_labels label))
operand_is_next k (NodeAs n root operands) = nth_is_next k operands

-- the next of those from the k-th on is the k-th
pub next_is : (k : ℕ) (label : Label) (labels : Labels) (one : Option Label) → labels ≡ labels_from k (operand_labels label) → one ≡ next_label labels → one ≡ operand_label k label
next_is k label labels one from is = is ∙ ap next_label from ∙ sym (operand_is_next k label)

-- and those after it are from the next on
pub after_is : (k : ℕ) (ls labels new : Labels) → labels ≡ labels_from k ls → new ≡ labels_after labels → new ≡ labels_from (k + 1) ls
after_is k ls labels new from is = is ∙ ap labels_after from ∙ ap (λ (j : ℕ). labels_from j ls) (sym (add-one k))
