use Rattle.std.proofs.Common.{◌≡◌, ◌∙◌, ◌++◌, ℕ, List, ap, append_assoc, codes, decimal}
use Rattle.adabuild.proofs.why.add_several.Goals as goal

all_added : (old a b c : List ℕ) → ((old ++ a) ++ b) ++ c ≡ old ++ ((a ++ b) ++ c)
all_added old a b c = simp append_assoc

pub returns : goal.returns
returns c =
    c.in_ok-add-3.ensures
    ∙ ap (λ (l : List ℕ). l ++ codes " answers that it asked for has changed") (c.in_ok-add-2.ensures ∙ ap (λ (l : List ℕ). l ++ c.as_bytes.result.now) c.in_ok-add.ensures)
    ∙ ap (λ (d : List ℕ). ((c.args.text.now.items ++ codes "not checked: none of the ") ++ d) ++ codes " answers that it asked for has changed") (c.as_bytes.ensures.value ∙ c.format.ensures.text)
    ∙ all_added c.args.text.now.items (codes "not checked: none of the ") (decimal c.args.count) (codes " answers that it asked for has changed")
