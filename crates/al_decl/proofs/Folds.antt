-- Loops over what is declared.
use Rattle.std.proofs.Common.{◌≡◌, ℕ, ◌+◌, ◌<◌, List, length, take, get_or, sym, ap, ◌∙◌}
use Rattle.std.specs.Prelude.{fold}
use Rattle.std.proofs.lemmas.List.Sums.{fold_more}

-- after one more turn
pub folded : {X Y : Type 0} (f : Y → X → Y) (start before after : Y) (xs : List X) (i : ℕ) (x : X) → i < length xs → x ≡ get_or xs i x → before ≡ fold f start (take i xs) → after ≡ f before x → after ≡ fold f start (take (i + 1) xs)
folded f start before after xs i x h e b a =
    a ∙ ap (λ y. f y x) b ∙ ap (f (fold f start (take i xs))) e ∙ sym (fold_more f start xs i x h)
