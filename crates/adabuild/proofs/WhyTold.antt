-- What is printed of a unit's reasons, by the parts that it is made of.
use Rattle.std.proofs.Common.{ℕ, Bool, Option, ◌≡◌, ap, ◌∙◌}
use Rattle.al_engine.specs.declared.reasons.Reason.{Reason}
use Rattle.adabuild.specs.Why.{why_words}

pub same_words : (r s : Option Reason) (n m : Option ℕ) (b d : Bool) → r ≡ s → n ≡ m → b ≡ d → why_words r n b ≡ why_words s m d
same_words r s n m b d of counts there =
    ap (λ (x : Option Reason). why_words x n b) of
    ∙ ap (λ (x : Option ℕ). why_words s x b) counts
    ∙ ap (λ (x : Bool). why_words s m x) there
