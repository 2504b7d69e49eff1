-- One unit more in a loop over an order, and one check more.
use Rattle.std.proofs.Common.{◌≡◌, ℕ, ◌+◌, ◌<◌, ◌^◌, Bool, List, [], ◌∷◌, ◌++◌, Option, length, length-append, sym, ◌∙◌, ap, subst, take, drop, get_or, add-one, arith}
use Rattle.std.proofs.lemmas.Bool.Decides.{nat_tests}
use Rattle.al_base.specs.declared.unit_key.UnitKey.{UnitKey}
use Rattle.al_query.specs.declared.answer.AnswerKind.{AnswerKind}
use Rattle.al_query.specs.declared.query.Query.{Query}
use Rattle.al_unit_graph.specs.Headers.{Header}
use Rattle.al_base_shortage.specs.Counts.{one_more}
use Rattle.al_engine_refresh.specs.EntryLaw.{TextMeaning}
use Rattle.al_engine_refresh.specs.Stored.{Stored}
use Rattle.std.proofs.lemmas.List.{take_more}
use Rattle.std.proofs.Math.Seq.{drop-cons}
use Rattle.al_engine_refresh.specs.Builds.{raised}
use Rattle.al_engine_refresh.specs.Handling.{Handled, passed, used, rechecked, SoFar}

one_more-raised : (n k : ℕ) → one_more (raised n k) ≡ raised n (k + 1)
one_more-raised n k = grind (arith, nat_tests)

pub raised-none : (n : ℕ) → n < 2 ^ 64 → n ≡ raised n 0
raised-none n h = grind (arith, nat_tests)

pub counts : (meaning : TextMeaning) (header : List ℕ → Header) (u : UnitKey) (text : List ℕ) (b : Bool) (t : Query → AnswerKind) (o : Option Stored) (before after : SoFar) (first : ℕ) → Handled meaning header u text b t o before after → before.count ≡ raised first (length before.checked) → after.count ≡ raised first (length after.checked)
counts meaning header u text b t o before after first (passed r s c n) h = n ∙ h ∙ ap (λ (l : List UnitKey). raised first (length l)) (sym c)
counts meaning header u text b t o before after first (used r e i k m c n) h = n ∙ h ∙ ap (λ (l : List UnitKey). raised first (length l)) (sym c)
counts meaning header u text b t o before after first (rechecked r m e k i w c n) h =
    let len : length after.checked ≡ length before.checked + 1 = ap length c ∙ length-append before.checked (u ∷ []) in
    n ∙ ap one_more h ∙ one_more-raised first (length before.checked) ∙ ap (raised first) (sym len)

-- the unit at a place of an order
pub rest-at : (order : List UnitKey) (i : ℕ) (unit : UnitKey) → i < length order → unit ≡ get_or order i unit → drop i order ≡ unit ∷ drop (i + 1) order
rest-at order i unit h is =
    let one : drop i order ≡ get_or order i unit ∷ drop (i + 1) order = rw add-one (drop-cons order i unit h) in
    one ∙ ap (λ (x : UnitKey). x ∷ drop (i + 1) order) (sym is)

pub done-at : (order : List UnitKey) (i : ℕ) (unit : UnitKey) → i < length order → unit ≡ get_or order i unit → take (i + 1) order ≡ take i order ++ unit ∷ []
done-at order i unit h is = take_more order i unit h ∙ ap (λ (x : UnitKey). take i order ++ x ∷ []) (sym is)

-- before the first check
pub count-start : (n b : ℕ) (checked : List UnitKey) → b ≡ n → b < 2 ^ 64 → checked ≡ [] → n ≡ raised n (length checked)
count-start n b checked e h c = raised-none n (subst (λ (x : ℕ). x < 2 ^ 64) e h) ∙ ap (λ (l : List UnitKey). raised n (length l)) (sym c)
