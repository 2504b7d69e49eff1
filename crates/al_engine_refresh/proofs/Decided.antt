-- Whether a table agrees with a log can be decided.
use Rattle.std.proofs.Common.{◌≡◌, ◌⊎◌, inl, inr, [], ◌∷◌, refl, ◌∙◌, ap}
use Rattle.std.proofs.lemmas.Bool.Decides.{eqb_tells}
use base.Stored.{Gv, gnil, gnum, gcons, num}
use Rattle.al_query.specs.contracts.answer.AnswerKind as answer
use Rattle.al_query.specs.declared.answer.AnswerKind.{AnswerKind}
use Rattle.al_query.specs.Reads.{Agrees, Log, Table}

abbrev pub Decided : {X : Type 0} → X → X → Type 0
Decided a b = (a ≡ b) ⊎ (a ≡ b → ⊥)

left_of : Gv → Gv
left_of (gcons a b) = a
left_of _ = gnil

right_of : Gv → Gv
right_of (gcons a b) = b
right_of _ = gnil

codes_decided : (a b : Gv) → Decided a b
unfolding left_of right_of
codes_decided gnil gnil = inl refl
codes_decided gnil (gnum n) = inr (λ h. absurd (cc))
codes_decided gnil (gcons c d) = inr (λ h. absurd (cc))
codes_decided (gnum n) gnil = inr (λ h. absurd (cc))
codes_decided (gnum n) (gnum m) = elim (eqb_tells n m) as (λ _. Decided (gnum n) (gnum m)) [ inl w ↦ inl (ap gnum w.1) | inr w ↦ inr (λ h. w.1 (ap num h)) ]
codes_decided (gnum n) (gcons c d) = inr (λ h. absurd (cc))
codes_decided (gcons a b) gnil = inr (λ h. absurd (cc))
codes_decided (gcons a b) (gnum n) = inr (λ h. absurd (cc))
codes_decided (gcons a b) (gcons c d) = both (codes_decided a c) (codes_decided b d)
  where
    both : Decided a c → Decided b d → Decided (gcons a b) (gcons c d)
    both (inl h) (inl k) = inl (ap (λ x. gcons x b) h ∙ ap (λ x. gcons c x) k)
    both (inl h) (inr k) = inr (λ e. k (ap right_of e))
    both (inr h) k = inr (λ e. h (ap left_of e))

pub answers_decided : (a b : AnswerKind) → Decided a b
answers_decided a b = at (codes_decided (answer.the_row.coded.code a) (answer.the_row.coded.code b))
  where
    at : Decided (answer.the_row.coded.code a) (answer.the_row.coded.code b) → Decided a b
    at (inl h) = inl (answer.the_row.coded.inj a b h)
    at (inr h) = inr (λ e. h (ap answer.the_row.coded.code e))

pub agreeing : (t : Table) (log : Log) → Agrees t log ⊎ (Agrees t log → ⊥)
agreeing t [] = inl tt
agreeing t (e ∷ es) = both (answers_decided (t e.0) e.1) (agreeing t es)
  where
    both : Decided (t e.0) e.1 → Agrees t es ⊎ (Agrees t es → ⊥) → Agrees t (e ∷ es) ⊎ (Agrees t (e ∷ es) → ⊥)
    both (inl h) (inl k) = inl (h, k)
    both (inl h) (inr k) = inr (λ x. k x.1)
    both (inr h) k = inr (λ x. h x.0)
