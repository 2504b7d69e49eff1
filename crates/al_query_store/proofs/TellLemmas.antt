-- What marks tell, place by place.
use Rattle.std.proofs.Common.{◌≡◌, ℕ, zero, suc, Bool, true, false, List, [], ◌∷◌, Some, refl, sym, ◌∙◌, subst, length, slice_get, arith}
use Rattle.al_base.specs.declared.unit_key.UnitKey.{UnitKey}
use Rattle.al_view.specs.Symbols.{same_unit}
use Rattle.al_query.specs.Queries.{unit_of}
use Rattle.al_query.specs.declared.answer.AnswerKind.{AnswerKind}
use Rattle.al_query.specs.declared.query.Query.{Query}
use Rattle.al_query_store.specs.Marking.{MarksTell, Tells}
use Rattle.al_query_store.specs.Changes.{AreCompared}

abbrev pub MarkTells : (Query → AnswerKind) → Query × AnswerKind → List Bool → ℕ → Type 0
MarkTells t e marks i = (differs : Bool) × (slice_get marks i ≡ Some differs) × Tells t e differs

tell-at : (t : Query → AnswerKind) (log : List (Query × AnswerKind)) (marks : List Bool) → MarksTell t log marks → (i : ℕ) (e : Query × AnswerKind) → slice_get log i ≡ Some e → MarkTells t e marks i
tell-at t [] marks m i e at = absurd (cc)
tell-at t (f ∷ log) [] m i e at = absurd m
tell-at t (f ∷ log) (d ∷ marks) m zero e at = let same : f ≡ e = cc in (d, refl, subst (λ (x : Query × AnswerKind). Tells t x d) same m.0)
tell-at t (f ∷ log) (d ∷ marks) m (suc i) e at = tell-at t log marks m.1 i e at

one_mark : (d b : Bool) → Some d ≡ Some b → b ≡ d
one_mark d b e = cc

tell-by : (t : Query → AnswerKind) (log : List (Query × AnswerKind)) (marks : List Bool) → length marks ≡ length log → ((i : ℕ) (e : Query × AnswerKind) → slice_get log i ≡ Some e → MarkTells t e marks i) → MarksTell t log marks
tell-by t [] [] sized answered = tt
tell-by t [] (d ∷ marks) sized answered = absurd (omega (arith, sized))
tell-by t (e ∷ log) [] sized answered = absurd (omega (arith, sized))
tell-by t (e ∷ log) (d ∷ marks) sized answered =
    let first = answered 0 e refl in
    (subst (λ (b : Bool). Tells t e b) (one_mark d first.0 first.1) first.2, tell-by t log marks (omega (arith, sized)) (λ i f at. answered (suc i) f at))

-- a table that gives a question the same answer
tells-moved : (t now : Query → AnswerKind) (e : Query × AnswerKind) (d : Bool) → now e.0 ≡ t e.0 → Tells t e d → Tells now e d
tells-moved t now e d same tells = (λ h. same ∙ tells.0 h, λ h. tells.1 (sym same ∙ h))

-- marks of which those of a unit's answers were compared
pub tells-follow : (t answered now : Query → AnswerKind) (unit : UnitKey) (log : List (Query × AnswerKind)) (old new : List Bool) → MarksTell t log old → AreCompared answered unit log old new → ((q : Query) → same_unit (unit_of q) unit ≡ true → now q ≡ answered q) → ((q : Query) → same_unit (unit_of q) unit ≡ false → now q ≡ t q) → MarksTell now log new
tells-follow t answered now unit log old new m c of_unit others = tell-by now log new c.sized (λ i e at. by i e at (same_unit (unit_of e.0) unit) refl)
  where
    by : (i : ℕ) (e : Query × AnswerKind) → slice_get log i ≡ Some e → (b : Bool) → same_unit (unit_of e.0) unit ≡ b → MarkTells now e new i
    by i e at true is = let d = c.answered i e at is in (d.0, d.1, tells-moved answered now e d.0 (of_unit e.0 is) d.2)
    by i e at false is = let d = tell-at t log old m i e at in (d.0, c.left i e at is ∙ d.1, tells-moved t now e d.0 (others e.0 is) d.2)

-- of another table that answers alike
pub tells-alike : (t now : Query → AnswerKind) (log : List (Query × AnswerKind)) (marks : List Bool) → ((q : Query) → now q ≡ t q) → MarksTell t log marks → MarksTell now log marks
tells-alike t now [] [] same m = tt
tells-alike t now [] (d ∷ marks) same m = absurd m
tells-alike t now (e ∷ log) [] same m = absurd m
tells-alike t now (e ∷ log) (d ∷ marks) same m = (tells-moved t now e d (same e.0) m.0, tells-alike t now log marks same m.1)
