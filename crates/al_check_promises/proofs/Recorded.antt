-- What comes of recorded answers alone.
use Rattle.std.proofs.Common.{◌≡◌, Bool, true, false, ◌⊎◌, inl, inr, List, [], ◌∷◌, ◌++◌, append_assoc, cond, Option, Some, None, refl, sym, ap, subst, ◌∙◌}
use Rattle.std.specs.Prelude.{unwrap_or}
use Rattle.std.specs.List.{Contains, flat_map}
use Rattle.al_base_graph.proofs.Members.{first, into_flat_map, later, nowhere}
use Rattle.al_view.specs.ViewUses.{view_uses}
use Rattle.al_view.specs.declared.link.LinkSymbol.{LinkSymbol}
use Rattle.al_view.specs.declared.view.ViewKind.{ViewKind}
use Rattle.al_query.specs.Queries.{same_query}
use Rattle.al_query.specs.QueryLaws.{same_query-one, same_query-self}
use Rattle.al_query.specs.Reads.{Agrees, Log, Table, recorded}
use Rattle.al_query.specs.declared.answer.AnswerKind.{AnswerKind}
use Rattle.al_query.specs.declared.query.Query.{Query}
use Rattle.al_query.specs.declared.query.Query.TheVariants.{Named, Of}
use Rattle.al_query.proofs.LogLemmas.{agrees-recorded}
use Rattle.al_query_outcome.specs.ReadsLaw.{answer_uses, log_uses}
use Rattle.al_query_outcome.specs.Tables.{no_answer}
use Rattle.al_check_promises.specs.Laws.{OnlyRecorded}
use Rattle.al_check_promises.specs.Shown.{only_recorded}

-- ---- the table that knows only what was recorded agrees with the log

-- an entry's question is recorded
there : (pre es : Log) (q : Query) (a : AnswerKind) → (o : AnswerKind) × (recorded (pre ++ (q, a) ∷ es) q ≡ Some o)
there [] es q a = (a, ap (λ (b : Bool). cond b (Some a) (recorded es q)) (same_query-self q))
there (e ∷ pre) es q a = by (same_query q e.0) (there pre es q a)
  where
    by : (b : Bool) → (o : AnswerKind) × (recorded (pre ++ (q, a) ∷ es) q ≡ Some o) → (o : AnswerKind) × (cond b (Some e.1) (recorded (pre ++ (q, a) ∷ es) q) ≡ Some o)
    by true later = (e.1, refl)
    by false later = later

agrees_rest : (t : Table) (pre es : Log) → Agrees t (pre ++ es) → Agrees t es → Agrees (only_recorded (pre ++ es)) es
agrees_rest t pre [] all rest = tt
agrees_rest t pre (e ∷ es) all rest =
    let r = there pre es e.0 e.1 in
    let is : t e.0 ≡ r.0 = agrees-recorded t (pre ++ e ∷ es) e.0 r.0 all r.1 in (
      ap (λ (o : Option AnswerKind). unwrap_or o (no_answer e.0)) r.1 ∙ sym is ∙ rest.0,
      subst (λ (log : Log). Agrees (only_recorded log) es) (append_assoc pre (e ∷ []) es)
          (agrees_rest t (pre ++ e ∷ []) es (subst (λ (log : Log). Agrees t log) (sym (append_assoc pre (e ∷ []) es)) all) rest.1),
    )

pub agrees : (t : Table) (log : Log) → Agrees t log → Agrees (only_recorded log) log
agrees t log a = agrees_rest t [] log a a

-- ---- what it answers is in the log

recorded_or_not : (log : Log) (q : Query) → (recorded log q ≡ None) ⊎ ((a : AnswerKind) × (recorded log q ≡ Some a))
recorded_or_not log q = by (recorded log q) refl
  where
    by : (o : Option AnswerKind) → recorded log q ≡ o → (recorded log q ≡ None) ⊎ ((a : AnswerKind) × (recorded log q ≡ Some a))
    by None is = inl is
    by (Some a) is = inr (a, is)

entry : (log : Log) (q : Query) (a : AnswerKind) → recorded log q ≡ Some a → Contains log (q, a)
entry [] q a h = absurd (cc)
entry (e ∷ es) q a h = by (same_query q e.0) refl h (entry es q a)
  where
    by : (b : Bool) → same_query q e.0 ≡ b → cond b (Some e.1) (recorded es q) ≡ Some a → (recorded es q ≡ Some a → Contains es (q, a)) → Contains (e ∷ es) (q, a)
    by true is h after =
        let same : e.1 ≡ a = cc in
        let whole : e ≡ (q, a) = ap (λ (x : Query). (x, e.1)) (sym (same_query-one q e.0 is)) ∙ ap (λ (y : AnswerKind). (q, y)) same in
        subst (λ (x : Query × AnswerKind). Contains (e ∷ es) x) whole (first e es)
    by false is h after = later e es (q, a) (after h)

nothing_used : (q : Query) (x : LinkSymbol) → Contains (answer_uses (no_answer q)) x → ⊥
unfolding answer_uses
nothing_used (Named unit part name) x c = nowhere x c
nothing_used (Of unit property) x c = nowhere x c

pub used_by_log : (log : Log) (q : Query) (x : LinkSymbol) → Contains (answer_uses (only_recorded log q)) x → Contains (log_uses log) x
unfolding log_uses
used_by_log log q x c =
    elim (recorded_or_not log q) [
      | inl none ↦ absurd (nothing_used q x (subst (λ (o : Option AnswerKind). Contains (answer_uses (unwrap_or o (no_answer q))) x) none c))
      | inr some ↦ into_flat_map (λ (e : Query × AnswerKind). answer_uses e.1) log (q, some.0) x (entry log q some.0 some.1) (subst (λ (o : Option AnswerKind). Contains (answer_uses (unwrap_or o (no_answer q))) x) some.1 c)
    ]

pub only : OnlyRecorded
only unit log t views shown agree answered come =
    let v = only_recorded log in
    let is : shown ≡ views v = answered v (agrees t log agree) in
    λ x c. elim (come v x (subst (λ (ws : List ViewKind). Contains (flat_map view_uses ws) x) is c)) [ inl own ↦ inl own | inr q ↦ inr (used_by_log log q.0 x q.1) ]
