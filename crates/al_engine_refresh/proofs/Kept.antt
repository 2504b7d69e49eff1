-- What entries keep, as a checker that keeps the reads law whatever the table: if a table agrees with a unit's log, the outcome is the entry's; if
-- it doesn't, any outcome will do.
use Rattle.std.proofs.Common.{◌≡◌, ◌⊎◌, inl, inr, ℕ, Bool, true, false, List, [], ◌∷◌, ◌++◌, Option, Some, None, refl, sym, ◌∙◌, ap, subst}
use Rattle.std.specs.List.{list_all}
use Rattle.std.specs.Str.{bytes_eq}
use Rattle.std.proofs.lemmas.Slice.Eq.{bytes_eq-Decides}
use Rattle.al_base.specs.declared.unit_key.UnitKey.{UnitKey}
use Rattle.al_view.proofs.SymbolLemmas.{both, and_both}
use Rattle.al_query.specs.Known.{Grounded, known_after, learned}
use Rattle.al_query.specs.Reads.{Agrees, Log, Table}
use Rattle.al_query.specs.declared.answer.AnswerKind.{AnswerKind}
use Rattle.al_query.specs.declared.query.Query.{Query}
use Rattle.al_unit_graph.specs.Headers.{Header}
use Rattle.al_query_outcome.specs.Equations.{KeepsReads, Meaning}
use Rattle.al_query_outcome.specs.ReadsLaw.{AsksOthers, NamesOnly, is_of_another, named_by, outcome_units}
use Rattle.al_query_outcome.specs.Results.{Outcome, Faulty}
use Rattle.al_engine_refresh.specs.EntryLaw.{AllKeepLaw, IsCurrent, KeepsLaw, TextMeaning}
use Rattle.al_engine_refresh.specs.Stored.{Stored, outcome_of}
use Rattle.al_engine_refresh.proofs.Decided.{Decided, agreeing, answers_decided}

-- the questions of a log to the first whose answer differs, with a table's answers
head_by : (t : Table) (e : Query × AnswerKind) → Log → Decided (t e.0) e.1 → Log
head_by t e rest (inl h) = (e.0, t e.0) ∷ rest
head_by t e rest (inr h) = (e.0, t e.0) ∷ []

heard : Table → Log → Log
unfolding head_by
heard t [] = []
heard t (e ∷ es) = head_by t e (heard t es) (answers_decided (t e.0) e.1)

heard-agrees : (t : Table) (log : Log) → Agrees t (heard t log)
unfolding heard head_by
heard-agrees t [] = tt
heard-agrees t (e ∷ es) = at (answers_decided (t e.0) e.1) (heard-agrees t es)
  where
    at : (d : Decided (t e.0) e.1) → Agrees t (heard t es) → Agrees t (head_by t e (heard t es) d)
    at (inl h) rest = (refl, rest)
    at (inr h) rest = (refl, tt)

heard-same : (t : Table) (log : Log) → Agrees t log → heard t log ≡ log
unfolding heard head_by
heard-same t [] a = refl
heard-same t (e ∷ es) a = at (answers_decided (t e.0) e.1) (heard-same t es a.1)
  where
    at : (d : Decided (t e.0) e.1) → heard t es ≡ es → head_by t e (heard t es) d ≡ e ∷ es
    at (inl h) rest = ap (λ (x : AnswerKind). (e.0, x) ∷ heard t es) h ∙ ap (λ (l : Log). e ∷ l) rest
    at (inr h) rest = absurd (h a.0)

heard-decides : (t v : Table) (log : Log) → Agrees v (heard t log) → (Agrees t log → Agrees v log) × (Agrees v log → Agrees t log)
unfolding heard head_by
heard-decides t v [] h = (λ a. tt, λ a. tt)
heard-decides t v (e ∷ es) h = at (answers_decided (t e.0) e.1) h (heard-decides t v es)
  where
    at : (d : Decided (t e.0) e.1) → Agrees v (head_by t e (heard t es) d) → (Agrees v (heard t es) → (Agrees t es → Agrees v es) × (Agrees v es → Agrees t es)) → (Agrees t (e ∷ es) → Agrees v (e ∷ es)) × (Agrees v (e ∷ es) → Agrees t (e ∷ es))
    at (inl k) h rest = (λ a. (h.0 ∙ k, (rest h.1).0 a.1), λ a. (k, (rest h.1).1 a.1))
    at (inr k) h rest = (λ a. absurd (k a.0), λ a. absurd (k (sym h.0 ∙ a.0)))

heard-grounded : (t : Table) (known : List UnitKey) (log : Log) → Grounded known log → Grounded known (heard t log)
unfolding heard head_by
heard-grounded t known [] g = tt
heard-grounded t known (e ∷ es) g = at (answers_decided (t e.0) e.1) (heard-grounded t (known ++ learned e.0 e.1) es g.1)
  where
    at : (d : Decided (t e.0) e.1) → Grounded (known ++ learned e.0 e.1) (heard t es) → Grounded known (head_by t e (heard t es) d)
    at (inl k) rest = (g.0, subst (λ (a : AnswerKind). Grounded (known ++ learned e.0 a) (heard t es)) (sym k) rest)
    at (inr k) rest = (g.0, tt)

heard-others : (t : Table) (u : UnitKey) (log : Log) → AsksOthers u log → AsksOthers u (heard t log)
unfolding heard head_by
heard-others t u [] o = refl
heard-others t u (e ∷ es) o =
    let two = both (is_of_another u e.0) (list_all (λ (x : Query × AnswerKind). is_of_another u x.0) es) o in
    at (answers_decided (t e.0) e.1) two.0 (heard-others t u es two.1)
  where
    at : (d : Decided (t e.0) e.1) → is_of_another u e.0 ≡ true → AsksOthers u (heard t es) → AsksOthers u (head_by t e (heard t es) d)
    at (inl k) first rest = and_both (is_of_another u e.0) (list_all (λ (x : Query × AnswerKind). is_of_another u x.0) (heard t es)) first rest
    at (inr k) first rest = and_both (is_of_another u e.0) true first refl

-- the outcome of an entry, if a table agrees with its log
abbrev by_log : Outcome → (log : Log) (t : Table) → Agrees t log ⊎ (Agrees t log → ⊥) → Outcome
by_log o log t (inl a) = o
by_log o log t (inr n) = Faulty []

abbrev by_text : Stored → Table → Bool → Outcome
by_text e t true = by_log (outcome_of e) e.log t (agreeing t e.log)
by_text e t false = Faulty []

abbrev outcome_by : Option Stored → List ℕ → Table → Outcome
outcome_by None text t = Faulty []
outcome_by (Some e) text t = by_text e t (bytes_eq e.text text)

-- the outcomes of entries, for these sources
abbrev pub kept : (UnitKey → Option Stored) → (UnitKey → List ℕ) → Meaning
kept at texts u t = outcome_by (at u) (texts u) t

pub current-kept : (e : Stored) (o : Option Stored) (text : List ℕ) (t : Table) → o ≡ Some e → IsCurrent e text t → outcome_by o text t ≡ outcome_of e
current-kept e o text t is c =
    ap (λ (x : Option Stored). outcome_by x text t) is
    ∙ ap (by_text e t) ((bytes_eq-Decides e.text text).1 c.0)
    ∙ agreed (agreeing t e.log)
  where
    agreed : (d : Agrees t e.log ⊎ (Agrees t e.log → ⊥)) → by_log (outcome_of e) e.log t d ≡ outcome_of e
    agreed (inl a) = refl
    agreed (inr n) = absurd (n c.1)

-- a check whose outcome this is
abbrev CheckOf : UnitKey → Header → Table → (Table → Outcome) → Type 0
CheckOf u h t o = (log : Log) × Agrees t log × ((v : Table) → Agrees v log → o t ≡ o v) × AsksOthers u log × Grounded (named_by h) log × NamesOnly (u ∷ known_after (named_by h) log) (o t)

names-none : (units : List UnitKey) → NamesOnly units (Faulty [])
unfolding outcome_units
names-none units = refl

module _ (meaning : TextMeaning) (header : List ℕ → Header) (u : UnitKey) where
  no_check : (h : Header) (t : Table) → CheckOf u h t (λ v. Faulty [])
  no_check h t = ([], tt, λ v a. refl, refl, tt, names-none (u ∷ known_after (named_by h) []))

  entry_check : (e : Stored) → KeepsLaw meaning header u e → (text : List ℕ) → e.text ≡ text → (t : Table) → CheckOf u (header text) t (λ v. by_log (outcome_of e) e.log v (agreeing v e.log))
  entry_check e k text is t = (
    heard t e.log,
    heard-agrees t e.log,
    λ v a. alike v (heard-decides t v e.log a) (agreeing t e.log) (agreeing v e.log),
    heard-others t u e.log k.others,
    subst (λ (x : List ℕ). Grounded (named_by (header x)) (heard t e.log)) is (heard-grounded t (named_by (header e.text)) e.log k.grounded),
    subst (λ (x : List ℕ). NamesOnly (u ∷ known_after (named_by (header x)) (heard t e.log)) (by_log (outcome_of e) e.log t (agreeing t e.log))) is (names (agreeing t e.log)),
  )
    where
      alike : (v : Table) → (Agrees t e.log → Agrees v e.log) × (Agrees v e.log → Agrees t e.log) → (c : Agrees t e.log ⊎ (Agrees t e.log → ⊥)) (d : Agrees v e.log ⊎ (Agrees v e.log → ⊥)) → by_log (outcome_of e) e.log t c ≡ by_log (outcome_of e) e.log v d
      alike v w (inl a) (inl b) = refl
      alike v w (inl a) (inr n) = absurd (n (w.0 a))
      alike v w (inr n) (inl b) = absurd (n (w.1 b))
      alike v w (inr n) (inr m) = refl

      names : (c : Agrees t e.log ⊎ (Agrees t e.log → ⊥)) → NamesOnly (u ∷ known_after (named_by (header e.text)) (heard t e.log)) (by_log (outcome_of e) e.log t c)
      names (inl a) = subst (λ (l : Log). NamesOnly (u ∷ known_after (named_by (header e.text)) l) (outcome_of e)) (sym (heard-same t e.log a)) k.names
      names (inr n) = names-none (u ∷ known_after (named_by (header e.text)) (heard t e.log))

  checked_by : (e : Stored) → KeepsLaw meaning header u e → (text : List ℕ) (t : Table) (b : Bool) → bytes_eq e.text text ≡ b → CheckOf u (header text) t (λ v. by_text e v b)
  checked_by e k text t true is = entry_check e k text ((bytes_eq-Decides e.text text).0 is) t
  checked_by e k text t false is = no_check (header text) t

  any_check : (o : Option Stored) → ((e : Stored) → o ≡ Some e → KeepsLaw meaning header u e) → (text : List ℕ) (t : Table) → CheckOf u (header text) t (λ v. outcome_by o text v)
  any_check None k text t = no_check (header text) t
  any_check (Some e) k text t = checked_by e (k e refl) text t (bytes_eq e.text text) refl

  -- if an entry is used, its log is the check's
  log_by : (e : Stored) (k : KeepsLaw meaning header u e) (text : List ℕ) (t : Table) (b : Bool) (is : bytes_eq e.text text ≡ b) → b ≡ true → Agrees t e.log → (checked_by e k text t b is).0 ≡ e.log
  unfolding checked_by entry_check
  log_by e k text t true is used a = heard-same t e.log a
  log_by e k text t false is used a = absurd (cc)

  log_of : (o : Option Stored) (k : (e : Stored) → o ≡ Some e → KeepsLaw meaning header u e) (text : List ℕ) (t : Table) (e : Stored) → o ≡ Some e → IsCurrent e text t → (any_check o k text t).0 ≡ e.log
  unfolding any_check
  log_of None k text t e is c = absurd (cc)
  log_of (Some x) k text t e is c =
      let same : x ≡ e = cc in
      let d : IsCurrent x text t = subst (λ (y : Stored). IsCurrent y text t) (sym same) c in
      log_by x (k x refl) text t (bytes_eq x.text text) refl ((bytes_eq-Decides x.text text).1 d.0) d.1 ∙ ap (λ (y : Stored). y.log) same

pub kept-keeps : (meaning : TextMeaning) (header : List ℕ → Header) (at : UnitKey → Option Stored) (texts : UnitKey → List ℕ) → AllKeepLaw meaning header at → KeepsReads (kept at texts) (λ u. header (texts u))
kept-keeps meaning header at texts law u t =
    let c = any_check meaning header u (at u) (law u) (texts u) t in
    record { log = c.0; agrees = c.1; reads = c.2; others = c.3; grounded = c.4; names = c.5 }

-- for an entry for the source whose answers a table gives, the check has the log
pub kept-log : (meaning : TextMeaning) (header : List ℕ → Header) (at : UnitKey → Option Stored) (texts : UnitKey → List ℕ) (law : AllKeepLaw meaning header at) (u : UnitKey) (t : Table) (e : Stored) → at u ≡ Some e → IsCurrent e (texts u) t → (kept-keeps meaning header at texts law u t).log ≡ e.log
unfolding kept-keeps
kept-log meaning header at texts law u t e is c = log_of meaning header u (at u) (law u) (texts u) t e is c
