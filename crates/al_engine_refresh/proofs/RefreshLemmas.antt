-- A build in progress over a store: units that aren't done are reached as by the last build, and those out of the order have no entry of now.
use Rattle.std.proofs.Common.{◌≡◌, inl, inr, ◌++◌, ◌||◌, ℕ, ◌+◌, ◌<◌, Bool, true, false, List, [], ◌∷◌, Option, None, append_assoc, length, take, drop, get_or, refl, sym, ◌∙◌, ap, subst, if◌then◌else◌}
use Rattle.std.specs.Option.{option_map}
use Rattle.std.proofs.lemmas.Bool.{true≢false}
use Rattle.std.proofs.lemmas.List.{take-append-drop}
use Rattle.std.proofs.lemmas.List.Folds.{list_any-append}
use Rattle.al_base.specs.declared.unit_key.UnitKey.{UnitKey}
use Rattle.al_view.specs.Symbols.{same_unit}
use Rattle.al_view.proofs.SymbolLemmas.{same_unit-one}
use Rattle.al_query.specs.Known.{has_unit}
use Rattle.al_query.specs.declared.answer.AnswerKind.{AnswerKind}
use Rattle.al_query.specs.declared.query.Query.{Query}
use Rattle.al_query_outcome.specs.Equations.{IsSetting, Setting}
use Rattle.al_query_store.specs.Keyed.{State, entry_of, first_of, now_at, settled_at, state}
use Rattle.al_unit_graph.specs.Headers.{Header, Library}
use Rattle.al_engine_refresh.specs.EntryLaw.{AllKeepLaw, TextMeaning}
use Rattle.al_engine_refresh.specs.Stored.{Stored, outcome_of}
use Rattle.al_engine_refresh.specs.Moves.{Entries, IsLeft}
use Rattle.al_engine_refresh.specs.Builds.{IsBuilt, IsOrder, StandsAfter, has_sound_dependences, results_of, setting, text_of}
use Rattle.al_engine_refresh.specs.Handling.{Handled, SoFar, within}
use Rattle.al_engine_refresh.specs.Moving.{now_table}
use Rattle.al_engine_refresh.specs.Progress.{Fits, Progress}
use Rattle.al_engine_refresh.proofs.BuildLemmas.{finish, next-by}
use Rattle.al_engine_refresh.proofs.Following.{entry-base}
use Rattle.al_engine_refresh.proofs.LoopLemmas.{done-at, rest-at}

-- a unit that isn't reached has no entry of now
pub unreached-none : (store : Entries) (u : UnitKey) → (state store u).is_reached ≡ false → now_at store u ≡ None
unreached-none store u e = ap (λ (b : Bool). if b then first_of (entry_of (state store u).made) (entry_of (state store u).settled) else None) e

-- what is settled stays if it is left as it is
pub settled-left : (old new : Entries) → IsLeft old new → (u : UnitKey) → settled_at new u ≡ settled_at old u
settled-left old new left u = sym (entry-base (state new u).settled) ∙ ap (λ (s : State Stored). entry_of s.settled) (left u) ∙ entry-base (state old u).settled

pub handled-left : (meaning : TextMeaning) (header : List ℕ → Header) (u : UnitKey) (text : List ℕ) (b : Bool) (t : Query → AnswerKind) (old now : Option Stored) (before after : SoFar) → now ≡ old → Handled meaning header u text b t now before after → Handled meaning header u text b t old before after
handled-left meaning header u text b t old now before after same = subst (λ (o : Option Stored). Handled meaning header u text b t o before after) same

module _ (meaning : TextMeaning) (header : List ℕ → Header) (lib : Library) (fl : UnitKey → Bool) (pre : Query → AnswerKind) (is : IsSetting (setting header lib fl pre)) (old : UnitKey → Option Stored) where
  abbrev S : Setting
  S = setting header lib fl pre

  in_order : (rank : UnitKey → ℕ) (before rest : List UnitKey) → StandsAfter S rank before rest → (u : UnitKey) → has_unit rest u ≡ true → fl u ≡ true
  in_order rank before [] after u h = absurd (true≢false (sym h))
  in_order rank before (v ∷ rest) after u h = by (same_unit u v) refl h (in_order rank (before ++ v ∷ []) rest after.3 u)
    where
      by : (b : Bool) → same_unit u v ≡ b → (b || has_unit rest u) ≡ true → (has_unit rest u ≡ true → fl u ≡ true) → fl u ≡ true
      by true e k later = subst (λ (x : UnitKey). fl x ≡ true) (sym (same_unit-one u v e)) after.1
      by false e k later = later k

  module _ (store : Entries) (done rest checked : List UnitKey) (p : Progress meaning header lib fl pre is old (within done (now_at store)) done rest checked) (out : (u : UnitKey) → has_unit (done ++ rest) u ≡ false → now_at store u ≡ None) where
    not_ordered : (d : UnitKey) → fl d ≡ false → has_unit (done ++ rest) d ≡ false
    not_ordered d f = by (has_unit done d) refl (has_unit rest d) refl
      where
        by : (a : Bool) → has_unit done d ≡ a → (b : Bool) → has_unit rest d ≡ b → has_unit (done ++ rest) d ≡ false
        by true a b k = absurd (true≢false (sym (p.there d a) ∙ f))
        by false a true k = absurd (true≢false (sym (in_order is.rank done rest p.ordered d k) ∙ f))
        by false a false k = list_any-append (same_unit d) done rest ∙ ap (λ (b : Bool). b || has_unit rest d) a ∙ k

    -- what is reached now fits the units that are done
    pub fits-now : Fits meaning header lib fl pre is old (within done (now_at store)) done (results_of (now_at store))
    fits-now d (inl m) = sym (ap (λ (b : Bool). option_map outcome_of (if b then now_at store d else None)) m)
    fits-now d (inr f) =
        ap (option_map outcome_of) (out d (not_ordered d f))
        ∙ sym (ap (λ (b : Bool). option_map outcome_of (if b then now_at store d else None)) (not_done (has_unit done d) refl))
      where
        not_done : (b : Bool) → has_unit done d ≡ b → has_unit done d ≡ false
        not_done false e = e
        not_done true e = absurd (true≢false (sym (p.there d e) ∙ f))

  -- one unit more
  pub next-now : (store new : Entries) (done rest checked more : List UnitKey) (u : UnitKey) → (p : Progress meaning header lib fl pre is old (within done (now_at store)) done (u ∷ rest) checked) → ((v : UnitKey) → has_unit (done ++ u ∷ rest) v ≡ false → now_at store v ≡ None) → AllKeepLaw meaning header old → (count after : ℕ)
      → Handled meaning header u (text_of lib u) (has_sound_dependences lib (results_of (now_at store)) u) (now_table pre store) (old u) (record { at = within done (now_at store); checked = checked; count = count }) (record { at = within (done ++ u ∷ []) (now_at new); checked = more; count = after })
      → Progress meaning header lib fl pre is old (within (done ++ u ∷ []) (now_at new)) (done ++ u ∷ []) rest more
  next-now store new done rest checked more u p out laws count after handled =
      next-by meaning header lib fl pre is old (within done (now_at store)) (within (done ++ u ∷ []) (now_at new)) done rest checked more u p laws (results_of (now_at store)) (fits-now store done (u ∷ rest) checked p out) count after handled

  -- one unit more of an order that comes after others
  pub next-rest : (store new : Entries) (before order checked more : List UnitKey) (i : ℕ) (u : UnitKey) → i < length order → u ≡ get_or order i u → ((v : UnitKey) → has_unit (before ++ order) v ≡ false → now_at store v ≡ None) → AllKeepLaw meaning header old
      → Progress meaning header lib fl pre is old (within (before ++ take i order) (now_at store)) (before ++ take i order) (drop i order) checked → (count after : ℕ)
      → (has_unit (before ++ take i order) u ≡ false
      → Handled meaning header u (text_of lib u) (has_sound_dependences lib (results_of (now_at store)) u) (now_table pre store) (old u) (record { at = within (before ++ take i order) (now_at store); checked = checked; count = count }) (record { at = within ((before ++ take i order) ++ u ∷ []) (now_at new); checked = more; count = after }))
      → Progress meaning header lib fl pre is old (within (before ++ take (i + 1) order) (now_at new)) (before ++ take (i + 1) order) (drop (i + 1) order) more
  next-rest store new before order checked more i u less at out laws p count after handled =
      let done = before ++ take i order in
      let rest = drop (i + 1) order in
      let now : drop i order ≡ u ∷ rest = rest-at order i u less at in
      let q = subst (λ (us : List UnitKey). Progress meaning header lib fl pre is old (within done (now_at store)) done us checked) now p in
      let joined : done ++ u ∷ rest ≡ before ++ order = append_assoc before (take i order) (u ∷ rest) ∙ ap (λ (us : List UnitKey). before ++ (take i order ++ us)) (sym now) ∙ ap (λ (us : List UnitKey). before ++ us) (take-append-drop i order) in
      let step = next-now store new done rest checked more u q (λ v h. out v (sym (ap (λ (us : List UnitKey). has_unit us v) joined) ∙ h)) laws count after (handled q.ordered.0) in
      subst (λ (us : List UnitKey). Progress meaning header lib fl pre is old (within us (now_at new)) us rest more) (append_assoc before (take i order) (u ∷ []) ∙ ap (λ (us : List UnitKey). before ++ us) (sym (done-at order i u less at))) step

  -- in the end all that have an entry are in the order
  pub whole-now : (store : Entries) (order : List UnitKey) → ((u : UnitKey) → has_unit order u ≡ false → now_at store u ≡ None) → (u : UnitKey) → within order (now_at store) u ≡ now_at store u
  whole-now store order out u = by (has_unit order u) refl
    where
      by : (b : Bool) → has_unit order u ≡ b → within order (now_at store) u ≡ now_at store u
      by true e = ap (λ (b : Bool). if b then now_at store u else None) e
      by false e = ap (λ (b : Bool). if b then now_at store u else None) e ∙ sym (out u e)

  -- if all units are done, the build is what it should be
  pub built-end : (store : Entries) (order rest checked : List UnitKey) → IsOrder S is.rank order → rest ≡ [] → ((u : UnitKey) → has_unit order u ≡ false → now_at store u ≡ None) → Progress meaning header lib fl pre is old (within order (now_at store)) order rest checked → IsBuilt meaning header S old (now_at store) order checked
  built-end store order rest checked o none out p =
      subst (λ (at : UnitKey → Option Stored). IsBuilt meaning header S old at order checked) (λ j u. whole-now store order out u j)
      (finish meaning header lib fl pre is old (within order (now_at store)) order checked o
      (subst (λ (us : List UnitKey). Progress meaning header lib fl pre is old (within order (now_at store)) order us checked) none p))
