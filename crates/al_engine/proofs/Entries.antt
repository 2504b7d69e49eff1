-- The entries that a build made, as a checker of the library's units: it gives their outcomes, with their logs and what they
-- promise.
use Rattle.std.proofs.Common.{◌≡◌, ℕ, true, false, Bool, List, Option, Some, None, if◌then◌else◌, refl, ap, subst, sym, ◌∙◌}
use Rattle.std.specs.Option.{option_map}
use Rattle.std.specs.List.{Contains, list_all}
use Rattle.al_base.specs.Batch.{Key, key_of}
use Rattle.al_base.specs.declared.unit_key.UnitKey.{UnitKey}
use Rattle.al_query.specs.Reads.{Log, Table}
use Rattle.al_query.specs.declared.answer.AnswerKind.{AnswerKind}
use Rattle.al_query.specs.declared.query.Query.{Query}
use Rattle.al_view_typed.specs.UnitTrees.{UnitTree}
use Rattle.al_unit_graph.specs.Dependence.{direct}
use Rattle.al_unit_graph.specs.Headers.{Header, Library}
use Rattle.al_unit_graph.specs.Library.{is_unit}
use Rattle.al_unit_graph.proofs.BoolLemmas.{both}
use Rattle.al_unit_graph.proofs.Lists.{from_all}
use Rattle.al_unit_faults.specs.Reached.{is_faultless}
use Rattle.al_unit_faults.proofs.FaultlessLemmas.{faultless_is_unit}
use Rattle.al_query_outcome.specs.Defines.{DefinesOwn, DefinesParts, Has, KeepsParts, KeepsSymbols, ShowsOnly}
use Rattle.al_query_outcome.specs.Equations.{KeepsReads, Meaning, Setting, Solves, is_reached, is_sound, table, unit_named}
use Rattle.al_query_outcome.specs.ReadsLaw.{FaultsFit, UsesOnly}
use Rattle.al_query_outcome.specs.Results.{Outcome, Faulty, Sound}
use Rattle.al_query_outcome.specs.declared.interface.UnitInterface.{UnitInterface}
use Rattle.al_engine_refresh.specs.EntryLaw.{HasCurrent, IsCurrent, KeepsLaw, TextMeaning}
use Rattle.al_engine_refresh.specs.Stored.{Stored, outcome_of}
use Rattle.al_engine_refresh.specs.Builds.{results_of, text_of}
use Rattle.al_engine_refresh.proofs.Kept.{current-kept, kept, kept-keeps, kept-log}
use Rattle.al_engine.specs.Rechecks.{IsRechecked, setting_of}
use Rattle.al_engine.specs.Completing.{KeepParts}

none_is_none : (e : Option Stored) (o : Outcome) → e ≡ None → option_map outcome_of e ≡ Some o → ⊥
none_is_none e o none some = let bad : None ≡ Some o = sym (ap (option_map outcome_of) none) ∙ some in absurd (cc)

some_is : (o p : Outcome) → Some o ≡ Some p → o ≡ p
some_is o p same = cc

sound_there : (o : Option Outcome) → is_sound o ≡ true → (p : Outcome) × (o ≡ Some p)
sound_there None is = absurd (cc)
sound_there (Some p) is = (p, refl)

module _ (meaning : TextMeaning) (header : List ℕ → Header) (predefined : Query → AnswerKind) (lib : Library) (old made : UnitKey → Option Stored) (checked : List UnitKey) (r : IsRechecked meaning header (setting_of header predefined lib) old made checked) where
  abbrev pub s : Setting
  s = setting_of header predefined lib

  abbrev pub f : UnitKey → Option Outcome
  f = results_of made

  abbrev pub t : Table
  t = table s f

  abbrev pub M : Meaning
  M = kept made (text_of lib)

  abbrev pub keeps : KeepsReads M s.header_of
  keeps = kept-keeps meaning header made (text_of lib) r.law

  reached : (u : UnitKey) (o : Outcome) → f u ≡ Some o → is_reached s f u ≡ true
  reached u o is = by (is_reached s f u) refl
    where
      by : (b : Bool) → is_reached s f u ≡ b → b ≡ true
      by true at = refl
      by false at = absurd (none_is_none (made u) o (r.unreached u at) is)

  -- the entry of a unit that has an outcome
  pub record HasEntry (u : UnitKey) (o : Outcome) : Type 0 where
    pub entry : Stored
    pub at : made u ≡ Some entry
    pub outcome_is : outcome_of entry ≡ o
    pub current : IsCurrent entry (text_of lib u) t

  entry_by : (u : UnitKey) (o : Outcome) (e : Option Stored) → made u ≡ e → HasCurrent (made u) (text_of lib u) t → f u ≡ Some o → HasEntry u o
  entry_by u o None at current is = absurd (none_is_none (made u) o at is)
  entry_by u o (Some e) at current is = record {
    entry = e;
    at = at;
    outcome_is = some_is (outcome_of e) o (sym (ap (option_map outcome_of) at) ∙ is);
    current = subst (λ (x : Option Stored). HasCurrent x (text_of lib u) t) at current;
  }

  pub entry_of : (u : UnitKey) (o : Outcome) → f u ≡ Some o → HasEntry u o
  entry_of u o is = entry_by u o (made u) refl (r.current u (reached u o is)) is

  solves_by : (u : UnitKey) (e : Option Stored) → made u ≡ e → HasCurrent e (text_of lib u) t → f u ≡ Some (M u t)
  solves_by u None at current = absurd current
  solves_by u (Some e) at current = ap (option_map outcome_of) at ∙ ap (λ (o : Outcome). Some o) (sym (current-kept e (made u) (text_of lib u) t at current))

  pub solves : Solves M s f
  solves u = by (is_reached s f u) refl
    where
      by : (b : Bool) → is_reached s f u ≡ b → f u ≡ (if b then Some (M u t) else None)
      by true is = solves_by u (made u) refl (r.current u is)
      by false is = ap (option_map outcome_of) (r.unreached u is)

  pub symbols : (u : UnitKey) (i : UnitInterface) (tree : UnitTree) → Has f u i tree → KeepsSymbols u (keeps u t).log i tree
  symbols u i tree has =
      let e = entry_of u (Sound i tree) has in
      let k : KeepsLaw meaning header u e.entry = r.law u e.entry e.at in
      let log : (keeps u t).log ≡ e.entry.log = kept-log meaning header made (text_of lib) r.law u t e.entry e.at e.current in
      subst (λ (l : Log). KeepsSymbols u l i tree) (sym log) (record {
        uses = subst (λ (o : Outcome). UsesOnly u e.entry.log o) e.outcome_is k.uses;
        defines = subst (λ (o : Outcome). DefinesOwn u o) e.outcome_is k.defines;
        shows = subst (λ (o : Outcome). ShowsOnly u e.entry.log o) e.outcome_is k.shows;
      })

  pub parts : KeepParts s f
  parts u i tree has =
      let e = entry_of u (Sound i tree) has in
      let k : KeepsLaw meaning header u e.entry = r.law u e.entry e.at in
      let here : DefinesParts u (header e.entry.text) t (Sound i tree) = subst (λ (o : Outcome). DefinesParts u (header e.entry.text) t o) e.outcome_is (k.parts t e.current.1) in
      subst (λ (x : List ℕ). KeepsParts u (header x) t i tree) e.current.0 here

  pub fit : (u : UnitKey) (o : Outcome) → f u ≡ Some o → FaultsFit u o
  fit u o is = let e = entry_of u o is in subst (λ (x : Outcome). FaultsFit u x) e.outcome_is (r.law u e.entry e.at).faults

  -- a unit that has an outcome is in the library, and so is all on which it depends directly
  pub faultless_with : (u : UnitKey) (o : Outcome) → f u ≡ Some o → is_faultless lib (key_of u) ≡ true
  faultless_with u o is = (both (is_faultless lib (key_of u)) (list_all (λ k. is_sound (f (unit_named k))) (direct lib (key_of u))) (reached u o is)).0

  pub there_with : (u : UnitKey) (o : Outcome) → f u ≡ Some o → is_unit lib (key_of u) ≡ true
  there_with u o is = faultless_is_unit lib (key_of u) (faultless_with u o is)

  pub direct_with : (u : UnitKey) (d : Key) → is_sound (f u) ≡ true → Contains (direct lib (key_of u)) d → is_unit lib d ≡ true
  direct_with u d sound c =
      let o = sound_there (f u) sound in
      let all = (both (is_faultless lib (key_of u)) (list_all (λ k. is_sound (f (unit_named k))) (direct lib (key_of u))) (reached u o.0 o.1)).1 in
      let p = sound_there (f (unit_named d)) (from_all (λ (k : Key). is_sound (f (unit_named k))) (direct lib (key_of u)) d c all) in
      there_with (unit_named d) p.0 p.1
