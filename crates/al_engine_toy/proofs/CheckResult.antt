-- What the toy checker gives keeps the contract of checkers.
use Rattle.std.proofs.Common.{◌≡◌, ℕ, ◌+◌, ◌≤◌, Bool, true, false, ◌&&◌, List, map, [], ◌∷◌, ◌++◌, inl, Some, None, cond, refl, sym, ap, subst, ◌∙◌}
use Rattle.std.specs.List.{Contains, list_all}
use Rattle.std.proofs.lemmas.List.Elements.{All-nil}
use Rattle.std.specs.Str.{bytes_eq}
use Rattle.std.proofs.lemmas.Slice.Eq.{bytes_eq-Decides}
use Rattle.al_base.specs.FileNames.{file_name_of}
use Rattle.al_base.specs.Batch.{key_of}
use Rattle.al_base.specs.declared.unit_key.UnitKey.{UnitKey}
use Rattle.al_base.specs.declared.unit_key.UnitKind.{UnitKind}
use Rattle.al_base.specs.declared.unit_key.UnitKind.TheVariants.{Decl, Body, Sub}
use Rattle.al_base_graph.proofs.Members.{first, later, nowhere}
use Rattle.al_unit_graph.specs.Headers.{Header}
use Rattle.al_view.specs.ViewUses.{view_uses}
use Rattle.al_view.specs.declared.link.LinkSymbol.{LinkSymbol}
use Rattle.al_view.proofs.SymbolLemmas.{and_both}
use Rattle.al_query.specs.Answers.{names_told, units_named}
use Rattle.al_query.specs.Asked.{Follows, OfKnown}
use Rattle.al_query.specs.Known.{Grounded, has_unit, known_after}
use Rattle.al_query.specs.Reads.{Agrees, Log, Table}
use Rattle.al_query.specs.declared.answer.AnswerKind.{AnswerKind}
use Rattle.al_query.specs.declared.answer.Completion.{Completion}
use Rattle.al_query.specs.declared.query.Property.TheVariants.{Kind, Parent, IsPrivate, Context, NeedsBody, Completions}
use Rattle.al_query.specs.declared.query.Query.{Query}
use Rattle.al_query.specs.declared.query.Query.TheVariants.{Named, Of}
use Rattle.al_query.specs.Answers.{completions_of, declaration}
use Rattle.al_query.proofs.AskLemmas.{asks_of-grounded}
use Rattle.al_view_typed.specs.Uses.{unit_defines, unit_uses}
use Rattle.al_view_typed.specs.declared.unit.DataPlace.{DataPlace}
use Rattle.al_view_typed.specs.declared.unit.ProtectedWords.{ProtectedWords}
use Rattle.al_query_outcome.specs.Defines.{DefinesOwn, DefinesParts, ShowsOnly, interface_uses}
use Rattle.al_query_outcome.specs.Left.{own_code, views_left, views_links}
use Rattle.al_query_outcome.specs.ReadsLaw.{AsksByNames, AsksOthers, FaultsFit, HasCode, NamesOnly, UsesOnly, answer_uses, asks_by_names, is_by_names, is_of_another, named_by, outcome_units}
use Rattle.al_query_outcome.specs.Results.{Outcome}
use Rattle.al_query_outcome.proofs.Members.{contains-has}
use Rattle.al_engine_toy.specs.Outcomes.{faulty, plain}
use Rattle.al_engine_toy.specs.Toys.{AsksWell, IsChecked, IsJudged, IsToys, by_first, first_named, header_in, is_body_of, is_marked, is_nothing, is_whole, is_whole_as, may_ask, toy_meaning}
use Rattle.al_engine_toy.specs.Toys.IsToys.{is_faulty, is_plain}

-- ---- what an outcome names, uses, defines and shows

pub names_faulty : (unit : UnitKey) (known : List UnitKey) → NamesOnly (unit ∷ known) (faulty unit)
unfolding faulty outcome_units
names_faulty unit known = refl

module _ (unit : UnitKey) (known : List UnitKey) (marked : Bool) where
  pub names_none : NamesOnly (unit ∷ known) (plain unit None marked)
  unfolding plain outcome_units units_named
  names_none = refl

  pub names_some : (d : UnitKey) → Contains known d → NamesOnly (unit ∷ known) (plain unit (Some d) marked)
  unfolding plain outcome_units units_named
  names_some d c = and_both (has_unit (unit ∷ known) d) true (contains-has (unit ∷ known) d (later unit known d c)) refl

module _ (unit : UnitKey) (log : Log) where
  pub toy_uses : (o : Outcome) → IsToys unit o → UsesOnly unit log o
  unfolding plain faulty unit_uses
  toy_uses _ (is_plain parent marked) = λ x c. absurd (nowhere x c)
  toy_uses _ is_faulty = tt

  pub toy_defines : (o : Outcome) → IsToys unit o → DefinesOwn unit o
  unfolding plain faulty unit_uses interface_uses answer_uses view_uses
  toy_defines _ (is_plain parent marked) = λ x own c. absurd (nowhere x c)
  toy_defines _ is_faulty = tt

  pub toy_shows : (o : Outcome) → IsToys unit o → ShowsOnly unit log o
  unfolding plain faulty interface_uses answer_uses view_uses
  toy_shows _ (is_plain parent marked) = λ x c. absurd (nowhere x c)
  toy_shows _ is_faulty = tt

  pub toy_code : (o : Outcome) → IsToys unit o → HasCode unit o
  unfolding plain faulty
  toy_code _ (is_plain parent marked) = (refl, record { objects = All-nil (λ (p : DataPlace). p.word ≤ 0); flags = All-nil (λ (p : DataPlace). p.word + 1 ≤ 0); regions = All-nil (λ (p : ProtectedWords). p.word + p.words ≤ 0) })
  toy_code _ is_faulty = tt

  pub toy_faults : (o : Outcome) → IsToys unit o → FaultsFit unit o
  unfolding plain faulty
  toy_faults _ (is_plain parent marked) = tt
  toy_faults _ is_faulty =
      let name = file_name_of (key_of unit) in
      let same : bytes_eq name name ≡ true = (bytes_eq-Decides name name).1 refl in
      (refl, and_both (bytes_eq name name && true) true (and_both (bytes_eq name name) true same refl) refl)

-- ---- what a unit is left to define

both_are : (b c : Bool) → (b && c) ≡ true → (b ≡ true) × (c ≡ true)
both_are true c is = (refl, is)
both_are false c is = absurd (cc)

nothing_left : (cs : List Completion) → is_nothing cs ≡ true → (x : LinkSymbol) → Contains (views_links (map (λ c. c.view) cs)) x → ⊥
nothing_left [] is x c = nowhere x c
nothing_left (d ∷ ds) is x c = absurd (cc)

module _ (unit : UnitKey) (h : Header) (t : Table) where
  -- a unit of the language is left nothing
  left_nothing : (k : UnitKind) (name : List ℕ) → is_whole_as k name h t ≡ true → (x : LinkSymbol) → Contains (views_links (views_left k name t)) x → ⊥
  left_nothing Decl name whole x c = nowhere x c
  left_nothing Body name whole x c = nothing_left (completions_of (t (Of (declaration name) Completions))) (both_are (is_body_of h name) _ whole).1 x c
  left_nothing Sub name whole x c = absurd (cc)

  pub toy_parts : (o : Outcome) → IsToys unit o → is_whole unit h t ≡ true → DefinesParts unit h t o
  unfolding plain faulty unit_defines view_uses
  toy_parts _ (is_plain parent marked) whole = record {
    left = λ x c. absurd (nowhere x c);
    completes = λ x c. absurd (left_nothing unit.kind unit.name whole x c);
    stubs = λ stub c. absurd (nowhere stub c);
    main = λ is acts. inl (first (own_code unit) []);
  }
  toy_parts _ is_faulty whole = tt

  pub faulty_parts : DefinesParts unit h t (faulty unit)
  unfolding faulty
  faulty_parts = tt

-- ---- what was asked

module _ (p : Query → Bool) (may : Log → Query → Type 0) (only : (log : Log) (q : Query) → may log q → p q ≡ true) where
  all_are : (log es : Log) → Follows may log es → list_all (λ (e : Query × AnswerKind). p e.0) es ≡ true
  all_are log [] f = refl
  all_are log (e ∷ es) f = and_both (p e.0) (list_all (λ (x : Query × AnswerKind). p x.0) es) (only log e.0 f.0) (all_are (log ++ e ∷ []) es f.1)

-- a question by no name is by whichever names
by_whichever : (unit : UnitKey) (names : List (List ℕ)) (q : Query) → is_by_names unit [] q ≡ true → is_by_names unit names q ≡ true
by_whichever unit names (Named of part name) h = absurd (cc)
by_whichever unit names (Of of Completions) h = h
by_whichever unit names (Of of Kind) h = refl
by_whichever unit names (Of of Parent) h = refl
by_whichever unit names (Of of IsPrivate) h = refl
by_whichever unit names (Of of Context) h = refl
by_whichever unit names (Of of NeedsBody) h = refl

module _ (unit : UnitKey) (may : Log → Query → Type 0) (only : (log : Log) (q : Query) → may log q → is_by_names unit [] q ≡ true) where
  all_named : (log es : Log) (names : List (List ℕ)) → Follows may log es → asks_by_names unit names es ≡ true
  all_named log [] names f = refl
  all_named log (e ∷ es) names f =
      and_both (is_by_names unit names e.0) (asks_by_names unit (names ++ names_told e.1) es) (by_whichever unit names e.0 (only log e.0 f.0)) (all_named (log ++ e ∷ []) es (names ++ names_told e.1) f.1)

module _ (unit : UnitKey) (h : Header) (log : Log) (asks : AsksWell unit h [] log) where
  pub asks_others : AsksOthers unit log
  asks_others =
      let a = asks [] in
      let may = OfKnown (named_by h) (may_ask unit []) in
      subst (λ (l : Log). AsksOthers unit l) (sym a.1) (all_are (is_of_another unit) may (λ l q m. (both_are (is_of_another unit q) (is_by_names unit [] q) m.1).0) [] a.0 a.2)

  pub asks_known : Grounded (named_by h) log
  asks_known = asks_of-grounded (named_by h) (may_ask unit []) log (asks [])

  pub asks_named : (words : List (List ℕ)) → AsksByNames unit words log
  asks_named words =
      let a = asks [] in
      let may = OfKnown (named_by h) (may_ask unit []) in
      subst (λ (l : Log). AsksByNames unit words l) (sym a.1) (all_named unit may (λ l q m. (both_are (is_of_another unit q) (is_by_names unit [] q) m.1).1) [] a.0 words a.2)

-- ---- what is checked

module _ (unit : UnitKey) (text : List ℕ) where
  abbrev checked : Table → Outcome
  checked t = by_first unit (is_marked text) (first_named unit (header_in text)) t

  by_whole : (t : Table) (b : Bool) → b ≡ is_whole unit (header_in text) t → toy_meaning unit text t ≡ cond b (checked t) (faulty unit)
  by_whole t b is = ap (λ x. cond x (checked t) (faulty unit)) (sym is)

  -- a unit of the language was judged
  pub whole_is_checked : (mid log : Log) (o : Outcome) (b : Bool) → ((t : Table) → Agrees t mid → Agrees t [] × (b ≡ is_whole unit (header_in text) t)) → b ≡ true → AsksWell unit (header_in text) [] mid → AsksWell unit (header_in text) [] log
      → IsJudged unit (header_in text) (is_marked text) mid log o → IsChecked unit text log o
  whole_is_checked mid log o b whole is before asks j = record {
    meaning = λ t agrees.
        let m = j.meaning t agrees in
        m.1 ∙ sym (by_whole t true (sym is ∙ (whole t m.0).1));
    asks = asks;
    names = j.names;
    parts = λ t agrees.
        let m = j.meaning t agrees in
        toy_parts unit (header_in text) t o j.toys (sym (whole t m.0).1 ∙ is);
    toys = j.toys;
  }

  -- whatever else there is, is faulty
  pub other_is_checked : (log : Log) (o : Outcome) (b : Bool) → ((t : Table) → Agrees t log → Agrees t [] × (b ≡ is_whole unit (header_in text) t)) → b ≡ false → AsksWell unit (header_in text) [] log → o ≡ faulty unit → IsChecked unit text log o
  other_is_checked log o b whole other asks is = record {
    meaning = λ t agrees. is ∙ sym (by_whole t false (sym other ∙ (whole t agrees).1));
    asks = asks;
    names = subst (λ (x : Outcome). NamesOnly (unit ∷ known_after (named_by (header_in text)) log) x) (sym is) (names_faulty unit (known_after (named_by (header_in text)) log));
    parts = λ t agrees. subst (λ (x : Outcome). DefinesParts unit (header_in text) t x) (sym is) (faulty_parts unit (header_in text) t);
    toys = subst (λ (x : Outcome). IsToys unit x) (sym is) is_faulty;
  }
