-- What is judged of a unit of the language.
use Rattle.std.proofs.Common.{◌≡◌, ℕ, Bool, true, false, ◌&&◌, ◌||◌, not, List, [], ◌∷◌, Option, Some, None, refl, sym, ap, subst, ◌∙◌}
use Rattle.std.specs.List.{Contains, flat_map}
use Rattle.std.proofs.lemmas.List.Elements.{Contains-append_left}
use Rattle.std.specs.Str.{bytes_eq}
use Rattle.al_base.specs.declared.unit_key.UnitKey.{UnitKey}
use Rattle.al_base.specs.declared.unit_key.UnitKind.TheVariants.{Decl, Body}
use Rattle.al_unit_graph.specs.Headers.{Header}
use Rattle.al_view.specs.Symbols.{same_kind, same_unit}
use Rattle.al_view.proofs.SymbolLemmas.{and_both, same_unit-self}
use Rattle.al_query.specs.Answers.{declaration, is_private_of, parent_of}
use Rattle.al_query.specs.Asked.{OfKnown}
use Rattle.al_query.specs.Known.{Learns, has_unit, known_after, learned, predefined_units}
use Rattle.al_query.specs.Queries.{unit_of}
use Rattle.al_query.specs.Reads.{FromAnswers, Log, logged}
use Rattle.al_query.specs.declared.answer.AnswerKind.{AnswerKind}
use Rattle.al_query.specs.declared.query.Property.TheVariants.{Completions, IsPrivate, Parent}
use Rattle.al_query.specs.declared.query.Query.{Query}
use Rattle.al_query.specs.declared.query.Query.TheVariants.{Of}
use Rattle.al_query.proofs.AskLemmas.{asks_none, asks_of-known, asks_of-one, asks_then}
use Rattle.al_query_outcome.specs.ReadsLaw.{NamesOnly, named_by}
use Rattle.al_query_outcome.specs.Results.{Outcome}
use Rattle.al_query_outcome.proofs.Members.{contains-has}
use Rattle.al_engine_toy.specs.Outcomes.{plain}
use Rattle.al_engine_toy.specs.Toys.{AsksWell, HasParent, IsJudged, IsToys, another, by_first, by_private, by_second, first_named, is_body_of, may_ask}
use Rattle.al_engine_toy.specs.Toys.IsToys.{is_faulty, is_plain}
use Rattle.al_engine_toy.proofs.CheckResult.{names_faulty, names_none, names_some}
use Rattle.al_engine_toy.proofs.Known.{another_is, first_is_named, of_another, own_is_named, parent_is_learned}

toys_is : (unit : UnitKey) (o : Outcome) (parent : Option UnitKey) (marked : Bool) → o ≡ plain unit parent marked → IsToys unit o
toys_is unit o parent marked is = subst (λ (x : Outcome). IsToys unit x) (sym is) (is_plain parent marked)

module _ (unit : UnitKey) (h : Header) where
  pub asks_nothing : (log : Log) → AsksWell unit h log log
  asks_nothing log words = asks_none (OfKnown (named_by h) (may_ask unit words)) log

  pub asks_more : (old mid log : Log) → AsksWell unit h old mid → AsksWell unit h mid log → AsksWell unit h old log
  asks_more old mid log one two words = asks_then (OfKnown (named_by h) (may_ask unit words)) old mid log (one words) (two words)

  -- one question of a unit that is known
  pub asks_that : (old log : Log) (q : Query) (d : UnitKey) (a : AnswerKind) → unit_of q ≡ d → ((words : List (List ℕ)) → may_ask unit words old q ≡ true) → has_unit (known_after (named_by h) old) d ≡ true → log ≡ logged old q a → AsksWell unit h old log
  asks_that old log q d a of may known is words =
      asks_of-known (d ∷ []) (named_by h) (may_ask unit words) old log (known, tt) (asks_of-one (may_ask unit words) old log q d a of (may words) is)

  -- the question what the unit's declaration leaves to it
  pub asks_own : (old log : Log) (a : AnswerKind) → unit.kind ≡ Body → is_body_of h unit.name ≡ true → h.parent_body ≡ None → log ≡ logged old (Of (declaration unit.name) Completions) a → AsksWell unit h old log
  asks_own old log a kind of none is =
      let d = declaration unit.name in
      let apart : same_unit unit d ≡ false = ap (λ k. same_kind k Decl && bytes_eq unit.name unit.name) kind in
      let own : Contains (named_by h) d = own_is_named h unit.name of none in
      asks_that old log (Of d Completions) d a refl
      (λ words. and_both (has_unit predefined_units d || not (same_unit unit d)) (same_unit d d) (of_another unit d (has_unit predefined_units d) refl apart) (same_unit-self d))
      (contains-has (known_after (named_by h) old) d (Contains-append_left (named_by h) (flat_map (λ (e : Query × AnswerKind). learned e.0 e.1) old) d own)) is

module _ (unit : UnitKey) (h : Header) (marked : Bool) where
  -- no unit is mentioned
  pub judged_none : (log : Log) (o : Outcome) → first_named unit h ≡ None → o ≡ plain unit None marked → IsJudged unit h marked log log o
  judged_none log o none is = record {
    meaning = λ t agrees. (agrees, is ∙ sym (ap (λ n. by_first unit marked n t) none));
    asks = asks_nothing unit h log;
    names = subst (λ (x : Outcome). NamesOnly (unit ∷ known_after (named_by h) log) x) (sym is) (names_none unit (known_after (named_by h) log) marked);
    toys = toys_is unit o None marked is;
  }

  module _ (d : UnitKey) (named : first_named unit h ≡ Some d) where
    known : (log : Log) → Contains (known_after (named_by h) log) d
    known log = Contains-append_left (named_by h) (flat_map (λ (e : Query × AnswerKind). learned e.0 e.1) log) d (first_is_named unit h d named)

    has : (log : Log) → has_unit (known_after (named_by h) log) d ≡ true
    has log = contains-has (known_after (named_by h) log) d (known log)

    apart : same_unit unit d ≡ false
    apart = (another_is unit _ d named).1

    -- it was asked for its parent
    pub parent_asked : (a : AnswerKind) (old log : Log) → log ≡ logged old (Of d Parent) a → FromAnswers old log (λ t. t (Of d Parent) ≡ a) → Learns old log (Of d Parent) a → HasParent unit h d a old log
    parent_asked a old log is answered learns = record {
      named = named;
      answered = answered;
      asks = asks_that unit h old log (Of d Parent) d a refl (λ words. and_both (has_unit predefined_units d || not (same_unit unit d)) true (of_another unit d (has_unit predefined_units d) refl apart) refl) (has old) is;
      learns = learns;
    }

  module _ (d : UnitKey) (a : AnswerKind) (old mid : Log) (parent : HasParent unit h d a old mid) where
    -- its parent has no parent that is another unit
    pub judged_one : (o : Outcome) → another unit (parent_of a) ≡ None → o ≡ plain unit (Some d) marked → IsJudged unit h marked old mid o
    judged_one o none is = record {
      meaning = λ t agrees.
          let m = parent.answered t agrees in
          (m.0, is ∙ sym (ap (λ n. by_first unit marked n t) parent.named ∙ ap (λ b. by_second unit d marked (another unit (parent_of b)) t) m.1 ∙ ap (λ n. by_second unit d marked n t) none));
      asks = parent.asks;
      names = subst (λ (x : Outcome). NamesOnly (unit ∷ known_after (named_by h) mid) x) (sym is) (names_some unit (known_after (named_by h) mid) marked d (known d parent.named mid));
      toys = toys_is unit o (Some d) marked is;
    }

    names_by : (log : Log) (o : Outcome) (is_private : Bool) → o ≡ by_private unit d marked is_private → NamesOnly (unit ∷ known_after (named_by h) log) o
    names_by log o true is = subst (λ (x : Outcome). NamesOnly (unit ∷ known_after (named_by h) log) x) (sym is) (names_faulty unit (known_after (named_by h) log))
    names_by log o false is = subst (λ (x : Outcome). NamesOnly (unit ∷ known_after (named_by h) log) x) (sym is) (names_some unit (known_after (named_by h) log) marked d (known d parent.named log))

    toys_by : (o : Outcome) (is_private : Bool) → o ≡ by_private unit d marked is_private → IsToys unit o
    toys_by o true is = subst (λ (x : Outcome). IsToys unit x) (sym is) is_faulty
    toys_by o false is = toys_is unit o (Some d) marked is

    -- it was asked whether that one is private
    pub judged_two : (p : UnitKey) (b : AnswerKind) (log : Log) (o : Outcome) → another unit (parent_of a) ≡ Some p → log ≡ logged mid (Of p IsPrivate) b → FromAnswers mid log (λ t. t (Of p IsPrivate) ≡ b) → o ≡ by_private unit d marked (is_private_of b) → IsJudged unit h marked old log o
    judged_two p b log o second log_is answered is =
        let parts = another_is unit (parent_of a) p second in
        let learns = parent.learns (named_by h) p in
        let p_known : has_unit (known_after (named_by h) mid) p ≡ true = learns.1 (contains-has (learned (Of d Parent) a) p (parent_is_learned d a p parts.0)) in
        let more = asks_that unit h mid log (Of p IsPrivate) p b refl (λ words. and_both (has_unit predefined_units p || not (same_unit unit p)) true (of_another unit p (has_unit predefined_units p) refl parts.1) refl) p_known log_is in
        record {
          meaning = λ t agrees.
              let m = answered t agrees in
              let n = parent.answered t m.0 in
              (n.0, is ∙ sym (ap (λ n. by_first unit marked n t) parent.named ∙ ap (λ x. by_second unit d marked (another unit (parent_of x)) t) n.1 ∙ ap (λ n. by_second unit d marked n t) second ∙ ap (λ x. by_private unit d marked (is_private_of x)) m.1));
          asks = asks_more unit h old mid log parent.asks more;
          names = names_by log o (is_private_of b) is;
          toys = toys_by o (is_private_of b) is;
        }
