-- What is asked for properties, and what is asked within bounds, is asked by names.
use Rattle.std.proofs.Common.{◌≡◌, ◌∙◌, ℕ, Bool, true, false, ◌&&◌, ◌||◌, not, List, [], ◌∷◌, ◌++◌, refl, sym, ap, subst, append_assoc, append-nil}
use Rattle.std.specs.List.{flat_map, list_any}
use Rattle.std.specs.Str.{bytes_eq}
use Rattle.std.proofs.lemmas.List.Folds.{list_any-append}
use Rattle.al_base.specs.declared.unit_key.UnitKey.{UnitKey}
use Rattle.al_view.specs.Symbols.{same_unit}
use Rattle.al_view.proofs.SymbolLemmas.{and_both, both}
use Rattle.al_query.specs.Answers.{names_told}
use Rattle.al_query.specs.Asked.{AsksOf, Follows, OfKnown, by_property}
use Rattle.al_query.specs.Known.{has_unit}
use Rattle.al_query.specs.Queries.{unit_of}
use Rattle.al_query.specs.Reads.{Log}
use Rattle.al_query.specs.AnsweredNames.{AreTold, told_names}
use Rattle.al_query.specs.declared.answer.AnswerKind.{AnswerKind}
use Rattle.al_query.specs.declared.query.Property.TheVariants.{Kind, Parent, IsPrivate, Context, NeedsBody, Completions}
use Rattle.al_query.specs.declared.query.Query.{Query}
use Rattle.al_query.specs.declared.query.Query.TheVariants.{Named, Of}
use Rattle.al_query.proofs.KnownLemmas.{flat_map-join}
use Rattle.al_query.proofs.ToldLemmas.{any-left, any-right}
use Rattle.al_query_outcome.specs.ReadsLaw.{AsksByNames, asks_by_names, is_by_names}
use Rattle.al_check_bounded.specs.Bounding.{AreWordsOrTold, allowed, may_ask}
use Rattle.al_check_bounded.specs.declared.bounds.Bounds.{Bounds}

pub by-property : (unit : UnitKey) (names : List (List ℕ)) (log : Log) (q : Query) → by_property log q ≡ true → is_by_names unit names q ≡ true
by-property unit names log (Named of part name) h = absurd (cc)
by-property unit names log (Of of Completions) h = absurd (cc)
by-property unit names log (Of of Kind) h = refl
by-property unit names log (Of of Parent) h = refl
by-property unit names log (Of of IsPrivate) h = refl
by-property unit names log (Of of Context) h = refl
by-property unit names log (Of of NeedsBody) h = refl

pub within-bounds : (b : Bounds) (log : Log) (q : Query) → allowed b log q ≡ true → is_by_names b.unit b.names q ≡ true
within-bounds b log q h =
    let known = both (has_unit b.known (unit_of q)) (not (same_unit b.unit (unit_of q)) && is_by_names b.unit b.names q) h in
    (both (not (same_unit b.unit (unit_of q))) (is_by_names b.unit b.names q) known.1).1

-- by more names
wider : (unit : UnitKey) (ns ms : List (List ℕ)) → ((n : List ℕ) → list_any (bytes_eq n) ns ≡ true → list_any (bytes_eq n) ms ≡ true) → (q : Query) → is_by_names unit ns q ≡ true → is_by_names unit ms q ≡ true
wider unit ns ms w (Named of part name) h = w name h
wider unit ns ms w (Of of Completions) h = h
wider unit ns ms w (Of of Kind) h = refl
wider unit ns ms w (Of of Parent) h = refl
wider unit ns ms w (Of of IsPrivate) h = refl
wider unit ns ms w (Of of Context) h = refl
wider unit ns ms w (Of of NeedsBody) h = refl

-- ---- names in answers

names_answered-join : (log more : Log) → told_names (log ++ more) ≡ told_names log ++ told_names more
names_answered-join log more = flat_map-join (λ e. names_told e.1) log more

pub no_names : (words : List (List ℕ)) (log : Log) → AreWordsOrTold words log []
no_names words log n h = absurd (cc)

pub words_or_told : (words names_answered : List (List ℕ)) (log : Log) → AreTold log names_answered → AreWordsOrTold words log (words ++ names_answered)
words_or_told words names_answered log h n m = at (list_any (bytes_eq n) words) refl (sym (list_any-append (bytes_eq n) words names_answered) ∙ m)
  where
    at : (b : Bool) → list_any (bytes_eq n) words ≡ b → (b || list_any (bytes_eq n) names_answered) ≡ true → list_any (bytes_eq n) (words ++ told_names log) ≡ true
    at true is all = any-left words (told_names log) n is
    at false is all = any-right words (told_names log) n (h n all)

-- after more questions
pub names_answered-later : (words names : List (List ℕ)) (old more new : Log) → new ≡ old ++ more → AreWordsOrTold words old names → AreWordsOrTold words new names
names_answered-later words names old more new is h n m =
    let all = append_assoc words (told_names old) (told_names more) ∙ ap (λ (l : List (List ℕ)). words ++ l) (sym (names_answered-join old more)) in
    subst (λ (l : Log). list_any (bytes_eq n) (words ++ told_names l) ≡ true) (sym is)
    (subst (λ (l : List (List ℕ)). list_any (bytes_eq n) l ≡ true) all (any-left (words ++ told_names old) (told_names more) n (h n m)))

-- ---- one log after another

and-assoc : (a b c : Bool) → (a && (b && c)) ≡ ((a && b) && c)
and-assoc true b c = refl
and-assoc false b c = refl

asks-append : (unit : UnitKey) (names : List (List ℕ)) (old more : Log) → asks_by_names unit names (old ++ more) ≡ (asks_by_names unit names old && asks_by_names unit (names ++ told_names old) more)
asks-append unit names [] more = ap (λ (ns : List (List ℕ)). asks_by_names unit ns more) (sym (append-nil names))
asks-append unit names (e ∷ es) more =
    ap (λ (b : Bool). is_by_names unit names e.0 && b)
    (asks-append unit (names ++ names_told e.1) es more
    ∙ ap (λ (ns : List (List ℕ)). asks_by_names unit (names ++ names_told e.1) es && asks_by_names unit ns more) (append_assoc names (names_told e.1) (told_names es)))
    ∙ and-assoc (is_by_names unit names e.0) (asks_by_names unit (names ++ names_told e.1) es) (asks_by_names unit (names ++ told_names (e ∷ es)) more)

-- questions for names that are words, or that were in answers when they began
module _ (unit : UnitKey) (words names : List (List ℕ)) (units : List UnitKey) (wanted : Log → Query → Bool) (by : (log : Log) (q : Query) → wanted log q ≡ true → is_by_names unit names q ≡ true) where
  follows : (log es : Log) → AreWordsOrTold words log names → Follows (OfKnown units wanted) log es → asks_by_names unit (words ++ told_names log) es ≡ true
  follows log [] names_answered f = refl
  follows log (e ∷ es) names_answered f =
      let next = ap (λ (l : List (List ℕ)). words ++ l) (names_answered-join log (e ∷ []) ∙ ap (λ (l : List (List ℕ)). told_names log ++ l) (append-nil (names_told e.1))) ∙ sym (append_assoc words (told_names log) (names_told e.1)) in
      and_both (is_by_names unit (words ++ told_names log) e.0) (asks_by_names unit ((words ++ told_names log) ++ names_told e.1) es)
      (wider unit names (words ++ told_names log) names_answered e.0 (by log e.0 f.0.1))
      (subst (λ (ns : List (List ℕ)). asks_by_names unit ns es ≡ true) next (follows (log ++ e ∷ []) es (names_answered-later words names log (e ∷ []) (log ++ e ∷ []) refl names_answered) f.1))

  -- more questions by names
  pub asks-by-names : (old new : Log) → AreWordsOrTold words old names → AsksOf units wanted old new → AsksByNames unit words old → AsksByNames unit words new
  asks-by-names old new names_answered asks before =
      subst (λ (l : Log). AsksByNames unit words l) (sym asks.1)
      (asks-append unit words old asks.0
      ∙ and_both (asks_by_names unit words old) (asks_by_names unit (words ++ told_names old) asks.0) before (follows old asks.0 names_answered asks.2))
