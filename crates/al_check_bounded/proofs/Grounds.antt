-- Questions within bounds are to known units, and for the words of the source or names from answers.
use Rattle.std.proofs.Common.{◌≡◌, ℕ, Bool, true, List, [], ◌∷◌, ◌++◌, refl, sym, subst}
use Rattle.al_base.specs.declared.unit_key.UnitKey.{UnitKey}
use Rattle.al_query.specs.Asked.{AsksOf, OfKnown, by_property}
use Rattle.al_query.specs.Known.{AreKnown, Grounded, has_unit, known_after}
use Rattle.al_query.specs.Reads.{Log}
use Rattle.al_query.specs.declared.query.Query.{Query}
use Rattle.al_query.proofs.AskLemmas.{asks_of-grounded, asks_of-known, asks_of-wider, asks_then}
use Rattle.al_query.proofs.KnownLemmas.{known_after-more}
use Rattle.al_query_outcome.specs.ReadsLaw.{AsksByNames}
use Rattle.al_check_bounded.specs.Bounding.{AreWordsOrTold, allowed}
use Rattle.al_check_bounded.specs.declared.bounds.Bounds.{Bounds}
use Rattle.al_check_bounded.proofs.BoundsNameLemmas.{asks-by-names, by-property, no_names, names_answered-later, within-bounds}

any : Log → Query → Bool
any log q = true

wider : (units : List UnitKey) (wanted : Log → Query → Bool) (old new : Log) → AsksOf units wanted old new → AsksOf units any old new
unfolding any
wider units wanted old new asks = asks_of-wider units wanted any old new (λ log q h. refl) asks

-- first what makes units known, then of these
pub grounded : (named known : List UnitKey) (wanted within : Log → Query → Bool) (a b c : Log) → AsksOf named wanted [] a → AreKnown (known_after named a) known → AsksOf known within a b → AsksOf known within b c → Grounded named c
grounded named known wanted within a b c one known_then two three =
    asks_of-grounded named any c
    (asks_then (OfKnown named any) [] a c (wider named wanted [] a one)
    (asks_of-known known named any a c known_then (wider known within a c (asks_then (OfKnown known within) a b c two three))))

-- units stay known after more questions
pub known_later : (named units : List UnitKey) (old more new : Log) → new ≡ old ++ more → AreKnown (known_after named old) units → AreKnown (known_after named new) units
known_later named [] old more new is h = tt
known_later named (u ∷ us) old more new is h = (
  subst (λ (log : Log). has_unit (known_after named log) u ≡ true) (sym is) (known_after-more named old more u h.0),
  known_later named us old more new is h.1,
)

-- first properties are asked for, which makes units known and gives names, then questions are asked within bounds
pub by_words : (b : Bounds) (unit : UnitKey) (words : List (List ℕ)) (named : List UnitKey) (one two three : Log) → b.unit ≡ unit → AreWordsOrTold words one b.names → AsksOf named by_property [] one → AsksOf b.known (allowed b) one two → AsksOf b.known (allowed b) two three → AsksByNames unit words three
by_words b unit words named one two three own names_answered first second third =
    let before = asks-by-names b.unit words [] named by_property (by-property b.unit []) [] one (no_names words []) first refl in
    let found = asks-by-names b.unit words b.names b.known (allowed b) (within-bounds b) one two names_answered second before in
    let all = asks-by-names b.unit words b.names b.known (allowed b) (within-bounds b) two three (names_answered-later words b.names one second.0 two second.1 names_answered) third found in
    subst (λ (u : UnitKey). AsksByNames u words three) own all
