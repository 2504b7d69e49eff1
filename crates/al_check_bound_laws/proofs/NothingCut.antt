-- Bounds of what a check may ask change nothing in what it finds.
use Rattle.std.proofs.Common.{◌≡◌, ap, refl, sym, subst, ◌∙◌, ℕ, Bool, true, false, List, Option, Some, None, Ok, Err, nat_le, length, if◌then◌else◌}
use Rattle.std.specs.List.{list_any}
use Rattle.std.specs.Prelude.{map, Result}
use Rattle.std.specs.Str.{bytes_eq}
use Rattle.al_base.specs.declared.unit_key.UnitKey.{UnitKey}
use Rattle.al_check.specs.Ada.{ada_names, ada_units, ada_verdict}
use Rattle.al_check_reading.specs.Ada.{ada}
use Rattle.al_check_here.specs.declared.state.CheckState.{CheckState}
use Rattle.al_check_start.specs.PrivateNames.{names_known}
use Rattle.al_check_start.specs.UnitsAt.{unit_at}
use Rattle.al_lex.specs.Tokens.{lexed}
use Rattle.al_lex.specs.declared.token.LexFault.{LexFault}
use Rattle.al_lex.specs.declared.token.Token.{Token}
use Rattle.al_query.specs.Reads.{Table}
use Rattle.al_query_outcome.specs.Words.{word_of, words_of}
use Rattle.al_stmts.specs.Units.{unit_walked}
use Rattle.al_tree.specs.Lexemes.{lexemes}
use Rattle.al_tree_syntax.proofs.TreeLaws.{trees_found}
use Rattle.al_tree_syntax.specs.TreeLaws.{unit_of}
use Rattle.al_tree_syntax.specs.UnitTrees.{CompilationUnitTree, tokens_of}
use Rattle.al_unit.specs.Readings.{by_tokens, by_unit, reading_of, unit_read}
use Rattle.al_unit.specs.Texts.{unit_in}
use Rattle.al_unit_header.specs.Units.{header_of}
use Rattle.indexmap.specs.IndexSet.{insert_all}
use Rattle.al_check_bound_laws.specs.Cuts.{NothingIsCut, OutcomesAreWhole, ada_bounds, whole_meaning, whole_outcome}
use Rattle.al_check_bounded.specs.Bounding.{bounded}
use Rattle.al_check_bounded.specs.Meanings.{meaning_if_unit, text_meaning}
use Rattle.al_check_bounded.specs.Verdicts.{Verdict}
use Rattle.al_check_bounded.specs.Within.{concluded}
use Rattle.al_check_bound_laws.proofs.AllLemmas.{All}
use Rattle.al_check_bound_laws.proofs.SameBegins as begins
use Rattle.al_check_bound_laws.proofs.SameBounds as bounds
use Rattle.al_check_bound_laws.proofs.SameVerdict as verdicts
use Rattle.al_check_bound_laws.proofs.Words as words

-- ---- a source that is read as a unit has tokens, whose lexemes are the tree's

abbrev HasTokens : List ℕ → CompilationUnitTree → Type 0
HasTokens text tree = (tokens : List Token) × (lexed text ≡ Ok tokens) × (tokens_of tree ≡ lexemes text tokens)

from-unit : (text : List ℕ) (tree : CompilationUnitTree) (tokens : List Token) → lexed text ≡ Ok tokens → (o : Option CompilationUnitTree) → unit_of (lexemes text tokens) ≡ o → unit_read (by_unit text tokens o) ≡ Some tree → HasTokens text tree
from-unit text tree tokens l (Some u) e i = (tokens, l, ((trees_found (lexemes text tokens) tree).0 (e ∙ i)).0)
from-unit text tree tokens l None e i = absurd (cc)

from-tokens : (text : List ℕ) (tree : CompilationUnitTree) (r : Result (List Token) LexFault) → lexed text ≡ r → unit_read (by_tokens text r) ≡ Some tree → HasTokens text tree
from-tokens text tree (Ok tokens) l i = from-unit text tree tokens l (unit_of (lexemes text tokens)) refl i
from-tokens text tree (Err f) l i = absurd (cc)

has-tokens : (text : List ℕ) (tree : CompilationUnitTree) → unit_in text ≡ Some tree → HasTokens text tree
unfolding unit_in reading_of
has-tokens text tree i = at (nat_le (length text) 4294967294) i
  where
    at : (b : Bool) → (if b then unit_read (reading_of text) else None) ≡ Some tree → HasTokens text tree
    at true e = from-tokens text tree (lexed text) refl e
    at false e = absurd (cc)

-- ---- the law

module _ (T : Table) (unit : UnitKey) (text : List ℕ) (tree : CompilationUnitTree) (has : HasTokens text tree) where
  abbrev names : List (List ℕ)
  names = insert_all bytes_eq (words_of text) (names_known T unit (header_of tree))

  abbrev MayName : List ℕ → Type 0
  MayName n = bounds.MayName T unit (header_of tree) names n

  abbrev tokens : List Token
  tokens = has.0

  may : (k : Token) → list_any (bytes_eq (word_of text k)) (map (word_of text) tokens) ≡ true → MayName (word_of text k)
  may k h = words.all-kept (names_known T unit (header_of tree)) (words_of text) (word_of text k) (words.word-there text tokens has.1 (word_of text k) h)

  spelt : All (words.Of text tokens MayName may) (tokens_of tree)
  spelt = subst (All (words.Of text tokens MayName may)) (sym has.2) (words.all-lexemes text tokens MayName may has.1)

  abbrev t : Table
  t = bounds.t T unit (header_of tree) names

  abbrev s : Table
  s = bounds.s T unit (header_of tree) names

  same : (unit_at t unit tree ≡ unit_at s unit tree) × begins.Walked T unit tree names (words.Of text tokens MayName may) (words.spells text tokens MayName may) (words.separate-may text tokens MayName may) (λ n h. words.all-put (names_known T unit (header_of tree)) (words_of text) n h) spelt (unit_at s unit tree)
  same = begins.unit-same T unit tree names (words.Of text tokens MayName may) (words.spells text tokens MayName may) (words.separate-may text tokens MayName may) (λ n h. words.all-put (names_known T unit (header_of tree)) (words_of text) n h) spelt

  pub found-same : ada_verdict unit text tree t ≡ ada_verdict unit text tree s
  found-same = verdicts.verdict-same t s unit tree (λ (h : CheckState). unit_walked (ada t) h tree.item ≡ unit_walked (ada s) h tree.item) (λ h f. f) text same.0 same.1

pub nothing-is-cut : NothingIsCut
nothing-is-cut unit text tree T i = found-same T unit text tree (has-tokens text tree i)

pub outcomes-are-whole : OutcomesAreWhole
unfolding text_meaning
outcomes-are-whole unit text t = by (unit_in text) refl
  where
    by : (o : Option CompilationUnitTree) → unit_in text ≡ o → meaning_if_unit ada_units ada_names ada_verdict unit text o t ≡ whole_outcome unit text o t
    by None e = refl
    by (Some tree) e =
        let b = ada_bounds unit text tree t in
        ap (λ (v : Verdict). concluded b (header_of tree) v (bounded b t)) (nothing-is-cut unit text tree t e)

-- as functions
pub meaning-is-whole : text_meaning ada_units ada_names ada_verdict ≡ whole_meaning
meaning-is-whole = λ i unit text t. outcomes-are-whole unit text t i
