-- The readings of texts.
use Rattle.std.proofs.Common.{◌≡◌, ℕ, List, Option, Some, None, Result, Ok, Err, refl, ap, subst, ◌∙◌}
use Rattle.al_parse.specs.Faults.{syntax_fault_of}
use Rattle.al_lex.specs.declared.token.Token.{Token}
use Rattle.al_lex.specs.declared.token.LexFault.{LexFault}
use Rattle.al_lex.specs.Tokens.{lexed}
use Rattle.al_tree_syntax.specs.Laws.{FaultsAreFound}
use Rattle.al_tree_syntax.specs.TreeLaws.{unit_of, TreesAreFound, SentencesAreTrees}
use Rattle.al_tree_syntax.specs.UnitTrees.{CompilationUnitTree}
use Rattle.al_tree.specs.Lexemes.{lexemes}
use Rattle.al_unit.specs.Readings.{Reading}
use Rattle.al_unit.specs.Readings.{reading_of, by_tokens, by_unit}
use Rattle.al_unit.specs.Laws.{Reads, TextsAreRead}
use Rattle.al_unit.specs.Laws.Reads.{sentence, malformed, no_sentence}
use Rattle.al_unit.proofs.Faults.{fault_has_no_unit, fault_is_found, fault_is_told, no_fault_has_unit}

module _ (trees : TreesAreFound) (sentences : SentencesAreTrees) (faults : FaultsAreFound) (text : List ℕ) where
  by_fault : (tokens : List Token) (fault : Option ℕ) → lexed text ≡ Ok tokens → unit_of (lexemes text tokens) ≡ None → syntax_fault_of (lexemes text tokens) ≡ fault → Reads text (by_unit text tokens None)
  by_fault tokens (Some n) cut no_unit is = rw is (no_sentence tokens n cut (fault_is_found faults (lexemes text tokens) n is))
  by_fault tokens None cut no_unit is =
      let u = no_fault_has_unit trees sentences faults (lexemes text tokens) is in
      let some : unit_of (lexemes text tokens) ≡ Some u.0 = u.1 in
      absurd (cc)

  by_tree : (tokens : List Token) (unit : Option CompilationUnitTree) → lexed text ≡ Ok tokens → unit_of (lexemes text tokens) ≡ unit → Reads text (by_unit text tokens unit)
  by_tree tokens (Some unit) cut is = let found = (trees (lexemes text tokens) unit).0 is in sentence tokens cut found.0 found.1
  by_tree tokens None cut is = by_fault tokens (syntax_fault_of (lexemes text tokens)) cut is refl

  by_lexed : (r : Result (List Token) LexFault) → lexed text ≡ r → Reads text (by_tokens text r)
  by_lexed (Ok tokens) is = by_tree tokens (unit_of (lexemes text tokens)) is refl
  by_lexed (Err fault) is = malformed fault is

  has_reading : Reads text (reading_of text)
  unfolding reading_of
  has_reading = by_lexed (lexed text) refl

  is_reading : (reading : Reading) → Reads text reading → reading_of text ≡ reading
  unfolding reading_of
  is_reading reading (sentence {unit} tokens cut same nested) =
      ap (by_tokens text) cut ∙ ap (by_unit text tokens) ((trees (lexemes text tokens) unit).1 (same, nested))
  is_reading reading (malformed fault is) = ap (by_tokens text) is
  is_reading reading (no_sentence tokens n cut at) =
      let fault : syntax_fault_of (lexemes text tokens) ≡ Some n = fault_is_told faults (lexemes text tokens) n at in
      let no_unit : unit_of (lexemes text tokens) ≡ None = fault_has_no_unit trees sentences faults (lexemes text tokens) n fault in
      ap (by_tokens text) cut ∙ ap (by_unit text tokens) no_unit ∙ rw fault refl

pub texts_are_read : TreesAreFound → SentencesAreTrees → FaultsAreFound → TextsAreRead
texts_are_read trees sentences faults text reading = (
  (λ is. let P : Reading → Type 0 = λ r. Reads text r in subst P is (has_reading trees sentences faults text)),
  is_reading trees sentences faults text reading,
)
