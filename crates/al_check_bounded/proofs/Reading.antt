-- What is read as a unit, and what isn't.
use Rattle.std.proofs.Common.{◌≡◌, ◌∙◌, ℕ, List, [], ◌∷◌, Option, Some, None, sym, ap, subst}
use Rattle.al_base.specs.declared.unit_key.UnitKey.{UnitKey}
use Rattle.al_tree_syntax.specs.UnitTrees.{CompilationUnitTree}
use Rattle.al_unit_header.specs.Units.{header_of}
use Rattle.al_unit_graph.specs.Headers.{Header}
use Rattle.al_query.specs.Known.{Grounded, known_after}
use Rattle.al_query.specs.Reads.{Log, Table}
use Rattle.al_query_outcome.specs.Defines.{DefinesParts}
use Rattle.al_query_outcome.specs.ReadsLaw.{NamesOnly, named_by}
use Rattle.al_query_outcome.specs.Results.{Outcome, Faulty}
use Rattle.al_check_promises.specs.Laws.{NotYetIsReported, Promised}
use Rattle.al_check_promises.specs.SelfChecks.{not_checked}
use Rattle.al_unit.specs.Texts.{HeadersAreRead, UnitsAreRead, header_in, unit_in}
use Rattle.al_check_bounded.specs.Verdicts.{Verdict}
use Rattle.al_check_bounded.specs.Within.{IsChecked, meaning_within}
use Rattle.al_check_bounded.proofs.Naming.{faulty_names}
use Rattle.al_check_bounded.specs.Meanings.{meaning_if_unit, text_meaning}

-- the check of a unit with these bytes is that of its source
pub with_bytes : (units : UnitKey → Header → Table → List UnitKey) (names : UnitKey → Header → Table → List (List ℕ)) (verdict : UnitKey → List ℕ → CompilationUnitTree → Table → Verdict) (unit : UnitKey) (bytes text : List ℕ) (tree : CompilationUnitTree) (log : Log) (outcome : Outcome)
    → bytes ≡ text → IsChecked unit (header_of tree) (meaning_within units names verdict unit bytes tree) log outcome → IsChecked unit (header_of tree) (meaning_within units names verdict unit text tree) log outcome
with_bytes units names verdict unit bytes text tree log outcome same checked = subst (λ (t : List ℕ). IsChecked unit (header_of tree) (meaning_within units names verdict unit t tree) log outcome) same checked

module _ (units : UnitKey → Header → Table → List UnitKey) (names : UnitKey → Header → Table → List (List ℕ)) (verdict : UnitKey → List ℕ → CompilationUnitTree → Table → Verdict) (unit : UnitKey) (text : List ℕ) where
  means : (found : Option CompilationUnitTree) (t : Table) → unit_in text ≡ found → text_meaning units names verdict unit text t ≡ meaning_if_unit units names verdict unit text found t
  unfolding text_meaning
  means found t is = ap (λ (f : Option CompilationUnitTree). meaning_if_unit units names verdict unit text f t) is

  module _ (log : Log) (outcome : Outcome) where
    -- a source that is no unit
    pub no_unit : NotYetIsReported → log ≡ [] → outcome ≡ Faulty (not_checked unit) → unit_in text ≡ None → IsChecked unit (header_in text) (text_meaning units names verdict unit text) log outcome
    no_unit answered none is reads = record {
      meaning = λ t h. is ∙ sym (means None t reads);
      grounded = subst (λ (l : Log). Grounded (named_by (header_in text)) l) (sym none) tt;
      names = subst (λ (o : Outcome). NamesOnly (unit ∷ known_after (named_by (header_in text)) log) o) (sym is) (faulty_names (unit ∷ known_after (named_by (header_in text)) log) (not_checked unit));
      promised = subst (λ (o : Outcome). Promised unit log o) (sym is) (answered unit log);
      parts = λ t h. subst (λ (o : Outcome). DefinesParts unit (header_in text) t o) (sym is) tt;
    }

    -- a source that is parsed as a unit
    pub a_unit : HeadersAreRead → UnitsAreRead → (tree : CompilationUnitTree) → unit_in text ≡ Some tree → IsChecked unit (header_of tree) (meaning_within units names verdict unit text tree) log outcome → IsChecked unit (header_in text) (text_meaning units names verdict unit text) log outcome
    a_unit headed read tree reads checked =
        let header : header_of tree ≡ header_in text = sym (headed text tree (read text tree reads).1) in
        record {
          meaning = λ t h. checked.meaning t h ∙ sym (means (Some tree) t reads);
          grounded = subst (λ (x : Header). Grounded (named_by x) log) header checked.grounded;
          names = subst (λ (x : Header). NamesOnly (unit ∷ known_after (named_by x) log) outcome) header checked.names;
          promised = checked.promised;
          parts = λ t h. subst (λ (x : Header). DefinesParts unit x t outcome) header (checked.parts t h);
        }
