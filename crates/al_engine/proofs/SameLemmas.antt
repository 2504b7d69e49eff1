-- What a library keeps, if all entries of its units are as before.
use Rattle.std.proofs.Common.{◌∙◌, ℕ, Bool, List, Option, Some, None, IfSome}
use Rattle.al_base.specs.Files.{Texts}
use Rattle.al_unit_graph.specs.Headers.{Header, Library}
use Rattle.al_query.specs.declared.answer.AnswerKind.{AnswerKind}
use Rattle.al_query.specs.declared.query.Query.{Query}
use Rattle.al_query_store.specs.Keyed.{SameStates}
use Rattle.al_engine_refresh.specs.EntryLaw.{TextMeaning}
use Rattle.al_engine_refresh.specs.Moves.{Entries}
use Rattle.al_engine.proofs.RecheckSameLemmas.{before-same, ready-same, settled-same}
use Rattle.al_engine.specs.declared.graph.UnitGraph.{UnitGraph}
use Rattle.al_engine.specs.declared.compiled.Compiled.{Compiled}
use Rattle.al_engine.specs.Graphs.{Remembered}
use Rattle.al_engine.specs.States.{Built, IsRight, IsSettledBy}

module _ (meaning : TextMeaning) (header : List ℕ → Header) (pre : Query → AnswerKind) (library : Texts → Library) (old new : Entries) (same : SameStates old new) where
  settled-by-same : (b : Built) → IsSettledBy meaning header pre library old b → IsSettledBy meaning header pre library new b
  settled-by-same b is = record {
    before = is.before;
    rebuilt = record {
      made = is.rebuilt.made;
      rechecked = is.rebuilt.rechecked;
      is_batch = is.rebuilt.is_batch;
      entries = λ u. settled-same old new same u ∙ is.rebuilt.entries u;
      earlier = is.rebuilt.earlier;
    };
    reached = λ u. before-same old new same u ∙ is.reached u;
  }

  settled-last : (built : Option Built) → IfSome built (λ b. IsSettledBy meaning header pre library old b) → IfSome built (λ b. IsSettledBy meaning header pre library new b)
  settled-last None is = is
  settled-last (Some b) is = settled-by-same b is

  pub right-same : (files : Texts) (is_edited : Bool) (graph : Option Remembered) (built : Option Built) (gave : Compiled) → IsRight meaning header pre library files old is_edited graph built gave → IsRight meaning header pre library files new is_edited graph built gave
  right-same files is_edited graph built gave right = record {
    read = right.read;
    predefined_units = right.predefined_units;
    built_right = right.built_right;
    settled = settled-last built right.settled;
    unedited = right.unedited;
    ready = ready-same old new same pre right.ready;
    keeps_graph = right.keeps_graph;
    first = right.first;
  }
