-- What builds of the same files report.
use Rattle.std.proofs.Common.{◌≡◌, ℕ, List, Option, Some, sym, ap, subst, ◌∙◌}
use Rattle.al_base.specs.Files.{Texts}
use Rattle.al_base.specs.declared.unit_key.UnitKey.{UnitKey}
use Rattle.al_unit_graph.specs.Headers.{Header, Library}
use Rattle.al_query.specs.declared.answer.AnswerKind.{AnswerKind}
use Rattle.al_query.specs.declared.query.Query.{Query}
use Rattle.al_query_store.specs.Keyed.{settled_at}
use Rattle.al_query_outcome.specs.Results.{Outcome}
use Rattle.al_engine_refresh.specs.Builds.{results_of}
use Rattle.al_engine_refresh.specs.EntryLaw.{TextMeaning}
use Rattle.al_engine_refresh.specs.Stored.{Stored}
use Rattle.al_engine.specs.Batches.{IsBatch}
use Rattle.al_engine.specs.Replies.{ReplyIsOne, reply_of}
use Rattle.al_engine.specs.Rebuilds.{IsRebuilt}
use Rattle.al_engine.specs.declared.rebuilding.Rebuilt.{Rebuilt}
use Rattle.al_engine.specs.LawBuilds.{BuildsTellOneThing, told}

module _ (reply_is_one : ReplyIsOne) (meaning : TextMeaning) (header : List ℕ → Header) (predefined : Query → AnswerKind) (lib : Library) (main : List ℕ) where
  -- there is only one map of outcomes, so there is only one report
  one_reply : (old new other built : UnitKey → Option Stored) (a b : Rebuilt) → IsRebuilt meaning header predefined lib main old new a → IsRebuilt meaning header predefined lib main other built b → reply_of a.compiled ≡ reply_of b.compiled
  one_reply old new other built a b x y =
      let f : UnitKey → Option Outcome = results_of x.made in
      let g : UnitKey → Option Outcome = results_of y.made in
      let each : (u : UnitKey) → g u ≡ f u = x.rechecked.only g y.rechecked.solves in
      let same : g ≡ f = λ i. λ u. each u i in
      reply_is_one lib f main a.compiled b.compiled x.is_batch (subst (λ (h : UnitKey → Option Outcome). IsBatch lib h main b.compiled) same y.is_batch)

pub one_thing : ReplyIsOne → (C P : Type 0) (meaning : TextMeaning) (header : List ℕ → Header) (count : C → ℕ) (predefined : Query → AnswerKind) (library : Texts → Library) → BuildsTellOneThing C P meaning header count predefined library
one_thing reply_is_one C P meaning header count predefined library main old new other built x y now =
    let lib = library old.files in
    let moved = subst (λ (l : Library). IsRebuilt meaning header predefined l main (settled_at other.cache.store) (settled_at built.cache.store) y.last.gave) (ap library (sym now)) y.rebuilt in
    ap told x.is_last
    ∙ ap Some (one_reply reply_is_one meaning header predefined lib main (settled_at old.cache.store) (settled_at new.cache.store) (settled_at other.cache.store) (settled_at built.cache.store) x.last.gave y.last.gave x.rebuilt moved)
    ∙ sym (ap told y.is_last)
