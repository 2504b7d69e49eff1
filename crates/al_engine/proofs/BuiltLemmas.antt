-- The effect of a build on a library, if it runs out of memory and if it gives an answer.
use Rattle.std.proofs.Common.{◌≡◌, ◌∙◌, ℕ, Bool, false, List, length, Option, Some, None, option_map, refl, sym, subst}
use Rattle.al_base.specs.Files.{Texts}
use Rattle.al_unit_graph.specs.Headers.{Header, Library}
use Rattle.al_query.specs.declared.answer.AnswerKind.{AnswerKind}
use Rattle.al_query.specs.declared.query.Query.{Query}
use Rattle.al_query_store.specs.Keyed.{SameStates, settled_at}
use Rattle.al_engine_refresh.specs.EntryLaw.{TextMeaning}
use Rattle.al_engine_refresh.specs.Moves.{Entries}
use Rattle.al_engine_refresh.specs.Settings.{ArePredefined}
use Rattle.al_engine_refresh.specs.Builds.{raised}
use Rattle.al_engine.specs.Rechecks.{setting_of}
use Rattle.al_engine.specs.UnitCache.{Kept}
use Rattle.al_engine.specs.Kept.{IsGraphOf}
use Rattle.al_engine.specs.declared.graph.UnitGraph.{UnitGraph}
use Rattle.al_link.specs.Relinking.{LinkedImage}
use Rattle.al_engine.specs.Batches.{IsCompiled}
use Rattle.al_engine.specs.Patches.{IsPatched, linked_in}
use Rattle.al_engine.specs.Rebuilds.{IsKept, IsRebuilt}
use Rattle.al_engine.specs.declared.rebuilding.Rebuilt.{Rebuilt}
use Rattle.al_engine.specs.Builds.{IsBuild}
use Rattle.al_engine.specs.Graphs.{AreElaborations, Remembered}
use Rattle.al_engine.specs.declared.orders.KnownOrder.{KnownOrder}
use Rattle.al_engine.specs.States.{AreReadFor, Built, Held, IsRight, IsSettledBy, linked_last}
use Rattle.al_engine.proofs.SameLemmas.{right-same}

module _ (meaning : TextMeaning) (header : List ℕ → Header) (library : Texts → Library) where
  -- which units a build checked, its result, and the entries that it left
  abbrev pub Rebuilds : (Query → AnswerKind) → Texts → List ℕ → Entries → Entries → Rebuilt → Type 0
  Rebuilds pre files main old new gave = (is : IsRebuilt meaning header pre (library files) main (settled_at old) (settled_at new) gave) × IsKept pre (library files) old new is.made gave

  settled-built : (pre : Query → AnswerKind) (old new : Entries) (read : Texts) (main : List ℕ) (b : Built) → b.files ≡ read → b.main ≡ main → Rebuilds pre read main old new b.gave → IsSettledBy meaning header pre library new b
  settled-built pre old new read main b f m rebuilt =
      subst (λ (x : Texts). IsSettledBy meaning header pre library new (record { files = x; main = b.main; gave = b.gave })) (sym f)
      (subst (λ (x : List ℕ). IsSettledBy meaning header pre library new (record { files = read; main = x; gave = b.gave })) (sym m)
      (record { before = settled_at old; rebuilt = rebuilt.0; reached = rebuilt.1.reached }))

  pub right-built : (pre : Query → AnswerKind) (old new : Entries) (files read : Texts) (main : List ℕ) (graph : UnitGraph) (orders : List KnownOrder) (b : Built) → AreReadFor header library → ArePredefined pre → b.files ≡ read → read ≡ files → b.main ≡ main → IsGraphOf (library b.files) graph → AreElaborations (library b.files) orders
      → Rebuilds pre read main old new b.gave → IsCompiled meaning (setting_of header pre (library b.files)) b.main b.gave.compiled
      → IsRight meaning header pre library files new false (Some (b.files, graph, orders)) (Some b) b.gave.compiled
  right-built pre old new files read main graph orders b reading predefined f r m is_graph are_orders rebuilt right = record {
    read = reading;
    predefined_units = predefined;
    built_right = right;
    settled = settled-built pre old new read main b f m rebuilt;
    unedited = λ e. f ∙ r;
    ready = rebuilt.1.ready;
    keeps_graph = (is_graph, are_orders);
    first = λ e. absurd (cc);
  }

  module _ {X : Type 0} (remembered : X → Remembered) (files_of : X → Texts) (main_of : X → List ℕ) where
    abbrev pub built_of : Rebuilt → Option X → Option Built
    built_of g last = option_map (λ x. record { files = files_of x; main = main_of x; gave = g }) last

    pub right-refused : (pre : Query → AnswerKind) (old new : Entries) → SameStates old new → (before now : Rebuilt) → now ≡ before → (files : Texts) (is_edited : Bool) (last : Option X)
        → IsRight meaning header pre library files old is_edited (option_map remembered last) (built_of before last) before.compiled
        → IsRight meaning header pre library files new is_edited (option_map remembered last) (built_of now last) now.compiled
    right-refused pre old new same before now e files is_edited last right =
        subst (λ (g : Rebuilt). IsRight meaning header pre library files new is_edited (option_map remembered last) (built_of g last) g.compiled) (sym e)
        (right-same meaning header pre library old new same files is_edited (option_map remembered last) (built_of before last) before.compiled right)

    -- before the first build there is no image
    linked-is : (gave : Rebuilt) (last : Option X) → (built_of gave last ≡ None → linked_in gave.compiled ≡ None) → linked_last (built_of gave last) ≡ linked_in gave.compiled
    linked-is gave None first = sym (first refl)
    linked-is gave (Some x) first = refl

    module _ {C P : Type 0} (count : C → ℕ) (table : P → Query → AnswerKind) (cache now : Kept C) (pre : P) (files read : Texts) (main : List ℕ) (gave : Rebuilt) (last : Option X) (b : Built) where
      abbrev pub before_build : Held C P
      before_build = record { cache = cache; predefined = pre; files = files; built = built_of gave last }

      abbrev pub after_build : Held C P
      after_build = record { cache = now; predefined = pre; files = files; built = Some b }

      pub build-built : (old : Held C P) → before_build ≡ old → (built_of gave last ≡ None → linked_in gave.compiled ≡ None) → b.files ≡ read → read ≡ files → b.main ≡ main → Rebuilds (table pre) read main cache.store now.store b.gave
          → count now.checker ≡ raised (count cache.checker) (length b.gave.checked) → IsPatched (linked_in gave.compiled) (linked_in b.gave.compiled) b.gave.patched
          → IsBuild meaning header count (table old.predefined) library main old after_build
      build-built old view first f r m rebuilt counted patched =
          let made : Rebuilds (table pre) files main cache.store now.store b.gave = subst (λ (x : Texts). Rebuilds (table pre) x main cache.store now.store b.gave) r rebuilt in
          let is : IsBuild meaning header count (table pre) library main before_build after_build = record {
            last = b;
            is_last = refl;
            files_are = f ∙ r;
            main_is = m;
            rebuilt = made.0;
            remembered = made.1;
            patched = subst (λ (l : Option LinkedImage). IsPatched l (linked_in b.gave.compiled) b.gave.patched) (sym (linked-is gave last first)) patched;
            counted = counted;
          } in
          subst (λ (h : Held C P). IsBuild meaning header count (table h.predefined) library main h after_build) view is
