-- A build of the engine is one of a session.
use Rattle.std.proofs.Common.{◌≡◌, ℕ, List, Option, Some, refl, sym, ap, subst, ◌∙◌}
use Rattle.al_base.specs.Files.{Texts}
use Rattle.al_base.specs.declared.unit_key.UnitKey.{UnitKey}
use Rattle.al_query_store.specs.Keyed.{settled_at}
use Rattle.al_unit_graph.specs.Headers.{Header, Library}
use Rattle.al_query.specs.declared.answer.AnswerKind.{AnswerKind}
use Rattle.al_query.specs.declared.query.Query.{Query}
use Rattle.al_engine_refresh.specs.Builds.{results_of}
use Rattle.al_engine_refresh.specs.EntryLaw.{TextMeaning}
use Rattle.al_engine_refresh.specs.Stored.{Stored}
use Rattle.al_engine.specs.Rebuilds.{IsRebuilt}
use Rattle.al_engine.specs.declared.rebuilding.Rebuilt.{Rebuilt}
use Rattle.al_engine.specs.Builds.{IsBuild}
use Rattle.al_engine.specs.States.{Built, Held}
use Rattle.al_session_served.specs.Library.{IsBuilt, State}
use Rattle.al_session.specs.EngineMeanings.{CompilesTo, IsLastOnly, meaning_of, state_of}
use Rattle.al_session.specs.Results.{result_of}

module _ (meaning : TextMeaning) (header : List ℕ → Header) (predefined : Query → AnswerKind) (library : Texts → Library) where
  compiled_to : (files : Texts) (main : List ℕ) (old new : UnitKey → Option Stored) (rebuilt : Rebuilt) → IsRebuilt meaning header predefined (library files) main old new rebuilt → CompilesTo meaning header predefined library files main rebuilt.compiled
  compiled_to files main old new rebuilt x = record { outcomes = results_of x.made; solves = x.rechecked.solves; only = x.rechecked.only; is_batch = x.is_batch }

  module _ {C P : Type 0} (count : C → ℕ) (table : Query → AnswerKind) (same : table ≡ predefined) (main : List ℕ) (old new : Held C P) (build : IsBuild meaning header count table library main old new) where
    -- what the build gave is what compiling the files as they were gives
    build_compiles : CompilesTo meaning header predefined library old.files main build.last.gave.compiled
    build_compiles = compiled_to old.files main (settled_at old.cache.store) (settled_at new.cache.store) build.last.gave (subst (λ (t : Query → AnswerKind). IsRebuilt meaning header t (library old.files) main (settled_at old.cache.store) (settled_at new.cache.store) build.last.gave) same build.rebuilt)

    -- so what is left is what compiling its files gives
    pub last_only : IsLastOnly meaning header predefined library new.built
    last_only =
        let at_main : CompilesTo meaning header predefined library old.files build.last.main build.last.gave.compiled = subst (λ (m : List ℕ). CompilesTo meaning header predefined library old.files m build.last.gave.compiled) (sym build.main_is) build_compiles in
        let there : CompilesTo meaning header predefined library build.last.files build.last.main build.last.gave.compiled = subst (λ (f : Texts). CompilesTo meaning header predefined library f build.last.main build.last.gave.compiled) (sym build.files_are) at_main in
        subst (λ (b : Option Built). IsLastOnly meaning header predefined library b) (sym build.is_last) there

    is_built : new.files ≡ old.files → IsBuilt (meaning_of meaning header predefined library) main (state_of old.files old.built) (state_of new.files new.built)
    is_built files = record {
      gave = result_of build.last.gave.compiled;
      compiles = record { compiled = build.last.gave.compiled; compiles = build_compiles; gave_is = refl };
      new_is =
          ap (λ f. state_of f new.built) files
          ∙ ap (λ b. state_of old.files b) build.is_last
          ∙ ap (λ f. record { now = old.files; built = Some (record { files = f; main = build.last.main; gave = result_of build.last.gave.compiled }) }) build.files_are
          ∙ ap (λ m. record { now = old.files; built = Some (record { files = old.files; main = m; gave = result_of build.last.gave.compiled }) }) build.main_is;
    }

    pub built_from : (state : State) → state_of old.files old.built ≡ state → new.files ≡ old.files → IsBuilt (meaning_of meaning header predefined library) main state (state_of new.files new.built)
    built_from state view files = subst (λ (s : State). IsBuilt (meaning_of meaning header predefined library) main s (state_of new.files new.built)) view (is_built files)

  -- a build that finds no memory leaves it so
  pub still_only : (old new : Option Built) → new ≡ old → IsLastOnly meaning header predefined library old → IsLastOnly meaning header predefined library new
  still_only old new same right = subst (λ (b : Option Built). IsLastOnly meaning header predefined library b) (sym same) right
