-- Builds of the same files.
use Rattle.std.specs.Prelude.{ℕ, ◌≡◌, List, Option, option_map}
use Rattle.al_base.specs.Files.{Texts}
use Rattle.al_unit_graph.specs.Headers.{Header, Library}
use Rattle.al_query.specs.declared.answer.AnswerKind.{AnswerKind}
use Rattle.al_query.specs.declared.query.Query.{Query}
use Rattle.al_engine_refresh.specs.EntryLaw.{TextMeaning}
use Rattle.al_engine.specs.Replies.{Reply, reply_of}
use Rattle.al_engine.specs.Builds.{IsBuild}
use Rattle.al_engine.specs.States.{Built, Held}

-- what the last build reports, as plain data
abbrev pub told : Option Built → Option Reply
told built = option_map (λ b. reply_of b.gave.compiled) built

-- If two libraries have the same files, and each was built with the same main unit, then they report the same.
abbrev pub BuildsTellOneThing : (C P : Type 0) → TextMeaning → (List ℕ → Header) → (C → ℕ) → (Query → AnswerKind) → (Texts → Library) → Type 0
BuildsTellOneThing C P meaning header count predefined library =
    (main : List ℕ) (old new other built : Held C P)
    → IsBuild meaning header count predefined library main old new → IsBuild meaning header count predefined library main other built → old.files ≡ other.files → told new.built ≡ told built.built
