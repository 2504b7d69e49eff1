-- The effect of a build on a library.
use Rattle.std.specs.Prelude.{ℕ, ◌≡◌, List, Some, length}
use Rattle.al_base.specs.Files.{Texts}
use Rattle.al_unit_graph.specs.Headers.{Header, Library}
use Rattle.al_query_store.specs.Keyed.{settled_at}
use Rattle.al_query.specs.declared.answer.AnswerKind.{AnswerKind}
use Rattle.al_query.specs.declared.query.Query.{Query}
use Rattle.al_engine_refresh.specs.Builds.{raised}
use Rattle.al_engine_refresh.specs.EntryLaw.{TextMeaning}
use Rattle.al_engine.specs.Patches.{IsPatched, linked_in}
use Rattle.al_engine.specs.Rebuilds.{IsKept, IsRebuilt}
use Rattle.al_engine.specs.States.{Built, Held, linked_last}

-- the last build is of the present files and this main unit, over the entries of before; the count of checks rose by the number
-- of checks
pub record IsBuild {C P : Type 0} (meaning : TextMeaning) (header : List ℕ → Header) (count : C → ℕ) (predefined : Query → AnswerKind) (library : Texts → Library) (main : List ℕ) (old new : Held C P) : Type 0 where
  pub last : Built
  pub is_last : new.built ≡ Some last
  pub files_are : last.files ≡ old.files
  pub main_is : last.main ≡ main
  pub rebuilt : IsRebuilt meaning header predefined (library old.files) main (settled_at old.cache.store) (settled_at new.cache.store) last.gave
  -- the entries: which units the build reached, and how many stored answers it compared
  pub remembered : IsKept predefined (library old.files) old.cache.store new.cache.store rebuilt.made last.gave
  -- the number of units whose code was written into the image of the build before
  pub patched : IsPatched (linked_last old.built) (linked_in last.gave.compiled) last.gave.patched
  pub counted : count new.cache.checker ≡ raised (count old.cache.checker) (length last.gave.checked)
