-- The result of compiling is unique, and so is the output of its image.
use Rattle.std.proofs.Common.{◌≡◌, ℕ, List, Option, map, refl, sym, ap, subst, ◌∙◌, inl, inr}
use Rattle.al_base.specs.Files.{Texts}
use Rattle.al_base.specs.declared.unit_key.UnitKey.{UnitKey}
use Rattle.al_unit_graph.specs.Headers.{Header, Library}
use Rattle.al_base.specs.Batch.{Key}
use Rattle.al_bind.specs.declared.binding.BindFault.TheVariants.{Lacks, Cycle}
use Rattle.al_bind.specs.declared.lacking.MissingItem.TheVariants as lack
use Rattle.al_query.specs.declared.answer.AnswerKind.{AnswerKind}
use Rattle.al_query.specs.declared.query.Query.{Query}
use Rattle.al_engine_refresh.specs.EntryLaw.{TextMeaning}
use Rattle.al_query_outcome.specs.Defines.{main_symbol}
use Rattle.al_query_outcome.specs.Results.{Outcome}
use Rattle.al_engine.specs.Batches.{IsBatch}
use Rattle.al_engine.specs.declared.compiled.Compiled.{Compiled}
use Rattle.al_engine.specs.declared.compiled.Compiled.TheVariants as compiled
use Rattle.al_engine.specs.declared.compiled.Program.{Program}
use Rattle.al_engine.specs.Objects.{linked_units, objects_at}
use Rattle.al_engine.specs.Partitions.{IsProgram}
use Rattle.al_engine.specs.Programs.{image_in}
use Rattle.al_engine.specs.Replies as replies
use Rattle.al_engine.proofs.Replies.{one_placed, reply_is_one}
use Rattle.al_bind.proofs.Bound.{one_elaboration}
use Rattle.al_link.specs.Images.{image_of}
use Rattle.al_query_outcome.specs.Equations.{unit_named}
use Rattle.al_link_image.specs.Images.{Image}
use Rattle.al_engine.specs.Placed.{ArePlaced}
use Rattle.al_tasks.specs.WorldRuns.{run_of}
use Rattle.al_session_served.specs.Builds as adds
use Rattle.al_session_served.specs.Library.{IsSettled}
use Rattle.al_session.specs.EngineMeanings.{CompilesTo, meaning_of}
use Rattle.al_session.specs.Results.{result_of, run_told}

-- a reply of the laws, in the types of a session
from_reply : replies.Reply → adds.BuildResult
from_reply (replies.Faulty findings) = adds.Faulty findings
from_reply (replies.Unbound (inl lack.Main)) = adds.NoMain
from_reply (replies.Unbound (inl (lack.Body name))) = adds.NoBody name
from_reply (replies.Unbound (inl (lack.Subunit name))) = adds.NoSubunit name
from_reply (replies.Unbound (inr lines)) = adds.Cycle lines
from_reply (replies.TooLarge order) = adds.TooLarge order
from_reply (replies.Made order bytes) = adds.Made order bytes

from_reply_of : (c : Compiled) → from_reply (replies.reply_of c) ≡ result_of c
unfolding from_reply
from_reply_of (compiled.Faulty diagnostics) = refl
from_reply_of (compiled.Unbound (Lacks lack.Main)) = refl
from_reply_of (compiled.Unbound (Lacks (lack.Body name))) = refl
from_reply_of (compiled.Unbound (Lacks (lack.Subunit name))) = refl
from_reply_of (compiled.Unbound (Cycle lines)) = refl
from_reply_of (compiled.TooLarge order) = refl
from_reply_of (compiled.Made program) = refl

same_image : (lib : Library) (f : UnitKey → Option Outcome) (main : List ℕ) (xs ys : List Key) (image other : Image) (bytes others : List ℕ) → IsProgram lib f main xs image bytes → IsProgram lib f main ys other others → image ≡ other
same_image lib f main xs ys image other bytes others x y =
    let order : xs ≡ ys = one_elaboration lib main xs ys x.ordered y.ordered in
    let placed : x.placed ≡ y.placed = one_placed lib ys x.placed y.placed (subst (λ (l : List Key). ArePlaced lib l x.placed) order x.are_placed) y.are_placed in
    x.image_is ∙ ap (λ (p : List Key). image_of (main_symbol lib main) (linked_units (objects_at f (map unit_named p)))) placed ∙ sym y.image_is

module _ (meaning : TextMeaning) (header : List ℕ → Header) (predefined : Query → AnswerKind) (library : Texts → Library) where
  -- by the outcomes of one of them
  one_result : (files : Texts) (main : List ℕ) (one two : Compiled) → CompilesTo meaning header predefined library files main one → CompilesTo meaning header predefined library files main two → result_of one ≡ result_of two
  one_result files main one two x y =
      let each : (u : UnitKey) → x.outcomes u ≡ y.outcomes u = y.only x.outcomes x.solves in
      let same : x.outcomes ≡ y.outcomes = λ i. λ u. each u i in
      let there : IsBatch (library files) y.outcomes main one = subst (λ (f : UnitKey → Option Outcome). IsBatch (library files) f main one) same x.is_batch in
      sym (from_reply_of one) ∙ ap from_reply (reply_is_one (library files) y.outcomes main one two there y.is_batch) ∙ from_reply_of two

  one_image : (files : Texts) (main : List ℕ) (one two : Program) → CompilesTo meaning header predefined library files main (compiled.Made one) → CompilesTo meaning header predefined library files main (compiled.Made two) → image_in one ≡ image_in two
  one_image files main one two x y =
      let each : (u : UnitKey) → x.outcomes u ≡ y.outcomes u = y.only x.outcomes x.solves in
      let same : x.outcomes ≡ y.outcomes = λ i. λ u. each u i in
      let there : IsBatch (library files) y.outcomes main (compiled.Made one) = subst (λ (f : UnitKey → Option Outcome). IsBatch (library files) f main (compiled.Made one)) same x.is_batch in
      same_image (library files) y.outcomes main _ _ (image_in one) (image_in two) _ _ there.1 y.is_batch.1

  pub is_settled : IsSettled (meaning_of meaning header predefined library)
  is_settled = record {
    builds = λ files main one two x y. x.gave_is ∙ one_result files main x.compiled y.compiled x.compiles y.compiles ∙ sym y.gave_is;
    runs = λ files main tick steps one two x y. x.run_is ∙ ap (λ (i : Image). run_told (run_of i tick steps)) (one_image files main x.program y.program x.compiles y.compiles) ∙ sym y.run_is;
  }
