-- What compiling reports, as plain data. It depends only on the files and the main unit.
use Rattle.std.specs.Prelude.{◌≡◌, ◌⊎◌, ℕ, List, map, Option}
use Rattle.al_base.specs.Batch.{Finding, Key, finding_of, key_of}
use Rattle.al_base.specs.declared.unit_key.UnitKey.{UnitKey}
use Rattle.al_base_graph.specs.declared.edge.Reason.{Reason}
use Rattle.al_unit_graph.specs.Headers.{Library}
use Rattle.al_bind.specs.declared.lacking.MissingItem.{MissingItem}
use Rattle.al_bind.specs.Bound.{fault_model}
use Rattle.al_query_outcome.specs.Results.{Outcome}
use Rattle.al_engine.specs.Batches.{IsBatch}
use Rattle.al_engine.specs.Programs.{bytes_in}
use Rattle.al_engine.specs.declared.compiled.Compiled.{Compiled}
use Rattle.al_engine.specs.declared.compiled.Compiled.TheVariants as compiled

-- the errors in the files; what the partition lacks, or the lines of a cycle; only the order; the order and the bytes of the
-- image
pub data Reply : Type 0 where
  Faulty : List Finding → Reply
  Unbound : MissingItem ⊎ List (Key × Key × Reason) → Reply
  TooLarge : List Key → Reply
  Made : List Key → List ℕ → Reply

abbrev pub reply_of : Compiled → Reply
reply_of (compiled.Faulty diagnostics) = Faulty (map finding_of diagnostics.items)
reply_of (compiled.Unbound fault) = Unbound (fault_model fault)
reply_of (compiled.TooLarge order) = TooLarge (map key_of order.items)
reply_of (compiled.Made program) = Made (map key_of program.order.items) (bytes_in program)

-- for given outcomes of the units, compiling reports one result
abbrev pub ReplyIsOne : Type 0
ReplyIsOne =
    (lib : Library) (f : UnitKey → Option Outcome) (main : List ℕ) (one two : Compiled) → IsBatch lib f main one → IsBatch lib f main two → reply_of one ≡ reply_of two
