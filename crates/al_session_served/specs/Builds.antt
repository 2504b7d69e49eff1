-- The results of builds and runs, as plain data.
use Rattle.std.specs.Prelude.{ℕ, List, [], Option, Some, None}
use Rattle.al_base.specs.Batch.{Finding, Key}
use Rattle.al_base_graph.specs.declared.edge.Reason.{Reason}
use Rattle.al_session_served.specs.declared.run.RunEnd.{RunEnd}
use Rattle.al_session_served.specs.declared.run.RunReport.{RunReport}

-- the result of compiling files into an empty library, for a main unit
pub data BuildResult : Type 0 where
  -- the errors, by file, place and number; at least one
  Faulty : List Finding → BuildResult
  -- the main unit is no parameterless procedure of the library (ARM 10.2(7))
  NoMain : BuildResult
  -- the body of the needed declaration with this name is missing (ARM 10.2(4))
  NoBody : List ℕ → BuildResult
  -- the needed subunit with this name is missing (ARM 10.2(5))
  NoSubunit : List ℕ → BuildResult
  -- the lines of a cycle, which shows that there is no order: an item, the item before it, and why (ARM 10.2.1(17))
  Cycle : List (Key × Key × Reason) → BuildResult
  -- an elaboration order, and no image, since it would pass a limit
  TooLarge : List Key → BuildResult
  -- the elaboration order and the image's bytes
  Made : List Key → List ℕ → BuildResult

-- the errors in the files
abbrev pub findings_of : BuildResult → List Finding
findings_of (Faulty findings) = findings
findings_of NoMain = []
findings_of (NoBody name) = []
findings_of (NoSubunit name) = []
findings_of (Cycle lines) = []
findings_of (TooLarge order) = []
findings_of (Made order image) = []

-- the elaboration order, if there is one
abbrev pub order_of : BuildResult → Option (List Key)
order_of (Faulty findings) = None
order_of NoMain = None
order_of (NoBody name) = None
order_of (NoSubunit name) = None
order_of (Cycle lines) = None
order_of (TooLarge order) = Some order
order_of (Made order image) = Some order

-- the bytes of the image, if there is one
abbrev pub image_of : BuildResult → Option (List ℕ)
image_of (Faulty findings) = None
image_of NoMain = None
image_of (NoBody name) = None
image_of (NoSubunit name) = None
image_of (Cycle lines) = None
image_of (TooLarge order) = None
image_of (Made order image) = Some image

-- the output of a run, and how it ended
pub record Run : Type 0 where
  pub output : List ℕ
  pub ended : RunEnd

abbrev pub run_model : RunReport → Run
run_model ran = record { output = ran.output.items; ended = ran.ended }
