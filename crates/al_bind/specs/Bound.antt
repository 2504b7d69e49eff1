-- The binder's answer is unique: an order, or one error.
use Rattle.std.specs.Prelude.{◌≡◌, ◌⊎◌, ℕ, List, map}
use Rattle.std.proofs.Common.{inl, inr}
use Rattle.al_base.specs.Batch.{Key}
use Rattle.al_base_graph.specs.declared.edge.Reason.{Reason}
use Rattle.al_unit_graph.specs.Headers.{Library}
use Rattle.al_bind.specs.Binding.{IsBindFault, IsElaboration, line_model}
use Rattle.al_bind.specs.declared.binding.BindFault.{BindFault}
use Rattle.al_bind.specs.declared.binding.BindFault.TheVariants.{Lacks, Cycle}
use Rattle.al_bind.specs.declared.lacking.MissingItem.{MissingItem}

-- an error: what is missing, or the lines of a cycle
abbrev pub fault_model : BindFault → MissingItem ⊎ List (Key × Key × Reason)
fault_model (Lacks lack) = inl lack
fault_model (Cycle lines) = inr (map line_model lines.items)

-- a partition has at most one elaboration order
abbrev pub OneElaboration : Type 0
OneElaboration = (lib : Library) (main : List ℕ) (one two : List Key) → IsElaboration lib main one → IsElaboration lib main two → one ≡ two

-- a partition has at most one error
abbrev pub OneFault : Type 0
OneFault = (lib : Library) (main : List ℕ) (one two : BindFault) → IsBindFault lib main one → IsBindFault lib main two → fault_model one ≡ fault_model two

-- a partition has no order and an error at once
abbrev pub OrderOrFault : Type 0
OrderOrFault = (lib : Library) (main : List ℕ) (order : List Key) (fault : BindFault) → IsElaboration lib main order → IsBindFault lib main fault → ⊥
