-- Which declaration a body completes (ARM 3.11.1).
use Rattle.std.specs.Prelude.{◌≡◌, ℕ, ◌<◌, Bool, true, false, List, length, IsTrue, IsFalse, slice_index_or}
use Rattle.al_view.specs.declared.view.CallKind.{CallKind}
use Rattle.al_view.specs.declared.view.CallKind.TheVariants as call
use Rattle.al_view.specs.declared.view.SubprogramView.{SubprogramView}
use Rattle.al_view.specs.declared.view.ViewKind.{ViewKind}
use Rattle.al_view.specs.declared.view.ViewKind.TheVariants.{OfSubprogram, OfTask, OfProtected}
use Rattle.al_query.specs.declared.answer.Completion.{Completion}
use Rattle.al_decl_judged.specs.declared.specification.BodyHead.{BodyHead}
use Rattle.al_decl_judged.specs.declared.specification.BodyHead.TheVariants as head
use Rattle.al_decl_judged.specs.Conformance.{HasTypesOf}

abbrev pub is_entry : CallKind → Bool
is_entry call.Entry = true
is_entry _ = false

-- a body is one for a subprogram: that of a subprogram has its parameter and result types (ARM 6.3(4), 8.3(8)), that of an
-- entry is an entry's (ARM 9.5.2(5))
abbrev pub IsSubprogramBodyOf : BodyHead → SubprogramView → Type 0
IsSubprogramBodyOf (head.Subprogram s) v = IsFalse (is_entry v.call) × HasTypesOf s v.profile
IsSubprogramBodyOf head.Entry v = IsTrue (is_entry v.call)
IsSubprogramBodyOf _ v = ⊥

-- a body is one for a declaration: a task body for a task, a protected body for a protected object (ARM 9.1(8), 9.4(8))
abbrev pub IsBodyOf : BodyHead → ViewKind → Type 0
IsBodyOf h (OfSubprogram v) = IsSubprogramBodyOf h v
IsBodyOf head.«Task» (OfTask t) = Unit {0}
IsBodyOf head.Protected (OfProtected p) = Unit {0}
IsBodyOf _ _ = ⊥

-- a body of this name completes a declaration
abbrev pub Completes : List ℕ → BodyHead → Completion → Type 0
Completes name h c = (c.name ≡ name) × IsBodyOf h c.view

-- the first element of a list of which P holds
pub record IsFirst {X : Type 0} (P : X → Type 0) (xs : List X) (i : ℕ) : Type 0 where
  pub inside : i < length xs
  pub env : (d : X) → P (slice_index_or xs i d)
  pub before : (k : ℕ) (d : X) → k < i → P (slice_index_or xs k d) → ⊥
