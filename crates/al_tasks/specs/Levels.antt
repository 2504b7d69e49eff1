-- Who is ahead of whom among the ready tasks, by their levels (ARM D.2.1, D.2.2).
use Rattle.std.specs.Prelude.{◌≡◌, ◌≢◌, ◌↔◌, ◌⊎◌, ℕ, ◌<◌, ◌≤◌, List, [], Some, slice_get}
use Rattle.al_link_image.specs.Images.{Image}
use Rattle.al_tasks.specs.declared.event.Event.{Event}
use Rattle.al_tasks.specs.Exclusion.{reached}
use Rattle.al_tasks.specs.Task.{Task}

-- the ready task at a place of the queue
abbrev pub Stands : List Task → ℕ → Task → Type 0
Stands ready i t = slice_get ready i ≡ Some t

-- a task's level is its active priority
abbrev pub level : Task → ℕ
level t = t.active

-- Of two ready tasks y, at the place i, is ahead of x, at the place j: its level is higher, or they share a level and it is
-- nearer to the head of that.
abbrev pub IsAhead : ℕ → Task → ℕ → Task → Type 0
IsAhead i y j x = (level x < level y) ⊎ ((level x ≡ level y) × (i < j))

-- P holds of each two ready tasks with their places, for any image's program after any list of events
abbrev pub OfReady : (ℕ → Task → ℕ → Task → Type 0) → Type 0
OfReady P = (image : Image) (events : List Event) (i j : ℕ) (y x : Task) → Stands (reached image events).ready i y → Stands (reached image events).ready j x → P i y j x

-- levels never rise from one place to the next
abbrev pub LevelsFall : Type 0
LevelsFall = OfReady (λ i y j x. i ≤ j → level x ≤ level y)

-- a task is ahead of another one if it comes before it in the queue, and only then
abbrev pub PlacesTellWhoIsAhead : Type 0
PlacesTellWhoIsAhead = OfReady (λ i y j x. IsAhead i y j x ↔ (i < j))

-- every task ahead of one that is inside an object has a base priority above that one's level
abbrev pub AheadIsAbove : Type 0
AheadIsAbove = OfReady (λ i y j x. IsAhead i y j x → x.held ≢ [] → level x < y.base)
