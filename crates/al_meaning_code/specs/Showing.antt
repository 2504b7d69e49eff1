-- A machine that shows a state: its memory holds what the variables hold, and its links lead to their frames.
use Rattle.std.specs.Prelude.{◌≡◌, ◌≢◌, ℕ, zero, suc, ◌+◌, ◌-◌, ◌<◌, ◌≤◌, ℤ, length, Some}
use Rattle.al_view.specs.ViewUses.{link}
use Rattle.al_view.specs.declared.link.LinkKind.TheVariants as links
use Rattle.al_view.specs.declared.link.LinkSymbol.{LinkSymbol}
use Rattle.al_view.specs.declared.view.ObjectPlace.{ObjectPlace}
use Rattle.al_view.specs.declared.view.ObjectPlace.TheVariants as places
use Rattle.al_instr.specs.declared.instruction.Instr.{Instr}
use Rattle.al_instr.specs.declared.instruction.Instr.TheVariants as instr
use Rattle.al_machine.specs.Frames.{own_place}
use Rattle.al_machine.specs.Machine.{Machine, IsWithin}
use Rattle.al_machine.specs.Stack.{word_at}

-- one word more is on the stack, and nothing below it is changed
pub record Pushed (m n : Machine) (v : ℤ) : Type 0 where
  pub first : n.first ≡ m.first
  pub frame : n.frame ≡ m.frame
  pub top : n.top ≡ m.top + 1
  pub long : length n.memory ≡ length m.memory
  pub kept : (k : ℕ) → k < m.top → word_at n k ≡ word_at m k
  pub word : word_at n m.top ≡ v
  pub within : IsWithin n

-- what linking makes of instructions, the depth of nesting, the first place of the stack above all variables, which places are
-- variables, and their addresses
module _ (linked : LinkSymbol → Instr → Instr) (depth floor : ℕ) (V : ObjectPlace → Type 0) (address : ObjectPlace → ℕ) where
  -- so many links lead from one frame to another, in words that are no variable's
  abbrev pub Linked : ℕ → Machine → ℕ → ℕ → Type 0
  Linked zero m f g = f ≡ g
  Linked (suc n) m f g = (h : ℕ) × (own_place m (word_at m f) ≡ Some h) × (f < floor) × ((p : ObjectPlace) → V p → address p ≢ f) × Linked n m h g

  -- a variable is where its address says: in a frame to which links lead, or among the words of a unit
  abbrev pub Reaches : Machine → ObjectPlace → Type 0
  Reaches m (places.Frame d w) = (f : ℕ) × Linked (depth - d) m m.frame f × (f + w ≡ address (places.Frame d w))
  Reaches m (places.Static s w) = linked (link links.Data s) (instr.Global w) ≡ instr.Global (address (places.Static s w))

  -- the machine shows what the variables hold
  pub record Shows (words : ObjectPlace → ℤ) (m : Machine) : Type 0 where
    pub within : IsWithin m
    pub above : floor ≤ m.top
    pub lies : (p : ObjectPlace) → V p → Reaches m p
    pub holds : (p : ObjectPlace) → V p → word_at m (address p) ≡ words p

-- a machine that differs in no register, and below the floor in words of variables alone
pub record Near (V : ObjectPlace → Type 0) (address : ObjectPlace → ℕ) (floor : ℕ) (m n : Machine) : Type 0 where
  pub first : n.first ≡ m.first
  pub frame : n.frame ≡ m.frame
  pub top : n.top ≡ m.top
  pub long : length n.memory ≡ length m.memory
  pub kept : (k : ℕ) → k < floor → ((q : ObjectPlace) → V q → address q ≢ k) → word_at n k ≡ word_at m k
