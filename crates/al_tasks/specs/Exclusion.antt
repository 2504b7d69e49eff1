-- Who is inside which object, and who is ahead of whom.
use Rattle.std.specs.Prelude.{◌≡◌, ◌≢◌, ℕ, ◌+◌, ◌*◌, ◌<◌, ◌≤◌, ℤ, pos, List, [], ◌∷◌, ⊤, Bool, true, false, not, ◌&&◌, Option, Some, slice_get, slice_index_or, length}
use Rattle.al_link_image.specs.declared.parts.Region.{Region}
use Rattle.al_tasks.specs.declared.event.Event.{Event}
use Rattle.al_machine.specs.Code.{fetch}
use Rattle.al_machine.specs.Memory.{is_entered}
use Rattle.al_machine.specs.declared.operation.Operation.{Operation}
use Rattle.al_machine.specs.declared.operation.Operation.TheVariants as operation
use Rattle.al_machine.specs.declared.operation.TaskInstruction.TheVariants as kind
use Rattle.al_tasks.specs.Task.{Task, Program, World}
use Rattle.al_link_image.specs.Images.{Image}
use Rattle.al_tasks.specs.World.{step, after, load}
use Rattle.al_tasks.specs.WorldPrograms.{program_of}

-- P holds of each task
abbrev pub Each : (Task → Type 0) → List Task → Type 0
Each P [] = ⊤
Each P (t ∷ ts) = P t × Each P ts

-- R holds of each task and every later one
abbrev pub EachAfter : (Task → Task → Type 0) → List Task → Type 0
EachAfter R [] = ⊤
EachAfter R (t ∷ ts) = Each (R t) ts × EachAfter R ts

-- y's active priority is no lower than x's
abbrev pub Descends : Task → Task → Type 0
Descends y x = x.active ≤ y.active

-- no object has both tasks inside it
abbrev pub Apart : Task → Task → Type 0
Apart y x = (o : ℕ) → is_entered y.held o ≡ true → is_entered x.held o ≡ true → ⊥

-- if x is inside an object, the base priority of y, which is ahead of x, is above x's active priority
abbrev pub Above : Task → Task → Type 0
Above y x = x.held ≢ [] → x.active < y.base

abbrev pub InsideNothing : Task → Type 0
InsideNothing t = t.held ≡ []

-- the place is one of the words of the object of this number
abbrev pub IsWordOf : Program → ℕ → ℕ → Type 0
IsWordOf p number place =
    (o : Region) × (slice_get p.objects number ≡ Some o) × (o.address ≤ place) × (place < o.address + o.words)

-- the number of words of memory: the data words, and 16,384 stack words for each task and the environment task
abbrev pub size : Program → ℕ
size p = p.words + 16384 * (p.tasks + 1)

-- the words of the objects are among the data words, and memory isn't too large
pub record IsLaidOut (p : Program) : Type 0 where
  pub regions : (number : ℕ) (o : Region) → slice_get p.objects number ≡ Some o → o.address + o.words ≤ p.words
  pub room : size p ≤ 281474976710656

-- whether the running task is inside the object of this number
abbrev pub runs_inside : List Task → ℕ → Bool
runs_inside [] number = false
runs_inside (t ∷ ts) number = is_entered t.held number

-- whether an instruction gives an object's words their first values
abbrev pub is_seed : Option (Operation × ℕ) → Bool
is_seed (Some (operation.Task (kind.Seed address words), next)) = true
is_seed _ = false

abbrev pub runs_seed : Program → List Task → Bool
runs_seed p [] = false
runs_seed p (t ∷ ts) = is_seed (fetch p.code t.place)

-- whether an object's words get their first values now, before Go
abbrev pub seeds_now : Program → World → Bool
seeds_now p w = not w.gone && runs_seed p w.ready

-- the word at a place
abbrev pub word_in : World → ℕ → ℤ
word_in w place = slice_index_or w.memory place (pos 0)

-- no event changes the words of an object, except an instruction of the task inside it, and one that gives them their first
-- values
abbrev pub WordsAreKept : Program → World → Type 0
WordsAreKept p w =
    (e : Event) (number place : ℕ) → IsWordOf p number place → runs_inside w.ready number ≡ false → seeds_now p w ≡ false
    → word_in (step p w e) place ≡ word_in w place

-- two memories are the same except for the word at a place
pub record IsAlikeBut (place : ℕ) (xs ys : List ℤ) : Type 0 where
  pub long : length ys ≡ length xs
  pub same : (k : ℕ) → k ≢ place → slice_index_or ys k (pos 0) ≡ slice_index_or xs k (pos 0)

-- two worlds are the same except for the word at a place
pub record AreAlikeBut (place : ℕ) (w v : World) : Type 0 where
  pub rest : v ≡ record w { memory = v.memory }
  pub words : IsAlikeBut place w.memory v.memory

-- no event reads the words of an object, except an instruction of the task inside it: whatever such a word is, everything else
-- comes out the same
abbrev pub WordsAreUnread : Program → World → Type 0
WordsAreUnread p w =
    (e : Event) (number place : ℕ) (other : List ℤ) → IsWordOf p number place → runs_inside w.ready number ≡ false
    → IsAlikeBut place w.memory other
    → AreAlikeBut place (step p w e) (step p (record w { memory = other }) e)

-- the world of an image after a list of events
abbrev pub reached : Image → List Event → World
reached image events = let p = program_of image in after p (load p) events
