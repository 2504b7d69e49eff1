-- The marks of a log's answers.
use Rattle.std.specs.Prelude.{ℕ, Bool, false, List, replicate}

-- for each answer, whether it differs from that of the last build, and from that of now
pub record Marked : Type 0 where
  pub last : List Bool
  pub now : List Bool

-- marks of so many answers, none of which differs
abbrev pub unmarked : ℕ → Marked
unmarked n = record { last = replicate n false; now = replicate n false }

-- the marks of the last build, as those of now too; and those of now, as those of the last build too
abbrev pub put_back : Marked → Marked
put_back m = record { last = m.last; now = m.last }

abbrev pub taken_over : Marked → Marked
taken_over m = record { last = m.now; now = m.now }
