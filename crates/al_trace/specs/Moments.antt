-- How far a run has come, and at which time that is.
use Rattle.std.specs.Prelude.{ℕ, ◌+◌, ◌-◌, ◌*◌, ◌/◌, ◌^◌, min, max, Option, Some, None}
use Rattle.al_tasks.specs.declared.event.Event.{Event}
use Rattle.al_tasks.specs.declared.event.Event.TheVariants.{Instr, Tick}
use Rattle.al_tasks.specs.declared.looking.Advanced.{Advanced}
use Rattle.al_trace.specs.declared.moment.Moment.{Moment}

-- numbers stop at the greatest of 64 bits
abbrev pub most : ℕ
most = 2 ^ 64 - 1

abbrev pub ticks_after : ℕ → Option Event → ℕ
ticks_after ticks None = ticks
ticks_after ticks (Some Instr) = ticks
ticks_after ticks (Some Tick) = min (ticks + 1) most

abbrev pub after : Moment → Advanced → Moment
after m a = record { events = min (m.events + a.done) most; ticks = ticks_after m.ticks a.event; since = a.since }

-- A tick is a millisecond, and the processor carries out n instructions in one: in nanoseconds from the start.
abbrev pub nanos_of : ℕ → Moment → ℕ
nanos_of n m = min (min (m.ticks * 1000000) most + min (m.since * 1000000) most / max n 1) most

-- the moment in instructions
abbrev pub slot_of : ℕ → Moment → ℕ
slot_of n m = min (min (m.ticks * n) most + m.since) most
