-- How often the allocator refused memory.
use Rattle.std.specs.Prelude.{ℕ, Bool, true, false, ◌+◌, ◌-◌, ◌^◌, nat_lt, if◌then◌else◌}

-- one more, to 2^64-1
abbrev pub one_more : ℕ → ℕ
one_more count = if nat_lt count (2 ^ 64 - 1) then count + 1 else count

-- the count after a call: the same if the call succeeds, and one more if it fails for memory
abbrev pub counted : Bool → ℕ → ℕ
counted true count = count
counted false count = one_more count
