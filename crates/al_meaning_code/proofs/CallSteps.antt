-- What the instructions of calls leave: a frame begins, its words are zeros, and it ends.
use Rattle.std.proofs.Common.{◌≡◌, ◌≢◌, ℕ, ◌+◌, ◌-◌, ◌<◌, ◌≤◌, ℤ, List, ◌++◌, true, false, Ok, Err, length, get_or, set, take, drop, replicate, nat_le, nat_lt, refl, ◌∙◌, ap, arith, inl, ◌⊎◌, length-set, get_or-set_same, get_or-set_other, length-take}
use Rattle.std.proofs.lemmas.Bool.Decides.{nat_tests}
use Rattle.std.proofs.lemmas.List.{get_or_append_left, get_or-append_right, get_or-replicate, length-replicate}
use Rattle.std.specs.Prelude.{pos}
use Rattle.al_machine.specs.declared.instruction.Flow.TheVariants.{To}
use Rattle.al_machine.specs.declared.instruction.Trap.TheVariants.{Raised}
use Rattle.al_machine.specs.declared.instruction.Exception.TheVariants as exception
use Rattle.al_machine.specs.Machine.{Machine, IsWithin}
use Rattle.al_machine.specs.Stack.{word_at, holds, has_room}
use Rattle.al_machine.specs.Memory.{copied, zeroed}
use Rattle.al_machine.specs.Frames.{rooted, entered, called, returned}
use Rattle.al_meaning_code.proofs.Memories.{copied_apart, length-copied, length-zeroed, zeroed_apart}

-- a word among zeros
pub zeroed_in : (xs : List ℤ) (from words k : ℕ) → from + words ≤ length xs → from ≤ k → k < from + words → get_or (zeroed xs from words) k (pos 0) ≡ pos 0
zeroed_in xs from words k h low high =
    let front : length (take from xs) ≡ from = simp length-take (omega arith) in
    let long : length (replicate words (pos 0)) ≡ words = length-replicate {A = ℤ} words (pos 0) in
    get_or-append_right (take from xs) (replicate words (pos 0) ++ drop (from + words) xs) from k (pos 0) front low
    ∙ get_or_append_left (replicate words (pos 0)) (drop (from + words) xs) (pos 0) (k - from) (omega (arith, long))
    ∙ get_or-replicate {A = ℤ} words (k - from) (pos 0) (pos 0) (omega arith)

-- the frame of a callee at library level, whose own words are zeros
pub record Framed (m n : Machine) (back words : ℕ) : Type 0 where
  pub first : n.first ≡ m.first
  pub frame : n.frame ≡ m.top
  pub top : n.top ≡ m.top + 3 + words
  pub long : length n.memory ≡ length m.memory
  pub kept : (k : ℕ) → k < m.top → word_at n k ≡ word_at m k
  pub caller : word_at n (m.top + 1) ≡ pos m.frame
  pub return : word_at n (m.top + 2) ≡ pos back
  pub zeros : (k : ℕ) → m.top + 3 ≤ k → k < m.top + 3 + words → word_at n k ≡ pos 0
  pub within : IsWithin n

module _ (m : Machine) (w : IsWithin m) where
  pub rooted_machine : Machine
  rooted_machine = record m { memory = set (set (set m.memory m.top (pos 0)) (m.top + 1) (pos 0)) (m.top + 2) (pos 0); top = m.top + 3 }

  pub roots : m.top + 3 ≤ m.first + 16384 → rooted m ≡ Ok rooted_machine
  unfolding rooted rooted_machine
  roots room = let e : has_room 3 m ≡ true = grind (arith, nat_tests) in rw e refl

  pub roots_not : m.first + 16384 < m.top + 3 → rooted m ≡ Err (Raised exception.Storage)
  unfolding rooted
  roots_not room = let e : has_room 3 m ≡ false = grind (arith, nat_tests) in rw e refl

  pub called_machine : ℕ → Machine
  called_machine next = record rooted_machine { memory = set (set rooted_machine.memory (m.top + 1) (pos m.frame)) (m.top + 2) (pos next); frame = m.top }

  pub calls : (place next : ℕ) → m.top + 3 ≤ m.first + 16384 → called place 0 next rooted_machine ≡ Ok (To place, called_machine next)
  unfolding called called_machine rooted_machine
  calls place next room =
      let s = w.stack in
      let e : holds (0 + 3) rooted_machine ≡ true = grind (arith, nat_tests) in
      let f : (m.top + 3) - (0 + 3) ≡ m.top = omega arith in
      rw (e, f) refl

  pub entered_machine : ℕ → ℕ → Machine
  entered_machine next words = record (called_machine next) { memory = zeroed (called_machine next).memory (m.top + 3) words; top = m.top + 3 + words }

  pub enters : (next words : ℕ) → m.top + 3 + words ≤ m.first + 16384 → entered words (called_machine next) ≡ Ok (entered_machine next words)
  unfolding entered entered_machine called_machine rooted_machine
  enters next words room = let e : has_room words (called_machine next) ≡ true = grind (arith, nat_tests) in rw e refl

  pub enters_not : (next words : ℕ) → m.first + 16384 < m.top + 3 + words → entered words (called_machine next) ≡ Err (Raised exception.Storage)
  unfolding entered called_machine rooted_machine
  enters_not next words room = let e : has_room words (called_machine next) ≡ false = grind (arith, nat_tests) in rw e refl

  pub framed_so : (next words : ℕ) → m.top + 3 + words ≤ m.first + 16384 → Framed m (entered_machine next words) next words
  unfolding entered_machine called_machine rooted_machine
  framed_so next words room =
      let o = w.own in let s = w.stack in let f = w.frame in let b = w.below in let mem = w.memory in
      let l1 = length-set m.memory m.top (pos 0) in
      let l2 = length-set (set m.memory m.top (pos 0)) (m.top + 1) (pos 0) in
      let base = set (set (set m.memory m.top (pos 0)) (m.top + 1) (pos 0)) (m.top + 2) (pos 0) in
      let l3 = length-set (set (set m.memory m.top (pos 0)) (m.top + 1) (pos 0)) (m.top + 2) (pos 0) in
      let l4 = length-set base (m.top + 1) (pos m.frame) in
      let l5 = length-set (set base (m.top + 1) (pos m.frame)) (m.top + 2) (pos next) in
      let all = set (set base (m.top + 1) (pos m.frame)) (m.top + 2) (pos next) in
      let len : length all ≡ length m.memory = l5 ∙ l4 ∙ l3 ∙ l2 ∙ l1 in
      let fits : (m.top + 3) + words ≤ length all = omega arith in
      let total = length-zeroed all (m.top + 3) words fits in
      record {
        first = refl;
        frame = refl;
        top = refl;
        long = total ∙ len;
        kept = λ k h. zeroed_apart all (m.top + 3) words k fits (inl (omega arith))
            ∙ (let n : k ≢ m.top + 2 = omega arith in get_or-set_other (set base (m.top + 1) (pos m.frame)) (m.top + 2) k (pos next) (pos 0) n)
            ∙ (let n : k ≢ m.top + 1 = omega arith in get_or-set_other base (m.top + 1) k (pos m.frame) (pos 0) n)
            ∙ (let n : k ≢ m.top + 2 = omega arith in get_or-set_other (set (set m.memory m.top (pos 0)) (m.top + 1) (pos 0)) (m.top + 2) k (pos 0) (pos 0) n)
            ∙ (let n : k ≢ m.top + 1 = omega arith in get_or-set_other (set m.memory m.top (pos 0)) (m.top + 1) k (pos 0) (pos 0) n)
            ∙ (let n : k ≢ m.top = omega arith in get_or-set_other m.memory m.top k (pos 0) (pos 0) n);
        caller = zeroed_apart all (m.top + 3) words (m.top + 1) fits (inl (omega arith))
            ∙ (let n : m.top + 1 ≢ m.top + 2 = omega arith in get_or-set_other (set base (m.top + 1) (pos m.frame)) (m.top + 2) (m.top + 1) (pos next) (pos 0) n)
            ∙ get_or-set_same base (m.top + 1) (pos m.frame) (pos 0) (omega arith);
        return = zeroed_apart all (m.top + 3) words (m.top + 2) fits (inl (omega arith)) ∙ get_or-set_same (set base (m.top + 1) (pos m.frame)) (m.top + 2) (pos next) (pos 0) (omega arith);
        zeros = λ k low high. zeroed_in all (m.top + 3) words k fits low high;
        within = record { memory = omega arith; own = omega arith; frame = omega arith; below = omega arith; stack = omega arith; room = omega arith };
      }

  -- the frame ends: the caller goes on after its call
  pub returns : (n : Machine) (back : ℕ) → n.first ≡ m.first → n.frame ≡ m.top → m.top + 3 ≤ n.top → n.top ≤ m.first + 16384 → length n.memory ≡ length m.memory → word_at n (m.top + 1) ≡ pos m.frame → word_at n (m.top + 2) ≡ pos back
      → (z : Machine) × (returned 0 n ≡ Ok (To back, z)) × (z.first ≡ m.first) × (z.frame ≡ m.frame) × (z.top ≡ m.top) × (length z.memory ≡ length m.memory) × ((k : ℕ) → word_at z k ≡ word_at n k)
  unfolding returned
  returns n back first frame above room long caller return =
      let o = w.own in let s = w.stack in let f = w.frame in let b = w.below in
      let e1 : holds 0 n ≡ true = grind (arith, nat_tests) in
      let e2 : nat_le (n.frame + 3) (n.first + 16384) ≡ true = grind (arith, nat_tests) in
      let c : word_at n (n.frame + 1) ≡ pos m.frame = ap (λ (k : ℕ). word_at n (k + 1)) frame ∙ caller in
      let r : word_at n (n.frame + 2) ≡ pos back = ap (λ (k : ℕ). word_at n (k + 2)) frame ∙ return in
      let own1 : nat_le n.first m.frame ≡ true = grind (arith, nat_tests) in
      let own2 : nat_lt m.frame (n.first + 16384) ≡ true = grind (arith, nat_tests) in
      let le : nat_le m.frame (n.frame + 0) ≡ true = grind (arith, nat_tests) in
      let z = record n { memory = copied n.memory (n.top - 0) 0 n.frame; frame = m.frame; top = n.frame + 0 } in (
        z,
        rw (e1, e2, c, r, own1, own2, le) refl,
        first,
        refl,
        omega arith,
        length-copied n.memory (n.top - 0) 0 n.frame (omega arith) (omega arith) ∙ long,
        λ k. copied_apart n.memory (n.top - 0) 0 n.frame k (omega arith) (omega arith) (either_side k n.frame),
      )
    where
      either_side : (k f : ℕ) → (k < f) ⊎ (f + 0 ≤ k)
      either_side k f = grind arith
