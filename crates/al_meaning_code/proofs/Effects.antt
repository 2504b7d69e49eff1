-- What single instructions leave, told by the words below the top of the stack.
use Rattle.std.proofs.Common.{◌≡◌, ◌≢◌, ℕ, ◌+◌, ◌-◌, ◌<◌, ◌≤◌, ℤ, List, true, false, ◌&&◌, Ok, Err, length, set, nat_le, refl, sym, ◌∙◌, ap, arith, length-set, get_or-set_same, get_or-set_other}
use Rattle.std.proofs.lemmas.Bool.Decides.{nat_tests}
use Rattle.std.proofs.lemmas.Int.{ints}
use Rattle.std.specs.Prelude.{pos, ◌+ℤ◌, ◌-ℤ◌, ◌*ℤ◌, nat_lt, int_le, if◌then◌else◌}
use Rattle.al_link_image.specs.declared.parts.Region.{Region}
use Rattle.al_machine.specs.declared.regions.Entered.{Entered}
use Rattle.al_machine.specs.declared.instruction.BinaryOperator.{BinaryOperator}
use Rattle.al_machine.specs.declared.instruction.UnaryOperator.{UnaryOperator}
use Rattle.al_machine.specs.declared.instruction.Exception.TheVariants as exception
use Rattle.al_machine.specs.declared.instruction.Trap.TheVariants.{Raised}
use Rattle.al_machine.specs.Arithmetic.{operated, changed}
use Rattle.al_machine.specs.Machine.{Machine, IsWithin}
use Rattle.al_machine.specs.Stack.{word_at, holds, has_room, put, put_result, pushed, checked, binary, unary}
use Rattle.al_machine.specs.Memory.{is_open, copied, loaded, stored, zeroed, cleared, put_address, offset, indexed}
use Rattle.al_meaning_code.proofs.Memories.{one_copied}
use Rattle.al_meaning_code.specs.Showing.{Pushed}

pub within_put : (m : Machine) (place : ℕ) (z : ℤ) → IsWithin m → m.frame ≤ place → place < m.first + 16384 → IsWithin (put place m z)
within_put m place z w above room =
    let l = length-set m.memory place z in
    let b = w.memory in let o = w.own in
    record { memory = omega arith; own = omega arith; frame = w.frame; below = w.below; stack = omega arith; room = omega arith }

-- the effect of putting a word at the old top, where the words below that top are as they were
pub put_pushed : (m n : Machine) (v : ℤ) → IsWithin m → IsWithin n → n.first ≡ m.first → n.frame ≡ m.frame → length n.memory ≡ length m.memory → m.top < m.first + 16384 → ((k : ℕ) → k < m.top → word_at n k ≡ word_at m k) → Pushed m (put m.top n v) v
put_pushed m n v wm wn first frame long room kept =
    let o = wm.own in let s = wm.stack in
    record {
      first = first;
      frame = frame;
      top = refl;
      long = length-set n.memory m.top v ∙ long;
      kept = λ k h. (let other : k ≢ m.top = omega arith in get_or-set_other n.memory m.top k v (pos 0) other) ∙ kept k h;
      word = get_or-set_same n.memory m.top v (pos 0) (omega arith);
      within = within_put n m.top v wn (omega arith) (omega arith);
    }

pub self_pushed : (m : Machine) (v : ℤ) → IsWithin m → m.top < m.first + 16384 → Pushed m (put m.top m v) v
self_pushed m v w room = put_pushed m m v w w refl refl refl room (λ k h. refl)

module _ (objects : List Region) (inside : List Entered) (m : Machine) where
  -- a word is pushed, or there is no room
  pub room_is : m.top < m.first + 16384 → has_room 1 m ≡ true
  room_is h = grind (arith, nat_tests)

  pub no_room_is : m.first + 16384 ≤ m.top → has_room 1 m ≡ false
  no_room_is h = grind (arith, nat_tests)

  pub pushes : (z : ℤ) → m.top < m.first + 16384 → pushed z m ≡ Ok (put m.top m z)
  unfolding pushed
  pushes z h = let e = room_is h in rw e refl

  pub pushes_not : (z : ℤ) → m.first + 16384 ≤ m.top → pushed z m ≡ Err (Raised exception.Storage)
  unfolding pushed
  pushes_not z h = let e = no_room_is h in rw e refl

  -- the word at an address takes the place of the address on top
  pub loads : (p : Machine) (place : ℕ) → IsWithin m → Pushed m p (pos place) → m.top < m.first + 16384 → place < m.top → is_open objects inside 0 place 1 ≡ true → loaded objects inside 1 p ≡ Ok (put m.top p (word_at m place))
  unfolding loaded
  loads p place within push room below opened =
      let o = within.own in let s = within.stack in let pt = push.top in let pf = push.first in let pr = push.frame in let pl = push.long in
      let held : holds 1 p ≡ true = grind (arith, nat_tests) in
      let down : p.top - 1 ≡ m.top = omega arith in
      let top : word_at p (p.top - 1) ≡ pos place = ap (λ (k : ℕ). word_at p k) down ∙ push.word in
      let long : nat_le (place + 1) (length p.memory) ≡ true = grind (arith, nat_tests) in
      let fits : nat_le (m.top + 1) (p.first + 16384) ≡ true = grind (arith, nat_tests) in
      let moved : copied p.memory place 1 m.top ≡ set p.memory m.top (word_at m place) =
      sym (one_copied p.memory place m.top (omega arith) (omega arith)) ∙ ap (λ (z : ℤ). set p.memory m.top z) (push.kept place below) in
      rw (held, top, long, opened, down, fits, moved) refl

  -- the word below goes to the address on top
  pub stores : (p : Machine) (place : ℕ) → IsWithin m → Pushed m p (pos place) → m.frame < m.top → m.top < m.first + 16384 → place < m.top → is_open objects inside 0 place 1 ≡ true → stored objects inside 1 p ≡ Ok (record p { memory = set p.memory place (word_at m (m.top - 1)); top = m.top - 1 })
  unfolding stored
  stores p place within push some room below opened =
      let o = within.own in let s = within.stack in let pt = push.top in let pf = push.first in let pr = push.frame in let pl = push.long in
      let held : holds 2 p ≡ true = grind (arith, nat_tests) in
      let down : p.top - 1 ≡ m.top = omega arith in
      let two : p.top - 2 ≡ m.top - 1 = omega arith in
      let top : word_at p (p.top - 1) ≡ pos place = ap (λ (k : ℕ). word_at p k) down ∙ push.word in
      let long : nat_le (place + 1) (length p.memory) ≡ true = grind (arith, nat_tests) in
      let moved : copied p.memory (m.top - 1) 1 place ≡ set p.memory place (word_at m (m.top - 1)) =
      sym (one_copied p.memory (m.top - 1) place (omega arith) (omega arith)) ∙ ap (λ (z : ℤ). set p.memory place z) (push.kept (m.top - 1) (omega arith)) in
      rw (held, top, long, opened, two, moved) refl

  -- zeros go to the address on top
  pub clears : (p : Machine) (place : ℕ) → IsWithin m → Pushed m p (pos place) → place < m.top → is_open objects inside 0 place 1 ≡ true → cleared objects inside 1 p ≡ Ok (record p { memory = zeroed p.memory place 1; top = m.top })
  unfolding cleared
  clears p place within push below opened =
      let o = within.own in let s = within.stack in let r = within.room in let pt = push.top in let pf = push.first in let pr = push.frame in let pl = push.long in
      let held : holds 1 p ≡ true = grind (arith, nat_tests) in
      let down : p.top - 1 ≡ m.top = omega arith in
      let top : word_at p (p.top - 1) ≡ pos place = ap (λ (k : ℕ). word_at p k) down ∙ push.word in
      let long : nat_le (place + 1) (length p.memory) ≡ true = grind (arith, nat_tests) in
      rw (held, top, long, opened, down) refl

  -- so many words are added to the address on top
  pub offsets : (p : Machine) (place words : ℕ) → IsWithin m → Pushed m p (pos place) → place + words ≤ 281474976710656 → offset words p ≡ Ok (put m.top p (pos (place + words)))
  unfolding offset
  offsets p place words within push fits =
      let s = within.stack in let pt = push.top in let pr = push.frame in
      let held : holds 1 p ≡ true = grind (arith, nat_tests) in
      let down : p.top - 1 ≡ m.top = omega arith in
      let sum : pos place +ℤ pos words ≡ pos (place + words) = omega (arith, ints) in
      let is : nat_lt (place + words) 9223372036854775808 ≡ true = grind (arith, nat_tests) in
      rw (held, down) (ap (λ (z : ℤ). put_address m.top p (z +ℤ pos words)) push.word ∙ ap (λ (z : ℤ). put_address m.top p z) sum ∙ rw is refl)

  -- an address of an array and an index become the address of the component
  pub indexes : (low high : ℤ) (words : ℕ) (n p : Machine) (place : ℕ) (i : ℤ) → IsWithin m → Pushed m n (pos place) → Pushed n p i → indexed low high words p ≡ (if int_le low i && int_le i high then put_address m.top p (pos place +ℤ ((i -ℤ low) *ℤ pos words)) else Err (Raised exception.Constraint))
  unfolding indexed
  indexes low high words n p place i within x y =
      let s = within.stack in let t1 = x.top in let t2 = y.top in let f1 = x.frame in let f2 = y.frame in
      let held : holds 2 p ≡ true = grind (arith, nat_tests) in
      let down : p.top - 2 ≡ m.top = omega arith in
      let second : m.top + 1 ≡ n.top = omega arith in
      let left : word_at p m.top ≡ pos place = y.kept m.top (omega arith) ∙ x.word in
      let right : word_at p (m.top + 1) ≡ i = ap (λ (k : ℕ). word_at p k) second ∙ y.word in
      rw (held, down, left, right) refl

-- an operator on the two words above m
pub operates : (o : BinaryOperator) (m n p : Machine) (a b : ℤ) → IsWithin m → Pushed m n a → Pushed n p b → binary o p ≡ put_result m.top p (operated o a b)
unfolding binary
operates o m n p a b within x y =
    let s = within.stack in let t1 = x.top in let t2 = y.top in let f1 = x.frame in let f2 = y.frame in
    let held : holds 2 p ≡ true = grind (arith, nat_tests) in
    let place : p.top - 2 ≡ m.top = omega arith in
    let second : m.top + 1 ≡ n.top = omega arith in
    let left : word_at p m.top ≡ a = y.kept m.top (omega arith) ∙ x.word in
    let right : word_at p (m.top + 1) ≡ b = ap (λ (k : ℕ). word_at p k) second ∙ y.word in
    rw (held, place, left, right) refl

pub changes : (o : UnaryOperator) (m n : Machine) (a : ℤ) → IsWithin m → Pushed m n a → unary o n ≡ put_result m.top n (changed o a)
unfolding unary
changes o m n a within x =
    let s = within.stack in let t1 = x.top in let f1 = x.frame in
    let held : holds 1 n ≡ true = grind (arith, nat_tests) in
    let place : n.top - 1 ≡ m.top = omega arith in
    rw (held, place, x.word) refl

pub checks : (l h : ℤ) (m n : Machine) (a : ℤ) → IsWithin m → Pushed m n a → checked l h n ≡ (if int_le l a && int_le a h then Ok n else Err (Raised exception.Constraint))
unfolding checked
checks l h m n a within x =
    let s = within.stack in let t1 = x.top in let f1 = x.frame in
    let held : holds 1 n ≡ true = grind (arith, nat_tests) in
    let place : n.top - 1 ≡ m.top = omega arith in
    rw (held, place, x.word) refl
