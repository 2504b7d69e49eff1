-- The premises of the laws are met.
use Rattle.std.proofs.Common.{◌≡◌, ◌≢◌, ℕ, ◌+◌, ◌-◌, ◌==◌, ℤ, List, [], true, false, ◌&&◌, length, refl, sym, subst, arith}
use Rattle.std.proofs.lemmas.Bool.Decides.{nat_tests}
use Rattle.std.specs.Prelude.{pos}
use Rattle.al_view.specs.declared.view.ObjectPlace.{ObjectPlace}
use Rattle.al_view.specs.declared.view.ObjectPlace.TheVariants as places
use Rattle.al_instr.specs.declared.instruction.Instr.TheVariants as instr
use Rattle.al_instr.specs.declared.numbers.Plain.TheVariants as plain
use Rattle.al_code.specs.Marks.{mark_of}
use Rattle.al_code.specs.Statements.{statements_code}
use Rattle.al_machine.specs.Stack.{word_at}
use Rattle.al_meaning.specs.Partitions.{start}
use Rattle.al_meaning.specs.States.{same_place, further}
use Rattle.al_meaning_code.specs.Laws.{Among, ShowsIn}
use Rattle.al_meaning_code.specs.Showing.{Linked, Reaches}
use Rattle.al_meaning_code.specs.Example.{setting, machine, statements, PremisesAreMet}
use Rattle.al_meaning_code.proofs.InImages.{pieces_stand}

-- X alone is a variable
depth_of : (d w : ℕ) → ((d == 1) && (w == 3)) ≡ true → d ≡ 1
depth_of d w h = grind (arith, nat_tests)

word_of : (d w : ℕ) → ((d == 1) && (w == 3)) ≡ true → w ≡ 3
word_of d w h = grind (arith, nat_tests)

apart_ : (p q : ObjectPlace) → Among setting p → Among setting q → same_place p q ≡ false → setting.address p ≢ setting.address q
apart_ (places.Frame d w) (places.Frame e v) h i diff = λ same.
    let a = depth_of d w h in let b = word_of d w h in let c = depth_of e v i in let f = word_of e v i in
    let yes_ : (d == e) ≡ true = grind (arith, nat_tests) in
    let also : (w == v) ≡ true = grind (arith, nat_tests) in
    absurd (let t : true ≡ false = (rw (yes_, also) at diff) in cc)
apart_ (places.Frame d w) (places.Static s v) h i diff = λ same. absurd (cc)
apart_ (places.Static s w) q h i diff = λ same. absurd (cc)

linear_ : (p : ObjectPlace) (k : ℕ) → Among setting p → Among setting (further p k) → setting.address (further p k) ≡ setting.address p + k
linear_ (places.Frame d w) k h i = let a = word_of d w h in let b = word_of d (w + k) i in omega arith
linear_ (places.Static s w) k h i = absurd (cc)

module _ (memory : List ℤ) (long : length memory ≡ 16384) (zeros : (k : ℕ) → word_at (machine memory) k ≡ pos 0) where
  lies_ : (p : ObjectPlace) → Among setting p → Reaches setting.linked 1 4 (Among setting) setting.address (machine memory) p
  lies_ (places.Frame d w) h =
      let a = depth_of d w h in let b = word_of d w h in
      let none : 1 - d ≡ 0 = omega arith in
      (0, subst (λ (c : ℕ). Linked setting.linked 1 4 (Among setting) setting.address c (machine memory) 0 0) (sym none) refl, omega arith)
  lies_ (places.Static s w) h = absurd (cc)

  shows_ : ShowsIn setting start (machine memory)
  shows_ = record {
    within = record { memory = omega arith; own = omega arith; frame = omega arith; below = omega arith; stack = omega arith; room = omega arith };
    above = omega arith;
    lies = lies_;
    holds = λ p h. zeros 3;
  }

pub premises_are_met : PremisesAreMet
unfolding mark_of
premises_are_met memory long zeros = record {
  laid_out = record { below = λ p h. omega arith; opens = λ p h. refl; linear = linear_; apart = apart_; alike = λ p q h i same. refl; nested = λ d w h. (let a = depth_of d w h in omega arith); free = λ k h. refl };
  are_in = ((refl, refl, (tt, (refl, refl), tt), omega arith, omega arith), tt);
  shows = shows_ memory long zeros;
  stands = pieces_stand (λ s i. i) (λ s i. refl) (λ t. 0) [] (statements_code (record { depth = 1; unlocks = false }) statements) (instr.Plain plain.Done) [] tt;
  marked = ((λ k low high. refl), ((λ k low high. refl), ((λ k low high. refl), ((λ k low high. refl), ((λ k low high. refl), ((λ k low high. refl), tt))))));
}
