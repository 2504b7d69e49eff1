-- A run in parts, as far as it has come.
use Rattle.std.proofs.Common.{◌≡◌, ◌≢◌, ◌⊎◌, inl, inr, ℕ, ◌+◌, ◌-◌, ◌≤◌, List, [], ◌++◌, Option, Some, None, IfSome, refl, sym, ap, subst, ◌∙◌, arith}
use Rattle.std.specs.Option.{option_map}
use Rattle.al_tasks.specs.Partitions.{Partition, forgotten, part_of_run}
use Rattle.al_tasks.specs.Runs.{status_of}
use Rattle.al_tasks.specs.declared.event.Status.TheVariants.{Going}
use Rattle.al_folder_served.specs.Runs.{RunsTo, HasRun}
use Rattle.al_folder_served.specs.Runs.RunsTo.{begun, part}

-- how many steps are left, if they are limited
abbrev pub LeftIs : Option ℕ → Option ℕ → ℕ → Type 0
LeftIs None left steps = left ≡ None
LeftIs (Some n) left steps = (m : ℕ) × (left ≡ Some m) × (steps + m ≡ n)

pub record Goes (tick : ℕ) (limit : Option ℕ) (start : Partition) (Puts : List ℕ → Type 0) (parts since : ℕ) (left : Option ℕ) (now : Partition) : Type 0 where
  pub steps : ℕ
  pub text : List ℕ
  pub runs : RunsTo tick start parts steps since text now
  pub puts : Puts text
  pub left_is : LeftIs limit left steps

all_left : (limit : Option ℕ) → LeftIs limit limit 0
all_left None = refl
all_left (Some n) = (n, refl, omega arith)

pub goes_start : (tick : ℕ) (limit : Option ℕ) (start : Partition) (Puts : List ℕ → Type 0) → Puts [] → Goes tick limit start Puts 0 0 limit start
goes_start tick limit start Puts puts = record { steps = 0; text = []; runs = begun; puts = puts; left_is = all_left limit }

less_left : (limit left left2 : Option ℕ) (steps more : ℕ) → LeftIs limit left steps → IfSome left (λ n. more ≤ n) → left2 ≡ option_map (λ n. n - more) left → LeftIs limit left2 (steps + more)
less_left None left left2 steps more is few less = less ∙ ap (option_map (λ n. n - more)) is
less_left (Some n) left left2 steps more is few less =
    let some : more ≤ is.0 = subst (λ (o : Option ℕ). IfSome o (λ k. more ≤ k)) is.1 few in
    (is.0 - more, less ∙ ap (option_map (λ k. k - more)) is.1, omega (arith, some, is.2))

module _ (tick : ℕ) (limit : Option ℕ) (start : Partition) where
  pub goes_on : (Puts Then : List ℕ → Type 0) (parts since : ℕ) (left left2 : Option ℕ) (now : Partition) → Goes tick limit start Puts parts since left now → (more last : ℕ) (after : Partition) → (last, after) ≡ part_of_run more tick since now → ((text : List ℕ) → Puts text → Then (text ++ after.world.output)) → IfSome left (λ n. more ≤ n) → left2 ≡ option_map (λ n. n - more) left → Goes tick limit start Then (parts + 1) last left2 (forgotten after)
  goes_on Puts Then parts since left left2 now goes more last after is then few less = record {
    steps = goes.steps + more;
    text = goes.text ++ after.world.output;
    runs = part more last after goes.runs is;
    puts = then goes.text goes.puts;
    left_is = less_left limit left left2 goes.steps more goes.left_is few less;
  }

  spent : (lim left : Option ℕ) (steps : ℕ) → LeftIs lim left steps → left ≡ Some 0 → lim ≡ Some steps
  spent None left steps is none = cc
  spent (Some n) left steps is none =
      let same : Some is.0 ≡ Some 0 = sym is.1 ∙ none in
      ap (λ (k : ℕ). Some k) (omega (arith, is.2, zero_of is.0 same))
    where
      zero_of : (m : ℕ) → Some m ≡ Some 0 → m ≡ 0
      zero_of m e = ap (λ (o : Option ℕ). elim o as (λ v. ℕ) [ Some k ↦ k | None ↦ 0 ]) e

  pub goes_over : (Puts : List ℕ → Type 0) (parts since : ℕ) (left : Option ℕ) (now : Partition) → Goes tick limit start Puts parts since left now → (left ≡ Some 0) ⊎ (status_of now.world ≢ Going) → (text : List ℕ) × HasRun tick limit start text now × Puts text
  goes_over Puts parts since left now goes over = (
    goes.text,
    record {
      parts = parts;
      steps = goes.steps;
      since = since;
      runs = goes.runs;
      over = elim over [ inl none ↦ inr (inl (spent limit left goes.steps goes.left_is none)) | inr not ↦ inl not ];
    },
    goes.puts,
  )

  pub goes_end : (Puts : List ℕ → Type 0) (parts since : ℕ) (left : Option ℕ) (now : Partition) → Goes tick limit start Puts parts since left now → parts ≡ 18446744073709551615 → (text : List ℕ) × HasRun tick limit start text now × Puts text
  goes_end Puts parts since left now goes all = (
    goes.text,
    record {
      parts = parts;
      steps = goes.steps;
      since = since;
      runs = goes.runs;
      over = inr (inr all);
    },
    goes.puts,
  )
