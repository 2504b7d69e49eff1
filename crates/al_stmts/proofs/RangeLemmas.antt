-- The ranges that have values are as good as all.
use Rattle.std.proofs.Common.{◌≡◌, ◌+◌, ◌++◌, ◌∷◌, [], ◌&&◌, ℕ, ℤ, ◌≤ℤ◌, Bool, true, false, cond, IsTrue, List, ap, sym, ◌∙◌, refl, arith, Option, Some, None, rules, tests, zero-add, if◌then◌else◌}
use Rattle.std.specs.List.{All, count_by, filter_map, flat_map, cons_option}
use Rattle.std.proofs.lemmas.List.Elements.{All-append, All-cons, All-nil, filter_map-append}
use Rattle.std.proofs.lemmas.List.Sums.{sum_by-append, sum_by-cons}
use Rattle.std.proofs.lemmas.Grind.{flat_map-append}
use Rattle.std.proofs.lemmas.Int.{ints}
use Rattle.al_view.specs.declared.types.Bounds.{Bounds}
use Rattle.al_stmts.specs.declared.choice.Choice.{Choice}
use Rattle.al_stmts.specs.declared.choice.Choice.TheVariants.{Range, OfOtherType, Others}
use Rattle.al_stmts.specs.Choosing.{range_of, ranges_of, value_range}
use Rattle.al_stmts.specs.Values.{has_values, holds, times_chosen}

pub ruleset value_ranges_steps = (filter_map-append, flat_map-append)

-- a range without values holds none
holds_nothing : (b : Bounds) (v : ℤ) → has_values b ≡ false → holds b v ≡ false
holds_nothing b v h = grind (arith, ints)

times_cons : (b : Bounds) (rest : List Bounds) (v : ℤ) → times_chosen (b ∷ rest) v ≡ cond (holds b v) 1 0 + times_chosen rest v
times_cons b rest v = sum_by-cons (λ r. cond (holds r v) 1 0) b rest

-- one more range, which goes only if it has values
one_more : (t : Bool) (b : Bounds) (v : ℤ) (kept ranges : List Bounds) → (t ≡ false → holds b v ≡ false) → times_chosen kept v ≡ times_chosen ranges v
    → times_chosen (cons_option (if t then Some b else None) kept) v ≡ times_chosen (b ∷ ranges) v
one_more true b v kept ranges none e = times_cons b kept v ∙ ap (λ n. cond (holds b v) 1 0 + n) e ∙ sym (times_cons b ranges v)
one_more false b v kept ranges none e = e ∙ sym (times_cons b ranges v ∙ ap (λ t. cond t 1 0 + times_chosen ranges v) (none refl) ∙ zero-add (times_chosen ranges v))

-- of one alternative
times-kept : (choices : List Choice) (v : ℤ) → times_chosen (filter_map value_range choices) v ≡ times_chosen (filter_map range_of choices) v
times-kept [] v = refl
times-kept (Range b ∷ cs) v = one_more (has_values b) b v (filter_map value_range cs) (filter_map range_of cs) (holds_nothing b v) (times-kept cs v)
times-kept (OfOtherType ∷ cs) v = times-kept cs v
times-kept (Others ∷ cs) v = times-kept cs v

-- of all
pub times-all_kept : (alternatives : List (List Choice)) (v : ℤ) → times_chosen (flat_map (filter_map value_range) alternatives) v ≡ times_chosen (ranges_of alternatives) v
times-all_kept [] v = refl
times-all_kept (cs ∷ rest) v =
    sum_by-append (λ r. cond (holds r v) 1 0) (filter_map value_range cs) (flat_map (filter_map value_range) rest)
    ∙ ap (λ m. m + times_chosen (flat_map (filter_map value_range) rest) v) (times-kept cs v)
    ∙ ap (λ n. times_chosen (filter_map range_of cs) v + n) (times-all_kept rest v)
    ∙ sym (sum_by-append (λ r. cond (holds r v) 1 0) (filter_map range_of cs) (ranges_of rest))

abbrev HasValues : Bounds → Type 0
HasValues r = IsTrue (has_values r)

one_more_has : (t : Bool) (b : Bounds) (kept : List Bounds) → (t ≡ true → HasValues b) → All HasValues kept → All HasValues (cons_option (if t then Some b else None) kept)
one_more_has true b kept has all = All-cons HasValues b kept (has refl) all
one_more_has false b kept has all = all

have_values : (choices : List Choice) → All HasValues (filter_map value_range choices)
have_values [] = All-nil HasValues
have_values (Range b ∷ cs) = one_more_has (has_values b) b (filter_map value_range cs) (λ h. search (rules, tests)) (have_values cs)
have_values (OfOtherType ∷ cs) = have_values cs
have_values (Others ∷ cs) = have_values cs

pub all_have_values : (alternatives : List (List Choice)) → All HasValues (flat_map (filter_map value_range) alternatives)
all_have_values [] = All-nil HasValues
all_have_values (cs ∷ rest) = All-append HasValues (filter_map value_range cs) (flat_map (filter_map value_range) rest) (have_values cs) (all_have_values rest)
