-- What is held are files: their names, their count and the lengths of their texts.
use Rattle.std.proofs.Common.{◌≡◌, ℕ, ◌<◌, ◌≤◌, ◌+◌, ◌-◌, zero, suc, Bool, true, false, not, ◌&&◌, ◌||◌, cond, nat_lt, nat_le, List, [], ◌∷◌, length, map, take, drop, get_or, Some, None, is_some, if◌then◌else◌, refl, ap, sym, subst, arith}
use Rattle.std.proofs.lemmas.Bool.Decides.{nat_tests}
use Rattle.std.specs.Prelude.{codes}
use Rattle.std.specs.Str.{bytes_eq}
use Rattle.std.specs.List.{AllByRecursion, list_all}
use Rattle.std.specs.Ordering.{is_eq, match_ordering}
use Rattle.std.specs.declared.cmp.Ordering.{Ordering}
use Rattle.std.specs.declared.cmp.Ordering.TheVariants.{Less, Equal, Greater}
use Rattle.al_base.specs.Names.{is_name_byte, is_file_name}
use Rattle.al_base.specs.Files.{Texts, IsFile, name_cmp, text_of, with_file, without_file, put_refusal}
use Rattle.al_base.specs.declared.refusal.Refusal.TheVariants.{BadName, TextTooLong, TooManyFiles}

put_by : (e : List ℕ × List ℕ) (es : Texts) (k v : List ℕ) (o : Ordering) → AllByRecursion IsFile (e ∷ es) → IsFile (k, v) → AllByRecursion IsFile (with_file es k v) → AllByRecursion IsFile (match_ordering o ((k, v) ∷ e ∷ es) ((e.0, v) ∷ es) (e ∷ with_file es k v))
put_by e es k v Less all here rest = (here, all)
put_by e es k v Equal all here rest = ((all.0.0, here.1), all.1)
put_by e es k v Greater all here rest = (all.0, rest)

pub each_put : (es : Texts) (k v : List ℕ) → AllByRecursion IsFile es → IsFile (k, v) → AllByRecursion IsFile (with_file es k v)
each_put [] k v all here = (here, tt)
each_put (e ∷ es) k v all here = put_by e es k v (name_cmp k e.0) all here (each_put es k v all.1 here)

removed_by : (e : List ℕ × List ℕ) (es : Texts) (q : List ℕ) (b : Bool) → AllByRecursion IsFile (e ∷ es) → AllByRecursion IsFile (without_file es q) → AllByRecursion IsFile (cond b es (e ∷ without_file es q))
removed_by e es q true all rest = all.1
removed_by e es q false all rest = (all.0, rest)

pub each_removed : (es : Texts) (q : List ℕ) → AllByRecursion IsFile es → AllByRecursion IsFile (without_file es q)
each_removed [] q all = tt
each_removed (e ∷ es) q all = removed_by e es q (is_eq (name_cmp q e.0)) all (each_removed es q all.1)

text_by : (e : List ℕ × List ℕ) (es : Texts) (q v : List ℕ) (b : Bool) → AllByRecursion IsFile (e ∷ es) → (text_of es q ≡ Some v → length v ≤ 1048576) → cond b (Some e.1) (text_of es q) ≡ Some v → length v ≤ 1048576
text_by e es q v true all rest is = let same : e.1 ≡ v = cc in let lengths = ap length same in let short = all.0.1 in omega (arith, lengths, short)
text_by e es q v false all rest is = rest is

-- a text that is held is short
pub held_text : (es : Texts) (q v : List ℕ) → AllByRecursion IsFile es → text_of es q ≡ Some v → length v ≤ 1048576
held_text [] q v all is = absurd (cc)
held_text (e ∷ es) q v all is = text_by e es q v (is_eq (name_cmp q e.0)) all (held_text es q v all.1) is

-- where a put isn't refused, there is room
pub record MayPut (es : Texts) (name : List ℕ) (len : ℕ) : Type 0 where
  pub is_name : is_file_name name ≡ true
  pub short : len ≤ 1048576
  pub room : is_some (text_of es name) ≡ false → length es < 4096

pub may_put : (es : Texts) (name : List ℕ) (len : ℕ) → put_refusal es name len ≡ None → MayPut es name len
unfolding put_refusal
may_put es name len none = tests (is_file_name name) refl (nat_lt 1048576 len) refl (is_some (text_of es name)) refl (nat_le 4096 (length es)) refl none
  where
    tests : (a : Bool) → is_file_name name ≡ a → (b : Bool) → nat_lt 1048576 len ≡ b → (s : Bool) → is_some (text_of es name) ≡ s → (t : Bool) → nat_le 4096 (length es) ≡ t → cond (not a) (Some BadName) (cond b (Some TextTooLong) (cond (not s && t) (Some TooManyFiles) None)) ≡ None → MayPut es name len
    tests false is b long s there t full e = absurd (cc)
    tests true is true long s there t full e = absurd (cc)
    tests true is false long true there t full e = record { is_name = is; short = grind (arith, nat_tests, long); room = λ off. absurd (cc) }
    tests true is false long false there true full e = absurd (cc)
    tests true is false long false there false full e = record { is_name = is; short = grind (arith, nat_tests, long); room = λ off. grind (arith, nat_tests, full) }

pub few_put : (count new : ℕ) (was : Bool) → new ≡ count + (if was then 0 else 1) → (was ≡ false → count < 4096) → count ≤ 4096 → new ≤ 4096
few_put count new true is room few = omega (arith, is, few)
few_put count new false is room few = let less = room refl in omega (arith, is, less)

pub fewer : (new count : ℕ) (was : Bool) → new + (if was then 1 else 0) ≡ count → count ≤ 4096 → new ≤ 4096
fewer new count true is few = omega (arith, is, few)
fewer new count false is few = omega (arith, is, few)

-- one more, and one less
pub as_few : (count between new : ℕ) (was gone : Bool) → between ≡ count + (if was then 0 else 1) → new + (if gone then 1 else 0) ≡ between → gone ≡ true → count ≤ 4096 → new ≤ 4096
as_few count between new true true is less there few = omega (arith, is, less, few)
as_few count between new false true is less there few = omega (arith, is, less, few)
as_few count between new was false is less there few = absurd (cc)

both : (x y : Bool) → (x && y) ≡ true → (x ≡ true) × (y ≡ true)
both true y is = (refl, is)
both false y is = absurd (cc)

-- a file's name is short
pub short_name : (name : List ℕ) → is_file_name name ≡ true → length name ≤ 255
unfolding is_file_name
short_name name is =
    let stem = length name - 4 in
    let long = nat_lt 4 (length name) in
    let short = nat_le (length name) 255 in
    let bytes = list_all is_name_byte (take stem name) in
    let ending = bytes_eq (drop stem name) (codes ".ads") || bytes_eq (drop stem name) (codes ".adb") in
    let lengths = both long short (both (long && short) bytes (both ((long && short) && bytes) ending is).0).0 in
    let fits : nat_le (length name) 255 ≡ true = lengths.1 in
    grind (arith, nat_tests, fits)

-- each of a list of files
pub held_at : {X : Type 0} (f : X → List ℕ × List ℕ) (xs : List X) (i : ℕ) (x : X) → AllByRecursion IsFile (map f xs) → i < length xs → x ≡ get_or xs i x → IsFile (f x)
held_at f [] i x all within is = absurd (omega (arith, within))
held_at f (y ∷ ys) zero x all within is = let same : x ≡ y = is in subst (λ v. IsFile (f v)) (sym same) all.0
held_at f (y ∷ ys) (suc i) x all within is = held_at f ys i x all.1 (omega (arith, within)) is
