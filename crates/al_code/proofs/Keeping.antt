-- An invariant of code as it is written: it is a list of instructions, and there is a jump at each place noted.
use Rattle.std.proofs.Common.{◌≡◌, ℕ, ◌+◌, ◌-◌, ◌<◌, ◌≤◌, Bool, true, false, cond, List, [], ◌∷◌, ◌++◌, length, take, drop, Option, Some, None, refl, sym, ap, subst, ◌∙◌, append_assoc, append-nil, arith, length-append, inl, inr}
use Rattle.std.specs.Prelude.{ℤ, pos, is_none, FitsSigned, All}
use Rattle.std.specs.Int.{w32}
use Rattle.std.proofs.lemmas.Grind.{flat_map-append}
use Rattle.std.proofs.lemmas.Int.{fits_signed_from_abs}
use Rattle.std.proofs.lemmas.List.{take_at, take_rest}
use Rattle.std.proofs.lemmas.List.Elements.{All-nil, All-cons, All-head, All-tail, All-append, All-push, All-weaker, All-take, All-drop}
use Rattle.al_view.specs.declared.link.LinkSymbol.{LinkSymbol}
use Rattle.al_instr.specs.declared.instruction.Instr.{Instr}
use Rattle.al_instr.specs.declared.instruction.Instr.TheVariants as instr
use Rattle.al_instr.specs.Codes.{encoded, IsInstr}
use Rattle.al_code_object.specs.declared.object.Address.{Address}
use Rattle.al_code_object.specs.declared.object.Relocation.{Relocation}
use Rattle.al_code_object.specs.Parts.{Part, Whole, Using, part_bytes, code_of, uses_at, uses_from, IsPart, MayUse}
use Rattle.al_code.specs.declared.piece.ForwardJump.{ForwardJump}
use Rattle.al_code.specs.declared.piece.JumpCondition.{JumpCondition}
use Rattle.al_code.specs.declared.piece.JumpCondition.TheVariants as when
use Rattle.al_code.specs.declared.piece.Target.{Target}
use Rattle.al_code.specs.declared.piece.Construct.{Construct}
use Rattle.al_code.specs.Targets.{outside}
use Rattle.al_code.specs.Pieces.{jump_of}
use Rattle.al_code.specs.Kept.{IsJump, JumpAt, IsCodeKind, StandsWithin, IsKept}
use Rattle.al_code.specs.Written.{with_jump, all_filled, leave_or, leaves_outside}
use Rattle.al_code.proofs.Jumps.{jump_filled, jump_size}

part_size : (p : Part) → ℕ
part_size p = length (part_bytes p)

-- ---- one more part

code_append : (ps qs : List Part) → code_of (ps ++ qs) ≡ code_of ps ++ code_of qs
code_append ps qs = flat_map-append part_bytes ps qs

code_push : (ps : List Part) (p : Part) → code_of (ps ++ p ∷ []) ≡ code_of ps ++ part_bytes p
code_push ps p = code_append ps (p ∷ []) ∙ ap (λ (xs : List ℕ). code_of ps ++ xs) (append-nil (part_bytes p))

uses_push : (from : ℕ) (ps : List Part) (p : Part) → uses_from from (ps ++ p ∷ []) ≡ uses_from from ps ++ uses_at (from + length (code_of ps)) p
uses_push from [] p = append-nil (uses_at from p) ∙ ap (λ (n : ℕ). uses_at n p) (omega arith)
uses_push from (q ∷ ps) p =
    let e : (from + length (part_bytes q)) + length (code_of ps) ≡ from + length (code_of (q ∷ ps)) = omega (arith, length-append (part_bytes q) (code_of ps)) in
    ap (λ (us : List Relocation). uses_at from q ++ us) (uses_push (from + length (part_bytes q)) ps p ∙ ap (λ (n : ℕ). uses_from (from + length (part_bytes q)) ps ++ uses_at n p) e)
    ∙ sym (append_assoc (uses_at from q) (uses_from (from + length (part_bytes q)) ps) (uses_at (from + length (code_of (q ∷ ps))) p))

-- a jump stays where it is
jump_before : (ps qs : List Part) (n : ℕ) → JumpAt ps n → JumpAt (ps ++ qs) n
jump_before [] qs n at = absurd at
jump_before (p ∷ ps) qs n (inl here) = inl here
jump_before (p ∷ ps) qs n (inr later) = inr (later.0, jump_before ps qs (n - length (part_bytes p)) later.1)

jump_last : (ps : List Part) (p : Part) → IsJump p → JumpAt (ps ++ p ∷ []) (length (code_of ps))
jump_last [] p is = inl (is, refl)
jump_last (q ∷ ps) p is =
    let s = length-append (part_bytes q) (code_of ps) in
    let e : length (code_of (q ∷ ps)) - length (part_bytes q) ≡ length (code_of ps) = omega arith in
    inr (omega arith, subst (λ (n : ℕ). JumpAt (ps ++ p ∷ []) n) (sym e) (jump_last ps p is))

stands_longer : (xs ys : List ℕ) (as_ : List Address) → All (StandsWithin (length xs)) as_ → All (StandsWithin (length (xs ++ ys))) as_
stands_longer xs ys as_ all =
    let s = length-append xs ys in
    All-weaker (StandsWithin (length xs)) (StandsWithin (length (xs ++ ys))) (λ a h. (h.0, omega (arith, h.1))) as_ all

waits_longer : (ps : List Part) (p : Part) (ls : List ForwardJump) → All (λ l. JumpAt ps l.place) ls → All (λ l. JumpAt (ps ++ p ∷ []) l.place) ls
waits_longer ps p ls all = All-weaker (λ l. JumpAt ps l.place) (λ l. JumpAt (ps ++ p ∷ []) l.place) (λ l h. jump_before ps (p ∷ []) l.place h) ls all

-- with an instruction
pub kept_whole : (code : List ℕ) (uses : List Relocation) (defines : List Address) (leaving : List ForwardJump) (i : Instr) → IsInstr i → length code + length (encoded i) ≤ 16777216 → IsKept code uses defines leaving → IsKept (code ++ encoded i) uses defines leaving
kept_whole code uses defines leaving i fits le k = record {
  parts = k.parts ++ Whole i ∷ [];
  are_parts = All-push IsPart k.parts (Whole i) k.are_parts fits;
  code_is = ap (λ (xs : List ℕ). xs ++ encoded i) k.code_is ∙ sym (code_push k.parts (Whole i));
  uses_are = k.uses_are ∙ sym (uses_push 0 k.parts (Whole i) ∙ append-nil (uses_from 0 k.parts));
  waiting = waits_longer k.parts (Whole i) leaving k.waiting;
  within = omega (arith, length-append code (encoded i));
  standing = stands_longer code (encoded i) defines k.standing;
}

-- with one that uses a symbol
pub kept_using : (code : List ℕ) (uses : List Relocation) (defines : List Address) (leaving : List ForwardJump) (i : Instr) (symbol : LinkSymbol) → IsInstr i → MayUse i symbol.kind → length code + length (encoded i) ≤ 16777216 → IsKept code uses defines leaving → IsKept (code ++ encoded i) (uses ++ record { place = length code + 1; symbol = symbol } ∷ []) defines leaving
kept_using code uses defines leaving i symbol fits may le k = record {
  parts = k.parts ++ Using i symbol ∷ [];
  are_parts = All-push IsPart k.parts (Using i symbol) k.are_parts (fits, may);
  code_is = ap (λ (xs : List ℕ). xs ++ encoded i) k.code_is ∙ sym (code_push k.parts (Using i symbol));
  uses_are =
      ap (λ (us : List Relocation). us ++ record { place = length code + 1; symbol = symbol } ∷ []) k.uses_are
      ∙ ap (λ (n : ℕ). uses_from 0 k.parts ++ uses_at n (Using i symbol)) (ap length k.code_is ∙ omega arith)
      ∙ sym (uses_push 0 k.parts (Using i symbol));
  waiting = waits_longer k.parts (Using i symbol) leaving k.waiting;
  within = omega (arith, length-append code (encoded i));
  standing = stands_longer code (encoded i) defines k.standing;
}

is_jump : (w : JumpCondition) (z : ℤ) → IsJump (Whole (jump_of w z))
is_jump when.Always z = tt
is_jump when.IfZero z = tt

jump_fits : (w : JumpCondition) (z : ℤ) → FitsSigned w32 z → IsInstr (jump_of w z)
jump_fits when.Always z fits = fits
jump_fits when.IfZero z fits = fits

-- with a jump that waits
pub kept_leaving : (code : List ℕ) (uses : List Relocation) (defines : List Address) (leaving : List ForwardJump) (w : JumpCondition) (t : Target) → length code + length (encoded (jump_of w (pos 0))) ≤ 16777216 → IsKept code uses defines leaving → IsKept (code ++ encoded (jump_of w (pos 0))) uses defines (leaving ++ record { place = length code; target = t } ∷ [])
unfolding kept_whole
kept_leaving code uses defines leaving w t le k =
    let i : Instr = jump_of w (pos 0) in
    let whole = kept_whole code uses defines leaving i (jump_fits w (pos 0) (fits_signed_from_abs w32 (pos 0) (omega arith))) le k in
    let at : JumpAt (k.parts ++ Whole i ∷ []) (length code) = subst (λ (n : ℕ). JumpAt (k.parts ++ Whole i ∷ []) n) (ap length (sym k.code_is)) (jump_last k.parts (Whole i) (is_jump w (pos 0))) in
    record {
      parts = k.parts ++ Whole i ∷ [];
      are_parts = whole.are_parts;
      code_is = whole.code_is;
      uses_are = whole.uses_are;
      waiting = All-push (λ l. JumpAt (k.parts ++ Whole i ∷ []) l.place) leaving (record { place = length code; target = t }) whole.waiting at;
      within = whole.within;
      standing = whole.standing;
    }

-- with a symbol that is defined here
pub kept_begins : (code : List ℕ) (uses : List Relocation) (defines : List Address) (leaving : List ForwardJump) (symbol : LinkSymbol) → IsCodeKind symbol.kind → IsKept code uses defines leaving → IsKept code uses (defines ++ record { symbol = symbol; offset = length code } ∷ []) leaving
kept_begins code uses defines leaving symbol is k = record {
  parts = k.parts;
  are_parts = k.are_parts;
  code_is = k.code_is;
  uses_are = k.uses_are;
  waiting = k.waiting;
  within = k.within;
  standing = All-push (StandsWithin (length code)) defines (record { symbol = symbol; offset = length code }) k.standing (is, omega arith);
}

-- ---- jumps that are filled in

-- instructions in place of others, of the same sizes, uses and places of jumps
record Alike (ps qs : List Part) : Type 0 where
  fit : All IsPart ps → All IsPart qs
  sizes : length (code_of qs) ≡ length (code_of ps)
  same_uses : (from : ℕ) → uses_from from qs ≡ uses_from from ps
  jumps : (n : ℕ) → JumpAt ps n → JumpAt qs n

alike_same : (ps : List Part) → Alike ps ps
alike_same ps = record { fit = λ a. a; sizes = refl; same_uses = λ n. refl; jumps = λ n a. a }

alike_trans : (ps qs rs : List Part) → Alike ps qs → Alike qs rs → Alike ps rs
alike_trans ps qs rs a b = record {
  fit = λ h. b.fit (a.fit h);
  sizes = b.sizes ∙ a.sizes;
  same_uses = λ n. b.same_uses n ∙ a.same_uses n;
  jumps = λ n h. b.jumps n (a.jumps n h);
}

alike_cons : (p : Part) (ps qs : List Part) → Alike ps qs → Alike (p ∷ ps) (p ∷ qs)
alike_cons p ps qs a = record {
  fit = λ h. All-cons IsPart p qs (All-head IsPart p ps h) (a.fit (All-tail IsPart p ps h));
  sizes = length-append (part_bytes p) (code_of qs) ∙ ap (λ (n : ℕ). length (part_bytes p) + n) a.sizes ∙ sym (length-append (part_bytes p) (code_of ps));
  same_uses = λ n. ap (λ (us : List Relocation). uses_at n p ++ us) (a.same_uses (n + length (part_bytes p)));
  jumps = at;
} where
  at : (n : ℕ) → JumpAt (p ∷ ps) n → JumpAt (p ∷ qs) n
  at n (inl here) = inl here
  at n (inr later) = inr (later.0, a.jumps (n - length (part_bytes p)) later.1)

-- another distance
alike_jump : (w : JumpCondition) (y z : ℤ) (ps : List Part) → FitsSigned w32 z → Alike (Whole (jump_of w y) ∷ ps) (Whole (jump_of w z) ∷ ps)
alike_jump w y z ps fits = record {
  fit = λ h. All-cons IsPart (Whole (jump_of w z)) ps (jump_fits w z fits) (All-tail IsPart (Whole (jump_of w y)) ps h);
  sizes = length-append (encoded (jump_of w z)) (code_of ps) ∙ ap (λ (n : ℕ). n + length (code_of ps)) same ∙ sym (length-append (encoded (jump_of w y)) (code_of ps));
  same_uses = λ n. ap (λ (k : ℕ). uses_from (n + k) ps) same;
  jumps = at;
} where
  same : length (encoded (jump_of w z)) ≡ length (encoded (jump_of w y))
  same = jump_size w z ∙ sym (jump_size w y)

  at : (n : ℕ) → JumpAt (Whole (jump_of w y) ∷ ps) n → JumpAt (Whole (jump_of w z) ∷ ps) n
  at n (inl here) = inl (is_jump w z, here.1)
  at n (inr later) = inr (subst (λ (k : ℕ). (k ≤ n) × JumpAt ps (n - k)) (sym same) later)

which_jump : (p : Part) → IsJump p → (w : JumpCondition) × (z : ℤ) × (p ≡ Whole (jump_of w z))
which_jump (Whole (instr.Jump z)) is = (when.Always, z, refl)
which_jump (Whole (instr.JumpZero z)) is = (when.IfZero, z, refl)
which_jump _ is = absurd is

distance_fits : (to k : ℕ) → to < 2147483648 → FitsSigned w32 (pos (to - k))
distance_fits to k less = fits_signed_from_abs w32 (pos (to - k)) (omega arith)

-- the jump at a place leads to another
one_filled : (front : List ℕ) (ps : List Part) (n place to : ℕ) → place ≡ length front + n → to < 2147483648 → JumpAt ps n → (qs : List Part) × Alike ps qs × (with_jump (front ++ code_of ps) place to ≡ front ++ code_of qs)
one_filled front [] n place to is less at = absurd at
one_filled front (p ∷ ps) n place to is less (inl here) =
    let j = which_jump p here.0 in
    let z : ℤ = pos (to - (place + 5)) in (
      Whole (jump_of j.0 z) ∷ ps,
      subst (λ (q : Part). Alike (q ∷ ps) (Whole (jump_of j.0 z) ∷ ps)) (sym j.2) (alike_jump j.0 j.1 z ps (distance_fits to (place + 5) less)),
      ap (λ (q : Part). with_jump (front ++ code_of (q ∷ ps)) place to) j.2 ∙ jump_filled j.0 j.1 front (code_of ps) place to (omega (arith, here.1)),
    )
one_filled front (p ∷ ps) n place to is less (inr later) =
    let bytes = part_bytes p in
    let s = length-append front bytes in
    let r = one_filled (front ++ bytes) ps (n - length bytes) place to (omega (arith, later.0)) less later.1 in (
      p ∷ r.0,
      alike_cons p ps r.0 r.1,
      ap (λ (xs : List ℕ). with_jump xs place to) (sym (append_assoc front bytes (code_of ps))) ∙ r.2 ∙ append_assoc front bytes (code_of r.0),
    )

-- those to the end of a construct
many_filled : (c : Construct) (end : ℕ) (ps : List Part) (ls : List ForwardJump) → end < 2147483648 → All (λ l. JumpAt ps l.place) ls → (qs : List Part) × Alike ps qs × (all_filled c end (code_of ps) ls ≡ code_of qs)
many_filled c end ps [] less all = (ps, alike_same ps, refl)
many_filled c end ps (l ∷ ls) less all = at (is_none (outside c l.target)) (λ qs more. many_filled c end qs ls less more) where
  first : JumpAt ps l.place
  first = All-head (λ l. JumpAt ps l.place) l ls all

  rest : All (λ l. JumpAt ps l.place) ls
  rest = All-tail (λ l. JumpAt ps l.place) l ls all

  at : (b : Bool) → ((rs : List Part) → All (λ l. JumpAt rs l.place) ls → (qs : List Part) × Alike rs qs × (all_filled c end (code_of rs) ls ≡ code_of qs)) → (qs : List Part) × Alike ps qs × (all_filled c end (cond b (with_jump (code_of ps) l.place end) (code_of ps)) ls ≡ code_of qs)
  at false more = more ps rest
  at true more =
      let one = one_filled [] ps l.place l.place end (omega arith) less first in
      let others = more one.0 (All-weaker (λ l. JumpAt ps l.place) (λ l. JumpAt one.0 l.place) (λ l h. one.1.jumps l.place h) ls rest) in
      (others.0, alike_trans ps one.0 others.0 one.1 others.1, ap (λ (xs : List ℕ). all_filled c end xs ls) one.2 ∙ others.2)

outside_waits : (c : Construct) (ps : List Part) (ls : List ForwardJump) → All (λ l. JumpAt ps l.place) ls → All (λ l. JumpAt ps l.place) (leaves_outside c ls)
outside_waits c ps [] all = All-nil (λ l. JumpAt ps l.place)
outside_waits c ps (l ∷ ls) all =
    All-append (λ l. JumpAt ps l.place) (leave_or (outside c l.target) l.place) (leaves_outside c ls) (at (outside c l.target)) (outside_waits c ps ls (All-tail (λ l. JumpAt ps l.place) l ls all)) where
      at : (t : Option Target) → All (λ l. JumpAt ps l.place) (leave_or t l.place)
      at None = All-nil (λ l. JumpAt ps l.place)
      at (Some t) = All-cons (λ l. JumpAt ps l.place) (record { place = l.place; target = t }) [] (All-head (λ l. JumpAt ps l.place) l ls all) (All-nil (λ l. JumpAt ps l.place))

-- the jumps that wait from this one on, of a construct that ends
module _ (code : List ℕ) (uses : List Relocation) (defines : List Address) (leaving : List ForwardJump) (first : ℕ) (c : Construct) (k : IsKept code uses defines leaving) where
  filled : (qs : List Part) × Alike k.parts qs × (all_filled c (length code) code (drop first leaving) ≡ code_of qs)
  filled =
      let f = many_filled c (length code) k.parts (drop first leaving) (omega (arith, k.within)) (All-drop (λ l. JumpAt k.parts l.place) first leaving k.waiting) in
      (f.0, f.1, ap (λ (xs : List ℕ). all_filled c (length code) xs (drop first leaving)) k.code_is ∙ f.2)

  same_length : length (all_filled c (length code) code (drop first leaving)) ≡ length code
  same_length = ap length filled.2 ∙ filled.1.sizes ∙ ap length (sym k.code_is)

  pub kept_filled : (ls : List ForwardJump) → All (λ l. JumpAt k.parts l.place) ls → IsKept (all_filled c (length code) code (drop first leaving)) uses defines ls
  kept_filled ls all = record {
    parts = filled.0;
    are_parts = filled.1.fit k.are_parts;
    code_is = filled.2;
    uses_are = k.uses_are ∙ sym (filled.1.same_uses 0);
    waiting = All-weaker (λ l. JumpAt k.parts l.place) (λ l. JumpAt filled.0 l.place) (λ l h. filled.1.jumps l.place h) ls all;
    within = omega (arith, same_length, k.within);
    standing = subst (λ (n : ℕ). All (StandsWithin n) defines) (sym same_length) k.standing;
  }

  pub kept_cut : IsKept (all_filled c (length code) code (drop first leaving)) uses defines (take first leaving)
  kept_cut = kept_filled (take first leaving) (All-take (λ l. JumpAt k.parts l.place) first leaving k.waiting)

  pub kept_closed : IsKept (all_filled c (length code) code (drop first leaving)) uses defines (take first leaving ++ leaves_outside c (drop first leaving))
  kept_closed =
      kept_filled (take first leaving ++ leaves_outside c (drop first leaving))
      (All-append (λ l. JumpAt k.parts l.place) (take first leaving) (leaves_outside c (drop first leaving))
      (All-take (λ l. JumpAt k.parts l.place) first leaving k.waiting)
      (outside_waits c k.parts (drop first leaving) (All-drop (λ l. JumpAt k.parts l.place) first leaving k.waiting)))

pub kept_nothing : IsKept [] [] [] []
kept_nothing = record {
  parts = [];
  are_parts = All-nil IsPart;
  code_is = refl;
  uses_are = refl;
  waiting = All-nil (λ l. JumpAt [] l.place);
  within = omega arith;
  standing = All-nil (StandsWithin 0);
}

-- what a slice of the whole writes back
pub written_back : (len : ℕ) (items new : List ℕ) → length new ≡ len → take len (new ++ drop (length new) items) ≡ new
written_back len items new same = take_at new (drop (length new) items) len same

-- the same by the steps of the code: the bytes as a slice, the jumps as another, what is written back, and what waits then
module _ (code : List ℕ) (uses : List Relocation) (defines : List Address) (leaving : List ForwardJump) (first : ℕ) (c : Construct) (k : IsKept code uses defines leaving) (len end : ℕ) (slice new : List ℕ) (view cut out : List ForwardJump)
    (len_is : len ≡ length code) (end_is : end ≡ len) (slice_is : slice ≡ code) (view_is : view ≡ leaving) (new_is : new ≡ all_filled c end slice (take (length view - first) (drop first view))) (cut_is : cut ≡ take first leaving) where
  new_all : new ≡ all_filled c (length code) code (drop first leaving)
  new_all = new_is ∙ rw (take_rest view first, view_is, slice_is, end_is, len_is) refl

  back_all : take len (new ++ drop (length new) code) ≡ all_filled c (length code) code (drop first leaving)
  back_all = written_back len code new (ap length new_all ∙ same_length code uses defines leaving first c k ∙ sym len_is) ∙ new_all

  pub closing_cut : out ≡ cut → IsKept (take len (new ++ drop (length new) code)) uses defines out
  closing_cut is = rw (back_all, is, cut_is) (kept_cut code uses defines leaving first c k)

  pub closing_done : (kept : List ForwardJump) → kept ≡ leaves_outside c (take (length view - first) (drop first view)) → out ≡ cut ++ kept → IsKept (take len (new ++ drop (length new) code)) uses defines out
  closing_done kept kept_is is = rw (back_all, is, cut_is, kept_is, take_rest view first, view_is) (kept_closed code uses defines leaving first c k)
