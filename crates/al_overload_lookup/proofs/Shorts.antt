-- Names under which something is visible have no more bytes than the longest one that was looked up, so nothing is selected after a longer one.
use Rattle.std.proofs.Common.{◌≡◌, ℕ, ◌+◌, ◌<◌, ◌≤◌, List, [], ◌∷◌, ◌++◌, Bool, true, false, if◌then◌else◌, nat_lt, length, take, get_or, refl, sym, ap, ◌∙◌, subst, arith}
use Rattle.std.specs.Prelude.{fold}
use Rattle.std.proofs.lemmas.Bool.Decides.{nat_tests}
use Rattle.std.proofs.lemmas.List.{take_more}
use Rattle.std.proofs.lemmas.List.Sums.{fold-append}
use Rattle.std.proofs.lemmas.Slice.Eq.{bytes_eq-Decides}
use Rattle.std.specs.Str.{bytes_eq}
use Rattle.al_base.specs.declared.unit_key.UnitKey.{UnitKey}
use Rattle.al_overload_lookup.specs.Keys.{dotted, is_none}
use Rattle.al_overload_lookup.specs.declared.denoted.Names.{Names}
use Rattle.al_overload_lookup.proofs.Fronts.{each-other, none_there, stays, views-other}
use Rattle.al_overload_lookup.proofs.Pieced.{key_more, names_more}
use Rattle.al_overload_lookup.specs.Lookups.{found, is_new, looked_up, looked_up_all, nothing_found}
use Rattle.al_overload_lookup.specs.Pieces.{AreShort, is_past, last_key, names_of, piece_key, piece_name}
use Rattle.al_overload_lookup.specs.declared.name.TextName.{TextName}
use Rattle.al_overload_lookup.specs.declared.name.TextName.TheVariants.{Simple, Selected}
use Rattle.al_overload_lookup.specs.declared.piece.Piece.{Piece}
use Rattle.al_overload_lookup.specs.declared.piece.Piece.TheVariants.{Alone, After}
use Rattle.al_query.specs.Reads.{Table}
use Rattle.al_scope.specs.Places.{Place}
use Rattle.al_scope.specs.Visible.{visible_at}
use Rattle.al_scope.specs.Seen.{all_seen_at}
use Rattle.al_view.specs.Interfaces.{views_of}

-- what is visible under another name stays
other_stays : (t : Table) (place : Place) (packages : List UnitKey) (names : Names) (key : List ℕ) (p : Piece) (q : List ℕ) → bytes_eq q (piece_key key p) ≡ false → views_of (looked_up t place packages names (piece_name key p)).visible q ≡ views_of names.visible q
unfolding looked_up
other_stays t place packages names key (Alone name) q h = at (is_new names (Simple name))
  where
    at : (b : Bool) → views_of (if b then found t place packages names (Simple name) else names).visible q ≡ views_of names.visible q
    at true = views-other names.visible name q (all_seen_at t place (visible_at t name place)) h
    at false = refl
other_stays t place packages names key (After name) q h = at (is_new names (Selected key name))
  where
    at : (b : Bool) → views_of (if b then found t place packages names (Selected key name) else names).visible q ≡ views_of names.visible q
    at true = each-other t place packages (dotted key name) name q names (views_of names.visible key) h
    at false = refl

-- with one name more
pub short_more : (t : Table) (place : Place) (packages : List UnitKey) (names next : Names) (key more : List ℕ) (p : Piece) (longest n : ℕ)
    → next ≡ looked_up t place packages names (piece_name key p)
    → more ≡ piece_key key p
    → longest ≤ n
    → (is_none (views_of next.visible more) ≡ false → length more ≤ n)
    → AreShort names longest → AreShort next n
short_more t place packages names next key more p longest n is key_is less last short q h = at (bytes_eq q more) refl
  where
    of_last : (b : Bool) → is_none (views_of next.visible more) ≡ b → q ≡ more → views_of next.visible more ≡ []
    of_last true i same = none_there (views_of next.visible more) i
    of_last false i same = absurd (omega (arith, last i, h, ap length same))

    at : (b : Bool) → bytes_eq q more ≡ b → views_of next.visible q ≡ []
    at true i =
        let same : q ≡ more = (bytes_eq-Decides q more).0 i in
        subst (λ (k : List ℕ). views_of next.visible k ≡ []) (sym same) (of_last (is_none (views_of next.visible more)) refl same)
    at false i =
        ap (λ (m : Names). views_of m.visible q) is
        ∙ other_stays t place packages names key p q (subst (λ (k : List ℕ). bytes_eq q k ≡ false) key_is i)
        ∙ short q (omega (arith, less, h))

lt_is : (a b : ℕ) → nat_lt a b ≡ true → a + 1 ≤ b
lt_is a b h = grind (arith, nat_tests)

-- after a name that is longer nothing is selected
pub past : (t : Table) (place : Place) (packages : List UnitKey) (names : Names) (key : List ℕ) (p : Piece) (longest : ℕ) → is_past key longest p ≡ true → AreShort names longest → names ≡ looked_up t place packages names (piece_name key p)
past t place packages names key (Alone name) longest h short = absurd (cc)
past t place packages names key (After name) longest h short = sym (stays t place packages names key name (short key (omega (arith, lt_is longest (length key) h))))

pub none_short : (n : ℕ) → AreShort nothing_found n
none_short n q h = refl

-- ---- the loop over the parts

one_more : (ps : List Piece) (i : ℕ) (x : Piece) → i < length ps → x ≡ get_or ps i x → take (i + 1) ps ≡ take i ps ++ x ∷ []
one_more ps i x h is = take_more ps i x h ∙ ap (λ (y : Piece). take i ps ++ y ∷ []) (sym is)

pub next_key : (ps : List Piece) (i : ℕ) (x : Piece) (key more : List ℕ) → i < length ps → x ≡ get_or ps i x → key ≡ last_key (take i ps) → more ≡ piece_key key x → more ≡ last_key (take (i + 1) ps)
next_key ps i x key more h is was now =
    now ∙ ap (λ (k : List ℕ). piece_key k x) was ∙ sym (key_more (take i ps) x) ∙ ap last_key (sym (one_more ps i x h is))

pub next_found : (t : Table) (place : Place) (packages : List UnitKey) (names next : Names) (key : List ℕ) (ps : List Piece) (i : ℕ) (x : Piece) → i < length ps → x ≡ get_or ps i x
    → key ≡ last_key (take i ps)
    → names ≡ looked_up_all t place packages (names_of (take i ps))
    → next ≡ looked_up t place packages names (piece_name key x)
    → next ≡ looked_up_all t place packages (names_of (take (i + 1) ps))
next_found t place packages names next key ps i x h is key_is was now =
    now
    ∙ ap (λ (n : Names). looked_up t place packages n (piece_name key x)) was
    ∙ ap (λ (k : List ℕ). looked_up t place packages (looked_up_all t place packages (names_of (take i ps))) (piece_name k x)) key_is
    ∙ sym (fold-append (looked_up t place packages) nothing_found (names_of (take i ps)) (piece_name (last_key (take i ps)) x ∷ []))
    ∙ ap (λ (ns : List TextName). looked_up_all t place packages ns) (sym (names_more (take i ps) x) ∙ ap names_of (sym (one_more ps i x h is)))
