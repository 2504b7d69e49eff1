-- Where one more construct may be open, and where none may.
use Rattle.std.proofs.Common.{ℕ, ◌≡◌, ◌<◌, zero, suc, Ok, Err, refl, ap, ◌∙◌, arith}
use Rattle.al_tree_grammar.specs.Grammar.{Rule}
use Rattle.al_tree_grammar.specs.Grammar.Rule.{Room, RoomOr, Seq}
use Rattle.al_tree_grammar.specs.Reading.{◌>>=◌}
use Rattle.al_tree_grammar.proofs.Turns.{with_room, without_room}
use Rattle.al_tree_syntax.specs.Rules.{grammar}
use Rattle.al_parse.specs.declared.stop.Stop.{Stop}
use Rattle.al_parse.specs.declared.stop.Stop.TheVariants.{Memory, Fault}
use Rattle.al_parse.specs.Parses.{Lexemes, Took, Stops, reading}

pub no_room : (d : ℕ) (a : Rule) (xs : Lexemes) → d ≡ 0 → reading d (Room a) xs ≡ Err xs
no_room d a xs h = rw h refl

in_room : (d : ℕ) (a : Rule) (xs : Lexemes) → 0 < d → reading d (Room a) xs ≡ reading d a xs
in_room zero a xs h = absurd (omega arith)
in_room (suc d) a xs h = refl

pub took_in_room : (d : ℕ) (a : Rule) (front rest xs ys : Lexemes) → 0 < d → Took front rest xs (reading d a ys) → Took front rest xs (reading d (Room a) ys)
took_in_room d a front rest xs ys h took = (took.0, in_room d a ys h ∙ took.1)

pub stops_in_room : (e : Stop) (d : ℕ) (a : Rule) (xs : Lexemes) → 0 < d → Stops e (reading d a xs) → Stops e (reading d (Room a) xs)
stops_in_room Memory d a xs h s = tt
stops_in_room (Fault left) d a xs h s = (s.0, in_room d a xs h ∙ s.1, s.2)

-- one rule or another, as there is room

pub took_with_room : (d : ℕ) (a b : Rule) (front rest xs ys : Lexemes) → 0 < d → Took front rest xs (reading d a ys) → Took front rest xs (reading d (RoomOr a b) ys)
took_with_room d a b front rest xs ys h took = (took.0, with_room grammar d a b ys h ∙ took.1)

pub took_without_room : (d : ℕ) (a b : Rule) (front rest xs ys : Lexemes) → d ≡ 0 → Took front rest xs (reading d b ys) → Took front rest xs (reading d (RoomOr a b) ys)
took_without_room d a b front rest xs ys h took = (took.0, without_room grammar d a b ys h ∙ took.1)

pub stops_with_room : (e : Stop) (d : ℕ) (a b : Rule) (xs : Lexemes) → 0 < d → Stops e (reading d a xs) → Stops e (reading d (RoomOr a b) xs)
stops_with_room Memory d a b xs h s = tt
stops_with_room (Fault left) d a b xs h s = (s.0, with_room grammar d a b xs h ∙ s.1, s.2)

pub stops_without_room : (e : Stop) (d : ℕ) (a b : Rule) (xs : Lexemes) → d ≡ 0 → Stops e (reading d b xs) → Stops e (reading d (RoomOr a b) xs)
stops_without_room Memory d a b xs h s = tt
stops_without_room (Fault left) d a b xs h s = (s.0, without_room grammar d a b xs h ∙ s.1, s.2)

-- a fault in the first of two
pub stops_first : (e : Stop) (d : ℕ) (a b : Rule) (xs : Lexemes) → Stops e (reading d a xs) → Stops e (reading d (Seq a b) xs)
stops_first Memory d a b xs s = tt
stops_first (Fault left) d a b xs s = (s.0, ap (λ m. m >>= λ ys. reading d b ys) s.1, s.2)

-- and in the second
pub stops_second : (e : Stop) (d : ℕ) (a b : Rule) (xs ys : Lexemes) → reading d a xs ≡ Ok ys → Stops e (reading d b ys) → Stops e (reading d (Seq a b) xs)
stops_second Memory d a b xs ys h s = tt
stops_second (Fault left) d a b xs ys h s = (s.0, ap (λ m. m >>= λ zs. reading d b zs) h ∙ s.1, s.2)
