-- What is shown first of the piece at the front.
use Rattle.std.proofs.Common.{ℕ, List, Result, Ok, Err}
use Rattle.al_lex.specs.declared.token.LexCode.{LexCode}
use Rattle.al_lex.specs.declared.token.Piece.{Piece}
use Rattle.al_lex.specs.Shapes.{IsFaulty, IsGood, IsLongest, IsOf}

-- it is the longest of its own sort
abbrev pub Found : Result Piece LexCode → List ℕ → Type 0
Found (Ok q) bs = IsLongest (IsOf q.sort) bs q.len × IsGood q.sort bs q.len
Found (Err c) bs = IsFaulty c bs
