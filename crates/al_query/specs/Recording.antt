-- What a recorder is seen as.
use Rattle.std.specs.Prelude.{ℕ, List}
use Rattle.al_query.specs.declared.query.Query.{Query}
use Rattle.al_query.specs.declared.answer.AnswerKind.{AnswerKind}

-- who is asked, what was asked, and how often the allocator refused memory
pub record Recording (A : Type 0) : Type 0 where
  pub asked : A
  pub log : List (Query × AnswerKind)
  pub failures : ℕ
