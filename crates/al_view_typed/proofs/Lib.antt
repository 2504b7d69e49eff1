pub mod ExpressionsMade
pub mod StatementsMade
