-- Words: identifiers and reserved words (ARM 2.3, 2.9).
use Rattle.std.specs.Prelude.{ℕ, nat_lt, List, map, take, Option, Some, None, Result, Ok, Err, if◌then◌else◌}
use Rattle.std.specs.Char.{to_ascii_lowercase}
use Rattle.std.specs.List.{prefix_len}
use Rattle.al_base.specs.declared.reserved.ReservedWord.{ReservedWord}
use Rattle.al_base.specs.Identifiers.{has_bad_underscore, is_word_byte}
use Rattle.al_base.specs.ReservedWords.{reserved_at}
use Rattle.al_lex.specs.declared.token.Kind.{Kind}
use Rattle.al_lex.specs.declared.token.Kind.TheVariants.{Identifier, Reserved}
use Rattle.al_lex.specs.declared.token.Sort.TheVariants.{Lexeme}
use Rattle.al_lex.specs.declared.token.LexCode.{LexCode}
use Rattle.al_lex.specs.declared.token.LexCode.TheVariants.{BadIdentifier, IdentifierTooLong}
use Rattle.al_lex.specs.declared.token.Piece.{Piece}

abbrev pub kind_of : Option ReservedWord → Kind
kind_of (Some w) = Reserved w
kind_of None = Identifier

-- a word is reserved or an identifier, without regard to case
abbrev pub word_kind : List ℕ → Kind
word_kind bs = kind_of (reserved_at (map to_ascii_lowercase bs))

-- the longest run of letters, digits and underscores
unfoldable pub word : List ℕ → Result Piece LexCode
word bs =
    let n = prefix_len is_word_byte bs in
    if has_bad_underscore (take n bs) then Err BadIdentifier
    else (if nat_lt 200 n then Err IdentifierTooLong
    else Ok (record { sort = Lexeme (word_kind (take n bs)); len = n }))
