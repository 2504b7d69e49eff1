-- The delimiters.
use Rattle.std.specs.Prelude.{ℕ, ◌==◌, ◌&&◌, List, Option, Some, None, if◌then◌else◌, codes}
use Rattle.al_lex.specs.declared.delimiter.Delimiter.{Delimiter}
use Rattle.al_lex.specs.declared.delimiter.Delimiter.TheVariants.{Ampersand, Apostrophe, LeftParenthesis, RightParenthesis, Asterisk, Plus, Comma, Minus, Dot, Slash, Colon, Semicolon, Less, Equal, Greater, VerticalLine, Arrow, DoubleDot, DoubleAsterisk, Assign, NotEqual, GreaterOrEqual, LessOrEqual, LeftLabelBracket, RightLabelBracket, Box}

-- how a delimiter is written (ARM 2.2(9), 2.2(14))
abbrev pub written : Delimiter → List ℕ
written Ampersand = codes "&"
written Apostrophe = codes "'"
written LeftParenthesis = codes "("
written RightParenthesis = codes ")"
written Asterisk = codes "*"
written Plus = codes "+"
written Comma = codes ","
written Minus = codes "-"
written Dot = codes "."
written Slash = codes "/"
written Colon = codes ":"
written Semicolon = codes ";"
written Less = codes "<"
written Equal = codes "="
written Greater = codes ">"
written VerticalLine = codes "|"
written Arrow = codes "=>"
written DoubleDot = codes ".."
written DoubleAsterisk = codes "**"
written Assign = codes ":="
written NotEqual = codes "/="
written GreaterOrEqual = codes ">="
written LessOrEqual = codes "<="
written LeftLabelBracket = codes "<<"
written RightLabelBracket = codes ">>"
written Box = codes "<>"

-- the delimiter of two bytes
unfoldable pub double : ℕ → ℕ → Option Delimiter
double b c =
    if b == 61 && c == 62 then Some Arrow
    else (if b == 46 && c == 46 then Some DoubleDot
    else (if b == 42 && c == 42 then Some DoubleAsterisk
    else (if b == 58 && c == 61 then Some Assign
    else (if b == 47 && c == 61 then Some NotEqual
    else (if b == 62 && c == 61 then Some GreaterOrEqual
    else (if b == 60 && c == 61 then Some LessOrEqual
    else (if b == 60 && c == 60 then Some LeftLabelBracket
    else (if b == 62 && c == 62 then Some RightLabelBracket
    else (if b == 60 && c == 62 then Some Box
    else None)))))))))

-- the delimiter of one byte
unfoldable pub single : ℕ → Option Delimiter
single b =
    if b == 38 then Some Ampersand
    else (if b == 39 then Some Apostrophe
    else (if b == 40 then Some LeftParenthesis
    else (if b == 41 then Some RightParenthesis
    else (if b == 42 then Some Asterisk
    else (if b == 43 then Some Plus
    else (if b == 44 then Some Comma
    else (if b == 45 then Some Minus
    else (if b == 46 then Some Dot
    else (if b == 47 then Some Slash
    else (if b == 58 then Some Colon
    else (if b == 59 then Some Semicolon
    else (if b == 60 then Some Less
    else (if b == 61 then Some Equal
    else (if b == 62 then Some Greater
    else (if b == 124 then Some VerticalLine
    else None)))))))))))))))
