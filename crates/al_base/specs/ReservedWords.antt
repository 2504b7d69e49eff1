-- The reserved words and how they are spelled (ARM 2.9).
use Rattle.std.specs.Prelude.{ℕ, List, [], ◌∷◌, Option, codes}
use Rattle.std.specs.List.{find}
use Rattle.std.specs.Str.{bytes_eq}
use Rattle.al_base.specs.declared.reserved.ReservedWord.{ReservedWord}
use Rattle.al_base.specs.declared.reserved.ReservedWord.TheVariants.{Abort, Abs, Abstract, Accept, Access, Aliased, All, And, Array, At, Begin, Body, Case, Constant, Declare, Delay, Delta, Digits, Do, Else, Elsif, End, Entry, Exception, Exit, For, Function, Generic, Goto, If, In, Interface, Is, Limited, Loop, Mod, New, Not, Null, Of, Or, Others, Out, Overriding, Package, Pragma, Private, Procedure, Protected, Raise, Range, Record, Rem, Renames, Requeue, Return, Reverse, Select, Separate, Some, Subtype, Synchronized, Tagged, Task, Terminate, Then, «Type», Until, Use, When, While, With, Xor}

unfoldable pub spelling : ReservedWord → List ℕ
spelling Abort = codes "abort"
spelling Abs = codes "abs"
spelling Abstract = codes "abstract"
spelling Accept = codes "accept"
spelling Access = codes "access"
spelling Aliased = codes "aliased"
spelling All = codes "all"
spelling And = codes "and"
spelling Array = codes "array"
spelling At = codes "at"
spelling Begin = codes "begin"
spelling Body = codes "body"
spelling Case = codes "case"
spelling Constant = codes "constant"
spelling Declare = codes "declare"
spelling Delay = codes "delay"
spelling Delta = codes "delta"
spelling Digits = codes "digits"
spelling Do = codes "do"
spelling Else = codes "else"
spelling Elsif = codes "elsif"
spelling End = codes "end"
spelling Entry = codes "entry"
spelling Exception = codes "exception"
spelling Exit = codes "exit"
spelling For = codes "for"
spelling Function = codes "function"
spelling Generic = codes "generic"
spelling Goto = codes "goto"
spelling If = codes "if"
spelling In = codes "in"
spelling Interface = codes "interface"
spelling Is = codes "is"
spelling Limited = codes "limited"
spelling Loop = codes "loop"
spelling Mod = codes "mod"
spelling New = codes "new"
spelling Not = codes "not"
spelling Null = codes "null"
spelling Of = codes "of"
spelling Or = codes "or"
spelling Others = codes "others"
spelling Out = codes "out"
spelling Overriding = codes "overriding"
spelling Package = codes "package"
spelling Pragma = codes "pragma"
spelling Private = codes "private"
spelling Procedure = codes "procedure"
spelling Protected = codes "protected"
spelling Raise = codes "raise"
spelling Range = codes "range"
spelling Record = codes "record"
spelling Rem = codes "rem"
spelling Renames = codes "renames"
spelling Requeue = codes "requeue"
spelling Return = codes "return"
spelling Reverse = codes "reverse"
spelling Select = codes "select"
spelling Separate = codes "separate"
spelling Some = codes "some"
spelling Subtype = codes "subtype"
spelling Synchronized = codes "synchronized"
spelling Tagged = codes "tagged"
spelling Task = codes "task"
spelling Terminate = codes "terminate"
spelling Then = codes "then"
spelling «Type» = codes "type"
spelling Until = codes "until"
spelling Use = codes "use"
spelling When = codes "when"
spelling While = codes "while"
spelling With = codes "with"
spelling Xor = codes "xor"

-- each of them, by the alphabet
unfoldable pub reserved_words : List ReservedWord
reserved_words =
    Abort ∷ Abs ∷ Abstract ∷ Accept ∷ Access ∷ Aliased ∷ All ∷ And ∷
    Array ∷ At ∷ Begin ∷ Body ∷ Case ∷ Constant ∷ Declare ∷ Delay ∷
    Delta ∷ Digits ∷ Do ∷ Else ∷ Elsif ∷ End ∷ Entry ∷ Exception ∷
    Exit ∷ For ∷ Function ∷ Generic ∷ Goto ∷ If ∷ In ∷ Interface ∷
    Is ∷ Limited ∷ Loop ∷ Mod ∷ New ∷ Not ∷ Null ∷ Of ∷
    Or ∷ Others ∷ Out ∷ Overriding ∷ Package ∷ Pragma ∷ Private ∷ Procedure ∷
    Protected ∷ Raise ∷ Range ∷ Record ∷ Rem ∷ Renames ∷ Requeue ∷ Return ∷
    Reverse ∷ Select ∷ Separate ∷ Some ∷ Subtype ∷ Synchronized ∷ Tagged ∷ Task ∷
    Terminate ∷ Then ∷ «Type» ∷ Until ∷ Use ∷ When ∷ While ∷ With ∷
    Xor ∷ []

-- the reserved word that is spelled so
unfoldable pub reserved_at : List ℕ → Option ReservedWord
reserved_at text = find (λ w. bytes_eq (spelling w) text) reserved_words
