-- The words for what is wrong with a script.
use Rattle.std.specs.Prelude.{ℕ, List, ◌++◌, codes, decimal}
use Rattle.script.specs.declared.reason.Reason.{Reason}
use Rattle.script.specs.declared.reason.Reason.TheVariants.{UnknownCommand, WrongWords, NoText, TextNotEnded, NotHex, UnknownOption, UnknownMark, TooLate, ExtraText, UnknownTable, NotTick, NotName, NameTaken, UnknownStation, Number}
use Rattle.script.specs.declared.reason.ScriptError.{ScriptError}
use Rattle.script.specs.Numerals.{fault}

abbrev pub reason : Reason → List ℕ
reason UnknownCommand = codes "unknown command"
reason WrongWords = codes "wrong number of words"
reason NoText = codes "no text"
reason TextNotEnded = codes "text not ended"
reason NotHex = codes "not hexadecimal"
reason UnknownOption = codes "unknown option"
reason UnknownMark = codes "unknown mark"
reason TooLate = codes "too late, after the first call"
reason ExtraText = codes "a text where none belongs"
reason UnknownTable = codes "unknown table"
reason NotTick = codes "not a tick"
reason NotName = codes "not a name"
reason NameTaken = codes "name taken"
reason UnknownStation = codes "unknown station"
reason (Number f) = fault f

abbrev pub complaint : ScriptError → List ℕ
complaint e = codes "line " ++ (decimal e.line ++ (codes ": " ++ reason e.reason))
