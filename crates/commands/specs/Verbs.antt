-- The first words of lines.
use Rattle.std.specs.Prelude.{◌≡◌, ℕ, List, Some, None, codes, Option, ◌≢◌}
use Rattle.commands.specs.declared.verb.Verb.{Verb}
use Rattle.commands.specs.declared.verb.Verb.TheVariants.{Check, Options, Store, Script, Record, Table, Put, Head, Read, Load, Tail, Open, Arrive}

abbrev pub verb_word : Verb → List ℕ
verb_word Check = codes "check"
verb_word Options = codes "options"
verb_word Store = codes "store"
verb_word Script = codes "script"
verb_word Record = codes "record"
verb_word Table = codes "table"
verb_word Put = codes "put"
verb_word Head = codes "head"
verb_word Read = codes "read"
verb_word Load = codes "load"
verb_word Tail = codes "tail"
verb_word Open = codes "open"
verb_word Arrive = codes "arrive"

abbrev pub VerbOf : List ℕ → Option Verb → Type 0
VerbOf w (Some v) = w ≡ verb_word v
VerbOf w None = (v : Verb) → w ≢ verb_word v
