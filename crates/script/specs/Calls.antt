-- The calls of a script.
use Rattle.std.specs.Prelude.{◌≡◌, ℕ, ◌<◌, List, [], ◌++◌, length, Some, None, Ok, Err, codes, Option, Result, ◌≢◌}
use Rattle.script.specs.declared.call.Last.{Last}
use Rattle.script.specs.declared.call.Last.TheVariants.{Here, Digits, Word}
use Rattle.script.specs.declared.call.Call.{Call}
use Rattle.script.specs.declared.call.Text.{Text}
use Rattle.script.specs.declared.call.Text.TheVariants.{Lines, Hex}
use Rattle.script.specs.declared.reason.Reason.TheVariants.{TextNotEnded}
use Rattle.script.specs.declared.reason.ScriptError.{ScriptError}
use Rattle.script.specs.declared.script.Script.{Script}
use Rattle.script.specs.declared.script.lines.CallLine.{CallLine}
use Rattle.script.specs.Parts.{Ends}
use Rattle.script.specs.Scripts.{Body, Finds, Gives, left}

-- what a line's last word is: a text that follows, a text in digits, or neither
abbrev pub Says : List ℕ → Last → Type 0
Says last Here = last ≡ codes "<<"
Says last (Digits d) = last ≡ codes "hex:" ++ d.now
Says last Word = (last ≢ codes "<<") × ((d : List ℕ) → last ≢ codes "hex:" ++ d)

-- what is left of a line whose last word is put aside
abbrev pub ahead : Option (List ℕ) → List ℕ
ahead None = []
ahead (Some before) = before

-- the line without its last word, if that is a text
abbrev pub kept : List ℕ → Option (List ℕ) → Last → List ℕ
kept line before Here = ahead before
kept line before (Digits d) = ahead before
kept line before Word = line

-- a line's words but for its text, and what the last word says
pub record Splits (line words : List ℕ) (said : Last) : Type 0 where
  pub before : Option (List ℕ)
  pub last : List ℕ
  pub ends : Ends 32 line before last
  pub says : Says last said
  pub keeps : words ≡ kept line before said

-- what stands behind `hex:`
abbrev pub digits : Last → Option (List ℕ)
digits Here = None
digits (Digits d) = Some d.now
digits Word = None

-- the text that a line's last word gives, with what is read of the script for it
abbrev pub Texts : Script → Last → Option Text → Script → Type 0
Texts s last None t = (last ≡ Word) × (t ≡ s)
Texts s last (Some (Lines text)) t = (last ≡ Here) × Body s text.now t
Texts s last (Some (Hex d)) t = (digits last ≡ Some d.now) × (t ≡ s)

-- a call is taken: the first line that is not idle, and its text
pub record Taken (s : Script) (call : Call) (t : Script) : Type 0 where
  pub found : CallLine
  pub behind : Script
  pub last : Last
  pub finds : Finds s (Some found) behind
  pub number : call.line ≡ found.number
  pub splits : Splits found.bytes.now call.words.now last
  pub text : Texts behind last call.text t

-- a line announces a text that no lone dot ends
pub record Unended (s : Script) (e : ScriptError) (t : Script) : Type 0 where
  pub found : CallLine
  pub behind : Script
  pub words : List ℕ
  pub finds : Finds s (Some found) behind
  pub error : e ≡ record { line = found.number; reason = TextNotEnded }
  pub splits : Splits found.bytes.now words Here
  pub gives : Gives behind None t

-- the next call of a script
abbrev pub Calls : Script → Result (Option Call) ScriptError → Script → Type 0
Calls s (Ok None) t = Finds s None t
Calls s (Ok (Some call)) t = Taken s call t
Calls s (Err e) t = Unended s e t

-- a call takes a line at least
abbrev pub Shorter : Script → Result (Option Call) ScriptError → Script → Type 0
Shorter s (Ok None) t = Unit {0}
Shorter s (Ok (Some call)) t = length (left t) < length (left s)
Shorter s (Err e) t = Unit {0}
