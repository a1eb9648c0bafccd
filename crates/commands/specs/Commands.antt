-- What a call asks for.
use Rattle.std.specs.Prelude.{◌≡◌, ℕ, ◌⊎◌, List, [], ◌∷◌, Some, None, Ok, Err, Option, Result, ◌≢◌}
use Rattle.script.specs.declared.call.Text.{Text}
use Rattle.script.specs.declared.reason.Reason.{Reason}
use Rattle.script.specs.declared.reason.Reason.TheVariants.{UnknownCommand, WrongWords, NoText, ExtraText, UnknownTable}
use Rattle.script.specs.Words.{listed}
use Rattle.commands.specs.declared.command.Command.{Command}
use Rattle.commands.specs.declared.command.Command.TheVariants as command
use Rattle.commands.specs.declared.command.TableKind.{TableKind}
use Rattle.commands.specs.declared.verb.Verb.{Verb}
use Rattle.commands.specs.declared.verb.Verb.TheVariants.{Check, Options, Store, Script, Record, Table, Put, Head, Read, Load, Tail, Open, Arrive}
use Rattle.commands.specs.Arguments.{One, Two, Named, KindOf}
use Rattle.commands.specs.Verbs.{VerbOf}

-- a command by what it asks for: its numbers, its text, and its words as bytes
pub data Ask : Type 0 where
  to_check : Text → Ask
  to_alter : List (List ℕ) → Ask
  to_make : ℕ → ℕ → Ask
  to_mark : List (List ℕ) → Ask
  to_record : List (List ℕ) → Ask
  to_table : TableKind → ℕ → ℕ → Ask
  to_put : ℕ → Text → Ask
  to_head : ℕ → Ask
  to_read : ℕ → Ask
  to_load : Text → Ask
  to_probe : ℕ → Ask
  to_open : List ℕ → ℕ → Ask
  to_arrive : List ℕ → ℕ → Ask

abbrev pub asked : Command → Ask
asked (command.Check t) = to_check t
asked (command.Options ws) = to_alter (listed ws)
asked (command.Store p b) = to_make p b
asked (command.Script ws) = to_mark (listed ws)
asked (command.Record ws) = to_record (listed ws)
asked (command.Table k p b) = to_table k p b
asked (command.Put n t) = to_put n t
asked (command.Head n) = to_head n
asked (command.Read n) = to_read n
asked (command.Load t) = to_load t
asked (command.Tail n) = to_probe n
asked (command.Open w n) = to_open w.now n
asked (command.Arrive w n) = to_arrive w.now n

-- a command that asks for this
abbrev pub Gives : Ask → Result Command Reason → Type 0
Gives a (Ok c) = asked c ≡ a
Gives a (Err e) = ⊥

-- a command made of what was read of the words, or the reason why nothing was
abbrev pub Made : {A : Type 0} → (Result A Reason → Type 0) → (A → Ask) → Result Command Reason → Type 0
Made {A = A} R f (Ok c) = (a : A) × R (Ok a) × (asked c ≡ f a)
Made R f (Err e) = R (Err e)

-- a command that takes no words
abbrev pub Alone : List (List ℕ) → Ask → Result Command Reason → Type 0
Alone ws a r = ((ws ≡ []) × Gives a r) ⊎ ((ws ≢ []) × (r ≡ Err WrongWords))

-- the kind first, and then the room
abbrev pub Tabled : List (List ℕ) → Result Command Reason → Type 0
Tabled [] r = r ≡ Err WrongWords
Tabled (w ∷ ws) r =
    ((k : TableKind) × KindOf w (Some k) × Made (Two ws) (λ p. to_table k p.0 p.1) r)
    ⊎ (KindOf w None × (r ≡ Err UnknownTable))

-- what the words behind a first word ask for, with a text
abbrev pub Texted : Verb → List (List ℕ) → Text → Result Command Reason → Type 0
Texted Check ws t r = Alone ws (to_check t) r
Texted Put ws t r = Made (One ws) (λ n. to_put n t) r
Texted Load ws t r = Alone ws (to_load t) r
Texted Options ws t r = r ≡ Err ExtraText
Texted Store ws t r = r ≡ Err ExtraText
Texted Script ws t r = r ≡ Err ExtraText
Texted Record ws t r = r ≡ Err ExtraText
Texted Table ws t r = r ≡ Err ExtraText
Texted Head ws t r = r ≡ Err ExtraText
Texted Read ws t r = r ≡ Err ExtraText
Texted Tail ws t r = r ≡ Err ExtraText
Texted Open ws t r = r ≡ Err ExtraText
Texted Arrive ws t r = r ≡ Err ExtraText

-- and without one
abbrev pub Plain : Verb → List (List ℕ) → Result Command Reason → Type 0
Plain Check ws r = r ≡ Err NoText
Plain Put ws r = r ≡ Err NoText
Plain Load ws r = r ≡ Err NoText
Plain Options ws r = Gives (to_alter ws) r
Plain Store ws r = Made (Two ws) (λ p. to_make p.0 p.1) r
Plain Script ws r = Gives (to_mark ws) r
Plain Record ws r = Gives (to_record ws) r
Plain Table ws r = Tabled ws r
Plain Head ws r = Made (One ws) to_head r
Plain Read ws r = Made (One ws) to_read r
Plain Tail ws r = Made (One ws) to_probe r
Plain Open ws r = Made (Named ws) (λ p. to_open p.0.now p.1) r
Plain Arrive ws r = Made (Named ws) (λ p. to_arrive p.0.now p.1) r

abbrev pub For : Verb → List (List ℕ) → Option Text → Result Command Reason → Type 0
For v ws (Some t) r = Texted v ws t r
For v ws None r = Plain v ws r

-- what a call with these words and this text asks for
abbrev pub Asks : List (List ℕ) → Option Text → Result Command Reason → Type 0
Asks [] text r = ⊥
Asks (w ∷ ws) text r = ((v : Verb) × VerbOf w (Some v) × For v ws text r) ⊎ (VerbOf w None × (r ≡ Err UnknownCommand))
