-- What the lines of a script do.
use Rattle.std.specs.Prelude.{◌≡◌, ℕ, ◌-◌, true, List, Some, None, Ok, Err, Option, Result}
use Rattle.row_text.specs.declared.fault.CheckFault.{CheckFault}
use Rattle.row_text.specs.declared.text.Checked.{Checked}
use Rattle.row_text.specs.Checks.{Checks}
use Rattle.store.specs.declared.fault.StoreFault.{StoreFault}
use Rattle.store.specs.Calls.{Put, Head, Read}
use Rattle.store.specs.Meaning.{Meaning}
use Rattle.script.specs.declared.call.Call.{Call}
use Rattle.script.specs.declared.call.Text.{Text}
use Rattle.script.specs.declared.hex.TextFault.{TextFault}
use Rattle.script.specs.declared.reason.Reason.{Reason}
use Rattle.script.specs.Texts.{Is, Lacks}
use Rattle.script.specs.Words.{listed, words}
use Rattle.store_setup.specs.declared.stop.Stop.{Stop}
use Rattle.store_setup.specs.declared.stop.Stop.TheVariants.{Script}
use Rattle.store_setup.specs.Setups as setup
use Rattle.store_setup.specs.Stops.{stopped}
use Rattle.answers.specs.declared.answer.Answer.{Answer}
use Rattle.answers.specs.declared.answer.Answer.TheVariants as answer
use Rattle.console.specs.declared.command.Command.{Command}
use Rattle.console.specs.declared.command.Command.TheVariants as command
use Rattle.console.specs.declared.options.Changes.{Changes}
use Rattle.console.specs.declared.session.Session.{Session}
use Rattle.answers.specs.declared.account.Account.{Account}
use Rattle.answers.specs.Answers.{holding, no_account, noted}
use Rattle.console.specs.Commands.{Asks}
use Rattle.console.specs.Settings.{changed}

-- what the session's store means
abbrev pub store_of : Session → Meaning
store_of s = setup.store_of s.setup

-- the account with the files and bytes that the store has taken of its room
abbrev pub closing : Session → Account
closing s = holding s.account (s.setup.places - (store_of s).held.places) (s.setup.bytes - (store_of s).held.bytes)

-- the session before the first line
pub record Begins (s : Session) : Type 0 where
  pub options : s.options ≡ record { block_size = 4096 }
  pub account : s.account ≡ no_account
  pub setup : setup.Begins s.setup

-- options, account, store and what sets the store up are as they were
pub record Same (s t : Session) : Type 0 where
  pub options : t.options ≡ s.options
  pub account : t.account ≡ s.account
  pub setup : t.setup ≡ s.setup

-- after a call with this answer: what sets the store up is as it was
pub record Answered (s : Session) (a : Answer) (t : Session) : Type 0 where
  pub options : t.options ≡ s.options
  pub account : t.account ≡ noted s.account a
  pub begun : t.setup.begun ≡ true
  pub places : t.setup.places ≡ s.setup.places
  pub bytes : t.setup.bytes ≡ s.setup.bytes
  pub marks : t.setup.marks ≡ s.setup.marks

-- an answer is counted, and nothing else is changed
pub record Noted (s : Session) (a : Answer) (t : Session) : Type 0 where
  pub after : Answered s a t
  pub store : t.setup.store ≡ s.setup.store
  pub page : t.page ≡ s.page

-- `options`: nothing but the options changes
pub record Altered (s : Session) (c : Changes) (t : Session) : Type 0 where
  pub options : t.options ≡ changed s.options c
  pub account : t.account ≡ s.account
  pub setup : t.setup ≡ s.setup

-- the text's bytes cannot be had, and nothing is done
pub record NoBytes (s : Session) (text : Text) (e : Stop) (t : Session) : Type 0 where
  pub fault : TextFault
  pub lacks : Lacks text fault
  pub stop : e ≡ stopped fault
  pub same : Same s t

-- `check`: the text is checked at the options' block size
pub record Tested (s : Session) (text : Text) (a : Answer) (t : Session) : Type 0 where
  pub bytes : List ℕ
  pub found : Result Checked CheckFault
  pub whole : Is text bytes
  pub checks : Checks bytes s.options.block_size found
  pub answer : a ≡ answer.Check found
  pub after : Answered s a t
  pub store : t.setup.store ≡ s.setup.store

abbrev pub Tests : Session → Text → Result Answer Stop → Session → Type 0
Tests s text (Ok a) t = Tested s text a t
Tests s text (Err e) t = NoBytes s text e t

-- `put`: the text's bytes are put
pub record WasPut (s : Session) (id : ℕ) (text : Text) (a : Answer) (t : Session) : Type 0 where
  pub bytes : List ℕ
  pub done : Result (Unit {0}) StoreFault
  pub whole : Is text bytes
  pub puts : Put (store_of s) (store_of t) id bytes done
  pub answer : a ≡ answer.Put id done
  pub after : Answered s a t

abbrev pub AsksPut : Session → ℕ → Text → Result Answer Stop → Session → Type 0
AsksPut s id text (Ok a) t = WasPut s id text a t
AsksPut s id text (Err e) t = NoBytes s text e t

-- `head`
pub record AsksHead (s : Session) (id : ℕ) (a : Answer) (t : Session) : Type 0 where
  pub found : Result ℕ StoreFault
  pub heads : Head (store_of s) (store_of t) id found
  pub answer : a ≡ answer.Head id found
  pub after : Answered s a t

-- `read`: the file stands at the beginning of the page
pub record AsksRead (s : Session) (id : ℕ) (a : Answer) (t : Session) : Type 0 where
  pub found : Result ℕ StoreFault
  pub reads : Read (store_of s) (store_of t) id s.page t.page found
  pub answer : a ≡ answer.Read id found
  pub after : Answered s a t

-- the line's own answer, and no answer to print
abbrev pub Silent : Result (Unit {0}) Stop → Result (Option Answer) Stop → Type 0
Silent (Ok u) r = r ≡ Ok None
Silent (Err e) r = r ≡ Err e

-- `store` and `script`: a line that sets the store up, and answers nothing
pub record SetsUp (s : Session) (R : Result (Unit {0}) Stop → Type 0) (r : Result (Option Answer) Stop) (t : Session) : Type 0 where
  pub done : Result (Unit {0}) Stop
  pub sets : R done
  pub answer : Silent done r
  pub options : t.options ≡ s.options
  pub account : t.account ≡ s.account

-- the answer that a call gave, or why it gave none
abbrev pub Gives : (Result Answer Stop → Type 0) → Result (Option Answer) Stop → Type 0
Gives R (Ok None) = ⊥
Gives R (Ok (Some a)) = R (Ok a)
Gives R (Err e) = R (Err e)

-- what is done for a command
abbrev pub Does : Session → Command → Result (Option Answer) Stop → Session → Type 0
Does s (command.Options c) r t = (r ≡ Ok None) × Altered s c t
Does s (command.Store p b) r t = SetsUp s (λ x. setup.SetsRoom s.setup p b x t.setup) r t
Does s (command.Script line) r t = SetsUp s (λ x. setup.SetsMarks s.setup (listed line) x t.setup) r t
Does s (command.Check text) r t = Gives (λ x. Tests s text x t) r
Does s (command.Put id text) r t = Gives (λ x. AsksPut s id text x t) r
Does s (command.Head id) r t = (a : Answer) × (r ≡ Ok (Some a)) × AsksHead s id a t
Does s (command.Read id) r t = (a : Answer) × (r ≡ Ok (Some a)) × AsksRead s id a t

abbrev pub Obeys : Session → Result Command Reason → Result (Option Answer) Stop → Session → Type 0
Obeys s (Ok c) r t = Does s c r t
Obeys s (Err e) r t = (r ≡ Err (Script e)) × Same s t

-- a call is performed as its words ask; a line that is no call is not performed
pub record Performs (s : Session) (call : Call) (r : Result (Option Answer) Stop) (t : Session) : Type 0 where
  pub asked : Result Command Reason
  pub asks : Asks (words call.words.now) call.text asked
  pub does : Obeys s asked r t
