-- What the calls of a script do.
use Rattle.std.specs.Prelude.{◌≡◌, ℕ, ◌⊎◌, List, Some, None, Ok, Err, vec_items, Option, Result}
use Rattle.journal_answers.specs.Answers.{Shows, done, length_of, loaded_as, seen, text_of}
use Rattle.journal_answers.specs.declared.account.Part.TheVariants as part
use Rattle.journal_answers.specs.declared.answer.Answer.{Answer}
use Rattle.commands.specs.Commands.{Asks}
use Rattle.commands.specs.declared.command.Command.{Command}
use Rattle.commands.specs.declared.command.Command.TheVariants as command
use Rattle.loader.specs.Loads.{fault as load-fault}
use Rattle.loader.specs.declared.fault.LoadFault.{LoadFault}
use Rattle.loader.specs.declared.loading.Loaded.{Loaded}
use Rattle.mem_table.specs.Meaning.{empty}
use Rattle.row_text.specs.Checks.{Checks, fault as check-fault}
use Rattle.row_text.specs.declared.fault.CheckFault.{CheckFault}
use Rattle.row_text.specs.declared.text.Checked.{Checked}
use Rattle.script.specs.Texts.{Is, Lacks}
use Rattle.script.specs.Words.{listed, words}
use Rattle.script.specs.declared.call.Call.{Call}
use Rattle.script.specs.declared.call.Text.{Text}
use Rattle.script.specs.declared.hex.TextFault.{TextFault}
use Rattle.script.specs.declared.reason.Reason.{Reason}
use Rattle.store_setup.specs.Setups as setup
use Rattle.store_setup.specs.Stops.{stopped}
use Rattle.setups.specs.Loading.{Listing}
use Rattle.store_setup.specs.declared.stop.Stop.{Stop}
use Rattle.store_setup.specs.declared.stop.Stop.TheVariants.{Script, NoMemory}
use Rattle.store.specs.Calls.{Put, Head, Read}
use Rattle.store.specs.Said.{fault as store-fault}
use Rattle.store.specs.declared.fault.StoreFault.{StoreFault}
use Rattle.journal_console.specs.declared.session.Session.{Session}
use Rattle.journal_console.specs.Journal.{AsksArrive, AsksOpen, AsksTail}
use Rattle.journal_console.specs.Sessions.{Answered, Same, store_of}
use Rattle.journal_console.specs.Settings.{SetsOptions, SetsRecord, SetsTable}

-- the text's bytes cannot be had, and nothing is done
pub record NoBytes (s : Session) (text : Text) (e : Stop) (t : Session) : Type 0 where
  pub fault : TextFault
  pub lacks : Lacks text fault
  pub stop : e ≡ stopped fault
  pub same : Same s t

-- `check`: the text is checked at the options' block size
pub record Tested (s : Session) (text : Text) (a : Answer) (t : Session) : Type 0 where
  pub bytes : List ℕ
  pub found : Result Checked CheckFault
  pub whole : Is text bytes
  pub checks : Checks bytes s.settings.options.block_size found
  pub answer : Shows seen check-fault found a
  pub after : Answered s part.Text a t
  pub store : t.setup.store ≡ s.setup.store
  pub stations : vec_items t.stations ≡ vec_items s.stations

abbrev pub Tests : Session → Text → Result Answer Stop → Session → Type 0
Tests s text (Ok a) t = Tested s text a t
Tests s text (Err e) t = NoBytes s text e t

-- `load`: the text is loaded into a fresh table of the settings, whose rows are kept as lines
pub record WasLoaded (s : Session) (text : Text) (a : Answer) (t : Session) : Type 0 where
  pub bytes : List ℕ
  pub found : Result Loaded LoadFault
  pub whole : Is text bytes
  pub lists : Listing (empty s.settings.puts s.settings.bytes) bytes (vec_items t.lines) found
  pub answer : Shows loaded_as load-fault found a
  pub after : Answered s part.Table a t
  pub store : t.setup.store ≡ s.setup.store
  pub stations : vec_items t.stations ≡ vec_items s.stations

-- for want of memory the text, the table or its lines are not had
abbrev pub AsksLoad : Session → Text → Result Answer Stop → Session → Type 0
AsksLoad s text (Ok a) t = WasLoaded s text a t
AsksLoad s text (Err e) t = NoBytes s text e t ⊎ ((e ≡ NoMemory) × Same s t)

-- `put`: the text's bytes are put
pub record WasPut (s : Session) (id : ℕ) (text : Text) (a : Answer) (t : Session) : Type 0 where
  pub bytes : List ℕ
  pub found : Result (Unit {0}) StoreFault
  pub whole : Is text bytes
  pub puts : Put (store_of s) (store_of t) id bytes found
  pub answer : Shows done store-fault found a
  pub after : Answered s part.Store a t
  pub stations : vec_items t.stations ≡ vec_items s.stations

abbrev pub AsksPut : Session → ℕ → Text → Result Answer Stop → Session → Type 0
AsksPut s id text (Ok a) t = WasPut s id text a t
AsksPut s id text (Err e) t = NoBytes s text e t

-- `head`
pub record AsksHead (s : Session) (id : ℕ) (a : Answer) (t : Session) : Type 0 where
  pub found : Result ℕ StoreFault
  pub heads : Head (store_of s) (store_of t) id found
  pub answer : Shows length_of store-fault found a
  pub after : Answered s part.Store a t
  pub stations : vec_items t.stations ≡ vec_items s.stations

-- `read`: the file stands at the beginning of the page
pub record AsksRead (s : Session) (id : ℕ) (a : Answer) (t : Session) : Type 0 where
  pub found : Result ℕ StoreFault
  pub reads : Read (store_of s) (store_of t) id s.page t.page found
  pub answer : Shows text_of store-fault found a
  pub after : Answered s part.Store a t
  pub stations : vec_items t.stations ≡ vec_items s.stations

-- a line that sets something, and answers nothing
abbrev pub Silent : (Result (Unit {0}) Stop → Type 0) → Result (Option Answer) Stop → Type 0
Silent R (Ok None) = R (Ok tt)
Silent R (Ok (Some a)) = ⊥
Silent R (Err e) = R (Err e)

-- a line that sets the store up: settings, account and stations are as they were
pub record SetsUp (s : Session) (R : Result (Unit {0}) Stop → Type 0) (r : Result (Option Answer) Stop) (t : Session) : Type 0 where
  pub sets : Silent R r
  pub settings : t.settings ≡ s.settings
  pub account : t.account ≡ s.account
  pub stations : vec_items t.stations ≡ vec_items s.stations

-- the answer that a call gave, or why it gave none
abbrev pub Gives : (Result Answer Stop → Type 0) → Result (Option Answer) Stop → Type 0
Gives R (Ok None) = ⊥
Gives R (Ok (Some a)) = R (Ok a)
Gives R (Err e) = R (Err e)

-- what is done for a command
abbrev pub Does : Session → Command → Result (Option Answer) Stop → Session → Type 0
Does s (command.Options line) r t = Silent (λ x. SetsOptions s (listed line) x t) r
Does s (command.Store p b) r t = SetsUp s (λ x. setup.SetsRoom s.setup p b x t.setup) r t
Does s (command.Script line) r t = SetsUp s (λ x. setup.SetsMarks s.setup (listed line) x t.setup) r t
Does s (command.Record line) r t = Silent (λ x. SetsRecord s (listed line) x t) r
Does s (command.Table k p b) r t = (r ≡ Ok None) × SetsTable s k p b t
Does s (command.Check text) r t = Gives (λ x. Tests s text x t) r
Does s (command.Put id text) r t = Gives (λ x. AsksPut s id text x t) r
Does s (command.Head id) r t = (a : Answer) × (r ≡ Ok (Some a)) × AsksHead s id a t
Does s (command.Read id) r t = (a : Answer) × (r ≡ Ok (Some a)) × AsksRead s id a t
Does s (command.Load text) r t = Gives (λ x. AsksLoad s text x t) r
Does s (command.Tail start) r t = (a : Answer) × (r ≡ Ok (Some a)) × AsksTail s start a t
Does s (command.Open name id) r t = Gives (λ x. AsksOpen s name.now id x t) r
Does s (command.Arrive name k) r t = Gives (λ x. AsksArrive s name.now k x t) r

abbrev pub Obeys : Session → Result Command Reason → Result (Option Answer) Stop → Session → Type 0
Obeys s (Ok c) r t = Does s c r t
Obeys s (Err e) r t = (r ≡ Err (Script e)) × Same s t

-- a call is performed as its words ask; a line that is no call is not performed
pub record Performs (s : Session) (call : Call) (r : Result (Option Answer) Stop) (t : Session) : Type 0 where
  pub asked : Result Command Reason
  pub asks : Asks (words call.words.now) call.text asked
  pub does : Obeys s asked r t
