-- A session, and what lines leave of it.
use Rattle.std.specs.Prelude.{◌≡◌, ◌-◌, true, [], vec_items}
use Rattle.journal_answers.specs.Accounts.{holding, no_account, noted}
use Rattle.journal_answers.specs.declared.account.Account.{Account}
use Rattle.journal_answers.specs.declared.account.Part.{Part}
use Rattle.journal_answers.specs.declared.answer.Answer.{Answer}
use Rattle.store.specs.Meaning.{Meaning}
use Rattle.store_setup.specs.Setups as setup
use Rattle.setups.specs.Settings.{begin}
use Rattle.journal_console.specs.declared.session.Session.{Session}

-- what the session's store means
abbrev pub store_of : Session → Meaning
store_of s = setup.store_of s.setup

-- the account with the files and bytes that the store has taken of its room
abbrev pub closing : Session → Account
closing s = holding s.account (s.setup.places - (store_of s).held.places) (s.setup.bytes - (store_of s).held.bytes)

-- the session before the first line
pub record Begins (s : Session) : Type 0 where
  pub settings : s.settings ≡ begin
  pub account : s.account ≡ no_account
  pub setup : setup.Begins s.setup
  pub stations : vec_items s.stations ≡ []

-- settings, and what sets the store up, are as they were
pub record Framed (s t : Session) : Type 0 where
  pub settings : t.settings ≡ s.settings
  pub places : t.setup.places ≡ s.setup.places
  pub bytes : t.setup.bytes ≡ s.setup.bytes
  pub marks : t.setup.marks ≡ s.setup.marks

-- the account, the store and what sets it up, and the stations are as they were
pub record Still (s t : Session) : Type 0 where
  pub account : t.account ≡ s.account
  pub setup : t.setup ≡ s.setup
  pub stations : vec_items t.stations ≡ vec_items s.stations

pub record Same (s t : Session) : Type 0 where
  pub settings : t.settings ≡ s.settings
  pub still : Still s t

-- an answer is taken into the account, and nothing else is changed
pub record Noted (s : Session) (part : Part) (a : Answer) (t : Session) : Type 0 where
  pub framed : Framed s t
  pub account : t.account ≡ noted s.account part a
  pub begun : t.setup.begun ≡ true
  pub store : t.setup.store ≡ s.setup.store
  pub stations : vec_items t.stations ≡ vec_items s.stations
  pub page : t.page ≡ s.page
  pub lines : t.lines ≡ s.lines

-- after a call with this answer: settings, and what sets the store up, are as they were
pub record Answered (s : Session) (part : Part) (a : Answer) (t : Session) : Type 0 where
  pub framed : Framed s t
  pub account : t.account ≡ noted s.account part a
  pub begun : t.setup.begun ≡ true
