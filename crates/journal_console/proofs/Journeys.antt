-- Stations that open, and answers that are taken into the account.
use Rattle.std.proofs.Common.{◌≡◌, ℕ, false, List, is_some, Some, None, vec_items, Option, sym, ap, ◌∙◌, subst}
use Rattle.std.proofs.lemmas.Bool.{true≢false}
use Rattle.journal_answers.specs.Accounts.{noted}
use Rattle.journal_answers.specs.declared.account.Account.{Account}
use Rattle.journal_answers.specs.declared.account.Part.{Part}
use Rattle.journal_answers.specs.declared.account.Part.TheVariants.{Journal}
use Rattle.journal_answers.specs.declared.answer.Answer.{Answer}
use Rattle.setups.specs.Settings.{opening_options}
use Rattle.stations.specs.declared.name.Name.{Name}
use Rattle.stations.specs.declared.station.Station.{Station}
use Rattle.stations.specs.Names.{NameOf}
use Rattle.stations.specs.Stations.{Finds}
use Rattle.store.specs.Meaning.{Meaning}
use Rattle.store.specs.Memory.{memory_means}
use Rattle.store.specs.Scripted.{scripted}
use Rattle.store.specs.declared.memory.MemoryStore.{MemoryStore}
use Rattle.store.specs.declared.script.FaultScript.{FaultScript}
use Rattle.store_setup.specs.Setups as setup
use Rattle.store_setup.specs.declared.setup.StoreSetup.{StoreSetup}
use Rattle.wal_init.specs.WriterInit.{Opened}
use Rattle.journal_console.specs.declared.session.Session.{Session}
use Rattle.journal_console.specs.Journal.{Admits, Granting, WasOpened}
use Rattle.journal_console.specs.Sessions.{Answered, Framed, Noted, Same, store_of}

-- no station has the name
pub not_found : (stations : List Station) (w : List ℕ) (r : Option ℕ) → is_some r ≡ false → Finds stations w r → Finds stations w None
not_found stations w None e f = f
not_found stations w (Some i) e f = absurd (true≢false e)

framed_on : (s r t : Session) → Framed s r → Framed r t → Framed s t
framed_on s r t f g =
    record { settings = g.settings ∙ f.settings; places = g.places ∙ f.places; bytes = g.bytes ∙ f.bytes; marks = g.marks ∙ f.marks }

-- what was done before an answer is taken into the account stays done
pub answered_on : (s r t : Session) (part : Part) (a : Answer) → Framed s r → r.account ≡ s.account → Noted r part a t → Answered s part a t
answered_on s r t part a f e n = record { framed = framed_on s r t f n.framed; account = n.account ∙ ap (λ (x : Account). noted x part a) e; begun = n.begun }

pub same_store : (r t : Session) → t.setup.store ≡ r.setup.store → store_of t ≡ store_of r
same_store r t e = ap (λ (x : FaultScript MemoryStore). scripted memory_means x) e

-- a session that is as it was has its settings and its set-up
framed_same : (s r : Session) → Same s r → Framed s r
framed_same s r e = record {
  settings = e.settings;
  places = ap (λ (x : StoreSetup). x.places) e.still.setup;
  bytes = ap (λ (x : StoreSetup). x.bytes) e.still.setup;
  marks = ap (λ (x : StoreSetup). x.marks) e.still.setup;
}

module _ (s r g t : Session) (w : List ℕ) (id : ℕ) (a : Answer) (name : Name) (same : Same s r) (new : Finds (vec_items s.stations) w None) where
  pub opened_on : NameOf w (Some name) → Granting r name id a g → Noted g Journal a t → WasOpened s w id a t
  opened_on is granted n =
      let settings = same.settings in
      let before : store_of r ≡ store_of s = ap (λ (x : StoreSetup). setup.store_of x) same.still.setup in
      let after : store_of g ≡ store_of t = sym (same_store g t n.store) in
      let opens = granted.opens in
      record {
        name = name;
        is = is;
        new = new;
        found = granted.found;
        opens = subst (λ (m : Meaning). Opened (store_of s) m s.settings.manifest id (opening_options s.settings) granted.found) after
            (subst (λ (m : Meaning). Opened m (store_of g) s.settings.manifest id (opening_options s.settings) granted.found) before
            (subst (λ x. Opened (store_of r) (store_of g) x.manifest id (opening_options x) granted.found) settings opens));
        admits = subst (λ (xs : List Station). Admits name (vec_items s.stations) granted.found a xs) (sym n.stations)
            (subst (λ (xs : List Station). Admits name xs granted.found a (vec_items g.stations)) same.still.stations granted.admits);
        after = answered_on s g t Journal a (framed_on s r g (framed_same s r same) granted.framed) (granted.account ∙ same.still.account) n;
      }
