use Rattle.std.proofs.Common.{Ok, refl, subst}
use Rattle.store.specs.Meaning.{Meaning}
use Rattle.store.specs.Memory.{memory_means}
use Rattle.store.specs.Scripted.{scripted}
use Rattle.wal_init.specs.declared.record.Options.{Options}
use Rattle.wal_init.specs.WriterInit.{Opened}
use Rattle.journal_console.proofs.session.Session.grant.Goals as goal

-- the store before and after the fence
abbrev before-store : (c : goal.After-push_reserved) → Meaning
before-store c = scripted memory_means c.args.self.now.setup.store

abbrev after_store : (c : goal.After-push_reserved) → Meaning
after_store c = scripted memory_means c.fence_and_init.new.store

pub returns-in-Ok : goal.returns-in-Ok
returns-in-Ok c =
    let g = c.in-Ok.grant in
    let fence = c.fence.ensures in
    let attempts = c.attempts.ensures in
    record {
      found = Ok g;
      opens = subst (λ (o : Options). Opened (before-store c) (after_store c) c.args.self.now.settings.manifest c.args.id o (Ok g)) c.from-options.ensures c.in-Ok.ensures.opened;
      admits = (cc, (_, record { name = refl; opening = c.new-opening.ensures }, c.push_reserved.ensures.items));
      framed = record { settings = refl; places = refl; bytes = refl; marks = refl };
      account = refl;
      begun = refl;
    }
