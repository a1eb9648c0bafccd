use Rattle.std.proofs.Common.{refl}
use Rattle.wal_replay.proofs.TextLaws.{moves, goes_on}
use Rattle.wal_replay.proofs.survey.more.Goals as goal

pub unwrap-requires : goal.unwrap-requires
unwrap-requires c = goes_on _ _ _ _ _ _ c.requires c.advance.ensures.answer

pub returns : goal.returns
returns c = record { text = c.advance.ensures.text; moves = moves _ _ _ _ _ _ _ refl c.requires (rw c.unwrap.ensures at c.advance.ensures.answer) }
