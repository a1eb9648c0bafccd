use Rattle.std.proofs.Common.{ap, ◌∙◌, w64, SFits, rules}
use Rattle.std.proofs.lemmas.Int.{to_z-of_z}
use Rattle.wal_replay.specs.Replays.{Meaning}
use Rattle.wal_replay.specs.Files.{disorder}
use Rattle.wal_replay.proofs.Taking.{sound_look, has_room, text_taken}
use Rattle.wal_replay.proofs.replay.WalReplayIterator.take_text.Goals as goal

pub put_rows-requires : goal.put_rows-requires
put_rows-requires g c =
    let f : SFits w64 c.self.inside.last.last_tick = search rules in
    let saw = sound_look c.args.text.now _ _ _ c.look_over.result c.in_ok-seen.seen c.in_ok-seen.ensures.cases c.look_over.ensures in
    has_room c.args.id c.args.self.now _ _ c.in_ok-seen.seen _ c.watermark-watermark.ensures _ (to_z-of_z w64 _ f ∙ ap (λ (m : Meaning). m.latest_tick) c.self.view_is) _ (ap (λ (m : Meaning). m.latest_seq) c.self.view_is) saw c.in_ok-check_room.ensures

pub returns : goal.returns
returns g c =
    let f : SFits w64 c.self.inside.last.last_tick = search rules in
    let saw = sound_look c.args.text.now _ _ _ c.look_over.result c.in_ok-seen.seen c.in_ok-seen.ensures.cases c.look_over.ensures in
    let order = c.in_ok-check_order.ensures ∙ ap (λ (m : Meaning). disorder c.args.id m.greatest c.in_ok-seen.seen.span) c.self.view_is in
    text_taken c.args.id c.args.self.now _ _ c.in_ok-seen.seen _ c.watermark-watermark.ensures _ (to_z-of_z w64 _ f ∙ ap (λ (m : Meaning). m.latest_tick) c.self.view_is) _ (ap (λ (m : Meaning). m.latest_seq) c.self.view_is) saw c.in_ok-check_room.ensures _ order c.put_rows.ensures
