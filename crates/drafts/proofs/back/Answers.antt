use Rattle.std.proofs.Common.{◌<◌, get_or, sym, refl, subst, arith}
use Rattle.desks.proofs.Answered.{back_refused, back_taken}
use Rattle.desks.specs.Memory.{Sound}
use Rattle.desks.proofs.Sounds.{sound_undone}
use Rattle.drafts.proofs.Changes.{entry_told, entry_of}
use Rattle.drafts.proofs.Steps.{front_long, newest_in, turned}
use Rattle.drafts.proofs.back.Goals as goal

pub returns-then-memory-eq0 : goal.returns-then-memory-eq0
returns-then-memory-eq0 c = record { replies = λ can q. back_refused can c.args.memory.now q c.requires c.if-memory-eq0.true; sound = c.requires }

pub unwrap-newest-requires : goal.unwrap-newest-requires
unwrap-newest-requires c = entry_told _ c.try_from.result (newest_in c.args.memory.now c.requires) c.try_from.ensures

pub turn_back-requires : goal.turn_back-requires
turn_back-requires c =
    let m = c.args.memory.now in
    record {
      long = front_long m c.rotate_left.new.self c.requires c.rotate_left.ensures.after;
      some = (entry_of _ c.try_from.result c.unwrap-newest.result (newest_in m c.requires) c.try_from.ensures c.unwrap-newest.ensures).1;
    }

pub returns : goal.returns
returns c =
    let m = c.args.memory.now in
    let some : 0 < get_or m 3 0 = omega arith in
    let word = (entry_of _ c.try_from.result c.unwrap-newest.result (newest_in m c.requires) c.try_from.ensures c.unwrap-newest.ensures).0 in
    let is = turned m c.rotate_left.new.self c.requires c.rotate_left.ensures.after _ c.turn_back.new.head word c.turn_back.ensures in
    record { replies = λ can q. back_taken can m _ _ q c.requires some refl is; sound = subst Sound (sym is) (sound_undone m c.requires) }
