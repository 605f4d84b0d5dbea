use Rattle.track_board.proofs.Walks.{numbered-by}
use Rattle.track_board.proofs.Lends.{normal-home, normal-is_out}
use Rattle.track_board.proofs.lending.take_normal.Goals as goal

pub take_track-requires : goal.take_track-requires
take_track-requires c =
    normal-home c.args.regions.now c.args.number c.in-Some.key c.in-Some-get_mut.region.now c.get_mut.ensures.sound c.in-Some.ensures c.in-Some-get_mut.ensures.value c.requires

pub unreachable-requires-in-None : goal.unreachable-requires-in-None
unreachable-requires-in-None c =
    absurd (let by = numbered-by c.args.number c.args.regions.now c.in-Some.key c.get_mut.ensures.sound c.in-Some.ensures in let none = c.in-None.ensures.value in let got = by.got in cc)

pub returns-clause-out : goal.returns-clause-out
returns-clause-out c =
    normal-is_out c.args.regions.now c.args.number c.in-Some.key c.in-Some-get_mut.region.now c.get_mut.ensures.sound c.in-Some.ensures c.in-Some-get_mut.ensures.value
    c.take_track.result c.take_track.new.slot c.take_track.ensures.was c.take_track.ensures.slot
