use Rattle.std.proofs.Common.{◌∙◌, sym}
use Rattle.journal_check.proofs.Following.{gone-refused, none-out, some-out, loan-named, gone-lent, gone-follows}
use Rattle.journal_check.proofs.replay.Replay.give_up.Goals as goal

pub returns-then-not-is_out : goal.returns-then-not-is_out
returns-then-not-is_out c = gone-refused c.args.self.now.board c.args.name (none-out c.args.self.now.board c.args.name (sym c.is_out.ensures ∙ c.if-not-is_out.true))

pub take_out-loan-requires : goal.take_out-loan-requires
take_out-loan-requires c =
    let lent = some-out c.args.self.now.board c.args.name (sym c.is_out.ensures ∙ c.if-not-is_out.false) in
    loan-named c.args.self.now.board c.args.self.now.out.items c.args.name lent.0 c.requires.out lent.1

pub give_up-requires : goal.give_up-requires
give_up-requires c = record {
  lent = gone-lent c.args.self.now.board c.args.name c.take_out-loan.result.name
      (some-out c.args.self.now.board c.args.name (sym c.is_out.ensures ∙ c.if-not-is_out.false)) c.take_out-loan.ensures.name;
}

pub returns : goal.returns
returns c =
    gone-follows c.args.self.now c.give_up.new.self c.requires c.give_up.ensures.known c.take_out-loan.new.out c.args.name c.take_out-loan.result
    c.take_out-loan.ensures c.give_up.ensures.entry
