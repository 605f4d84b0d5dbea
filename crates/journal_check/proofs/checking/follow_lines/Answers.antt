use Rattle.std.proofs.Common.{ℕ, ◌<◌, ◌^◌, List, length, sym, ap, ◌∙◌, subst, arith}
use Rattle.track_board.specs.Owners.{program_of}
use Rattle.journal_check.specs.declared.fault.Cause.TheVariants as Causes
use Rattle.journal_check.specs.Replays.{Follows, FollowsIf, IsRefused, HasRead}
use Rattle.journal_check.proofs.Whole.{read-first, read-more, few-lines, behind-shorter, some-behind, none-behind, not_allowed, told-fault, count-more}
use Rattle.journal_check.proofs.checking.follow_lines.Goals as goal

pub loop-rest-init : goal.loop-rest-init
loop-rest-init c = record {
  on = c.requires.on;
  read = read-first c.args.journal.now c.args.replay.now.board c.requires.fresh;
  lines = sym (ap length c.requires.fresh);
}

pub fault_behind-requires : goal.fault_behind-requires
fault_behind-requires c =
    let fits : length c.args.journal.now < 2 ^ 64 = omega arith in
    few-lines (program_of c.args.replay.now.board) c.args.journal.now c.loop-rest.rest.now c.loop-rest.replay.board c.loop-rest.lines c.loop-rest.invariant.read c.loop-rest.invariant.lines fits

pub returns-in_default : goal.returns-in_default
returns-in_default c =
    told-fault (program_of c.args.replay.now.board) c.args.journal.now c.loop-rest.rest.now c.loop-rest.replay.board c.loop-rest.lines Causes.Text c.fault_behind.result
    c.loop-rest.invariant.read c.loop-rest.invariant.on.known c.loop-rest.invariant.lines
    (some-behind c.loop-rest.rest.now (sym c.is_empty.ensures ∙ c.loop-rest-test.true), c.in_default.ensures.none) c.fault_behind.ensures

pub follow-requires : goal.follow-requires
follow-requires c = c.loop-rest.invariant.on

pub fault_behind-requires-then-not-branch : goal.fault_behind-requires-then-not-branch
fault_behind-requires-then-not-branch c =
    let fits : length c.args.journal.now < 2 ^ 64 = omega arith in
    few-lines (program_of c.args.replay.now.board) c.args.journal.now c.loop-rest.rest.now c.loop-rest.replay.board c.loop-rest.lines c.loop-rest.invariant.read c.loop-rest.invariant.lines fits

pub returns-then-not-branch : goal.returns-then-not-branch
returns-then-not-branch c =
    let refused : IsRefused c.loop-rest.replay.board c.in-Some.entry =
    subst (λ t. FollowsIf c.loop-rest.replay c.follow.new.self c.in-Some.entry t) c.if-not-branch.true c.in_ok-follow.ensures in
    told-fault (program_of c.args.replay.now.board) c.args.journal.now c.loop-rest.rest.now c.loop-rest.replay.board c.loop-rest.lines Causes.NotAllowed c.fault_behind-then-not-branch.result
    c.loop-rest.invariant.read c.loop-rest.invariant.on.known c.loop-rest.invariant.lines
    (not_allowed c.loop-rest.replay.board c.loop-rest.rest.now c.in-Some.behind.now c.in-Some.entry c.in-Some.ensures.line refused) c.fault_behind-then-not-branch.ensures

pub overflow_add-lines : goal.overflow_add-lines
overflow_add-lines c =
    let fits : length c.args.journal.now < 2 ^ 64 = omega arith in
    let few = few-lines (program_of c.args.replay.now.board) c.args.journal.now c.loop-rest.rest.now c.loop-rest.replay.board c.loop-rest.lines c.loop-rest.invariant.read c.loop-rest.invariant.lines fits in
    omega arith

pub loop-rest-smaller : goal.loop-rest-smaller
loop-rest-smaller c = behind-shorter c.loop-rest.rest.now c.in-Some.behind.now c.in-Some.entry c.in-Some.ensures.line

pub loop-rest-preserved : goal.loop-rest-preserved
loop-rest-preserved c =
    let done : Follows c.loop-rest.replay c.follow.new.self c.in-Some.entry =
    subst (λ t. FollowsIf c.loop-rest.replay c.follow.new.self c.in-Some.entry t) c.if-not-branch.false c.in_ok-follow.ensures in
    record {
      on = done.on;
      read = read-more (program_of c.args.replay.now.board) c.args.journal.now c.loop-rest.rest.now c.in-Some.behind.now c.loop-rest.replay.board c.follow.new.self.board c.in-Some.entry
          c.loop-rest.invariant.read c.in-Some.ensures.line done.board;
      lines = count-more c.loop-rest.replay.board c.follow.new.self.board c.in-Some.entry c.loop-rest.lines c.loop-rest.invariant.lines done.board;
    }

pub returns : goal.returns
returns c = (
  c.loop-rest.invariant.on,
  subst (λ (bs : List ℕ). HasRead (program_of c.args.replay.now.board) c.args.journal.now bs c.loop-rest.replay.board) (none-behind c.loop-rest.rest.now (sym c.is_empty.ensures ∙ c.loop-rest-test.false))
      c.loop-rest.invariant.read,
  c.loop-rest.invariant.lines,
)
