use Rattle.std.proofs.Common.{◌<◌, ◌^◌, [], length, Err, sym, ap, subst, arith}
use Rattle.std.proofs.lemmas.Result.{err_from_is_err_and}
use Rattle.track_board.specs.declared.kept.Program.{Program}
use Rattle.track_board.specs.Value.{Posted, IsSettings}
use Rattle.journal_check.specs.Checks.{program_by, HasFault}
use Rattle.journal_check.specs.Replays.{HasRead}
use Rattle.journal_check.proofs.Loans.{fresh-board}
use Rattle.journal_check.proofs.OneAnswer.{answer-taken, answer-refused}
use Rattle.journal_check.proofs.Whole.{few-lines, program-is, outcome-checked, outcome-fault}
use Rattle.journal_check.proofs.checking.check.Goals as goal

pub new-replay-requires : goal.new-replay-requires
new-replay-requires c =
    fresh-board c.in_ok-board.board (subst IsSettings (sym (ap (λ (v : Posted). v.settings) c.in_ok-board.ensures)) c.requires) (ap (λ (v : Posted). v.entries) c.in_ok-board.ensures)

pub returns-in_err-entries-clause-taken : goal.returns-in_err-entries-clause-taken
returns-in_err-entries-clause-taken c =
    let p = program_by c.args.settings c.args.loaded.now c.args.input.value in
    let is = program-is c.new-replay.result.board c.in_ok-board.board c.args.settings c.args.loaded.now c.args.input.value c.new-replay.ensures.board c.in_ok-board.ensures in
    let fault = err_from_is_err_and c.from_residual-in_err-entries.result c.from_residual-in_err-entries.ensures.1 in
    rw (fault.1, fault.2)
    (answer-taken p c.args.journal.now (Err c.in_err-entries.field-0.0) (subst (λ (q : Program). HasFault q c.args.journal.now c.in_err-entries.field-0.0) is c.in_err-entries.ensures))

pub returns-in_err-entries-clause-refused : goal.returns-in_err-entries-clause-refused
returns-in_err-entries-clause-refused c =
    let p = program_by c.args.settings c.args.loaded.now c.args.input.value in
    let is = program-is c.new-replay.result.board c.in_ok-board.board c.args.settings c.args.loaded.now c.args.input.value c.new-replay.ensures.board c.in_ok-board.ensures in
    let fault = err_from_is_err_and c.from_residual-in_err-entries.result c.from_residual-in_err-entries.ensures.1 in
    rw (fault.1, fault.2)
    (answer-refused p c.args.journal.now (Err c.in_err-entries.field-0.0) tt (subst (λ (q : Program). HasFault q c.args.journal.now c.in_err-entries.field-0.0) is c.in_err-entries.ensures))

pub outcome_of-requires-clause-bound : goal.outcome_of-requires-clause-bound
outcome_of-requires-clause-bound c =
    let fits : length c.args.journal.now < 2 ^ 64 = omega arith in
    let read = c.in_ok-entries.ensures.1 in
    few-lines _ c.args.journal.now [] c.follow_lines.new.replay.board c.in_ok-entries.entries read c.in_ok-entries.ensures.2 fits

pub returns-clause-checked : goal.returns-clause-checked
returns-clause-checked c =
    let p = program_by c.args.settings c.args.loaded.now c.args.input.value in
    let is = program-is c.new-replay.result.board c.in_ok-board.board c.args.settings c.args.loaded.now c.args.input.value c.new-replay.ensures.board c.in_ok-board.ensures in
    outcome-checked p c.args.journal.now c.follow_lines.new.replay c.in_ok-entries.ensures.0
    (subst (λ (q : Program). HasRead q c.args.journal.now [] c.follow_lines.new.replay.board) is c.in_ok-entries.ensures.1) c.outcome_of.result c.outcome_of.ensures

pub returns-clause-taken : goal.returns-clause-taken
returns-clause-taken c =
    let p = program_by c.args.settings c.args.loaded.now c.args.input.value in
    let is = program-is c.new-replay.result.board c.in_ok-board.board c.args.settings c.args.loaded.now c.args.input.value c.new-replay.ensures.board c.in_ok-board.ensures in
    answer-taken p c.args.journal.now c.outcome_of.result
    (outcome-fault p c.args.journal.now c.follow_lines.new.replay c.in_ok-entries.ensures.0
    (subst (λ (q : Program). HasRead q c.args.journal.now [] c.follow_lines.new.replay.board) is c.in_ok-entries.ensures.1) c.outcome_of.result c.outcome_of.ensures)

pub returns-clause-refused : goal.returns-clause-refused
returns-clause-refused c =
    let p = program_by c.args.settings c.args.loaded.now c.args.input.value in
    let is = program-is c.new-replay.result.board c.in_ok-board.board c.args.settings c.args.loaded.now c.args.input.value c.new-replay.ensures.board c.in_ok-board.ensures in
    let read = subst (λ (q : Program). HasRead q c.args.journal.now [] c.follow_lines.new.replay.board) is c.in_ok-entries.ensures.1 in
    answer-refused p c.args.journal.now c.outcome_of.result
    (outcome-checked p c.args.journal.now c.follow_lines.new.replay c.in_ok-entries.ensures.0 read c.outcome_of.result c.outcome_of.ensures)
    (outcome-fault p c.args.journal.now c.follow_lines.new.replay c.in_ok-entries.ensures.0 read c.outcome_of.result c.outcome_of.ensures)
