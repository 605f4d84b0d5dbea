use Rattle.board_events.proofs.Lines.{no_two_words, three_words, no_three_words}
use Rattle.board_events.proofs.read.read_entry.Goals as goal

pub returns-in-None-clause-none : goal.returns-in-None-clause-none
returns-in-None-clause-none c =
    no_two_words c.args.line.now c.in-Some.word c.in-Some.rest c.in-Some.ensures.cases c.in-None.ensures.cases c.read_one.result c.read_one.ensures.none

pub returns-in-Some-split_once-clause-is : goal.returns-in-Some-split_once-clause-is
returns-in-Some-split_once-clause-is c =
    three_words c.args.line.now c.in-Some.word c.in-Some.rest c.in-Some.ensures.cases
    c.in-Some-split_once.first c.in-Some-split_once.second c.in-Some-split_once.ensures.cases c.read_two.result c.read_two.ensures.is

pub returns-in-Some-split_once-clause-none : goal.returns-in-Some-split_once-clause-none
returns-in-Some-split_once-clause-none c =
    no_three_words c.args.line.now c.in-Some.word c.in-Some.rest c.in-Some.ensures.cases
    c.in-Some-split_once.first c.in-Some-split_once.second c.in-Some-split_once.ensures.cases c.read_two.result c.read_two.ensures.none
