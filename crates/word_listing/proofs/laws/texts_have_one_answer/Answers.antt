use Rattle.word_listing.proofs.OneAnswer.{words-once, fault-once, words-faultless}
use Rattle.word_listing.proofs.laws.texts_have_one_answer.Goals as goal

pub returns-clause-words : goal.returns-clause-words
returns-clause-words c = words-once

pub returns-clause-fault : goal.returns-clause-fault
returns-clause-fault c = fault-once

pub returns-clause-either : goal.returns-clause-either
returns-clause-either c = words-faultless
