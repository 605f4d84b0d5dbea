use Rattle.word_listing.proofs.OneAnswer.{lines-text}
use Rattle.word_listing.proofs.laws.lines_of_words_are_read.Goals as goal

pub returns : goal.returns
returns c = lines-text
