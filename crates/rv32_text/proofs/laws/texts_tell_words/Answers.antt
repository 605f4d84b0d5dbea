use Rattle.rv32_text.proofs.Telling.{word_told}
use Rattle.rv32_text.proofs.laws.texts_tell_words.Goals as goal

pub returns : goal.returns
returns c = word_told
