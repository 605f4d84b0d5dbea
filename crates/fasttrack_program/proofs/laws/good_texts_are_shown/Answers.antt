use Rattle.fasttrack_program.proofs.OnCompleteness.{journal-done, states-done, words-done, text-done}
use Rattle.fasttrack_program.proofs.laws.good_texts_are_shown.Goals as goal

pub returns : goal.returns
returns c = record { check = journal-done; at_counts = states-done; list = λ r known file is old new answer i. words-done r known file is old new answer i; pack = text-done }
