use Rattle.std.proofs.Common.{◌≤◌, length, vec_len}
use Rattle.word_listing.specs.Packing.{most_bytes, most_lines, BeginsWith}
use Rattle.word_listing.proofs.packing.read_words.Given as goal

abbrev pub invariant-loop-rest : goal.invariant-loop-rest
invariant-loop-rest l = record {
  bytes : length l.text ≤ most_bytes;
  count : vec_len l.words ≤ most_lines;
  lines : BeginsWith l.text l.words.items l.rest;
}

abbrev pub decreases-loop-rest : goal.decreases-loop-rest
decreases-loop-rest l = length l.rest
