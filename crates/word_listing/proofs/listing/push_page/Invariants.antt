use Rattle.std.proofs.Common.{◌≡◌, ◌++◌, string_bytes}
use Rattle.word_listing.specs.Listing.{joined}
use Rattle.word_listing.specs.Pieces.{word_line}
use Rattle.word_listing.proofs.listing.push_page.Given as goal

abbrev pub invariant-loop-index : goal.invariant-loop-index
invariant-loop-index l = string_bytes l.lines ≡ string_bytes l.fn.lines ++ joined (word_line l.base l.page) 0 l.index
