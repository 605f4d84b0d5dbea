use Rattle.std.proofs.Common.{ℕ, List, subst, sym, arith}
use Rattle.word_listing.specs.Packing.{BeginsWith}
use Rattle.word_listing.proofs.TextLines.{begins-more}
use Rattle.word_listing.proofs.packing.read_words.Goals as goal

pub loop-rest-preserved : goal.loop-rest-preserved
loop-rest-preserved c = record {
  bytes = c.loop-rest.invariant.bytes;
  count = omega (arith, c.in_ok-push-in-Ok.ensures.len);
  lines = subst (λ (words : List ℕ). BeginsWith c.args.text.now words c.in-Ok.behind.now) (sym c.in_ok-push-in-Ok.ensures.items)
      (begins-more c.args.text.now c.loop-rest.words.items c.loop-rest.rest.now c.in-Ok.word c.in-Ok.behind.now c.loop-rest.invariant.lines c.in-Ok.ensures);
}
