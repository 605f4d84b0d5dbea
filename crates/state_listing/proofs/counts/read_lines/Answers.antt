use Rattle.std.proofs.Common.{List, [], ◌∷◌, length, sym, ap, subst, arith, length-append}
use Rattle.state_listing.specs.declared.request.StateRequest.{StateRequest}
use Rattle.state_listing.specs.Counts.{BeginsWith}
use Rattle.state_listing.proofs.OnFiles.{begins_next}
use Rattle.state_listing.proofs.counts.read_lines.Goals as goal

pub loop-rest-preserved : goal.loop-rest-preserved
loop-rest-preserved c = record {
  begins = subst (λ (qs : List StateRequest). BeginsWith c.args.text.now qs c.in-Some.behind.now) (sym c.in_ok-push.ensures.items)
      (begins_next c.args.text.now c.loop-rest.rest.now c.in-Some.behind.now c.loop-rest.requests.items c.in-Some.request c.loop-rest.invariant.begins c.in-Some.ensures.line);
  few = omega (arith, ap length c.in_ok-push.ensures.items, length-append c.loop-rest.requests.items (c.in-Some.request ∷ []), c.loop-rest.requests.ok.0);
}
