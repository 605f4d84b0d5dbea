use Rattle.std.proofs.Common.{◌≡◌, ◌+◌, ◌≤◌, List, [], ◌∷◌, ◌++◌, length, sym, ◌∙◌, subst, Vec, Global}
use Rattle.std.specs.Prelude.{All}
use Rattle.std.specs.Vec.{with_items}
use Rattle.std.proofs.lemmas.List.Elements.{All-append, All-drop, All-push, All-take, All-weaker}
use Rattle.atomic_table.specs.Seated.{TableId}
use Rattle.worker_gate.specs.Seats.{BoardPass, IsReady}
use Rattle.job_batch.specs.declared.shares.Share.{Share}
use Rattle.job_batch.specs.Parts.{IsPassAt, IsShare, IsLed, HasSeats}
use Rattle.job_batch.proofs.Places.{place-last, place-more, led-more}
use Rattle.job_batch.proofs.Firsts.{first-led}
use Rattle.job_batch.proofs.opening.open_job.Goals as goal

pub returns-clause-opened : goal.returns-clause-opened
returns-clause-opened c =
    let ids = c.args.all.now.locks.items in
    let lock = c.in_ok-lock.lock in
    let jobs = c.args.all.now.jobs.items in
    let job = c.new_job.result in
    let more : List TableId = ids ++ lock ∷ [] in
    let number : c.len-number.result ≡ length ids = c.len-number.ensures ∙ c.args.all.now.locks.ok.0 in
    let led : All (IsLed more) (jobs ++ job ∷ []) =
    All-push (IsLed more) jobs job (All-weaker (IsLed ids) (IsLed more) (λ j h. led-more ids j h lock) jobs c.requires.opened.led)
    (first-led ids lock c.args.board c.in_ok-lock.pass c.passes_for-passes.new.pass job c.requires.fresh c.in_ok-lock.ensures c.passes_for-passes.ensures.pass c.passes_for-passes.ensures.some
    (c.new_job.ensures.number ∙ number) c.new_job.ensures.pass c.new_job.ensures.out c.new_job.ensures.notes c.new_job.ensures.stage) in
    let seats : HasSeats c.args.workers job = subst (λ (p : BoardPass). p.stock ≤ c.args.workers + 1) (sym c.new_job.ensures.pass) c.passes_for-passes.ensures.stock in
    let passes : All (IsPassAt more c.len-number.result) c.passes_for-passes.result.items =
    All-weaker (IsReady lock) (IsPassAt more c.len-number.result) (λ p h. subst (λ n. IsPassAt more n p) (sym number) (place-last ids lock p h)) c.passes_for-passes.result.items c.passes_for-passes.ensures.ready in
    let crew : All (λ (hand : Vec Share Global). All (IsShare more) hand.items) c.args.all.now.crew.items =
    All-weaker (λ (hand : Vec Share Global). All (IsShare ids) hand.items) (λ (hand : Vec Share Global). All (IsShare more) hand.items)
    (λ hand h. All-weaker (IsShare ids) (IsShare more) (λ s at. place-more ids s.job s.pass at lock) hand.items h) c.args.all.now.crew.items c.requires.opened.crew in
    record {
      led = subst (λ is. All (IsLed is) c.push-2.new.self.items) (sym c.in_ok-push.ensures.items) (subst (All (IsLed more)) (sym c.in_ok-push-2.ensures.items) led);
      seats = subst (All (HasSeats c.args.workers)) (sym c.in_ok-push-2.ensures.items) (All-push (HasSeats c.args.workers) jobs job c.requires.opened.seats seats);
      crew = subst (λ is. All (λ (hand : Vec Share Global). All (IsShare is) hand.items) (with_items c.args.all.now.crew c.deal.new.crew).items) (sym c.in_ok-push.ensures.items)
          (All-take (λ (hand : Vec Share Global). All (IsShare more) hand.items) _ _
          (All-append (λ (hand : Vec Share Global). All (IsShare more) hand.items) c.deal.new.crew _
          (c.deal.ensures more passes (subst (All (λ (hand : Vec Share Global). All (IsShare more) hand.items)) (sym c.as_mut_slice.ensures.value) crew))
          (All-drop (λ (hand : Vec Share Global). All (IsShare more) hand.items) (length c.deal.new.crew) c.args.all.now.crew.items crew)));
    }
