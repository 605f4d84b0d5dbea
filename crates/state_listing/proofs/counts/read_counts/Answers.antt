use Rattle.std.proofs.Common.{◌≡◌, ℕ, ◌+◌, ◌<◌, ◌≤◌, ◌⊎◌, inl, inr, length, Ok, Err, refl, sym, ◌∙◌, subst, arith, vec_len}
use Rattle.state_listing.specs.Counts.{IsFault, TooLong}
use Rattle.state_listing.proofs.OnFiles.{empty_is, some_are, read_file, read_fault}
use Rattle.state_listing.proofs.OneAnswer.{one_answer}
use Rattle.state_listing.proofs.counts.read_counts.Goals as goal
use Rattle.state_listing.proofs.counts.read_counts.Goals.{then-is_empty-via-then-is_empty, then-is_empty-via-else-is_empty+then-not-is_empty}

pub returns-then-text-gt-MOST_BYTES-clause-only : goal.returns-then-text-gt-MOST_BYTES-clause-only
returns-then-text-gt-MOST_BYTES-clause-only c = λ answer h. one_answer c.args.text.now (Err 0) answer (TooLong (omega arith) refl) h

pub returns-then-is_empty-clause-read : goal.returns-then-is_empty-clause-read
returns-then-is_empty-clause-read c =
    let requests = c.in_ok-requests.requests in
    let short : length c.args.text.now ≤ 27648 = omega arith in
    let number = c.len.ensures ∙ requests.ok.0 in
    let cause : (length requests.items ≡ 0) ⊎ (0 < length c.in_ok-requests.rest.now) =
    elim c.then-is_empty.branch [
      | then-is_empty-via-then-is_empty w ↦ inl (sym requests.ok.0 ∙ empty_is c.is_empty.result (vec_len requests) c.is_empty.ensures w.if-is_empty.true)
      | then-is_empty-via-else-is_empty+then-not-is_empty w ↦ inr (some_are w.is_empty-else-is_empty.result (length c.in_ok-requests.rest.now) w.is_empty-else-is_empty.ensures w.if-not-is_empty.true)
    ] in
    subst (λ (n : ℕ). IsFault c.args.text.now (n + 1)) (sym number) (read_fault c.args.text.now c.in_ok-requests.rest.now requests.items short c.in_ok-requests.ensures cause)

pub returns-then-is_empty-clause-only : goal.returns-then-is_empty-clause-only
returns-then-is_empty-clause-only c = λ answer h. one_answer c.args.text.now (Err (c.len.result + 1)) answer (returns-then-is_empty-clause-read c) h

pub returns-clause-only : goal.returns-clause-only
returns-clause-only c = λ answer h.
    let requests = c.in_ok-requests.requests in
    let some : 0 < vec_len requests = some_are c.is_empty.result (vec_len requests) c.is_empty.ensures c.if-is_empty.false in
    let none = empty_is c.is_empty-else-is_empty.result (length c.in_ok-requests.rest.now) c.is_empty-else-is_empty.ensures c.if-not-is_empty.false in
    one_answer c.args.text.now (Ok requests.items) answer
    (read_file c.args.text.now c.in_ok-requests.rest.now requests.items c.in_ok-requests.ensures (omega (arith, requests.ok.0)) none) h
