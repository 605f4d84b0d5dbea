use Rattle.std.proofs.Common.{◌≡◌, ◌≢◌, ◌∙◌, ap, sym, length, get_or, unwrap_or, arith}
use Rattle.board_events.proofs.Numbers.{decimal_first, decimal_zero, parsed_is, parsed_none, first_byte}
use Rattle.board_events.proofs.number.read_number.Goals as goal
use Rattle.board_events.proofs.number.read_number.Goals.{else-first-eq48-via-then-first-eq48+else-digits-ne1, else-first-eq48-via-else-first-eq48}

pub returns-then-first-eq43-clause-none : goal.returns-then-first-eq43-clause-none
returns-then-first-eq43-clause-none c n small is =
    let first = first_byte c.args.text.now c.as_bytes-digits.result.now c.unwrap_or-first.result c.as_bytes-digits.ensures.value (c.unwrap_or-first.ensures ∙ ap (λ o. unwrap_or o 0) (c.copied.ensures ∙ c.first.ensures.value)) in
    decimal_first 43 n small (omega arith) (ap (λ bs. get_or bs 0 0) (sym is) ∙ (sym first ∙ c.if-first-eq43.true))

pub returns-then-digits-ne1-clause-none : goal.returns-then-digits-ne1-clause-none
returns-then-digits-ne1-clause-none c n small is =
    let first = first_byte c.args.text.now c.as_bytes-digits.result.now c.unwrap_or-first.result c.as_bytes-digits.ensures.value (c.unwrap_or-first.ensures ∙ ap (λ o. unwrap_or o 0) (c.copied.ensures ∙ c.first.ensures.value)) in
    c.if-digits-ne1.true (ap length (c.as_bytes-digits.ensures.value ∙ is) ∙ decimal_zero n small (ap (λ bs. get_or bs 0 0) (sym is) ∙ (sym first ∙ c.if-first-eq48.true)))

pub returns-clause-is : goal.returns-clause-is
returns-clause-is c =
    let first = first_byte c.args.text.now c.as_bytes-digits.result.now c.unwrap_or-first.result c.as_bytes-digits.ensures.value (c.unwrap_or-first.ensures ∙ ap (λ o. unwrap_or o 0) (c.copied.ensures ∙ c.first.ensures.value)) in
    let unsigned : get_or c.args.text.now 0 0 ≢ 43 = λ e. c.if-first-eq43.false (first ∙ e) in
    let plain : get_or c.args.text.now 0 0 ≡ 48 → length c.args.text.now ≡ 1 = λ e.
    elim c.else-first-eq48.branch [
      | else-first-eq48-via-then-first-eq48+else-digits-ne1 w ↦ ap length (sym c.as_bytes-digits.ensures.value) ∙ w.if-digits-ne1.false
      | else-first-eq48-via-else-first-eq48 w ↦ absurd (w.if-first-eq48.false (first ∙ e))
    ] in
    rw c.ok.ensures.value (parsed_is c.args.text.now unsigned plain c.parse.result c.parse.ensures.value.0)

pub returns-clause-none : goal.returns-clause-none
returns-clause-none c =
    let first = first_byte c.args.text.now c.as_bytes-digits.result.now c.unwrap_or-first.result c.as_bytes-digits.ensures.value (c.unwrap_or-first.ensures ∙ ap (λ o. unwrap_or o 0) (c.copied.ensures ∙ c.first.ensures.value)) in
    let unsigned : get_or c.args.text.now 0 0 ≢ 43 = λ e. c.if-first-eq43.false (first ∙ e) in
    let plain : get_or c.args.text.now 0 0 ≡ 48 → length c.args.text.now ≡ 1 = λ e.
    elim c.else-first-eq48.branch [
      | else-first-eq48-via-then-first-eq48+else-digits-ne1 w ↦ ap length (sym c.as_bytes-digits.ensures.value) ∙ w.if-digits-ne1.false
      | else-first-eq48-via-else-first-eq48 w ↦ absurd (w.if-first-eq48.false (first ∙ e))
    ] in
    rw c.ok.ensures.value (parsed_none c.args.text.now unsigned plain c.parse.result c.parse.ensures.value.0)
