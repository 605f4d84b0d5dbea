use Rattle.std.proofs.Common.{◌≡◌, ◌≢◌, ◌<◌, ℕ, List, length, get_or, take, sym, ap, ◌∙◌, arith}
use Rattle.rv32_text.proofs.Literals.{differs_in_letter, differs_at_text_end, begins_with}
use Rattle.rv32_text.proofs.expect.expect.Goals as goal

pub returns-then-place-text-clause-begins : goal.returns-then-place-text-clause-begins
returns-then-place-text-clause-begins c =
    let items : c.as_bytes-wanted-items.result.now ≡ c.args.literal.now = c.as_bytes-wanted-items.ensures.value in
    let shared : take c.loop-place.place c.args.text.now ≡ take c.loop-place.place c.args.literal.now = c.loop-place.invariant.1 ∙ ap (λ (x : List ℕ). take c.loop-place.place x) items in
    let inside : c.loop-place.place < length c.args.literal.now = (let inside_items : c.loop-place.place < length c.as_bytes-wanted-items.result.now = omega arith in rw items at inside_items) in
    let small : get_or c.args.literal.now c.loop-place.place 0 < 256 = omega (arith, c.type_inv.literal c.loop-place.place) in
    differs_at_text_end c.args.literal.now c.args.text.now c.loop-place.place inside shared c.if-place-text.true small

pub returns-then-text-place-clause-begins : goal.returns-then-text-place-clause-begins
returns-then-text-place-clause-begins c =
    let items : c.as_bytes-wanted-items.result.now ≡ c.args.literal.now = c.as_bytes-wanted-items.ensures.value in
    let shared : take c.loop-place.place c.args.text.now ≡ take c.loop-place.place c.args.literal.now = c.loop-place.invariant.1 ∙ ap (λ (x : List ℕ). take c.loop-place.place x) items in
    let inside : c.loop-place.place < length c.args.literal.now = (let inside_items : c.loop-place.place < length c.as_bytes-wanted-items.result.now = omega arith in rw items at inside_items) in
    let differ : get_or c.args.literal.now c.loop-place.place 0 ≢ get_or c.args.text.now c.loop-place.place 0 = λ e. c.if-text-place.true (sym e ∙ ap (λ (x : List ℕ). get_or x c.loop-place.place 0) (sym items)) in
    differs_in_letter c.args.literal.now c.args.text.now c.loop-place.place inside shared (omega (arith, c.if-place-text.false, c.loop-place.invariant.0)) differ

pub returns-clause-begins : goal.returns-clause-begins
returns-clause-begins c =
    let items : c.as_bytes-wanted-items.result.now ≡ c.args.literal.now = c.as_bytes-wanted-items.ensures.value in
    let done : c.loop-place.place ≡ length c.args.literal.now = (let done_items : c.loop-place.place ≡ length c.as_bytes-wanted-items.result.now = omega arith in done_items ∙ ap length items) in
    let shared : take c.loop-place.place c.args.text.now ≡ take c.loop-place.place c.args.literal.now = c.loop-place.invariant.1 ∙ ap (λ (x : List ℕ). take c.loop-place.place x) items in
    (begins_with c.args.literal.now c.args.text.now (rw done at shared), omega (arith, c.loop-place.invariant.0))
