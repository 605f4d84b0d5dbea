use Rattle.std.proofs.Common.{ℕ, List, [], ◌∷◌, ◌++◌, sym, ap, ap₂, ◌∙◌, append_assoc, arith}
use Rattle.std.specs.Prelude.{codes, decimal}
use Rattle.track_state.specs.Views.{view_of}
use Rattle.difference_text.specs.Differences.{differences_lines}
use Rattle.region_account.proofs.OnFast.{late-or, in_time-or}
use Rattle.region_account.proofs.account.closed_text.Goals as goal

pub returns-then-own : goal.returns-then-own
returns-then-own c =
    in_time-or (view_of c.args.original.now).own (view_of c.args.fast.now).own _ _ (omega (arith, c.if-own.true, c.own.ensures.own, c.own-2.ensures.own))
    (c.in_ok-differences.ensures ∙ ap₂ differences_lines c.now.ensures.flat c.now-2.ensures.flat)

pub returns : goal.returns
returns c =
    let o = view_of c.args.original.now in
    let f = view_of c.args.fast.now in
    let differences = differences_lines o.state f.state in
    let first = codes "  fast version at its end after " in
    late-or o.own f.own differences _ (omega (arith, c.if-own.false, c.own.ensures.own, c.own-2.ensures.own))
    (c.in_ok-format.ensures.ok
    ∙ ap₂ (λ (k : ℕ) (xs : List ℕ). first ++ (decimal k ++ 10 ∷ xs)) c.own-own.ensures.own
    (c.as_str-differences.ensures.value ∙ c.in_ok-differences.ensures ∙ ap₂ differences_lines c.now.ensures.flat c.now-2.ensures.flat)
    ∙ ap (λ (xs : List ℕ). first ++ xs) (sym (append_assoc (decimal f.own) (10 ∷ []) differences)))
