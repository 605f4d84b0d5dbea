use Rattle.std.proofs.Common.{◌≡◌, ap, ◌∙◌, subst, sym}
use Rattle.speculation.specs.Ledger.{row_at}
use Rattle.speculation.specs.Verdicts.{judge}
use Rattle.guest_model.specs.Rv32.{rv32}
use Rattle.track_state.specs.Views.{view_of}
use Rattle.region_ledger.specs.Ledger.{ledger_row, seen}
use Rattle.region_trial.proofs.OnRegions.{row-is}
use Rattle.region_trial.proofs.region.judge_fast.Goals as goal

pub returns-clause-row : goal.returns-clause-row
returns-clause-row c =
    let s = (view_of c.args.original.now).start in
    subst (λ n. ledger_row (record { number = c.args.number; at = c.args.at; pc = c.pc.result; original = n; fast = c.in-Some.steps; verdict = c.in-Some.verdict }) ≡ row_at (rv32 c.args.input.now) s c.args.number c.args.at (view_of c.args.original.now).own)
    (sym c.own-count.ensures.own)
    (row-is c.args.input.now s c.args.number c.args.at c.pc.result (view_of c.args.original.now).own c.in-Some.steps c.in-Some.verdict (seen c.in_ok-part.part)
    c.in_ok-part.ensures.sees (c.in-Some.ensures ∙ ap (λ n. judge n (seen c.in_ok-part.part)) c.own-count.ensures.own) (c.pc.ensures.value ∙ ap (λ m. m.regs.pc) c.start.ensures))
