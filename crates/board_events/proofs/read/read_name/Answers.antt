use Rattle.std.proofs.Common.{Some, None, sym}
use Rattle.board_events.proofs.Lines.{no_name, dot_once, dot_twice}
use Rattle.board_events.proofs.read.read_name.Goals as goal

pub returns-in_err-generation-clause-none : goal.returns-in_err-generation-clause-none
returns-in_err-generation-clause-none c = no_name c.args.text.now c.from_residual.result (λ n fits is. dot_once n fits _ is None c.in_err-generation.ensures.cases)

pub returns-in_err-region-clause-none : goal.returns-in_err-region-clause-none
returns-in_err-region-clause-none c =
    no_name c.args.text.now c.from_residual-in_err-region.result (λ n fits is.
    let once = dot_once n fits _ is (Some (c.in_ok-generation.generation, c.in_ok-generation.rest)) c.in_ok-generation.ensures.cases in
    dot_twice n fits _ is _ once.1 None c.in_err-region.ensures.cases)

pub returns-in_err-read_number-clause-none : goal.returns-in_err-read_number-clause-none
returns-in_err-read_number-clause-none c =
    no_name c.args.text.now c.from_residual-in_err-read_number.result (λ n fits is.
    let once = dot_once n fits _ is (Some (c.in_ok-generation.generation, c.in_ok-generation.rest)) c.in_ok-generation.ensures.cases in
    c.in_err-read_number.ensures.none n.generation fits.generation once.0)

pub returns-in_err-read_number-2-clause-none : goal.returns-in_err-read_number-2-clause-none
returns-in_err-read_number-2-clause-none c =
    no_name c.args.text.now c.from_residual-in_err-read_number-2.result (λ n fits is.
    let once = dot_once n fits _ is (Some (c.in_ok-generation.generation, c.in_ok-generation.rest)) c.in_ok-generation.ensures.cases in
    let twice = dot_twice n fits _ is _ once.1 (Some (c.in_ok-region.region, c.in_ok-region.kind)) c.in_ok-region.ensures.cases in
    c.in_err-read_number-2.ensures.none n.region fits.region twice.0)

pub returns-in_err-read_kind-clause-none : goal.returns-in_err-read_kind-clause-none
returns-in_err-read_kind-clause-none c =
    no_name c.args.text.now c.from_residual-in_err-read_kind.result (λ n fits is.
    let once = dot_once n fits _ is (Some (c.in_ok-generation.generation, c.in_ok-generation.rest)) c.in_ok-generation.ensures.cases in
    let twice = dot_twice n fits _ is _ once.1 (Some (c.in_ok-region.region, c.in_ok-region.kind)) c.in_ok-region.ensures.cases in
    c.in_err-read_kind.ensures.none n.normal (sym twice.1))
