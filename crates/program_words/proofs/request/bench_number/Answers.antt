use Rattle.std.proofs.Common.{◌∙◌, ◌≤◌, length, rules}
use Rattle.program_words.proofs.BenchNumber.{reads}
use Rattle.program_words.proofs.request.bench_number.Goals as goal

pub returns : goal.returns
returns c =
    let short : length c.args.text.now ≤ 10 = search rules in
    c.ok.ensures.value ∙ reads c.args.text.now c.parse.result short (search rules) c.parse.ensures.value.0
