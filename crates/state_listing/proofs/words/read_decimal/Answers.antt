use Rattle.std.proofs.Common.{ℕ, ◌^◌, ◌<◌, List, decimal, sym, subst}
use Rattle.std.specs.Result.{result_ok}
use Rattle.std.specs.Str.{IsUtf8}
use Rattle.std.proofs.lemmas.Fmt.{IsAscii-decimal}
use Rattle.std.proofs.lemmas.Str.{IsUtf8-from_ascii}
use Rattle.state_listing.specs.Values.{IsValueOf, BeginsPlainly}
use Rattle.state_listing.proofs.OnWords.{decimal_plain, parsed_value}
use Rattle.state_listing.proofs.words.read_decimal.Goals as goal

pub returns-then-not-begins_plainly : goal.returns-then-not-begins_plainly
returns-then-not-begins_plainly c = λ n small is. let plain = c.begins_plainly.ensures.1 (subst BeginsPlainly is (decimal_plain n small)) in (cc)

pub returns-in-Ok : goal.returns-in-Ok
returns-in-Ok c =
    let text = c.in-Ok.ensures.cases.0 in
    let plain = c.begins_plainly.ensures.0 c.if-not-begins_plainly.false in
    rw c.ok.ensures.value
    (subst (λ (bs : List ℕ). IsValueOf (λ n. n < 2 ^ 64) decimal bs (result_ok c.parse.result)) text
    (parsed_value c.in-Ok.digits.now (subst BeginsPlainly (sym text) plain) c.parse.result c.parse.ensures.value.0))

pub returns-in-Err : goal.returns-in-Err
returns-in-Err c = λ n small is. c.in-Err.ensures.cases.0 (subst IsUtf8 is (IsUtf8-from_ascii (decimal n) (IsAscii-decimal n small)))
