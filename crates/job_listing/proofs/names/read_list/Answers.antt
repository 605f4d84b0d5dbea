use Rattle.std.proofs.Common.{map, string_bytes, arith}
use Rattle.std.proofs.lemmas.List.{length-map}
use Rattle.job_listing.proofs.OnReading.{left-over, none-many, none-bad}
use Rattle.job_listing.proofs.names.read_list.Goals as goal

pub returns-then-len-eq-MOST_NAMES : goal.returns-then-len-eq-MOST_NAMES
returns-then-len-eq-MOST_NAMES c =
    let names = c.loop-rest.names in
    none-many c.args.list.now (map string_bytes names.items) c.loop-rest.rest.now c.loop-rest.invariant.read c.loop-rest.invariant.short
    (omega (arith, length-map names.items string_bytes, names.ok.0, c.len.ensures, c.if-len-eq-MOST_NAMES.true))
    (left-over c.loop-rest.rest.now c.is_empty.result c.is_empty.ensures c.loop-rest-test.true)

pub returns-in_default : goal.returns-in_default
returns-in_default c =
    none-bad c.args.list.now (map string_bytes c.loop-rest.names.items) c.loop-rest.rest.now c.loop-rest.invariant.read c.loop-rest.invariant.short
    (left-over c.loop-rest.rest.now c.is_empty.result c.is_empty.ensures c.loop-rest-test.true) c.in_default.ensures.none
