use Rattle.std.proofs.Common.{◌≡◌, ℕ, ◌+◌, length, string_bytes, ap, subst, arith}
use Rattle.std.proofs.lemmas.Result.{err_from_is_err_and}
use Rattle.sink_text.proofs.OnTexts.{TextSoFar, TextSoFar-all, TextSoFar-next, TextSoFar-stops}
use Rattle.word_listing.specs.Pieces.{area_lines}
use Rattle.word_listing.proofs.Pages.{from_page, page-said, pages-none}
use Rattle.word_listing.proofs.listing.write_area.Goals as goal

pub returns-in_err-write_text : goal.returns-in_err-write_text
returns-in_err-write_text g c =
    let area = c.args.area.now in
    let page = c.loop-page.page in
    let p = err_from_is_err_and c.from_residual.result c.from_residual.ensures.1 in
    let next = page-said area.base area.bytes c.as_slice-bytes.result.now (string_bytes c.clear.new.self) (string_bytes c.push_page-made.new.lines) c.as_str.result.now page
    c.as_slice-bytes.ensures c.loop-page-test.true c.clear.ensures.bytes c.as_str.ensures.value c.in_default.ensures in
    let so = subst (TextSoFar _ _ _ _ (area_lines area)) next c.loop-page.invariant in
    rw (p.1, p.2) (TextSoFar-stops (Unit {0}) (Unit {0}) _ _ _ _ _ _ _ _ (from_page area.base area.bytes (page + 1)) c.in_err-write_text.field-0.0 so c.in_err-write_text.ensures)

pub loop-page-preserved : goal.loop-page-preserved
loop-page-preserved g c =
    let area = c.args.area.now in
    let page = c.loop-page.page in
    let next = page-said area.base area.bytes c.as_slice-bytes.result.now (string_bytes c.clear.new.self) (string_bytes c.push_page-made.new.lines) c.as_str.result.now page
    c.as_slice-bytes.ensures c.loop-page-test.true c.clear.ensures.bytes c.as_str.ensures.value c.in_default.ensures in
    let so = subst (TextSoFar _ _ _ _ (area_lines area)) next c.loop-page.invariant in
    TextSoFar-next _ _ _ _ _ _ _ _ (from_page area.base area.bytes (page + 1)) c.in_ok-write_text.field-0 so c.in_ok-write_text.ensures

pub returns : goal.returns
returns g c =
    let area = c.args.area.now in
    let count : length c.as_slice-bytes.result.now ≡ length area.bytes = ap (length {A = ℕ}) c.as_slice-bytes.ensures in
    let so = subst (TextSoFar _ _ _ _ (area_lines area)) (pages-none area.base area.bytes c.loop-page.page c.requires.aligned.length (omega arith)) c.loop-page.invariant in
    TextSoFar-all {T = Unit {0}} _ _ _ _ (area_lines area) (tt {0}) so
