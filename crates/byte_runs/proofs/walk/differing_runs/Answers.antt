use Rattle.std.proofs.Common.{◌≡◌, ℕ, ◌+◌, ◌*◌, ◌/◌, ◌<◌, ◌≤◌, List, sym, ◌∙◌, subst, arith}
use Rattle.std.specs.Prelude.{AllPairs}
use Rattle.paged_image.specs.Image.{content, content-bounded, written_of}
use Rattle.page_compare.specs.Comparison.{AgreeOutside}
use Rattle.page_compare.proofs.OnWalk.{nearer}
use Rattle.byte_runs.specs.Runs.{IsRunsOf}
use Rattle.byte_runs.specs.Collection.{Collected}
use Rattle.byte_runs.proofs.OnCollected.{all_runs, collected_pass}
use Rattle.byte_runs.proofs.OnPages.{walked_next, same_between, floor_low}
use Rattle.byte_runs.proofs.walk.differing_runs.Goals as goal

-- the lists that the walk goes over are the write sets
rising_of : (xs ys : List ℕ) → xs ≡ ys → AllPairs (λ p q. p < q) ys → AllPairs (λ p q. p < q) xs
rising_of xs ys e h = subst (AllPairs (λ p q. p < q)) (sym e) h

pub loop-page-init : goal.loop-page-init
loop-page-init c = (
  0,
  c.new-found.ensures.none (content c.args.a.now) (content c.args.b.now),
  (λ k l r. absurd (omega (arith, l)), λ l. omega arith),
  (λ k l r. absurd (omega (arith, l)), λ l. omega arith),
  c.new-found.ensures.most,
)

pub add_page-requires-clause-below : goal.add_page-requires-clause-below
add_page-requires-clause-below c =
    let us = c.as_slice-us.result.now in
    let ws = c.as_slice-ws.result.now in
    let is_us : us ≡ written_of c.args.a.now = c.as_slice-us.ensures.pages ∙ c.written.ensures.pages in
    let is_ws : ws ≡ written_of c.args.b.now = c.as_slice-ws.ensures.pages ∙ c.written-2.ensures.pages in
    let up = rising_of us c.written.result.now c.as_slice-us.ensures.pages c.as_slice-us.ensures.rising in
    let wp = rising_of ws c.written-2.result.now c.as_slice-ws.ensures.pages c.as_slice-ws.ensures.rising in
    let m = content c.args.a.now in
    let n = content c.args.b.now in
    let outside : AgreeOutside us ws m n =
    subst (λ (xs : List ℕ). AgreeOutside xs ws m n) (sym is_us) (subst (λ (ys : List ℕ). AgreeOutside (written_of c.args.a.now) ys m n) (sym is_ws) c.requires.outside) in
    let known = c.loop-page.invariant in
    let next = c.in-Some.ensures.some in
    let page = c.in-Some.page in
    let low : known.0 ≤ page = floor_low us ws c.loop-page.i c.loop-page.j known.0 page known.2 known.3 next in
    collected_pass m n (known.0 * 4096) (page * 4096) c.loop-page.found (omega (arith, low))
    (same_between m n us ws c.loop-page.i c.loop-page.j known.0 page up wp outside known.2 known.3 next.left next.right) known.1

pub loop-page-smaller : goal.loop-page-smaller
loop-page-smaller c =
    nearer c.as_slice-us.result.now c.as_slice-ws.result.now c.loop-page.i c.loop-page.j c.in-Some.page c.past_page-i.result c.past_page-j.result c.in-Some.ensures.some c.past_page-i.ensures c.past_page-j.ensures

pub loop-page-preserved : goal.loop-page-preserved
loop-page-preserved c =
    let us = c.as_slice-us.result.now in
    let ws = c.as_slice-ws.result.now in
    let up = rising_of us c.written.result.now c.as_slice-us.ensures.pages c.as_slice-us.ensures.rising in
    let wp = rising_of ws c.written-2.result.now c.as_slice-ws.ensures.pages c.as_slice-ws.ensures.rising in
    let m = content c.args.a.now in
    let n = content c.args.b.now in
    let known = c.loop-page.invariant in
    let next = c.in-Some.ensures.some in
    let page = c.in-Some.page in
    let low : known.0 ≤ page = floor_low us ws c.loop-page.i c.loop-page.j known.0 page known.2 known.3 next in
    let behind : page * 4096 + 4096 ≡ (page + 1) * 4096 = omega arith in (
      page + 1,
      subst (λ (q : ℕ). Collected m n q c.add_page.new.self) behind c.in_ok-add_page.ensures.page,
      walked_next us c.loop-page.i known.0 page c.past_page-i.result up known.2 low next.left c.past_page-i.ensures,
      walked_next ws c.loop-page.j known.0 page c.past_page-j.result wp known.3 low next.right c.past_page-j.ensures,
      c.add_page.ensures.most ∙ known.4,
    )

pub returns : goal.returns
returns c =
    let us = c.as_slice-us.result.now in
    let ws = c.as_slice-ws.result.now in
    let is_us : us ≡ written_of c.args.a.now = c.as_slice-us.ensures.pages ∙ c.written.ensures.pages in
    let is_ws : ws ≡ written_of c.args.b.now = c.as_slice-ws.ensures.pages ∙ c.written-2.ensures.pages in
    let up = rising_of us c.written.result.now c.as_slice-us.ensures.pages c.as_slice-us.ensures.rising in
    let wp = rising_of ws c.written-2.result.now c.as_slice-ws.ensures.pages c.as_slice-ws.ensures.rising in
    let m = content c.args.a.now in
    let n = content c.args.b.now in
    let outside : AgreeOutside us ws m n =
    subst (λ (xs : List ℕ). AgreeOutside xs ws m n) (sym is_us) (subst (λ (ys : List ℕ). AgreeOutside (written_of c.args.a.now) ys m n) (sym is_ws) c.requires.outside) in
    let known = c.loop-page.invariant in
    let ended = c.in_default.ensures.none in
    let same : (a : ℕ) → known.0 * 4096 ≤ a → m a ≡ n a = λ a l.
    same_between m n us ws c.loop-page.i c.loop-page.j known.0 (a / 4096 + 1) up wp outside known.2 known.3 (λ i. absurd (omega (arith, i, ended.0))) (λ i. absurd (omega (arith, i, ended.1))) a l (omega arith) in
    subst (λ (most : ℕ). IsRunsOf m n most c.into_runs.result) known.4
    (c.into_runs.ensures m n (known.0 * 4096) known.1 (all_runs m n (known.0 * 4096) same (λ a l. content-bounded c.args.a.now a l ∙ sym (content-bounded c.args.b.now a l))))
