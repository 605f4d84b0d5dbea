use Rattle.std.proofs.Common.{◌≡◌, ℕ, ◌<◌, List, refl, sym, ◌∙◌, ap, subst, arith}
use Rattle.std.specs.Prelude.{AllPairs}
use Rattle.std.proofs.Math.Path.{fun_ext}
use Rattle.paged_image.specs.Image.{content, written_of}
use Rattle.page_compare.specs.Comparison.{AgreeOutside, in_either}
use Rattle.page_compare.proofs.OnEither.{cost_step}
use Rattle.page_compare.proofs.OnLeast.{difference-none}
use Rattle.page_compare.proofs.OnWalk.{done_next, lowest, all_same, one_left, nearer}
use Rattle.page_compare.proofs.compare.first_difference.Goals as goal

-- the lists that the walk goes over are the write sets
rising_of : (xs ys : List ℕ) → xs ≡ ys → AllPairs (λ p q. p < q) ys → AllPairs (λ p q. p < q) xs
rising_of xs ys e h = subst (AllPairs (λ p q. p < q)) (sym e) h

pub page_difference-requires-clause-room : goal.page_difference-requires-clause-room
page_difference-requires-clause-room g c =
    let us = c.as_slice-us.result.now in
    let ws = c.as_slice-ws.result.now in
    let is_us : us ≡ written_of c.args.a.now = c.as_slice-us.ensures.pages ∙ c.written.ensures.pages in
    let is_ws : ws ≡ written_of c.args.b.now = c.as_slice-ws.ensures.pages ∙ c.written-2.ensures.pages in
    let whole : in_either us ws ≡ in_either (written_of c.args.a.now) (written_of c.args.b.now) = ap (λ (xs : List ℕ). in_either xs ws) is_us ∙ ap (in_either (written_of c.args.a.now)) is_ws in
    let up = rising_of us c.written.result.now c.as_slice-us.ensures.pages c.as_slice-us.ensures.rising in
    let wp = rising_of ws c.written-2.result.now c.as_slice-ws.ensures.pages c.as_slice-ws.ensures.rising in
    omega (arith, whole, one_left us ws c.loop-page.i c.loop-page.j c.in-Some.page up wp c.in-Some.ensures.some, c.loop-page.invariant.0)

pub returns-in-Some-page_difference-clause-lowest : goal.returns-in-Some-page_difference-clause-lowest
returns-in-Some-page_difference-clause-lowest g c =
    let us = c.as_slice-us.result.now in
    let ws = c.as_slice-ws.result.now in
    let is_us : us ≡ written_of c.args.a.now = c.as_slice-us.ensures.pages ∙ c.written.ensures.pages in
    let is_ws : ws ≡ written_of c.args.b.now = c.as_slice-ws.ensures.pages ∙ c.written-2.ensures.pages in
    let up = rising_of us c.written.result.now c.as_slice-us.ensures.pages c.as_slice-us.ensures.rising in
    let wp = rising_of ws c.written-2.result.now c.as_slice-ws.ensures.pages c.as_slice-ws.ensures.rising in
    let m = content c.args.a.now in
    let n = content c.args.b.now in
    let outside : AgreeOutside us ws m n =
    subst (λ (xs : List ℕ). AgreeOutside xs ws m n) (sym is_us) (subst (λ (ys : List ℕ). AgreeOutside (written_of c.args.a.now) ys m n) (sym is_ws) c.requires.outside) in
    lowest m n us ws c.loop-page.i c.loop-page.j c.in-Some.page c.in-Some-page_difference.q up wp outside c.loop-page.invariant.1 c.loop-page.invariant.2 c.in-Some.ensures.some c.in-Some-page_difference.ensures.some

pub returns-in-Some-page_difference-clause-steps : goal.returns-in-Some-page_difference-clause-steps
returns-in-Some-page_difference-clause-steps g c =
    let us = c.as_slice-us.result.now in
    let ws = c.as_slice-ws.result.now in
    let is_us : us ≡ written_of c.args.a.now = c.as_slice-us.ensures.pages ∙ c.written.ensures.pages in
    let is_ws : ws ≡ written_of c.args.b.now = c.as_slice-ws.ensures.pages ∙ c.written-2.ensures.pages in
    let whole : in_either us ws ≡ in_either (written_of c.args.a.now) (written_of c.args.b.now) = ap (λ (xs : List ℕ). in_either xs ws) is_us ∙ ap (in_either (written_of c.args.a.now)) is_ws in
    let up = rising_of us c.written.result.now c.as_slice-us.ensures.pages c.as_slice-us.ensures.rising in
    let wp = rising_of ws c.written-2.result.now c.as_slice-ws.ensures.pages c.as_slice-ws.ensures.rising in
    omega (arith, whole, one_left us ws c.loop-page.i c.loop-page.j c.in-Some.page up wp c.in-Some.ensures.some, c.loop-page.invariant.0, c.in-Some-page_difference.ensures.step)

pub loop-page-smaller : goal.loop-page-smaller
loop-page-smaller g c =
    let us = c.as_slice-us.result.now in
    let ws = c.as_slice-ws.result.now in
    nearer us ws c.loop-page.i c.loop-page.j c.in-Some.page c.past_page-i.result c.past_page-j.result c.in-Some.ensures.some c.past_page-i.ensures c.past_page-j.ensures

pub loop-page-preserved : goal.loop-page-preserved
loop-page-preserved g c =
    let us = c.as_slice-us.result.now in
    let ws = c.as_slice-ws.result.now in
    let is_us : us ≡ written_of c.args.a.now = c.as_slice-us.ensures.pages ∙ c.written.ensures.pages in
    let is_ws : ws ≡ written_of c.args.b.now = c.as_slice-ws.ensures.pages ∙ c.written-2.ensures.pages in
    let up = rising_of us c.written.result.now c.as_slice-us.ensures.pages c.as_slice-us.ensures.rising in
    let wp = rising_of ws c.written-2.result.now c.as_slice-ws.ensures.pages c.as_slice-ws.ensures.rising in
    let m = content c.args.a.now in
    let n = content c.args.b.now in
    let cost = cost_step us ws c.loop-page.i c.loop-page.j c.in-Some.page c.past_page-i.result c.past_page-j.result up wp c.in-Some.ensures.some c.past_page-i.ensures c.past_page-j.ensures in
    let same = c.in_default-page_difference.ensures.none in (
      omega (arith, cost, c.loop-page.invariant.0, c.page_difference.ensures.step),
      done_next m n us c.loop-page.i c.in-Some.page c.past_page-i.result c.loop-page.invariant.1 same c.past_page-i.ensures,
      done_next m n ws c.loop-page.j c.in-Some.page c.past_page-j.result c.loop-page.invariant.2 same c.past_page-j.ensures,
    )

pub returns-clause-lowest : goal.returns-clause-lowest
returns-clause-lowest g c =
    let us = c.as_slice-us.result.now in
    let ws = c.as_slice-ws.result.now in
    let is_us : us ≡ written_of c.args.a.now = c.as_slice-us.ensures.pages ∙ c.written.ensures.pages in
    let is_ws : ws ≡ written_of c.args.b.now = c.as_slice-ws.ensures.pages ∙ c.written-2.ensures.pages in
    let up = rising_of us c.written.result.now c.as_slice-us.ensures.pages c.as_slice-us.ensures.rising in
    let wp = rising_of ws c.written-2.result.now c.as_slice-ws.ensures.pages c.as_slice-ws.ensures.rising in
    let m = content c.args.a.now in
    let n = content c.args.b.now in
    let outside : AgreeOutside us ws m n =
    subst (λ (xs : List ℕ). AgreeOutside xs ws m n) (sym is_us) (subst (λ (ys : List ℕ). AgreeOutside (written_of c.args.a.now) ys m n) (sym is_ws) c.requires.outside) in
    let ended = c.in_default.ensures.none in
    difference-none m n (all_same m n us ws c.loop-page.i c.loop-page.j up wp outside c.loop-page.invariant.1 c.loop-page.invariant.2 ended.0 ended.1)

pub returns-clause-none : goal.returns-clause-none
returns-clause-none g c =
    let us = c.as_slice-us.result.now in
    let ws = c.as_slice-ws.result.now in
    let is_us : us ≡ written_of c.args.a.now = c.as_slice-us.ensures.pages ∙ c.written.ensures.pages in
    let is_ws : ws ≡ written_of c.args.b.now = c.as_slice-ws.ensures.pages ∙ c.written-2.ensures.pages in
    let up = rising_of us c.written.result.now c.as_slice-us.ensures.pages c.as_slice-us.ensures.rising in
    let wp = rising_of ws c.written-2.result.now c.as_slice-ws.ensures.pages c.as_slice-ws.ensures.rising in
    let m = content c.args.a.now in
    let n = content c.args.b.now in
    let outside : AgreeOutside us ws m n =
    subst (λ (xs : List ℕ). AgreeOutside xs ws m n) (sym is_us) (subst (λ (ys : List ℕ). AgreeOutside (written_of c.args.a.now) ys m n) (sym is_ws) c.requires.outside) in
    let ended = c.in_default.ensures.none in
    (λ _. fun_ext (all_same m n us ws c.loop-page.i c.loop-page.j up wp outside c.loop-page.invariant.1 c.loop-page.invariant.2 ended.0 ended.1), λ _. refl)
