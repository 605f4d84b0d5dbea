use Rattle.std.proofs.Common.{◌≡◌, ℕ, List, Option, Some, None, Bor, sym}
use Rattle.std.specs.Prelude.{IfSome, IfNone, option_copied}
use Rattle.paged_image.specs.Pages.{IsPage, LacksPage}
use Rattle.paged_image.specs.Image.{content}
use Rattle.paged_image.specs.Changes.{page_of}
use Rattle.paged_image.proofs.OnRange.{page-some, page-none}
use Rattle.paged_image.proofs.image.PagedImage.page.Goals as goal

by_none : (r : Option (Bor (List ℕ))) (o : Option (List ℕ)) (P : Type 0) → option_copied r ≡ o → (o ≡ None → P) → IfNone r P
by_none None o P e h = h (sym e)
by_none (Some b) o P e h = tt

by_some : (r : Option (Bor (List ℕ))) (o : Option (List ℕ)) (P : List ℕ → Type 0) → option_copied r ≡ o → ((bytes : List ℕ) → o ≡ Some bytes → P bytes) → IfSome r (λ b. P b.now)
by_some None o P e h = tt
by_some (Some b) o P e h = h b.now (sym e)

pub returns-clause-none : goal.returns-clause-none
returns-clause-none c =
    let t = c.args.self.now in
    by_none c.page_bytes.result (page_of t c.args.number) (LacksPage (content t) c.args.number) c.page_bytes.ensures (page-none t c.args.number)

pub returns-clause-some : goal.returns-clause-some
returns-clause-some c =
    let t = c.args.self.now in
    by_some c.page_bytes.result (page_of t c.args.number) (λ bytes. IsPage (content t) c.args.number bytes) c.page_bytes.ensures (page-some t c.args.number)
