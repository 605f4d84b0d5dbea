use Rattle.std.proofs.Common.{ℕ, List, ap, ◌∙◌, sym, subst}
use Rattle.std.specs.Prelude.{AllPairs, ◌<◌}
use Rattle.paged_image.specs.WriteSet.{has}
use Rattle.paged_image.proofs.OnWriteSet.{rises-insert, search-there, search-absent, has-insert, has-there}
use Rattle.paged_image.proofs.write_set.WriteSet.insert.Goals as goal

pub invariant_of-self-in-Err : goal.invariant_of-self-in-Err
invariant_of-self-in-Err c =
    let xs = c.self.inside.pages.items in
    let at = search-absent xs c.args.page c.in-Err.at c.self.invariant (rw c.deref.ensures.value at c.in-Err.ensures.position) in
    let rises : AllPairs (λ p q. p < q) c.insert.new.self.items =
    subst (λ (ys : List ℕ). AllPairs (λ p q. p < q) ys) (sym c.in_ok-insert-in-Err.ensures.items) (rises-insert xs c.in-Err.at c.args.page at.0 c.self.invariant at.1 at.2) in
    rises

pub returns-in-Ok-clause-ok : goal.returns-in-Ok-clause-ok
returns-in-Ok-clause-ok c = λ q.
    let xs = c.self.inside.pages.items in
    let at = search-there xs c.args.page c.in-Ok.field-0 c.self.invariant (rw c.deref.ensures.value at c.in-Ok.ensures.position) in
    rw (← c.self.view_is) (has-there xs c.in-Ok.field-0 c.args.page q at.0 at.1)

pub returns-in_ok-insert-in-Err-clause-ok : goal.returns-in_ok-insert-in-Err-clause-ok
returns-in_ok-insert-in-Err-clause-ok c = λ q.
    let xs = c.self.inside.pages.items in
    ap (λ (ys : List ℕ). has ys q) c.in_ok-insert-in-Err.ensures.items ∙ rw (← c.self.view_is) (has-insert xs c.in-Err.at c.args.page q)
