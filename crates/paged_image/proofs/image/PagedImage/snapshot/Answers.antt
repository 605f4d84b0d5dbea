use Rattle.std.proofs.Common.{◌≡◌, ℕ, List, length, refl, sym, ◌∙◌, ap, subst, arith, Vec, Global}
use Rattle.paged_image.specs.Pages.{Finds, paged, bytes_at}
use Rattle.paged_image.specs.Image.{content, written_of, owned_of}
use Rattle.paged_image.proofs.OnFaces.{finds-faces, paged-faces, own_written-grows, own_written-none, own_count-none, own_count-shrinks, on_err_always}
use Rattle.paged_image.proofs.image.PagedImage.snapshot.Goals as goal

pub invariant_of-self : goal.invariant_of-self
invariant_of-self c =
    let s = c.args.self.now in
    record {
      table = s.table;
      finds = finds-faces s.index.value.items s.entries.items c.share_all.new.entries.items c.share_all.ensures.faces s.finds;
      own_written = own_written-grows s.entries.items c.share_all.new.entries.items s.written c.share_all.ensures.grows s.own_written;
    }

pub returns-in_err-entries-clause-content : goal.returns-in_err-entries-clause-content
unfolding content
returns-in_err-entries-clause-content c =
    let s = c.args.self.now in
    paged-faces s.index.value.items s.entries.items c.share_all.new.entries.items c.share_all.ensures.faces

pub returns-in_err-entries-clause-err : goal.returns-in_err-entries-clause-err
unfolding written_of owned_of
returns-in_err-entries-clause-err c =
    on_err_always c.from_residual-in_err-entries.result _ (refl, own_count-shrinks c.args.self.now.entries.items c.share_all.new.entries.items c.share_all.ensures.grows)

pub invariant_of-self-2 : goal.invariant_of-self-2
invariant_of-self-2 c =
    let s = c.args.self.now in
    record {
      table = s.table;
      finds = finds-faces s.index.value.items s.entries.items c.share_all.new.entries.items c.share_all.ensures.faces s.finds;
      own_written = own_written-none c.share_all.new.entries.items _ c.in_ok-entries.ensures.shared;
    }

pub invariant_of-result : goal.invariant_of-result
invariant_of-result c =
    let s = c.args.self.now in
    let same : c.in_ok-index.index.value.items ≡ s.index.value.items = ap (λ (v : Vec ℕ Global). v.items) c.in_ok-index.ensures in
    record {
      table = omega (arith, ap length same, s.table);
      finds = subst (λ (ix : List ℕ). Finds ix c.in_ok-entries.entries.items) (sym same)
          (finds-faces s.index.value.items s.entries.items c.in_ok-entries.entries.items c.in_ok-entries.ensures.others.0 s.finds);
      own_written = own_written-none c.in_ok-entries.entries.items _ c.in_ok-entries.ensures.others.1;
    }

pub returns-clause-content : goal.returns-clause-content
unfolding content
returns-clause-content c =
    let s = c.args.self.now in
    paged-faces s.index.value.items s.entries.items c.share_all.new.entries.items c.share_all.ensures.faces

pub returns-clause-written : goal.returns-clause-written
unfolding written_of
returns-clause-written c = c.replace-written.ensures.after ∙ c.new.ensures

pub returns-clause-owned : goal.returns-clause-owned
unfolding owned_of
returns-clause-owned c = own_count-none c.share_all.new.entries.items c.in_ok-entries.ensures.shared

pub returns-clause-ok : goal.returns-clause-ok
unfolding content written_of owned_of
returns-clause-ok c =
    let s = c.args.self.now in
    let same : c.in_ok-index.index.value.items ≡ s.index.value.items = ap (λ (v : Vec ℕ Global). v.items) c.in_ok-index.ensures in (
      ap (λ (ix : List ℕ). paged (bytes_at ix c.in_ok-entries.entries.items)) same
          ∙ paged-faces s.index.value.items s.entries.items c.in_ok-entries.entries.items c.in_ok-entries.ensures.others.0,
      c.replace-written.ensures.value,
      own_count-none c.in_ok-entries.entries.items c.in_ok-entries.ensures.others.1,
    )
