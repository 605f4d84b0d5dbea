use Rattle.std.proofs.Common.{◌≡◌, ℕ, ◌+◌, ◌-◌, ◌*◌, ◌/◌, take, drop, refl, sym, ◌∙◌, ap, arith}
use Rattle.guest_model.specs.ByteMap.{write}
use Rattle.guest_model.proofs.OnByteMap.{write-nothing}
use Rattle.paged_image.specs.Builder.{built}
use Rattle.paged_image.proofs.OnStores.{write_more}
use Rattle.paged_image.proofs.builder.Builder.push_area.Goals as goal

pub loop-k-init : goal.loop-k-init
loop-k-init c = (omega arith, refl, sym (write-nothing (built c.args.self.now) c.args.area.now.base))

pub loop-k-preserved : goal.loop-k-preserved
loop-k-preserved c =
    let bytes = c.as_slice-bytes.result.now in
    let k = c.loop-k.k in
    let base = c.args.area.now.base in
    let at : (base / 4096 + k) * 4096 ≡ base + k * 4096 = omega (arith, c.requires.aligned.base) in
    let next : (k + 1) * 4096 ≡ k * 4096 + 4096 = omega arith in (
      omega (arith, c.in_ok-push_page.ensures.few),
      c.push_page.ensures.index ∙ c.loop-k.invariant.1,
      write_more (built c.args.self.now) (built c.loop-k.self) (built c.push_page.new.self) base (k * 4096) 4096 bytes (omega arith) c.loop-k.invariant.2
          (c.in_ok-push_page.ensures.pages ∙ ap (λ (a : ℕ). write (built c.loop-k.self) a (take (k * 4096 + 4096 - k * 4096) (drop (k * 4096) bytes))) at)
          ∙ ap (λ (n : ℕ). write (built c.args.self.now) base (take n bytes)) (sym next),
    )
