use Rattle.std.proofs.Common.{◌≡◌, ◌<◌, [], length, Err, arith}
use Rattle.std.specs.Prelude.{IsOkAnd}
use Rattle.guest_model.specs.Image.{image}
use Rattle.guest_model.specs.ImageFault.{Entry}
use Rattle.rv32_asm.specs.SmallImage.{small_image, Holds}
use Rattle.rv32_asm.proofs.image.small_image.Goals as goal
use Rattle.rv32_asm.proofs.Loads.{if_ok_at, words_hold, no_words_hold}

pub returns-clause-loads : goal.returns-clause-loads
returns-clause-loads c =
    let ws = c.args.words.now in
    if_ok_at c.image_of.result (small_image ws []) (λ b. 0 < length ws → IsOkAnd (image b) (Holds ws []))
    c.image_of.ensures (words_hold ws (λ k. omega (arith, c.type_inv.words k)) c.requires)

pub returns-clause-empty : goal.returns-clause-empty
returns-clause-empty c =
    let ws = c.args.words.now in
    if_ok_at c.image_of.result (small_image ws []) (λ b. length ws ≡ 0 → image b ≡ Err Entry)
    c.image_of.ensures (no_words_hold ws)
