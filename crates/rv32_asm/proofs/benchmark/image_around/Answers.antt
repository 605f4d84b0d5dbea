use Rattle.std.proofs.Common.{◌+◌, ◌*◌, ◌∙◌, arith, refl, length, List, ℕ}
use Rattle.rv32_asm.proofs.Regions.{HasPieces, around_is, around_loads}
use Rattle.rv32_asm.proofs.benchmark.image_around.Goals as goal

pub returns : goal.returns
returns c =
    let words : List ℕ = c.args.body.now in
    let n : ℕ = 4 * (6 + length words) in
    let pieces : HasPieces n c.prologue.result words c.epilogue.result = record {
      front = c.prologue.ensures.value;
      back = c.epilogue.ensures.value;
      count = refl;
    } in
    let is = c.from_vec.ensures
    ∙ around_is n c.prologue.result words c.epilogue.result _ _ _ _ _ pieces c.in_ok-bytes.ensures
    c.in_ok-push_words.ensures c.in_ok-push_words-2.ensures c.in_ok-push_words-3.ensures c.in_ok-extend_from_slice.ensures.items in
    record {
      value = is;
      loads = around_loads n c.prologue.result words c.epilogue.result c.from_vec.result pieces is
          c.prologue.ensures.words (λ k. omega (arith, c.type_inv.body k)) c.epilogue.ensures.words (omega arith);
    }
