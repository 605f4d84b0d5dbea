use Rattle.std.proofs.Common.{◌++◌, string_bytes, flat_map, ap, ◌∙◌, append_assoc}
use Rattle.std.proofs.lemmas.Result.{on_ok_weaker}
use Rattle.paged_image.specs.Image.{content}
use Rattle.difference_text.specs.Differences.{more_line}
use Rattle.difference_text.specs.Found.{found_line}
use Rattle.difference_text.proofs.OnDifferences.{memory-is}
use Rattle.difference_text.proofs.bytes.write_memory.Goals as goal

pub returns : goal.returns
returns c =
    on_ok_weaker c.write_more.result
    (λ written.
    written ∙ ap (λ xs. xs ++ more_line c.in_ok-found.found.more) (c.in_ok-write_runs.ensures ∙ ap (λ rs. string_bytes c.args.text.now ++ flat_map found_line rs) c.as_slice.ensures.value)
    ∙ append_assoc (string_bytes c.args.text.now) (flat_map found_line c.in_ok-found.found.runs.items) (more_line c.in_ok-found.found.more)
    ∙ ap (λ xs. string_bytes c.args.text.now ++ xs) (memory-is (content c.args.original.now) (content c.args.fast.now) c.in_ok-found.found c.in_ok-found.ensures))
    c.write_more.ensures
