use Rattle.std.proofs.Common.{arith}
use Rattle.elf32_loader.specs.PageRanges.{file_byte}
use Rattle.elf32_loader.proofs.OnPageRanges.{areas_bytes-pages, IsLayout-rising}
use Rattle.elf32_loader.proofs.areas.areas_of.Goals as goal

pub returns-clause-bytes : goal.returns-clause-bytes
returns-clause-bytes c = areas_bytes-pages (file_byte c.args.file.now c.args.segments.now) c.args.ranges.now c.loop-range.areas.items
    (record { count = omega arith; each = λ k d e l. c.loop-range.invariant.each k d e (omega arith) })

pub returns-clause-layout : goal.returns-clause-layout
returns-clause-layout c = IsLayout-rising (file_byte c.args.file.now c.args.segments.now) c.args.ranges.now c.loop-range.areas.items
    (record { count = omega arith; each = λ k d e l. c.loop-range.invariant.each k d e (omega arith) })
    c.requires.ranges (record { first = 0; end = 0 })
