use Rattle.std.proofs.Common.{◌∙◌, sym, arith}
use Rattle.journal_check.proofs.Following.{nothing-refused, release-refused, released-fits, release-follows}
use Rattle.journal_check.proofs.replay.Replay.release.Goals as goal
use Rattle.journal_check.proofs.replay.Replay.release.Goals.{then-bytes-eq0-via-then-bytes-eq0, then-bytes-eq0-via-else-bytes-eq0+then-bytes-verified}

pub returns-then-bytes-eq0 : goal.returns-then-bytes-eq0
returns-then-bytes-eq0 c =
    elim c.then-bytes-eq0.branch [
      | then-bytes-eq0-via-then-bytes-eq0 w ↦ nothing-refused c.args.self.now.board c.args.bytes w.if-bytes-eq0.true
      | then-bytes-eq0-via-else-bytes-eq0+then-bytes-verified w ↦
          release-refused c.args.self.now.board c.args.bytes (λ same. w.if-bytes-verified.true (same ∙ sym w.verified.ensures.bytes))
    ]

pub overflow_add-self : goal.overflow_add-self
overflow_add-self c =
    let fits = released-fits c.args.self.now.board c.args.self.now.released c.args.bytes c.requires.known c.requires.released (c.if-bytes-verified.false ∙ c.verified.ensures.bytes) in
    omega arith

pub returns : goal.returns
returns c =
    release-follows c.args.self.now c.release.new.self c.requires c.release.ensures.known c.args.bytes c.in_ok-release.field-0
    c.in_ok-release.ensures.bytes.0 c.in_ok-release.ensures.bytes.1 (c.if-bytes-verified.false ∙ c.verified.ensures.bytes) c.if-bytes-eq0.false
