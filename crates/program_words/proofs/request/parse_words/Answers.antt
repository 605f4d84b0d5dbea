use Rattle.std.proofs.Common.{◌≡◌, ◌∙◌, sym, true, true≢false}
use Rattle.program_words.proofs.ByCommand.{values_hold}
use Rattle.program_words.proofs.OnWords.{gives_places, grants, refuses, simple_app, simple_command}
use Rattle.program_words.proofs.request.parse_words.Goals as goal

pub returns-in-Ok-clause-rows : goal.returns-in-Ok-clause-rows
returns-in-Ok-clause-rows c =
    let made = c.in_ok-command.ensures in
    grants made.0 made.1 _ made.2 _ _ (c.in-Ok.ensures.kinds (simple_app made.0 _ made.2)) (c.in-Ok.ensures.ok.2 (simple_command made.0 _ made.2)).0

pub returns-in-Ok-clause-values : goal.returns-in-Ok-clause-values
returns-in-Ok-clause-values c =
    let made = c.in_ok-command.ensures in
    let placed = gives_places made.0 made.1 _ made.2 _ _ (c.in-Ok.ensures.kinds (simple_app made.0 _ made.2)) (c.in-Ok.ensures.ok.2 (simple_command made.0 _ made.2)).0 in
    values_hold made.0 _ _ made.2 c.in-Ok.ensures.after c.in-Ok.ensures.fails _ _ c.in-Ok.ensures.ok.1 placed

pub returns-clause-usage : goal.returns-clause-usage
returns-clause-usage c = λ e.
    let made = c.in_ok-command.ensures in
    refuses made.0 made.1 _ made.2 _ c.in-Err.error (c.in-Err.ensures.kinds (simple_app made.0 _ made.2))
    (λ h. let same = c.kind.ensures ∙ h in
    let eq : c.eq.result ≡ true = rw same at c.eq.ensures in
    true≢false (sym eq ∙ c.if-eq.false))
