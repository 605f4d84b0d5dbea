-- What a command is to `clap` once an argument was added to it
use Rattle.std.proofs.Common.{◌≡◌, ◌∙◌, ap₂, false, Result, Ok, Err}
use Rattle.std.specs.Prelude.{IfOk}
use Rattle.clap.specs.Simple.{App, app_of}
use Rattle.clap.specs.Walk.{Rule, rule_of}
use Rattle.clap.specs.Words.{AddsArg, with_rule}
use Rattle.clap.specs.declared.Command.{Command}
use Rattle.clap.specs.declared.Arg.{Arg}

pub added : (old new : Command) (a : Arg) (rule : Rule) (before : App) → AddsArg old a new → a.global ≡ false
    → rule_of a ≡ rule → app_of old ≡ before → app_of new ≡ with_rule before rule
added old new a rule before adds local is was = adds.shape local ∙ ap₂ with_rule was is

-- what follows of each value follows where a result is one
pub of_value : {T E : Type 0} (P Q : T → Type 0) (r : Result T E) → IfOk r P → ((x : T) → P x → Q x) → IfOk r Q
of_value P Q (Ok x) holds follows = follows x holds
of_value P Q (Err e) holds follows = tt
