-- The command line of the program, as a simple command of `clap`, and the request that words make of it
use Rattle.std.specs.Prelude.{◌≡◌, ◌≤◌, ◌<◌, ◌^◌, ◌⊎◌, ◌&&◌, ℕ, Bool, true, nat_le, nat_lt, List, [], ◌∷◌, length, Option, Some, None, IsSome, is_some, codes, option_map, unwrap_or, if◌then◌else◌}
use Rattle.std.specs.Bool.{then_some}
use Rattle.std.specs.Option.{option_copied}
use Rattle.std.specs.List.{list_all}
use Rattle.std.specs.Borrow.{Bor}
use Rattle.std.specs.Char.{digit_value}
use Rattle.std.specs.Str.{bytes_eq}
use Rattle.std.specs.Str.Parse.{digits_value, IsNumeral, without_leading_plus}
use Rattle.clap.specs.Words.{App, Kinds, Row, Rule, Text, fault_of, first_of, matches_of, new_app, new_rule, with_rule}
use Rattle.clap.specs.Matches.{first_value, one_text}
use Rattle.clap.specs.declared.parser.matches.Found.{Found}
use Rattle.clap.specs.declared.builder.ArgAction.TheVariants.{SetTrue}
use Rattle.clap.specs.declared.builder.ValueParser.{ValueParser}
use Rattle.clap.specs.declared.builder.ValueParser.TheVariants.{Bool as BoolParser, Names, Unsigned}
use Rattle.program_words.specs.declared.request.Request.{Request as GivenRequest}
use Rattle.program_words.specs.declared.request.Task.{Task}
use Rattle.program_words.specs.declared.request.Task.TheVariants as Tasks

-- ---- the command

-- texts as `clap` holds those of possible values: behind references
abbrev pub HeldTexts : Type 0
HeldTexts = Bor (List (Bor Text))

-- a text behind a reference; where it lies has no meaning
abbrev pub held : Text → Bor Text
held text = record { now = text; ref_ptr = (0, 0) }

-- the commands that there are
abbrev pub task_names : HeldTexts
task_names = record {
  now = held (codes "alone") ∷ (held (codes "fast") ∷ (held (codes "run") ∷ (held (codes "trial") ∷ (held (codes "explain")
      ∷ (held (codes "bench") ∷ (held (codes "check") ∷ (held (codes "batch") ∷ (held (codes "at") ∷ (held (codes "list") ∷ (held (codes "pack") ∷ []))))))))));
  ref_ptr = (0, 0);
}

-- COMMAND, required, with its possible values
abbrev pub command_rule : HeldTexts → Rule
command_rule names = record (new_rule (codes "COMMAND")) { required = true; parser = Some (Names names) }

-- IMAGE, required
abbrev pub image_rule : Rule
image_rule = record (new_rule (codes "IMAGE")) { required = true }

-- an option of this name with its parser and its default
abbrev pub option_rule : Text → ValueParser → Text → Rule
option_rule name parser default = record (new_rule name) {
  long = Some name;
  parser = Some parser;
  defaults = default ∷ [];
}

-- `--tracks` with a number from 1 to 32, by default 4
abbrev pub tracks_rule : Rule
tracks_rule = option_rule (codes "tracks") (Unsigned 1 32) (codes "4")

-- `--workers` with a number from 0 to 64, by default 3
abbrev pub workers_rule : Rule
workers_rule = option_rule (codes "workers") (Unsigned 0 64) (codes "3")

-- `--budget` with a number from 1 to 2^40, which is also its default
abbrev pub budget_rule : Rule
budget_rule = option_rule (codes "budget") (Unsigned 1 1099511627776) (codes "1099511627776")

-- `--with` with any text, which has no default
abbrev pub file_rule : Rule
file_rule = record (new_rule (codes "with")) { long = Some (codes "with") }

-- a flag of this name
abbrev pub flag_rule : Text → Rule
flag_rule name = record (new_rule name) {
  long = Some name;
  action = Some SetTrue;
  parser = Some BoolParser;
}

-- a command whose words are those behind the program's own name
abbrev pub nameless : App → App
nameless a = record a { top = record a.top { no_binary_name = true } }

-- COMMAND and IMAGE
abbrev pub with_places : HeldTexts → App → App
with_places names a = with_rule (with_rule a (command_rule names)) image_rule

-- `--tracks`, `--workers` and `--budget`
abbrev pub with_numbers : App → App
with_numbers a = with_rule (with_rule (with_rule a tracks_rule) workers_rule) budget_rule

-- `--with`
abbrev pub with_file : App → App
with_file a = with_rule a file_rule

-- `--no-input`, `--report` and `--journal`
abbrev pub with_flags : App → App
with_flags a = with_rule (with_rule (with_rule a (flag_rule (codes "no-input"))) (flag_rule (codes "report"))) (flag_rule (codes "journal"))

-- all arguments, with these commands
abbrev pub command_with : HeldTexts → App
command_with names = with_flags (with_file (with_numbers (with_places names (nameless (new_app (codes "fasttrack"))))))

-- the command line of the program
abbrev pub command : App
command = command_with task_names

-- ---- the request

-- What words ask for: a task, the image, how many regions may be open at once, how many workers there are, the budget, the
-- further file, whether the input is left unread, and whether the report and the journal are printed
pub record Request : Type 0 where
  pub task : Task
  pub image : List ℕ
  pub tracks : ℕ
  pub workers : ℕ
  pub budget : ℕ
  pub with : Option (List ℕ)
  pub no_input : Bool
  pub report : Bool
  pub journal : Bool

-- a request of the code as the definitions speak of it
abbrev pub asked : GivenRequest → Request
asked r = record {
  task = r.task;
  image = r.image.now;
  tracks = r.tracks;
  workers = r.workers;
  budget = r.budget;
  with = option_copied r.with;
  no_input = r.no_input;
  report = r.report;
  journal = r.journal;
}

-- the value of an argument that has one
abbrev pub value_of : Text → List Row → Text
value_of id rows = unwrap_or (first_of id rows) []

-- the number that decimal digits say
abbrev pub number_of : Text → ℕ
number_of text = digits_value 10 (without_leading_plus text)

-- the number of an option, and whether a flag is set
abbrev pub number_at : Text → List Row → ℕ
number_at id rows = number_of (value_of id rows)

abbrev pub flag_at : Text → List Row → Bool
flag_at id rows = bytes_eq (value_of id rows) (codes "true")

-- a text of 1 to 10 decimal digits and nothing else
abbrev pub is_short_numeral : Text → Bool
is_short_numeral text = nat_lt 0 (length text) && (nat_le (length text) 10 && list_all (λ c. nat_lt (digit_value c) 10) text)

-- the number of a bench: 1 to 10 decimal digits that say less than 2^32; None for any other text
abbrev pub bench_number : Text → Option ℕ
bench_number text = if is_short_numeral text && nat_lt (digits_value 10 text) (2 ^ 32) then Some (digits_value 10 text) else None

-- The task of a name among those of the commands, by IMAGE and by whether `--with` is given. None for a bench of which IMAGE
-- says no number, and for a task that needs the file of `--with` where there is none.
abbrev pub task_of : Text → Text → Bool → Option Task
task_of name image has_file =
    if bytes_eq name (codes "fast") then Some Tasks.Fast else (
    if bytes_eq name (codes "run") then Some Tasks.Run else (
    if bytes_eq name (codes "trial") then Some Tasks.Trial else (
    if bytes_eq name (codes "explain") then Some Tasks.Explain else (
    if bytes_eq name (codes "bench") then option_map Tasks.Bench (bench_number image) else (
    if bytes_eq name (codes "check") then then_some has_file Tasks.Check else (
    if bytes_eq name (codes "batch") then Some Tasks.Batch else (
    if bytes_eq name (codes "at") then then_some has_file Tasks.At else (
    if bytes_eq name (codes "list") then Some Tasks.List else (
    if bytes_eq name (codes "pack") then Some Tasks.Pack else Some Tasks.Alone)))))))))

abbrev pub request_with : List Row → Task → Request
request_with rows task = record {
  task = task;
  image = value_of (codes "IMAGE") rows;
  tracks = number_at (codes "tracks") rows;
  workers = number_at (codes "workers") rows;
  budget = number_at (codes "budget") rows;
  with = first_of (codes "with") rows;
  no_input = flag_at (codes "no-input") rows;
  report = flag_at (codes "report") rows;
  journal = flag_at (codes "journal") rows;
}

-- the task that the matches ask for
abbrev pub task_at : List Row → Option Task
task_at rows = task_of (value_of (codes "COMMAND") rows) (value_of (codes "IMAGE") rows) (is_some (first_of (codes "with") rows))

-- the request of the matches, where they have a task
abbrev pub request_in : List Row → Option Request
request_in rows = option_map (request_with rows) (task_at rows)

-- the request, where there is no fault
abbrev pub unless_faulty : Kinds → Option Request → Option Request
unless_faulty [] request = request
unless_faulty (k ∷ ks) request = None

-- The request that the words make, where `clap` takes them and the task has what it needs; None where `clap` finds a fault
-- with them, as it also calls what asks for help, for a bench without a number, and for a check or an `at` without a file.
abbrev pub request_of : List Text → Option Request
request_of words = unless_faulty (fault_of command words) (request_in (matches_of command words))

-- the number of a bench is below 2^32
abbrev pub HasShortNumber : Task → Type 0
HasShortNumber (Tasks.Bench number) = number < 2 ^ 32
HasShortNumber _ = Unit {0}

-- a task that needs the file of `--with` has it
abbrev pub HasFile : Task → Option Text → Type 0
HasFile Tasks.Check with = IsSome with
HasFile Tasks.At with = IsSome with
HasFile _ with = Unit {0}

-- the numbers of a request are in the ranges of its options, and it has the file that its task needs
pub record IsInRange (r : Request) : Type 0 where
  pub least_tracks : 1 ≤ r.tracks
  pub most_tracks : r.tracks ≤ 32
  pub most_workers : r.workers ≤ 64
  pub least_budget : 1 ≤ r.budget
  pub most_budget : r.budget ≤ 2 ^ 40
  pub task : HasShortNumber r.task
  pub file : HasFile r.task r.with

-- ---- the values

-- a positional has a value
abbrev pub HasText : Found → Text → Type 0
HasText f id = (text : Text) × (first_value f id ≡ Some text)

-- an option has a value, given or by default, which is a number in digits that 64 bits hold
abbrev pub HasNumber : Found → Text → Type 0
HasNumber f id = (text : Text) × (first_value f id ≡ Some text) × (one_text f id ≡ Some text)
    × IsNumeral 10 (without_leading_plus text) × (number_of text < 2 ^ 64)

-- a value of a flag is one of the two words for it
abbrev pub HasFlag : Found → Text → Type 0
HasFlag f id = (text : Text) → first_value f id ≡ Some text
    → (one_text f id ≡ Some text) × ((text ≡ codes "true") ⊎ (text ≡ codes "false"))

-- what the matches of the command hold for its arguments
abbrev pub HoldsValues : Found → Type 0
HoldsValues f = (HasText f (codes "COMMAND") × HasText f (codes "IMAGE"))
    × (HasNumber f (codes "tracks") × HasNumber f (codes "workers") × HasNumber f (codes "budget"))
    × (HasFlag f (codes "no-input") × HasFlag f (codes "report") × HasFlag f (codes "journal"))
