-- What an answer of `clap` says of the request
use Rattle.std.proofs.Common.{◌≡◌, ◌∙◌, ap, subst, refl, sym, List, [], ◌∷◌, inl, inr, Option, None, true}
use Rattle.clap.specs.Words.{App, HasKind, IsAmong, Kinds, Row, Text, fault_of, is_simple, is_simple_and_free, kind_of, matches_of}
use Rattle.clap.specs.Walk.{texts}
use Rattle.clap.specs.declared.Error.{Error}
use Rattle.clap.specs.declared.error.ErrorKind.{ErrorKind}
use Rattle.clap.specs.declared.error.ErrorKind.TheVariants as kind
use Rattle.std.specs.Prelude.{◌&&◌, ◌||◌, not, codes, is_some, Bool, false}
use Rattle.std.proofs.Common.{true≢false}
use Rattle.std.specs.List.{list_any}
use Rattle.clap.specs.Facts.{explicit_source}
use Rattle.clap.specs.Faults.{check_fault, defaults_fault, entered_fault, settle_fault, walk_fault}
use Rattle.clap.specs.Kinds.{check_kinds, or_else}
use Rattle.clap.specs.Simple.{built, entered}
use Rattle.clap.specs.Takes.{is_given}
use Rattle.clap.specs.Walk.{finished, nothing_held, settled, walk, walk_from}
use Rattle.program_words.specs.CommandLine.{HeldTexts, Request, command, command_with, request_in, request_of, task_names, unless_faulty}
use Rattle.program_words.proofs.SameFaults.{faults_same}
use Rattle.program_words.proofs.SameReading.{built_shape, matches_same, rules}

none_among : (k : ErrorKind) (kinds : Kinds) (r : Option Request) → IsAmong k kinds → unless_faulty kinds r ≡ None
none_among k [] r h = absurd h
none_among k (x ∷ xs) r h = refl

-- ---- where there is no fault, COMMAND and IMAGE are given

after_all : (a b s d c : Kinds) → or_else a (or_else b (or_else s (or_else d c))) ≡ [] → c ≡ []
after_all [] [] [] [] c e = e
after_all (k ∷ ks) b s d c e = cc
after_all [] (k ∷ ks) s d c e = cc
after_all [] [] (k ∷ ks) d c e = cc
after_all [] [] [] (k ∷ ks) c e = cc

none_wanted : (help subcommand argument : Bool) → check_kinds help subcommand argument ≡ [] → argument ≡ false
none_wanted true s a e = cc
none_wanted false true a e = cc
none_wanted false false true e = cc
none_wanted false false false e = refl

both_given : (a b rest : Bool) → (not a || (not b || rest)) ≡ false → (a ≡ true) × (b ≡ true)
both_given true true rest e = (refl, refl)
both_given true false rest e = absurd (true≢false e)
both_given false b rest e = absurd (true≢false e)

-- COMMAND and IMAGE are given
abbrev pub ArePlaced : List Row → Type 0
ArePlaced rows = (is_given (codes "COMMAND") rows ≡ true) × (is_given (codes "IMAGE") rows ≡ true)

places_given : (words : List Text) → fault_of command words ≡ [] → ArePlaced (matches_of command words)
places_given words e =
    let s = built_shape task_names in
    let w = walk (rules task_names) [] nothing_held words in
    let rows = finished (rules task_names) w.held in
    let has = is_some (entered (built command) w.stopped) in
    let last = after_all (walk_fault s [] (walk_from nothing_held) words) (entered_fault (built command) w.stopped)
    (settle_fault (rules task_names) false w.held) (defaults_fault (settled (rules task_names) w.held).rows (rules task_names)) (check_fault s rows has) e in
    let none = none_wanted (not has && (false && not (list_any (λ r. explicit_source r.source) rows))) (not has && false)
    (list_any (λ a. a.required && not (is_given a.id rows)) (rules task_names)) last in
    both_given (is_given (codes "COMMAND") rows) (is_given (codes "IMAGE") rows) false none

module _ (names : HeldTexts) (same : texts names.now ≡ texts task_names.now) (a : App) (is : a ≡ command_with names) (words : List Text) where
  pub faults_are : fault_of a words ≡ fault_of command words
  faults_are = ap (λ (b : App). fault_of b words) is ∙ faults_same names task_names same words

  pub matches_are : matches_of a words ≡ matches_of command words
  matches_are = ap (λ (b : App). matches_of b words) is ∙ matches_same names task_names words

  -- an error that is no want of memory: the words make no request
  pub refuses : (e : Error) → HasKind (fault_of a words) e → (kind_of e ≡ kind.OutOfMemory → ⊥) → request_of words ≡ None
  refuses e (inl memory) not_memory = absurd (not_memory memory)
  refuses e (inr among) not_memory =
      none_among (kind_of e) (fault_of command words) _ (subst (IsAmong (kind_of e)) faults_are among)

  pub gives_places : (rows : List Row) → fault_of a words ≡ [] → rows ≡ matches_of a words → ArePlaced rows
  gives_places rows none are = subst ArePlaced (sym (are ∙ matches_are)) (places_given words (sym faults_are ∙ none))

  -- no fault and the rows of the words: the request of the words is that of the rows
  pub grants : (rows : List Row) → fault_of a words ≡ [] → rows ≡ matches_of a words → request_of words ≡ request_in rows
  grants rows none are =
      ap (λ k. unless_faulty k (request_in (matches_of command words))) (sym faults_are ∙ none)
      ∙ ap request_in (sym (are ∙ matches_are))

pub simple_app : (names : HeldTexts) (a : App) → a ≡ command_with names → is_simple_and_free a ≡ true
simple_app names a is = ap is_simple_and_free is

pub simple_command : (names : HeldTexts) (a : App) → a ≡ command_with names → is_simple a ≡ true
simple_command names a is = ap is_simple is
