-- A pass between two calls.
use Rattle.std.proofs.Common.{◌≡◌, ℕ, true, false, true≢false, List, [], ◌∷◌, ◌++◌, ◌+◌, length, Option, Some, None, refl, sym, ap, ◌∙◌, subst, length-append, arith}
use Rattle.std.proofs.lemmas.Bool.{false≢true}
use Rattle.atomic_table.specs.Table.{Me, rest}
use Rattle.board_lock.specs.declared.known.Known.{Known}
use Rattle.board_lock.specs.declared.known.Stage.{Stage}
use Rattle.board_lock.specs.declared.known.Stage.TheVariants.{Idle, Waits, Holds}
use Rattle.board_lock.specs.Entries.{Appends}
use Rattle.board_lock.specs.Steps.{staged, OneMore}
use Rattle.board_lock.specs.Passes.{has_turn, Poised}
use Rattle.board_lock.specs.Places.{HasTurn}
use Rattle.board_lock.proofs.Growing.{appends_rest}

module _ {T : Type 0} where
  pub poised_idle : (stage : Stage) (slots : List (ℕ × Option T)) → has_turn stage ≡ false → Poised stage slots → (stage ≡ Idle) × (slots ≡ [])
  poised_idle Idle slots is at = (refl, at)
  poised_idle (Waits n) slots is at = absurd at
  poised_idle (Holds n) slots is at = absurd (true≢false is)

  pub poised_turn : (stage : Stage) (slots : List (ℕ × Option T)) → has_turn stage ≡ true → Poised stage slots → (n : ℕ) × (stage ≡ Holds n) × (slots ≡ (0, None) ∷ [])
  poised_turn Idle slots is at = absurd (false≢true is)
  poised_turn (Waits n) slots is at = absurd at
  poised_turn (Holds n) slots is at = (n, refl, at)

-- a seat has the turn still after its entries were made known
pub still_in_turn : {F I T : Type 0} (m m' : Me (Option T) (Known F I)) (log : List I) (n : ℕ) → m' ≡ (staged m.0 log m.0.stage, m.1) → m.0.stage ≡ Holds n → m.1 ≡ (0, None) ∷ []
    → m' ≡ (staged m'.0 m'.0.seen (Holds n), (0, None) ∷ [])
still_in_turn m m' log n now holds slots =
    let stage : m'.0.stage ≡ Holds n = ap (λ u. u.0.stage) now ∙ holds in
    let empty : m'.1 ≡ (0, None) ∷ [] = ap (λ u. u.1) now ∙ slots in
    λ k. (staged m'.0 m'.0.seen (stage k), empty k)

-- a seat that has the turn still has it after the value was put into its slot
pub put_in : {F I T : Type 0} (m m' : Me (Option T) (Known F I)) (x : T) → m' ≡ (m.0, (0, Some x) ∷ rest m.1) → (turn : HasTurn m.0 m.0.seen m) → (m'.0.stage ≡ Holds turn.0) × (m'.1 ≡ (0, Some x) ∷ [])
put_in m m' x put turn = (ap (λ u. u.0.stage) put ∙ ap (λ u. u.0.stage) turn.1, ap (λ u. u.1) put ∙ ap (λ u. (0, Some x) ∷ rest u.1) turn.1)

-- one of the entries of a value was made known, and the others are known by and by
pub one_more : {F I T : Type 0} (belongs : List I → I → Option ℕ) (first m m' : Me (Option T) (Known F I)) (log : List I) (n : ℕ) → m ≡ (staged first.0 m.0.seen first.0.stage, first.1)
    → Appends belongs first.0.seat m.0.seen log → n ≡ length m.0.seen → OneMore log m m'
    → (m' ≡ (staged first.0 m'.0.seen first.0.stage, first.1)) × Appends belongs first.0.seat m'.0.seen log × (n + 1 ≡ length m'.0.seen)
one_more belongs first m m' log n before appends count (e, rest, is, now) =
    let seen : m'.0.seen ≡ m.0.seen ++ e ∷ [] = ap (λ u. u.0.seen) now in (
      now ∙ (λ k. (staged (before k).0 (sym seen k) (before k).0.stage, (before k).1)),
      subst (λ l. Appends belongs first.0.seat l log) (sym seen) (appends_rest belongs first.0.seat m.0.seen log e rest appends is),
      (let longer = ap length seen in omega (arith, length-append m.0.seen (e ∷ []))),
    )
