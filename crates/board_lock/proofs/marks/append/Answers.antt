use Rattle.std.proofs.Common.{◌≡◌, ℕ, List, [], ◌∷◌, ◌++◌, Some, Result, Ok, Err, sym, ap, ◌∙◌, append-nil}
use Rattle.std.specs.Prelude.{OnOk, OnErr}
use Rattle.board_lock.specs.Entries.{Appends}
use Rattle.board_lock.proofs.marks.append.Goals as goal

some_same : (a b : ℕ) → Some a ≡ Some b → a ≡ b
some_same a b e = cc

-- either nothing was appended, or a mark of the seat
appends : {A E : Type 0} (r : Result A E) (seat from number : ℕ) (seen before after : List (ℕ × ℕ)) → from ≡ seat → before ≡ seen → OnOk r (after ≡ before ++ (from, number) ∷ []) → OnErr r (after ≡ before)
    → Appends (λ _ mark. Some mark.0) seat seen after
appends (Ok a) seat from number seen before after own same ok err = ((from, number) ∷ [], ok ∙ ap (λ l. l ++ (from, number) ∷ []) same, λ k other. ((λ e. other (sym (some_same from k e) ∙ own)), tt))
appends (Err e) seat from number seen before after own same ok err = ([], err ∙ (same ∙ sym (append-nil seen)), λ k other. tt)

pub leave-requires-clause-value : goal.leave-requires-clause-value
leave-requires-clause-value g c =
    let got = c.get.ensures.value in
    let added = c.add-added.ensures in
    rw c.enter-turn.ensures.pass record {
      fixed_part = added.name ∙ (ap (λ m. m.name) got ∙ c.enter-turn.ensures.value.fixed_part);
      appends = appends c.add-added.result _ _ c.args.number _ _ _ c.seat-seat.ensures (ap (λ m. m.marks.items) got) added.ok added.err;
    }
