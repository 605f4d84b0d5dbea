-- Verified bytes of some parts, one part after another.
use Rattle.std.proofs.Common.{◌≡◌, ℕ, ◌+◌, ◌<◌, List, [], ◌∷◌, ◌++◌, length, get_or, take, refl, sym, ap, ◌∙◌, append_assoc, append-nil}
use Rattle.std.proofs.lemmas.List.{take_more}
use Rattle.speculation.specs.Run.{Mark, marks_upto}
use Rattle.track_board.specs.declared.ready.Ready.{Ready}
use Rattle.track_board.specs.Parts.{ready_marks}

pub ready_marks-append : (xs ys : List Ready) → ready_marks (xs ++ ys) ≡ ready_marks xs ++ ready_marks ys
ready_marks-append [] ys = refl
ready_marks-append (x ∷ xs) ys =
    ap (λ (ms : List Mark). marks_upto x.limit x.held ++ ms) (ready_marks-append xs ys) ∙ sym (append_assoc (marks_upto x.limit x.held) (ready_marks xs) (ready_marks ys))

pub ready_marks-push : (xs : List Ready) (x : Ready) → ready_marks (xs ++ (x ∷ [])) ≡ ready_marks xs ++ marks_upto x.limit x.held
ready_marks-push xs x = ready_marks-append xs (x ∷ []) ∙ ap (λ (ms : List Mark). ready_marks xs ++ ms) (append-nil (marks_upto x.limit x.held))

pub ready_marks-more : (xs : List Ready) (n : ℕ) (x : Ready) → n < length xs → x ≡ get_or xs n x → ready_marks (take (n + 1) xs) ≡ ready_marks (take n xs) ++ marks_upto x.limit x.held
ready_marks-more xs n x within at = ap ready_marks (take_more xs n x within ∙ ap (λ (y : Ready). take n xs ++ (y ∷ [])) (sym at)) ∙ ready_marks-push (take n xs) x
