-- The line of an answer
use Rattle.std.proofs.Common.{◌≡◌, ◌≢◌, ℕ, List, Option, Some, None, ◌⊎◌, inl, inr, refl, sym, ◌∙◌, subst}
use Rattle.host_io.specs.declared.files.Files.{Ghosts as FilesRow}
use Rattle.host_io.specs.declared.source.Source.{Ghosts as SourceRow}
use Rattle.program_words.specs.CommandLine.{Request}
use Rattle.fasttrack_program.specs.AnswerLine.{HasNumbers, line_of, without_line, IsSaidFor, WritesLine, WritesLineOf, Concludes}
use Rattle.fasttrack_program.specs.Reading.{IsRefusedEarly, ReadsInOrder}
use Rattle.fasttrack_program.specs.declared.answer.Answer.{Answer}
use Rattle.fasttrack_program.specs.declared.answer.Answer.TheVariants.{Exited, Trapped, Spent, Shown, Usage, ReadFault, ImageTooLong, BadImage, InputTooLong, JournalTooLong, BadJournal, BadList, BadCounts, BadText, WriteFault, NoMemory}

-- a line that is the answer's own
pub Concludes-own : (old new : Option (List ℕ)) (faults faults' : ℕ) (answer result : Answer) (line : List ℕ) → line_of answer ≡ Some line → WritesLine old new faults faults' answer result line → Concludes old new faults faults' answer result
Concludes-own old new faults faults' answer result line e h = record {
  said = answer;
  for_answer = inl refl;
  writes = subst (λ o. WritesLineOf old new faults faults' answer result o) (sym e) h;
}

-- the same where the answer is known by another name
pub Concludes-same : (old new : Option (List ℕ)) (faults faults' : ℕ) (answer given result : Answer) (line : List ℕ) → answer ≡ given → line_of given ≡ Some line → WritesLine old new faults faults' given result line → Concludes old new faults faults' answer result
Concludes-same old new faults faults' answer given result line g e h = subst (λ a. Concludes old new faults faults' a result) (sym g) (Concludes-own old new faults faults' given result line e h)

-- an answer without a line
pub Concludes-silent : (held : Option (List ℕ)) (faults : ℕ) (answer : Answer) → line_of answer ≡ None → Concludes held held faults faults answer answer
Concludes-silent held faults answer e = record {
  said = answer;
  for_answer = inl refl;
  writes = subst (λ o. WritesLineOf held held faults faults answer answer o) (sym e) (refl, refl, refl);
}

-- ---- what becomes of an answer by its line

-- the answer of a call that lost its own
IsLost : Answer → Type 0
IsLost result = (result ≡ WriteFault) ⊎ (result ≡ NoMemory)

-- a failed read stays what it is
IsKept : Answer → Answer → Type 0
IsKept answer result = (result ≡ answer) ⊎ (IsLost result × (answer ≢ ReadFault))

kept-without : (said : Answer) → IsKept said (without_line said)
unfolding IsKept IsLost
kept-without (Trapped trap pc) = inr (inl refl, λ e. cc)
kept-without Spent = inr (inl refl, λ e. cc)
kept-without (Exited code) = inl refl
kept-without Shown = inl refl
kept-without Usage = inl refl
kept-without ReadFault = inl refl
kept-without ImageTooLong = inl refl
kept-without (BadImage f) = inl refl
kept-without InputTooLong = inl refl
kept-without JournalTooLong = inl refl
kept-without (BadJournal f) = inl refl
kept-without BadList = inl refl
kept-without (BadCounts line) = inl refl
kept-without (BadText at) = inl refl
kept-without WriteFault = inl refl
kept-without NoMemory = inl refl

kept-line : (old new : Option (List ℕ)) (faults faults' : ℕ) (said result : Answer) (line : Option (List ℕ)) → WritesLineOf old new faults faults' said result line → IsKept said result
unfolding IsKept
kept-line old new faults faults' said result None h = inl h.2
kept-line old new faults faults' said result (Some line) (inl h) = inl h.2
kept-line old new faults faults' said result (Some line) (inr h) = subst (λ a. IsKept said a) (sym h.4) (kept-without said)

kept-said : (answer said result : Answer) → IsSaidFor answer said → IsKept said result → IsKept answer result
unfolding IsKept IsLost
kept-said answer said result (inl e) (inl h) = inl (h ∙ e)
kept-said answer said result (inl e) (inr h) = inr (h.0, λ is. h.1 (e ∙ is))
kept-said answer said result (inr e) (inl h) = inr (inr (h ∙ e.0), λ is. subst HasNumbers is e.1)
kept-said answer said result (inr e) (inr h) = inr (h.0, λ is. subst HasNumbers is e.1)

kept : (old new : Option (List ℕ)) (faults faults' : ℕ) (answer result : Answer) → Concludes old new faults faults' answer result → IsKept answer result
kept old new faults faults' answer result c = kept-said answer c.said result c.for_answer (kept-line old new faults faults' c.said result (line_of c.said) c.writes)

-- ---- how a call read, by its answer before the line and behind it

module _ {F I : Type 0} (f : FilesRow F) (i : SourceRow I) (request : Option Request) (files files' : F) (input input' : I) where
  reads-kept : (answer result : Answer) → IsKept answer result → ReadsInOrder f i request files files' input input' answer → ReadsInOrder f i request files files' input input' result
  unfolding IsKept IsLost
  reads-kept answer result (inl e) r = subst (ReadsInOrder f i request files files' input input') (sym e) r
  reads-kept answer result (inr (inl lost, other)) r = record {
    fault = λ e. absurd (let is : WriteFault ≡ ReadFault = sym lost ∙ e in cc);
    counted = λ e. r.counted other;
    no_file = r.no_file;
    no_input = r.no_input;
    early = λ e. absurd (subst IsRefusedEarly lost e);
  }
  reads-kept answer result (inr (inr lost, other)) r = record {
    fault = λ e. absurd (let is : NoMemory ≡ ReadFault = sym lost ∙ e in cc);
    counted = λ e. r.counted other;
    no_file = r.no_file;
    no_input = r.no_input;
    early = λ e. absurd (subst IsRefusedEarly lost e);
  }

  pub reads-concluded : (old new : Option (List ℕ)) (faults faults' : ℕ) (answer result : Answer) → Concludes old new faults faults' answer result
      → ReadsInOrder f i request files files' input input' answer → ReadsInOrder f i request files files' input input' result
  reads-concluded old new faults faults' answer result c = reads-kept answer result (kept old new faults faults' answer result c)
