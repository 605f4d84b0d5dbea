-- Bytes beyond their limit, and how a call reads
use Rattle.std.proofs.Common.{◌≡◌, ◌≢◌, ℕ, ◌+◌, ◌<◌, Bool, true, false, List, [], length, replicate, Option, Some, None, IfSome, Result, Ok, Err, inl, inr, refl, sym, ap, ◌∙◌, subst, arith}
use Rattle.std.specs.Prelude.{IfErr, IsTrue, IsOk, not, ◌&&◌}
use Rattle.std.proofs.lemmas.Bool.{lt-ltb}
use Rattle.std.proofs.lemmas.List.{length-replicate}
use Rattle.host_io.specs.Faults.{Rose}
use Rattle.host_io.specs.declared.files.Files.{Ghosts as FilesRow}
use Rattle.host_io.specs.declared.source.Source.{Ghosts as SourceRow}
use Rattle.guest_model.specs.Image.{Image}
use Rattle.program_words.specs.CommandLine.{Request}
use Rattle.fasttrack_program.specs.Finding.{ReadsFor}
use Rattle.fasttrack_program.specs.Plan.{takes_file, takes_input, takes_more, reads_file, reads_input, bytes_in, image_in, image_limit, input_in, input_limit}
use Rattle.fasttrack_program.specs.Reading.{Agrees, Holds, IsUnread, known_file, Reads, CountsReadFault, IsRefusedEarly, IsLate, ReadsInOrder}
use Rattle.fasttrack_program.specs.declared.answer.Answer.{Answer}
use Rattle.fasttrack_program.specs.declared.answer.Answer.TheVariants.{Shown, ReadFault, ImageTooLong, InputTooLong}
use Rattle.fasttrack_program.proofs.OnPlans.{some_bytes, some_agree}
use Rattle.fasttrack_program.proofs.OnSubjects.{too-long}

-- ---- bytes beyond their limit

-- some bytes that are too many: those that are known, where they are
some_long : (limit n : ℕ) (known : Option (List ℕ)) → limit < n → IfSome known (λ all. limit < length all) → (bytes : List ℕ) × Agrees known bytes × (limit < length bytes)
some_long limit n None l h = (replicate n 0, tt, subst (λ k. limit < k) (sym (length-replicate n 0)) l)
some_long limit n (Some all) l h = (all, refl, h)

pub long_bytes : (limit : ℕ) (too_long : Answer) (known : Option (List ℕ)) → IfSome known (λ all. limit < length all) → Reads {A = List ℕ} (bytes_in limit too_long) known (Err too_long)
long_bytes limit too_long known h =
    let long = some_long limit (limit + 1) known (omega arith) h in
    inr (long.0, long.1, rw (lt-ltb limit (length long.0) long.2) refl)

pub long_file : (known : Option (List ℕ)) → IfSome known (λ all. image_limit < length all) → Reads {A = Image} image_in known (Err ImageTooLong)
long_file known h =
    let long = some_long image_limit 33554433 known (omega arith) h in
    inr (long.0, long.1, rw (lt-ltb image_limit (length long.0) long.2) refl)

pub long_input : (known : Option (List ℕ)) → IfSome known (λ all. input_limit < length all) → Reads {A = List ℕ} (input_in true) known (Err InputTooLong)
long_input known h = long_bytes input_limit InputTooLong known h

-- the input is left unread, whatever it is
pub no_input : (known : Option (List ℕ)) → Reads {A = List ℕ} (input_in false) known (Ok [])
no_input known = (some_bytes known, some_agree known, refl)

-- ---- how a call reads

-- neither a failed read nor want of memory comes early
pub late-unread : (a : Answer) → IsUnread a → IsRefusedEarly a → ⊥
late-unread a (inl e) early = subst IsRefusedEarly e early
late-unread a (inr e) early = subst IsRefusedEarly e early

-- an answer that refuses bytes by their length is that one
pub late-bytes : (limit : ℕ) (too_long : Answer) (known : Option (List ℕ)) (a : Answer) → IsLate too_long → Reads {A = List ℕ} (bytes_in limit too_long) known (Err a) → IsRefusedEarly a → ⊥
late-bytes limit too_long known a late (inl (inl e)) early = subst IsRefusedEarly e early
late-bytes limit too_long known a late (inl (inr e)) early = subst IsRefusedEarly e early
late-bytes limit too_long known a late (inr h) early = late.1 (subst IsRefusedEarly (too-long limit too_long a h.0 h.2).0 early)

late-input : (wanted : Bool) (known : Option (List ℕ)) (a : Answer) → Reads {A = List ℕ} (input_in wanted) known (Err a) → IsRefusedEarly a → ⊥
late-input true known a h early = late-bytes input_limit InputTooLong known a (λ is. cc, λ e. e) h early
late-input false known a (inl (inl e)) early = subst IsRefusedEarly e early
late-input false known a (inl (inr e)) early = subst IsRefusedEarly e early
late-input false known a (inr h) early = absurd (let is = h.2 in cc)

-- what was counted
risen-by : (T : Type 0) (old new : ℕ) (a : Answer) → CountsReadFault {T = T} old new (Err a) → a ≡ ReadFault → Rose old new
risen-by T old new a c e = c.risen (ap Err e)

calm-by : (T : Type 0) (old new : ℕ) (a : Answer) → CountsReadFault {T = T} old new (Err a) → a ≢ ReadFault → new ≡ old
calm-by T old new a c other = c.calm (λ e. other (let same : a ≡ ReadFault = cc in same))

-- a bench read nothing
module _ {F I : Type 0} (f : FilesRow F) (i : SourceRow I) (request : Option Request) (files files' : F) (input input' : I) where
  pub reads-nothing : (answer : Answer) → answer ≢ ReadFault → ReadsInOrder f i request files files input input answer
  reads-nothing answer other = record {
    fault = λ e. absurd (other e);
    counted = λ e. (refl, refl);
    no_file = λ e. refl;
    no_input = λ e. refl;
    early = λ e. refl;
  }

and-true : (a b : Bool) → IsTrue a → (a && b) ≡ b
and-true true b h = refl
and-true false b h = absurd (cc)

-- a task that takes the input reads it, unless that is to be left unread
pub reads_input-is : (r : Request) → IsTrue (takes_input r.task) → reads_input (Some r) ≡ not r.no_input
reads_input-is r h = and-true (takes_input r.task) (not r.no_input) h

module _ {F I : Type 0} (f : FilesRow F) (i : SourceRow I) (r : Request) (file : IsTrue (takes_file r.task)) (files files' : F) where
  named : reads_file (Some r) ≡ false → ⊥
  named e = (let both : true ≡ false = sym file ∙ e in cc)

  -- the file was refused, or could not be read
  pub reads-file : (T : Type 0) (input : I) (a : Answer) → CountsReadFault {T = T} (f.faults files) (f.faults files') (Err a) → ReadsInOrder f i (Some r) files files' input input a
  reads-file T input a c = record {
    fault = λ e. inl (record { wanted = file; risen = risen-by T (f.faults files) (f.faults files') a c e; unread = refl });
    counted = λ other. (calm-by T (f.faults files) (f.faults files') a c other, refl);
    no_file = λ e. absurd (named e);
    no_input = λ e. refl;
    early = λ e. refl;
  }

  -- the task was done on the file alone
  pub reads-alone : (calm : f.faults files' ≡ f.faults files) (input : I) (answer : Answer) → IsLate answer → ReadsInOrder f i (Some r) files files' input input answer
  reads-alone calm input answer late = record {
    fault = λ e. absurd (late.0 e);
    counted = λ e. (calm, refl);
    no_file = λ e. absurd (named e);
    no_input = λ e. refl;
    early = λ e. refl;
  }

  module _ (wants : IsTrue (takes_input r.task)) (calm : f.faults files' ≡ f.faults files) (input input' : I) (given : Result (List ℕ) Answer) (unread : not r.no_input ≡ false → (input' ≡ input) × IsOk given) where
    unread-input : reads_input (Some r) ≡ false → input' ≡ input
    unread-input e = (unread (sym (reads_input-is r wants) ∙ e)).0

    -- the task was done on the input
    pub reads-task : (answer : Answer) → i.faults input' ≡ i.faults input → IsLate answer → ReadsInOrder f i (Some r) files files' input input' answer
    reads-task answer same late = record {
      fault = λ e. absurd (late.0 e);
      counted = λ e. (calm, same);
      no_file = λ e. absurd (named e);
      no_input = unread-input;
      early = λ e. absurd (late.1 e);
    }

    -- the input was refused, or could not be read
    wanted-by : (b : Bool) → reads_input (Some r) ≡ b → (a : Answer) → given ≡ Err a → IsTrue (reads_input (Some r))
    wanted-by true e a is = e
    wanted-by false e a is = absurd (let good : false ≡ true = subst IsOk is (unread (sym (reads_input-is r wants) ∙ e)).1 in cc)

    pub reads-input : (bytes : List ℕ) → Agrees (known_file f (Some r) files) bytes → Holds r.task bytes → (a : Answer) → given ≡ Err a
        → CountsReadFault {T = List ℕ} (i.faults input) (i.faults input') (Err a) → Reads {A = List ℕ} (input_in (not r.no_input)) (i.remaining input) (Err a) → ReadsInOrder f i (Some r) files files' input input' a
    reads-input bytes agrees holds a is c reads = record {
      fault = λ e. inr (inl (record {
        wanted = wanted-by (reads_input (Some r)) refl a is;
        risen = risen-by (List ℕ) (i.faults input) (i.faults input') a c e;
        calm = calm;
        file = bytes;
        agrees = agrees;
        accepted = holds;
      }));
      counted = λ other. (calm, calm-by (List ℕ) (i.faults input) (i.faults input') a c other);
      no_file = λ e. absurd (named e);
      no_input = unread-input;
      early = λ e. absurd (late-input (not r.no_input) (i.remaining input) a reads e);
    }

-- the answer of a task that was done
pub late-Shown : IsLate Shown
late-Shown = (λ e. cc, λ e. e)

-- behind the input, further files
module _ {F I : Type 0} (f : FilesRow F) (i : SourceRow I) (r : Request) (file : IsTrue (takes_file r.task)) (files between files' : F) (input input' : I)
    (before : ReadsInOrder f i (Some r) files between input input' Shown) where
  calm_before : (f.faults between ≡ f.faults files) × (i.faults input' ≡ i.faults input)
  calm_before = before.counted (λ e. cc)

  -- the task was done on them
  pub reads-all : f.faults files' ≡ f.faults between → (answer : Answer) → IsLate answer → ReadsInOrder f i (Some r) files files' input input' answer
  reads-all calm answer late = record {
    fault = λ e. absurd (late.0 e);
    counted = λ e. (calm ∙ calm_before.0, calm_before.1);
    no_file = λ e. absurd (named f i r file files files' e);
    no_input = before.no_input;
    early = λ e. absurd (late.1 e);
  }

  -- one of them was refused, or could not be read
  module _ (needs : IsTrue (takes_more r.task)) (bytes : List ℕ) (agrees : Agrees (known_file f (Some r) files) bytes) (holds : Holds r.task bytes)
      (given : List ℕ) (input_agrees : Agrees (i.remaining input) given) (taken : List ℕ) (takes : input_in (reads_input (Some r)) given ≡ Ok taken) where
    pub reads-more : (T : Type 0) (a : Answer) → CountsReadFault {T = T} (f.faults between) (f.faults files') (Err a) → (IsRefusedEarly a → ⊥) → ReadsInOrder f i (Some r) files files' input input' a
    reads-more T a c late = record {
      fault = λ e. inr (inr (record {
        wanted = needs;
        risen = subst (λ n. Rose n (f.faults files')) calm_before.0 (risen-by T (f.faults between) (f.faults files') a c e);
        calm = calm_before.1;
        file = bytes;
        agrees = agrees;
        accepted = holds;
        given = given;
        input_agrees = input_agrees;
        taken = taken;
        takes = takes;
      }));
      counted = λ other. (calm-by T (f.faults between) (f.faults files') a c other ∙ calm_before.0, calm_before.1);
      no_file = λ e. absurd (named f i r file files files' e);
      no_input = before.no_input;
      early = λ e. absurd (late e);
    }

    -- they were all read, or one of them could not be
    pub reads-rest : (T : Type 0) (x : Result T Answer) → IfErr x IsUnread → CountsReadFault {T = T} (f.faults between) (f.faults files') x → ReadsFor {A = T} f i r files files' input input' x
    reads-rest T (Ok y) unread c = λ answer late. reads-all (c.calm (λ e. cc)) answer late
    reads-rest T (Err a) unread c = reads-more T a c (late-unread a unread)
