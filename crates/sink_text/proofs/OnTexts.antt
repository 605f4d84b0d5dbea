-- A text that is written to one sink part by part
use Rattle.std.proofs.Common.{◌≡◌, ℕ, ◌<◌, List, [], ◌∷◌, ◌++◌, length, take, drop, Option, Result, Ok, Err, refl, sym, ap, ◌∙◌, subst, append_assoc, append-nil, arith, take-append-drop}
use Rattle.std.specs.Io.KnownBytes.{Appends}
use Rattle.std.proofs.KnownBytes.{Appends-nil, Appends-trans}
use Rattle.host_io.specs.Faults.{Rose}
use Rattle.sink_text.specs.TextOnSink.{GotBeginning, StoppedInText, WritesText}
use Rattle.guest_streams.specs.declared.fault.OutputFault.{OutputFault}
use Rattle.guest_streams.specs.declared.fault.OutputFault.TheVariants.{Write, NoMemory}
use Rattle.guest_streams.proofs.OnStreams.{left_over}

-- the same of a text by another name
pub WritesText-as : {T : Type 0} (old new : Option (List ℕ)) (faults faults' : ℕ) (said text : List ℕ) (r : Result T OutputFault) → said ≡ text → WritesText old new faults faults' said r → WritesText old new faults faults' text r
WritesText-as old new faults faults' said text r is w = subst (λ t. WritesText old new faults faults' t r) is w

-- the sink got the text but for this rest, and no fault was counted
pub record TextSoFar (old now : Option (List ℕ)) (faults faults' : ℕ) (text rest : List ℕ) : Type 0 where
  pub got : List ℕ
  pub parts : got ++ rest ≡ text
  pub appends : Appends old now got
  pub calm : faults' ≡ faults

pub TextSoFar-first : (held : Option (List ℕ)) (faults : ℕ) (text : List ℕ) → TextSoFar held held faults faults text text
TextSoFar-first held faults text = record { got = []; parts = refl; appends = Appends-nil held; calm = refl }

-- a part was written whole
pub TextSoFar-next : {T : Type 0} (old now next : Option (List ℕ)) (faults faults' faults'' : ℕ) (text part rest : List ℕ) (x : T)
    → TextSoFar old now faults faults' text (part ++ rest) → WritesText now next faults' faults'' part (Ok x) → TextSoFar old next faults faults'' text rest
TextSoFar-next old now next faults faults' faults'' text part rest x so w = record {
  got = so.got ++ part;
  parts = append_assoc so.got part rest ∙ so.parts;
  appends = Appends-trans old now next so.got part so.appends w.0;
  calm = w.1 ∙ so.calm;
}

longer : (xs ys : List ℕ) → 0 < length xs → 0 < length (xs ++ ys)
longer [] ys h = absurd (omega arith)
longer (x ∷ xs) ys h = omega arith

abbrev beginning_after : (old now next : Option (List ℕ)) (faults faults' : ℕ) (text part rest : List ℕ)
    → TextSoFar old now faults faults' text (part ++ rest) → GotBeginning now next part → GotBeginning old next text
beginning_after old now next faults faults' text part rest so b = record {
  got = so.got ++ b.got;
  rest = b.rest ++ rest;
  parts = append_assoc so.got b.got (b.rest ++ rest)
      ∙ ap (λ xs. so.got ++ xs) (sym (append_assoc b.got b.rest rest) ∙ ap (λ xs. xs ++ rest) b.parts)
      ∙ so.parts;
  appends = Appends-trans old now next so.got b.got so.appends b.appends;
}

-- a part could not be written whole
pub TextSoFar-stops : (T U : Type 0) (old now next : Option (List ℕ)) (faults faults' faults'' : ℕ) (text part rest : List ℕ) (e : OutputFault)
    → TextSoFar old now faults faults' text (part ++ rest) → WritesText {T = T} now next faults' faults'' part (Err e) → WritesText {T = U} old next faults faults'' text (Err e)
TextSoFar-stops T U old now next faults faults' faults'' text part rest Write so w = (
  record {
    beginning = beginning_after old now next faults faults' text part rest so w.0.beginning;
    more = longer w.0.beginning.rest rest w.0.more;
  },
  subst (λ n. Rose n faults'') so.calm w.1,
)
TextSoFar-stops T U old now next faults faults' faults'' text part rest NoMemory so w = (beginning_after old now next faults faults' text part rest so w.0, w.1 ∙ so.calm)

-- nothing is left
pub TextSoFar-all : {T : Type 0} (old now : Option (List ℕ)) (faults faults' : ℕ) (text : List ℕ) (x : T) → TextSoFar old now faults faults' text [] → WritesText old now faults faults' text (Ok x)
TextSoFar-all old now faults faults' text x so = (subst (Appends old now) (sym (append-nil so.got) ∙ so.parts) so.appends, so.calm)

-- the last part
pub TextSoFar-last : (T : Type 0) (old now next : Option (List ℕ)) (faults faults' faults'' : ℕ) (text part : List ℕ) (r : Result T OutputFault)
    → TextSoFar old now faults faults' text part → WritesText now next faults' faults'' part r → WritesText old next faults faults'' text r
TextSoFar-last T old now next faults faults' faults'' text part (Ok x) so w =
    let alone = subst (TextSoFar old now faults faults' text) (sym (append-nil part)) so in
    TextSoFar-all old next faults faults'' text x (TextSoFar-next old now next faults faults' faults'' text part [] x alone w)
TextSoFar-last T old now next faults faults' faults'' text part (Err e) so w =
    let alone = subst (TextSoFar old now faults faults' text) (sym (append-nil part)) so in
    TextSoFar-stops T T old now next faults faults' faults'' text part [] e alone w

-- a line that could not be written whole
pub line_stops : (old new : Option (List ℕ)) (line : List ℕ) → ((n : ℕ) × (n < length line) × Appends old new (take n line)) → StoppedInText old new line
line_stops old new line h = record {
  beginning = record { got = take h.0 line; rest = drop h.0 line; parts = take-append-drop h.0 line; appends = h.2 };
  more = left_over h.0 line h.1;
}
