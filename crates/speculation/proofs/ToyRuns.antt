-- The toy machine's loop keeps where its run stands.
use Rattle.std.proofs.Common.{◌≡◌, ℕ, suc, ◌+◌, ◌-◌, ◌<◌, ◌≤◌, List, [], ◌∷◌, Option, Some, None, slice_get, refl, sym, ap, ◌∙◌, add-one, arith}
use Rattle.speculation.specs.declared.toy.Instruction.{Instruction}
use Rattle.speculation.specs.declared.toy.State.{State}
use Rattle.speculation.specs.declared.toy.End.{End}
use Rattle.speculation.specs.declared.toy.Written.{Written}
use Rattle.speculation.specs.Machine.{Machine, Ends}
use Rattle.speculation.specs.Run.{Point, fresh, go, taken}
use Rattle.speculation.specs.Record.{alone}
use Rattle.speculation.specs.Toy.{toy, executed, stepped_by, Tells}
use Rattle.speculation.proofs.Runs.{go-next, go-ends, go-stays, taken-going, taken-ends, taken-stays}
use Rattle.speculation.proofs.Records.{end-alone, last-alone, count-alone}

-- the loop's invariant: no end was met, and the run stands in state s
pub record StandsAt (program : List Instruction) (start : State) (done : ℕ) (s : State) : Type 0 where
  pub here : go (toy program) (fresh start) done ≡ fresh s

pub stands-first : (program : List Instruction) (start : State) → StandsAt program start 0 start
unfolding go
stands-first program start = record { here = refl }

pub stands-next : (program : List Instruction) (start : State) (n : ℕ) (s t : State) (w : Option Written)
    → StandsAt program start n s → stepped_by t w ≡ executed s (slice_get program s.place) → StandsAt program start (n + 1) t
stands-next program start n s t None h step =
    record { here = ap (go (toy program) (fresh start)) (add-one n) ∙ go-next (toy program) (fresh start) n s t 1 [] h.here (sym step) }
stands-next program start n s t (Some w) h step =
    record { here = ap (go (toy program) (fresh start)) (add-one n) ∙ go-next (toy program) (fresh start) n s t w.stream (w.byte ∷ []) h.here (sym step) }

pub tells-spent : (program : List Instruction) (start : State) (limit n : ℕ) (s : State) → StandsAt program start n s → n ≤ limit → limit ≤ n
    → Tells (record { end = None; last = s; count = limit }) (alone (toy program) start limit)
tells-spent program start limit n s h below above =
    let all : limit ≡ n = omega arith in
    let stands : go (toy program) (fresh start) limit ≡ fresh s = ap (go (toy program) (fresh start)) all ∙ h.here in
    let going : (go (toy program) (fresh start) limit).end ≡ None = ap (λ (q : Point State End). q.end) stands in
    record {
      end = sym (end-alone (toy program) start limit ∙ going);
      last = sym (last-alone (toy program) start limit ∙ ap (λ (q : Point State End). q.state) stands);
      count = sym (count-alone (toy program) start limit ∙ taken-going (toy program) (fresh start) limit going);
    }

pub tells-ended : (program : List Instruction) (start : State) (limit n : ℕ) (s : State) (e : End) → n < limit → StandsAt program start n s
    → Ends e ≡ executed s (slice_get program s.place) → Tells (record { end = Some e; last = s; count = n + 1 }) (alone (toy program) start limit)
tells-ended program start limit n s e below h step =
    let m : Machine State End _ = toy program in
    let rest = limit - suc n in
    let whole : limit ≡ suc n + rest = omega arith in
    let ended : go m (fresh start) (suc n) ≡ record { state = s; end = Some e } = go-ends m (fresh start) n s e h.here (sym step) in
    let met : (go m (fresh start) (suc n)).end ≡ Some e = ap (λ (q : Point State End). q.end) ended in
    let last : go m (fresh start) limit ≡ record { state = s; end = Some e } = ap (go m (fresh start)) whole ∙ go-stays m (fresh start) (suc n) rest e met ∙ ended in
    let counted : taken m (fresh start) limit ≡ n + 1
    = ap (taken m (fresh start)) whole ∙ taken-stays m (fresh start) (suc n) rest e met ∙ taken-ends m (fresh start) n s h.here ∙ sym (add-one n) in
    record {
      end = sym (end-alone m start limit ∙ ap (λ (q : Point State End). q.end) last);
      last = sym (last-alone m start limit ∙ ap (λ (q : Point State End). q.state) last);
      count = sym (count-alone m start limit ∙ counted);
    }

pub ruleset loop_laws = (stands-first, stands-next, tells-spent, tells-ended)
