-- The measure of the serial history: each round makes one of these numbers smaller and no earlier one greater. In order they
-- are: whether the core isn't over; budget less base; how many more regions may open; whether the lead is fast; the tracks'
-- instructions that are left; and whether bytes are verified. Joined as the digits of one number.
use Rattle.std.proofs.Common.{◌≡◌, ℕ, zero, suc, ◌+◌, ◌-◌, ◌*◌, ◌<◌, ◌≤◌, Bool, true, false, not, ◌||◌, if◌then◌else◌, List, [], ◌∷◌, ◌++◌, Some, length, nat_eq, nat_lt, nat_le, refl, sym, ap, ◌∙◌, subst, suc-mul, mul-le-mul_right, add-zero, append-nil, ltb-true, unwrap_or, arith}
use Rattle.std.proofs.lemmas.Bool.{lt-leb, or_from}
use Rattle.speculation.specs.declared.tracks.Kind.{Kind}
use Rattle.speculation.specs.declared.tracks.Kind.TheVariants.{Normal, Fast, Segment}
use Rattle.speculation.specs.declared.history.Settings.{Settings}
use Rattle.speculation.specs.Machine.{Machine}
use Rattle.speculation.specs.Run.{Piece, pieces}
use Rattle.speculation.specs.Tracks.{first_from}
use Rattle.speculation.specs.Core.{Core, Track, Region, over, find_normal, is_kind, has_stop, held_size, most_held, most_slice, verified}
use Rattle.speculation.specs.Events.{new_pieces, run_on, slice, back_normals}
use Rattle.speculation_law.specs.Sound.{one_if}
use Rattle.speculation_law.specs.Naming.{RegionsWithin, Bounded}
use Rattle.speculation_law.proofs.Least.{first-at}
use Rattle.speculation_law.proofs.Bounds.{slice-within}

digit-less : (a a2 s z z2 : ℕ) → a2 < a → z2 < s → a2 * s + z2 < a * s + z
digit-less a a2 s z z2 less small = (let more : suc a2 * s ≤ a * s = mul-le-mul_right s less in let is = suc-mul a2 s in omega arith)

digit-next : (a a2 s z z2 : ℕ) → a2 ≤ a → z2 < z → a2 * s + z2 < a * s + z
digit-next a a2 s z z2 le less = (let more : a2 * s ≤ a * s = mul-le-mul_right s le in omega arith)

digit-le : (a a2 s z z2 : ℕ) → a2 ≤ a → z2 ≤ z → a2 * s + z2 ≤ a * s + z
digit-le a a2 s z z2 le less = (let more : a2 * s ≤ a * s = mul-le-mul_right s le in omega arith)

-- the digits, highest first
pub record Digits : Type 0 where
  pub live : ℕ
  pub left : ℕ
  pub room : ℕ
  pub fast : ℕ
  pub work : ℕ
  pub shown : ℕ

-- the greatest work
pub most_work : Settings → ℕ
most_work b = b.tracks * b.budget + b.budget

pub record Small (b : Settings) (d : Digits) : Type 0 where
  pub left : d.left < suc b.budget
  pub room : d.room < suc b.tracks
  pub fast : d.fast < 2
  pub work : d.work < suc (most_work b)
  pub shown : d.shown < 2

abbrev three : Settings → Digits → ℕ
three b d = (d.live * suc b.budget + d.left) * suc b.tracks + d.room

pub weigh : Settings → Digits → ℕ
weigh b d = (((three b d) * 2 + d.fast) * suc (most_work b) + d.work) * 2 + d.shown

module _ (b : Settings) (d e : Digits) (small : Small b e) where
  rest-falls : three b e < three b d → weigh b e < weigh b d
  unfolding weigh
  rest-falls h =
      let one : three b e * 2 + e.fast < three b d * 2 + d.fast = digit-less (three b d) (three b e) 2 d.fast e.fast h small.fast in
      let two = digit-less (three b d * 2 + d.fast) (three b e * 2 + e.fast) (suc (most_work b)) d.work e.work one small.work in
      digit-less ((three b d * 2 + d.fast) * suc (most_work b) + d.work) ((three b e * 2 + e.fast) * suc (most_work b) + e.work) 2 d.shown e.shown two small.shown

  pub live-falls : e.live < d.live → weigh b e < weigh b d
  live-falls h =
      rest-falls (digit-less (d.live * suc b.budget + d.left) (e.live * suc b.budget + e.left) (suc b.tracks) d.room e.room
      (digit-less d.live e.live (suc b.budget) d.left e.left h small.left) small.room)

  pub left-falls : e.live ≤ d.live → e.left < d.left → weigh b e < weigh b d
  left-falls h k =
      rest-falls (digit-less (d.live * suc b.budget + d.left) (e.live * suc b.budget + e.left) (suc b.tracks) d.room e.room
      (digit-next d.live e.live (suc b.budget) d.left e.left h k) small.room)

  pub room-falls : e.live ≤ d.live → e.left ≤ d.left → e.room < d.room → weigh b e < weigh b d
  room-falls h k l =
      rest-falls (digit-next (d.live * suc b.budget + d.left) (e.live * suc b.budget + e.left) (suc b.tracks) d.room e.room
      (digit-le d.live e.live (suc b.budget) d.left e.left h k) l)

  three-stays : e.live ≤ d.live → e.left ≤ d.left → e.room ≤ d.room → three b e ≤ three b d
  three-stays h k l =
      digit-le (d.live * suc b.budget + d.left) (e.live * suc b.budget + e.left) (suc b.tracks) d.room e.room (digit-le d.live e.live (suc b.budget) d.left e.left h k) l

  pub fast-falls : e.live ≤ d.live → e.left ≤ d.left → e.room ≤ d.room → e.fast < d.fast → weigh b e < weigh b d
  unfolding weigh
  fast-falls h k l n =
      let one : three b e * 2 + e.fast < three b d * 2 + d.fast = digit-next (three b d) (three b e) 2 d.fast e.fast (three-stays h k l) n in
      let two = digit-less (three b d * 2 + d.fast) (three b e * 2 + e.fast) (suc (most_work b)) d.work e.work one small.work in
      digit-less ((three b d * 2 + d.fast) * suc (most_work b) + d.work) ((three b e * 2 + e.fast) * suc (most_work b) + e.work) 2 d.shown e.shown two small.shown

  pub work-falls : e.live ≤ d.live → e.left ≤ d.left → e.room ≤ d.room → e.fast ≤ d.fast → e.work < d.work → weigh b e < weigh b d
  unfolding weigh
  work-falls h k l n o =
      let one = digit-le (three b d) (three b e) 2 d.fast e.fast (three-stays h k l) n in
      let two = digit-next (three b d * 2 + d.fast) (three b e * 2 + e.fast) (suc (most_work b)) d.work e.work one o in
      digit-less ((three b d * 2 + d.fast) * suc (most_work b) + d.work) ((three b e * 2 + e.fast) * suc (most_work b) + e.work) 2 d.shown e.shown two small.shown

  pub shown-falls : e.live ≤ d.live → e.left ≤ d.left → e.room ≤ d.room → e.fast ≤ d.fast → e.work ≤ d.work → e.shown < d.shown → weigh b e < weigh b d
  unfolding weigh
  shown-falls h k l n o p =
      let one = digit-le (three b d) (three b e) 2 d.fast e.fast (three-stays h k l) n in
      let two = digit-le (three b d * 2 + d.fast) (three b e * 2 + e.fast) (suc (most_work b)) d.work e.work one o in
      digit-next ((three b d * 2 + d.fast) * suc (most_work b) + d.work) ((three b e * 2 + e.fast) * suc (most_work b) + e.work) 2 d.shown e.shown two p

-- The digits of a core

-- the instructions that are left to the originals of these regions
abbrev pub work_of : {S : Type 0} → ℕ → List (Region S) → ℕ
work_of budget [] = 0
work_of budget (r ∷ rs) = (budget - r.normal.own) + work_of budget rs

abbrev pub digits_of : {S E D : Type 0} → Settings → Core S E D → Digits
digits_of b c = record {
  live = one_if (not (over c));
  left = b.budget - c.base;
  room = b.tracks - length c.regions;
  fast = one_if (is_kind c.lead.kind Fast);
  work = work_of b.budget c.regions + (b.budget - c.lead.own);
  shown = one_if (nat_lt 0 (length (verified b c)));
}

one_if-small : (t : Bool) → one_if t < 2
one_if-small true = omega arith
one_if-small false = omega arith

work_of-le : {S : Type 0} (budget : ℕ) (rs : List (Region S)) → work_of budget rs ≤ length rs * budget
work_of-le budget [] = omega arith
work_of-le budget (r ∷ rs) = (let rest = work_of-le budget rs in let is = suc-mul (length rs) budget in omega arith)

module _ {S E D : Type 0} (m : Machine S E D) (b : Settings) where
  pub digits-small : (c : Core S E D) → Bounded b c → Small b (digits_of b c)
  unfolding most_work
  digits-small c h =
      let rest = work_of-le b.budget c.regions in
      let more : length c.regions * b.budget ≤ b.tracks * b.budget = mul-le-mul_right b.budget h.open_regions in
      record { left = omega arith; room = omega arith; fast = one_if-small (is_kind c.lead.kind Fast); work = omega arith; shown = one_if-small (nat_lt 0 (length (verified b c))) }

  none-new : (kind : Kind) (s : S) (own : ℕ) → new_pieces m kind s own 0 ≡ []
  unfolding pieces
  none-new Normal s own = refl
  none-new Segment s own = refl
  none-new Fast s own = refl

  run_on-zero : (t : Track S) → run_on m t 0 ≡ t
  run_on-zero t =
      let held : t.held ++ new_pieces m t.kind t.start t.own 0 ≡ t.held = ap (λ (ps : List Piece). t.held ++ ps) (none-new t.kind t.start t.own) ∙ append-nil t.held in
      λ i. record { kind = t.kind; start = t.start; own = add-zero t.own i; held = held i }

  few-held : (t : Track S) → nat_lt (held_size t.held) most_held ≡ true → nat_le most_held (held_size t.held) ≡ false
  few-held t h = lt-leb most_held (held_size t.held) (ltb-true (held_size t.held) most_held h)

  slice-some : (t : Track S) → has_stop m b t ≡ false → nat_lt (held_size t.held) most_held ≡ true → slice m b t ≡ 0 → ⊥
  unfolding slice most_slice
  slice-some t unstopped few none =
      let f : ℕ → Bool = λ k. has_stop m b (run_on m t k) || nat_le most_held (held_size (run_on m t k).held) in
      let at : f (unwrap_or (first_from f 0 65536) 65536) ≡ true = first-at f 65536 (omega arith) in
      let here : f 0 ≡ true = subst (λ k. f k ≡ true) none at in
      let not : f 0 ≡ false = ap (λ (x : Track S). has_stop m b x || nat_le most_held (held_size x.held)) (run_on-zero t) ∙ or_from (has_stop m b t) (nat_le most_held (held_size t.held)) unstopped (few-held t few) in
      cc

  slice-by : (n : ℕ) → (n ≡ 0 → ⊥) → 0 < n
  slice-by zero h = absurd (h refl)
  slice-by (suc n) h = omega arith

  -- a track that may be lent takes at least one instruction
  pub slice-pos : (t : Track S) → has_stop m b t ≡ false → nat_lt (held_size t.held) most_held ≡ true → 0 < slice m b t
  slice-pos t unstopped few = slice-by (slice m b t) (slice-some t unstopped few)

  work-back_by : (number : ℕ) (r : Region S) (rs : List (Region S)) (t : Track S) (u : Bool) → (if u then Some r.normal else find_normal number rs) ≡ Some t → RegionsWithin b.budget (r ∷ rs) → 0 < slice m b t
      → (find_normal number rs ≡ Some t → work_of b.budget (back_normals m b number rs) < work_of b.budget rs)
      → work_of b.budget (if u then (record r { normal = run_on m r.normal (slice m b r.normal) }) ∷ rs else r ∷ back_normals m b number rs) < work_of b.budget (r ∷ rs)
  work-back_by number r rs t true found within pos rest =
      let same : r.normal ≡ t = cc in
      let some : 0 < slice m b r.normal = subst (λ (x : Track S). 0 < slice m b x) (sym same) pos in
      let all : r.normal.own + slice m b r.normal ≤ b.budget = slice-within m b r.normal within.normal in omega arith
  work-back_by number r rs t false found within pos rest = (let less = rest found in omega arith)

  -- an original that came back has less left
  pub work-back : (number : ℕ) (rs : List (Region S)) (t : Track S) → find_normal number rs ≡ Some t → RegionsWithin b.budget rs → 0 < slice m b t → work_of b.budget (back_normals m b number rs) < work_of b.budget rs
  work-back number [] t found within pos = absurd (cc)
  work-back number (r ∷ rs) t found within pos = work-back_by number r rs t (nat_eq number r.number) found within pos (λ more. work-back number rs t more within.rest pos)
