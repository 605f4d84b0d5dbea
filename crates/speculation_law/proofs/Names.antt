-- Names, kinds and the loans of a name.
use Rattle.std.proofs.Common.{◌≡◌, ℕ, ◌+◌, ◌≤◌, Bool, true, false, not, ◌&&◌, if◌then◌else◌, List, [], ◌∷◌, ◌++◌, Option, Some, None, is_none, nat_eq, refl, sym, ap, ◌∙◌, subst, eqb-true, eq-eqb, arith}
use Rattle.std.proofs.lemmas.Bool.{and_right, not-true, and_parts, and_from}
use Rattle.speculation.specs.declared.tracks.Kind.{Kind}
use Rattle.speculation.specs.declared.tracks.Kind.TheVariants.{Normal, Fast, Segment}
use Rattle.speculation.specs.declared.tracks.Name.{Name}
use Rattle.speculation.specs.declared.tracks.OpenLoan.{OpenLoan}
use Rattle.speculation.specs.Core.{Core, Track, name_eq, lead_name, is_kind, is_lent, is_named, at_home, find_loan, find_normal, track_by, find_track}
use Rattle.speculation.specs.Effects.{dropped_by, drop_loans}
use Rattle.speculation.specs.Events.{end_loan}
use Rattle.speculation_law.specs.Sound.{one_if, count_lent}

pub kind-fast : (k : Kind) → is_kind k Fast ≡ true → k ≡ Fast
kind-fast Normal h = absurd (cc)
kind-fast Fast h = refl
kind-fast Segment h = absurd (cc)

pub kind-segment : (k : Kind) → is_kind k Segment ≡ true → k ≡ Segment
kind-segment Normal h = absurd (cc)
kind-segment Fast h = absurd (cc)
kind-segment Segment h = refl

same_bool : (a b : Bool) → (if a then b else not b) ≡ true → a ≡ b
same_bool true true h = refl
same_bool true false h = absurd (cc)
same_bool false true h = absurd (cc)
same_bool false false h = refl

bool_same : (a : Bool) → (if a then a else not a) ≡ true
bool_same true = refl
bool_same false = refl

pub name_eq-true : (a b : Name) → name_eq a b ≡ true → a ≡ b
name_eq-true a b h =
    let first = and_parts (nat_eq a.generation b.generation) (nat_eq a.region b.region && (if a.normal then b.normal else not b.normal)) h in
    let second = and_parts (nat_eq a.region b.region) (if a.normal then b.normal else not b.normal) first.1 in
    let generation : a.generation ≡ b.generation = eqb-true a.generation b.generation first.0 in
    let region : a.region ≡ b.region = eqb-true a.region b.region second.0 in
    let normal : a.normal ≡ b.normal = same_bool a.normal b.normal second.1 in
    λ i. record { generation = generation i; region = region i; normal = normal i }

pub name_eq-refl : (a : Name) → name_eq a a ≡ true
name_eq-refl a =
    and_from (nat_eq a.generation a.generation) (nat_eq a.region a.region && (if a.normal then a.normal else not a.normal)) (eq-eqb a.generation a.generation refl)
    (and_from (nat_eq a.region a.region) (if a.normal then a.normal else not a.normal) (eq-eqb a.region a.region refl) (bool_same a.normal))

pub name_eq-same : (a b : Name) → a ≡ b → name_eq a b ≡ true
name_eq-same a b h = subst (λ (n : Name). name_eq a n ≡ true) h (name_eq-refl a)

-- Loans

count_lent-none_by : (n : Name) (t : Bool) (k : ℕ) (rest : Bool) → (if t then true else rest) ≡ false → (rest ≡ false → k ≡ 0) → one_if t + k ≡ 0
count_lent-none_by n true k rest h f = absurd (cc)
count_lent-none_by n false k rest h f = (let none = f h in omega arith)

-- a name that is not lent has no loan
pub count_lent-none : (n : Name) (ls : List OpenLoan) → is_lent n ls ≡ false → count_lent n ls ≡ 0
count_lent-none n [] h = refl
count_lent-none n (l ∷ ls) h = count_lent-none_by n (name_eq n l.name && is_none l.dropped) (count_lent n ls) (is_lent n ls) h (count_lent-none n ls)

is_lent-none_by : (t : Bool) (k : ℕ) (rest : Bool) → one_if t + k ≡ 0 → (k ≡ 0 → rest ≡ false) → (if t then true else rest) ≡ false
is_lent-none_by true k rest h f = absurd (omega arith)
is_lent-none_by false k rest h f = f (omega arith)

pub is_lent-none : (n : Name) (ls : List OpenLoan) → count_lent n ls ≡ 0 → is_lent n ls ≡ false
is_lent-none n [] h = refl
is_lent-none n (l ∷ ls) h = is_lent-none_by (name_eq n l.name && is_none l.dropped) (count_lent n ls) (is_lent n ls) h (is_lent-none n ls)

pub count_lent-append : (n : Name) (ls : List OpenLoan) (l : OpenLoan) → count_lent n (ls ++ (l ∷ [])) ≡ count_lent n ls + one_if (name_eq n l.name && is_none l.dropped)
count_lent-append n [] l = omega arith
count_lent-append n (x ∷ xs) l = (let rest = count_lent-append n xs l in omega arith)

lend-once_by : (n x : Name) (ls : List OpenLoan) (t : Bool) → name_eq x n ≡ t → is_lent n ls ≡ false → count_lent x ls ≤ 1 → count_lent x ls + one_if (t && true) ≤ 1
lend-once_by n x ls true is home h =
    let none : count_lent x ls ≡ 0 = count_lent-none x ls (subst (λ (y : Name). is_lent y ls ≡ false) (sym (name_eq-true x n is)) home) in omega arith
lend-once_by n x ls false is home h = omega arith

-- lending a track that isn't lent
pub lend-once : (n : Name) (seat : ℕ) (ls : List OpenLoan) → is_lent n ls ≡ false → ((x : Name) → count_lent x ls ≤ 1)
    → (x : Name) → count_lent x (ls ++ (record { seat = seat; name = n; dropped = None } ∷ [])) ≤ 1
lend-once n seat ls home once x =
    subst (λ k. k ≤ 1) (sym (count_lent-append x ls (record { seat = seat; name = n; dropped = None }))) (lend-once_by n x ls (name_eq x n) refl home (once x))

count_lent-end_by : (n x : Name) (l : OpenLoan) (ls : List OpenLoan) (t : Bool) → count_lent x (end_loan n ls) ≤ count_lent x ls
    → count_lent x (if t then ls else l ∷ end_loan n ls) ≤ count_lent x (l ∷ ls)
count_lent-end_by n x l ls true h = omega arith
count_lent-end_by n x l ls false h = omega arith

pub count_lent-end_loan : (n x : Name) (ls : List OpenLoan) → count_lent x (end_loan n ls) ≤ count_lent x ls
count_lent-end_loan n x [] = omega arith
count_lent-end_loan n x (l ∷ ls) = count_lent-end_by n x l ls (name_eq n l.name) (count_lent-end_loan n x ls)

is_lent-end_by : (n x : Name) (l : OpenLoan) (ls : List OpenLoan) (t : Bool) → is_lent x ls ≡ false → is_lent x (l ∷ ls) ≡ false → is_lent x (end_loan n ls) ≡ false
    → is_lent x (if t then ls else l ∷ end_loan n ls) ≡ false
is_lent-end_by n x l ls true rest whole h = rest
is_lent-end_by n x l ls false rest whole h =
    is_lent-none x (l ∷ end_loan n ls) (let all = count_lent-none x (l ∷ ls) whole in let less = count_lent-none x (end_loan n ls) h in let more = count_lent-none x ls rest in omega arith)

is_lent-rest : (x : Name) (l : OpenLoan) (ls : List OpenLoan) → is_lent x (l ∷ ls) ≡ false → is_lent x ls ≡ false
is_lent-rest x l ls h = is_lent-none x ls (let all = count_lent-none x (l ∷ ls) h in omega arith)

-- the end of a loan lends nothing
pub is_lent-end_loan : (n x : Name) (ls : List OpenLoan) → is_lent x ls ≡ false → is_lent x (end_loan n ls) ≡ false
is_lent-end_loan n x [] h = refl
is_lent-end_loan n x (l ∷ ls) h =
    is_lent-end_by n x l ls (name_eq n l.name) (is_lent-rest x l ls h) h (is_lent-end_loan n x ls (is_lent-rest x l ls h))

lent_by : (x : Name) (n : Name) (ls : List OpenLoan) (t : Bool) → is_lent x ls ≡ t → is_lent x (end_loan n ls) ≡ true → is_lent x ls ≡ true
lent_by x n ls true is h = is
lent_by x n ls false is h = absurd (let none = is_lent-end_loan n x ls is in cc)

pub is_lent-before : (n x : Name) (ls : List OpenLoan) → is_lent x (end_loan n ls) ≡ true → is_lent x ls ≡ true
is_lent-before n x ls h = lent_by x n ls (is_lent x ls) refl h

back-home_by : (n : Name) (x l : OpenLoan) (ls : List OpenLoan) (t : Bool) → name_eq n x.name ≡ t → (if t then Some x else find_loan n ls) ≡ Some l → l.dropped ≡ None
    → one_if (t && is_none x.dropped) + count_lent n ls ≤ 1 → (find_loan n ls ≡ Some l → count_lent n ls ≤ 1 → count_lent n (end_loan n ls) ≡ 0)
    → count_lent n (if t then ls else x ∷ end_loan n ls) ≡ 0
back-home_by n x l ls true is found live once rest =
    let same : x ≡ l = cc in
    let gone : x.dropped ≡ None = ap (λ (y : OpenLoan). y.dropped) same ∙ live in
    let one : one_if (true && is_none x.dropped) ≡ 1 = ap (λ (o : Option ℕ). one_if (true && is_none o)) gone in omega arith
back-home_by n x l ls false is found live once rest =
    let none = rest found (omega arith) in
    let zero_here : one_if (name_eq n x.name && is_none x.dropped) ≡ 0 = ap (λ t. one_if (t && is_none x.dropped)) is in omega arith

count_lent-back : (n : Name) (l : OpenLoan) (ls : List OpenLoan) → find_loan n ls ≡ Some l → l.dropped ≡ None → count_lent n ls ≤ 1 → count_lent n (end_loan n ls) ≡ 0
count_lent-back n l [] found live once = absurd (cc)
count_lent-back n l (x ∷ ls) found live once =
    back-home_by n x l ls (name_eq n x.name) refl found live once (λ more less. count_lent-back n l ls more live less)

-- a live loan that ended was the only one of its name
pub is_lent-back : (n : Name) (l : OpenLoan) (ls : List OpenLoan) → find_loan n ls ≡ Some l → l.dropped ≡ None → count_lent n ls ≤ 1 → is_lent n (end_loan n ls) ≡ false
is_lent-back n l ls found live once = is_lent-none n (end_loan n ls) (count_lent-back n l ls found live once)

dropped-some : (row : ℕ) (o : Option ℕ) → is_none (dropped_by row o) ≡ false
dropped-some row None = refl
dropped-some row (Some k) = refl

-- no dropped loan counts
pub count_lent-drop_loans : (n : Name) (row : ℕ) (ls : List OpenLoan) → count_lent n (drop_loans row ls) ≡ 0
count_lent-drop_loans n row [] = refl
count_lent-drop_loans n row (l ∷ ls) =
    let none : (name_eq n l.name && is_none (dropped_by row l.dropped)) ≡ false = and_right (name_eq n l.name) (is_none (dropped_by row l.dropped)) (dropped-some row l.dropped) in
    let here : one_if (name_eq n l.name && is_none (dropped_by row l.dropped)) ≡ 0 = ap one_if none in
    let rest = count_lent-drop_loans n row ls in omega arith

found-live_by : (n : Name) (x l : OpenLoan) (ls : List OpenLoan) (t : Bool) → (if t then Some x else find_loan n ls) ≡ Some l → l.dropped ≡ None → (find_loan n ls ≡ Some l → is_lent n ls ≡ true)
    → (if t && is_none x.dropped then true else is_lent n ls) ≡ true
found-live_by n x l ls true found live rest =
    let gone : x.dropped ≡ None = ap (λ (y : OpenLoan). y.dropped) (let same : x ≡ l = cc in same) ∙ live in
    ap (λ o. if true && is_none {T = ℕ} o then true else is_lent n ls) gone
found-live_by n x l ls false found live rest = rest found

-- a live loan lends its track
pub is_lent-found : (n : Name) (l : OpenLoan) (ls : List OpenLoan) → find_loan n ls ≡ Some l → l.dropped ≡ None → is_lent n ls ≡ true
is_lent-found n l [] found live = absurd (cc)
is_lent-found n l (x ∷ ls) found live = found-live_by n x l ls (name_eq n x.name) found live (λ more. is_lent-found n l ls more live)

-- Tracks

-- the live track of a name is an original or the lead
pub data FoundTrack {S E D : Type 0} (c : Core S E D) (n : Name) (t : Track S) : Type 0 where
  Original : n.generation ≡ c.generation → n.normal ≡ true → find_normal n.region c.regions ≡ Some t → FoundTrack c n t
  Lead : n.normal ≡ false → n ≡ lead_name c → c.lead ≡ t → FoundTrack c n t

found-by : {S E D : Type 0} (c : Core S E D) (n : Name) (t : Track S) (present normal last : Bool) → nat_eq n.generation c.generation ≡ present → n.normal ≡ normal → nat_eq n.region c.last ≡ last
    → track_by present normal last (find_normal n.region c.regions) c.lead ≡ Some t → FoundTrack c n t
found-by c n t false normal last p q r h = absurd (cc)
found-by c n t true true last p q r h = Original (eqb-true n.generation c.generation p) q h
found-by c n t true false false p q r h = absurd (cc)
found-by c n t true false true p q r h =
    let generation : n.generation ≡ c.generation = eqb-true n.generation c.generation p in
    let region : n.region ≡ c.last = eqb-true n.region c.last r in
    Lead q (λ i. record { generation = generation i; region = region i; normal = q i }) (cc)

pub find_track-found : {S E D : Type 0} (c : Core S E D) (n : Name) (t : Track S) → find_track c n ≡ Some t → FoundTrack c n t
find_track-found c n t h = found-by c n t (nat_eq n.generation c.generation) n.normal (nat_eq n.region c.last) refl refl refl h

-- a track at home isn't lent
pub home-lent : {S E D : Type 0} (c : Core S E D) (n : Name) → at_home c n ≡ true → is_lent n c.loans ≡ false
home-lent c n h = not-true (is_lent n c.loans) (and_parts (not (is_lent n c.loans)) (not (is_named n c.lost)) h).0
