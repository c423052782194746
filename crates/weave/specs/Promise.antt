-- What is promised of every desk and of all cloth: statements, each a type whose proof a contract asks for. Assumes nothing.
use Rattle.std.specs.Prelude.{◌≡◌, ℕ, zero, suc, ◌+◌, ◌-◌, ◌*◌, ◌%◌, ◌<◌, ◌≤◌, Bool, true, false, not, ◌&&◌, List, [], ◌∷◌, ◌++◌, length, nat_le, nat_lt, slice_index}
use Rattle.weave.specs.Rows.{pick, Row, one, then, times, turned, run, written, long, size, deep, below, some_each}
use Rattle.weave.specs.Cloth.{Draft, warp_over, longest_of_ends, longest_of_picks, Some, LieOver, HangsTogether, by_shafts, among, shafts_needed, treadles_needed}
use Rattle.weave.specs.Calls.{Call, threads, treadles, ties, back, cell, part, floats, fewest, hangs, garbled, Answer, Limits, Desk, turned_at, after, right, new_desk}

-- limits that a desk can be opened with
abbrev pub GoodLimits : Limits → Type 0
GoodLimits l = (0 < l.shafts) × (l.shafts ≤ 64) × (0 < l.treadles) × (l.treadles ≤ 64) × (l.undos ≤ 256)

-- calls that bytes can carry: rows of up to 1,024 parts, 255 deep, with numbers of four bytes
abbrev pub field : ℕ → Bool
field n = nat_lt n 4294967296

-- a row whose numbers all fit, one with few enough parts too, and calls with such rows and numbers
unfoldable pub fields_in : Row → Bool
fields_in (one n) = field n
fields_in (then r s) = fields_in r && fields_in s
fields_in (times n r) = field n && fields_in r
fields_in (turned r) = fields_in r
fields_in (run a b) = field a && field b

abbrev pub carried : Row → Bool
carried r = fields_in r && (nat_le (size r) 1024 && nat_lt (deep r) 256)

unfoldable pub readable : Call → Bool
readable (threads r) = carried r
readable (treadles r) = carried r
readable (ties t s) = field t && field s
readable back = true
readable (cell r c) = field r && field c
readable (part r c n) = field r && (field c && field n)
readable (floats k) = field k
readable fewest = true
readable hangs = true
readable (garbled n) = field n

unfoldable pub all_readable : List Call → Bool
all_readable [] = true
all_readable (c ∷ cs) = readable c && all_readable cs

-- The main promise. The desk's keeper is what the contracts of the session's open and call say. For every list of calls each answer is right for the draft that the calls left, as if all its
-- threads were written out, and for cloth that goes on for ever: cells, floats, how few shafts would do, and whether it hangs together. And it has memory for drafts as they are written, and
-- not for threads
pub record Memory : Type 0 where
  pub words : List ℕ

-- the memory that opening leaves, the memory that a call leaves, and what it answers
pub record Keeper : Type 0 where
  pub opened : Limits → Memory
  pub next : Memory → Call → Memory
  pub says : Memory → Call → Answer

-- each answer is right for the draft that the calls before left
unfoldable pub all_right : Keeper → Limits → Memory → Desk → List Call → Type 0
all_right k l m d [] = ℕ
all_right k l m d (c ∷ cs) = right l d c (k.says m c) × all_right k l (k.next m c) (after l d c) cs

-- every answer to every list of calls is right
unfoldable pub Right : (ℕ → Bool) → Keeper → Type 0
Right can k = (l : Limits) (cs : List Call) → GoodLimits l → l.calls_can ≡ can → all_readable cs ≡ true → all_right k l (k.opened l) (new_desk l) cs

-- the desk that a list of calls leaves, and the memory
unfoldable pub ran : Limits → Desk → List Call → Desk
ran l d [] = d
ran l d (c ∷ cs) = ran l (after l d c) cs

unfoldable pub left_by : Keeper → Memory → List Call → Memory
left_by k m [] = m
left_by k m (c ∷ cs) = left_by k (k.next m c) cs

-- a call that is turned away leaves the memory as it was
unfoldable pub RefusalKeeps : (ℕ → Bool) → Keeper → Type 0
RefusalKeeps can k =
    (l : Limits) (cs : List Call) (c : Call) → GoodLimits l → l.calls_can ≡ can → all_readable (cs ++ (c ∷ [])) ≡ true → 0 < turned_at l (ran l (new_desk l) cs) c →
    k.next (left_by k (k.opened l) cs) c ≡ left_by k (k.opened l) cs

-- numbers all below some
unfoldable pub all_below : ℕ → List ℕ → Bool
all_below b [] = true
all_below b (x ∷ xs) = nat_lt x b && all_below b xs

-- the memory is as large as is asked for at opening, whatever comes, and has numbers of eight bytes
unfoldable pub EnoughMemory : Keeper → Type 0
EnoughMemory k =
    (l : Limits) (cs : List Call) → GoodLimits l → all_readable cs ≡ true →
    (length (left_by k (k.opened l) cs).words ≤ (l.undos + 1) * (1024 + l.treadles) + 32768) × (all_below 18446744073709551616 (left_by k (k.opened l) cs).words ≡ true)

-- the first stage takes drafts, undoes, and tells cells; then come fewest and hangs, 7 and 8, then floats, 6; the whole desk can do all
abbrev pub thin : ℕ → Bool
thin k = nat_lt k 6

abbrev pub whole : ℕ → Bool
whole k = true

-- a desk that calls have led to
abbrev pub Reached : Limits → Desk → Type 0
Reached l d = (cs : List Call) × (ran l (new_desk l) cs ≡ d)

-- shafts and treadles are enough: if any threads of the cloth lie over all others, however they are chosen among all that there are, then all of some shafts and treadles do
unfoldable pub ByShafts : Type 0
ByShafts =
    (l : Limits) (d : Desk) (s : Some) → GoodLimits l → Reached l d → LieOver d.now s →
    (ss : List Bool) × (ts : List Bool) × (length ss ≡ l.shafts) × (length ts ≡ l.treadles) × LieOver d.now (by_shafts d.now ss ts)

-- a number's place: the i-th number of a row is found by going down the row, and not along it
unfoldable pub number_at : Row → ℕ → ℕ
number_at (one n) i = n
number_at (then r s) i = pick (nat_lt i (long r)) (number_at r i) (number_at s (i - long r))
number_at (times n r) i = number_at r (i % long r)
number_at (turned r) i = number_at r (long r - suc i)
number_at (run a b) i = pick (nat_le a b) (a + i) (a - i)

unfoldable pub AtPlace : Type 0
AtPlace = (r : Row) (i : ℕ) → some_each r ≡ true → i < long r → slice_index (written r) i ≡ number_at r i

-- a row is as long as its numbers are many
unfoldable pub AsLong : Type 0
AsLong = (r : Row) → length (written r) ≡ long r

-- no fewer shafts, and no fewer treadles: whoever weaves the same cloth uses as many, and somebody does with just so many
unfoldable pub used : ℕ → Row → ℕ
used zero r = 0
used (suc n) r = pick (among n (written r)) 1 0 + used n r

-- the same cloth, thread by thread
abbrev pub SameCloth : Draft → Draft → Type 0
SameCloth d e =
    (0 < long e.threading) × (0 < long e.treadling) × ((r c : ℕ) → warp_over d r c ≡ warp_over e r c)

unfoldable pub FewestShafts : Type 0
FewestShafts =
    (d : Draft) (m : ℕ) → below m d.threading ≡ true → below m d.treadling ≡ true → 0 < long d.threading → 0 < long d.treadling →
    ((e : Draft) (n : ℕ) → below n e.threading ≡ true → below n e.treadling ≡ true → SameCloth d e →
    (shafts_needed d ≤ used n e.threading) × (treadles_needed d ≤ used n e.treadling))
    × ((e : Draft) × SameCloth d e × (used m e.threading ≡ shafts_needed d) × (used m e.treadling ≡ treadles_needed d)
    × (below m e.threading ≡ true) × (below m e.treadling ≡ true))

-- threaded from the other side, cloth hangs together if it did, and floats are as long
abbrev pub mirrored : Draft → Draft
mirrored d = record { threading = turned d.threading; tied = d.tied; treadling = d.treadling }

unfoldable pub Mirrored : Type 0
Mirrored =
    (d : Draft) (b : Bool) → 0 < long d.threading → 0 < long d.treadling →
    (HangsTogether d → HangsTogether (mirrored d)) × (longest_of_ends (mirrored d) b ≡ longest_of_ends d b) × (longest_of_picks (mirrored d) b ≡ longest_of_picks d b)

-- seen from the back: where the warp was over the weft is, so that floats of the face are those of the back, and what hung together does
unfoldable pub FromBehind : Type 0
FromBehind =
    (d e : Draft) → e.threading ≡ d.threading → e.treadling ≡ d.treadling → ((r c : ℕ) → warp_over e r c ≡ not (warp_over d r c)) →
    (longest_of_ends e true ≡ longest_of_ends d false) × (longest_of_picks e true ≡ longest_of_picks d false) × (HangsTogether d → HangsTogether e)

-- an end that is over all picks, or under all, never hangs together with the rest
unfoldable pub FloatsOff : Type 0
FloatsOff =
    (d : Draft) (c : ℕ) (b : Bool) → 0 < long d.threading → 0 < long d.treadling → ((r : ℕ) → warp_over d r c ≡ b) → (s : Some) × LieOver d s

-- what was done and undone leaves the draft as it was
unfoldable pub does : Call → Bool
does (threads r) = true
does (treadles r) = true
does (ties t s) = true
does back = false
does (cell r c) = false
does (part r c n) = false
does (floats k) = false
does fewest = false
does hangs = false
does (garbled n) = false

unfoldable pub Undone : Type 0
Undone =
    (l : Limits) (d : Desk) (c : Call) → Reached l d → 0 < l.undos → does c ≡ true → l.calls_can 3 ≡ true → turned_at l d c ≡ 0 →
    (turned_at l (after l d c) back ≡ 0) × ((after l (after l d c) back).now ≡ d.now)

-- a call that is turned away changes nothing
unfoldable pub TurnedAway : Type 0
TurnedAway = (l : Limits) (d : Desk) (c : Call) → 0 < turned_at l d c → after l d c ≡ d
