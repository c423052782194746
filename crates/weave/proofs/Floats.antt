-- Floats: the longest along all lines of a cloth, what it tells of the cloth, and how it is found by runs of the rows. Assumes nothing.
use Rattle.std.proofs.Common.{◌≡◌, ℕ, zero, suc, ◌+◌, ◌-◌, ◌%◌, ◌<◌, ◌≤◌, max, Bool, true, not, List, [], ◌∷◌, length, get_or, sym, ap, ◌∙◌, inl, inr, mod-lt, mod-eq_of_lt, le_antisymm, arith}
use mathlib.Core.Path.{fun_ext}
use native.Mathlib.Nat.{mod-mod, mod-add-mod, add-mod-mod, add-mod_right}
use Rattle.std.proofs.lemmas.Bool.{cases_Bool, cases_lt}
use Rattle.weave.specs.Rows.{pick, Row, written, long, below, reversed}
use Rattle.weave.specs.Cloth.{Draft, lifts, warp_over, among, end_float, pick_float, over_picks, along_ends, longest_of_ends, longest_of_picks}
use Rattle.weave.proofs.Rows.{length_written, written_below}
use Rattle.weave.proofs.Cloth.{among_at, among_where, among_reversed}
use Rattle.weave.proofs.Longest.{best, best_most, best_least, best_alike, best_same, best_some, passes, passes_most, passes_all, passes_least, end_passes, pick_passes, over_picks_best, over_ends_best, along_ends_best, along_picks_best}
use Rattle.weave.proofs.Runs.{longest_round, best_round}

-- the longest float along m lines, each counted from n places and up to n: of ends along picks, or of picks along ends
unfoldable pub longest_float : (ℕ → ℕ → Bool) → ℕ → ℕ → ℕ
longest_float over m n = best (λ c. best (λ r. passes (over c) r n) n) m

-- an end is over a pick, or under it; a pick over an end, or under it
abbrev pub end_over : Draft → Bool → ℕ → ℕ → Bool
end_over d b c r = pick b (warp_over d r c) (not (warp_over d r c))

abbrev pub pick_over : Draft → Bool → ℕ → ℕ → Bool
pick_over d b r c = pick b (not (warp_over d r c)) (warp_over d r c)

pub ends_float : (d : Draft) (b : Bool) → longest_of_ends d b ≡ longest_float (end_over d b) (long d.threading) (long d.treadling)
unfolding longest_float
ends_float d b =
    over_ends_best d b (long d.threading)
    ∙ best_same
    (λ c. over_picks d b c (long d.treadling))
    (λ c. best (λ r. passes (end_over d b c) r (long d.treadling)) (long d.treadling))
    (long d.threading)
    (λ c.
    over_picks_best d b c (long d.treadling)
    ∙ best_same
    (λ r. end_float d b r c (long d.treadling))
    (λ r. passes (end_over d b c) r (long d.treadling))
    (long d.treadling)
    (λ r. end_passes d b c (long d.treadling) r))

pub picks_float : (d : Draft) (b : Bool) → longest_of_picks d b ≡ longest_float (pick_over d b) (long d.treadling) (long d.threading)
unfolding longest_float
picks_float d b =
    along_picks_best d b (long d.treadling)
    ∙ best_same
    (λ r. along_ends d b r (long d.threading))
    (λ r. best (λ c. passes (pick_over d b r) c (long d.threading)) (long d.threading))
    (long d.treadling)
    (λ r.
    along_ends_best d b r (long d.threading)
    ∙ best_same
    (λ c. pick_float d b r c (long d.threading))
    (λ c. passes (pick_over d b r) c (long d.threading))
    (long d.threading)
    (λ c. pick_passes d b r (long d.threading) c))

-- a line goes on from a place, so far
abbrev pub GoesOn : (ℕ → ℕ → Bool) → ℕ → ℕ → ℕ → Type 0
GoesOn over c r k = (i : ℕ) → i < k → over c (r + i) ≡ true

-- a cloth that comes again after m lines, and along each after n
pub record ComesAgain (over : ℕ → ℕ → Bool) (m n : ℕ) : Type 0 where
  pub some_lines : 0 < m
  pub some_places : 0 < n
  pub again_lines : (c r : ℕ) → over (c % m) r ≡ over c r
  pub again_places : (c r : ℕ) → over c (r % n) ≡ over c r

module _ (over : ℕ → ℕ → Bool) (m n : ℕ) (p : ComesAgain over m n) where
  shifted : (c r i : ℕ) → over (c % m) (r % n + i) ≡ over c (r + i)
  shifted c r i =
      p.again_lines c (r % n + i)
      ∙ (sym (p.again_places c (r % n + i)) ∙ (ap (over c) (mod-add-mod r n i) ∙ p.again_places c (r + i)))

  -- no longer than the draft; somewhere so long; and nowhere longer, up to the length of the draft
  pub float_short : longest_float over m n ≤ n
  unfolding longest_float
  float_short = best_most (λ c. best (λ r. passes (over c) r n) n) m n (λ c h. best_most (λ r. passes (over c) r n) n n (λ r k. passes_most (over c) r n))

  pub float_where : (c : ℕ) × (r : ℕ) × GoesOn over c r (longest_float over m n)
  unfolding longest_float
  float_where =
      let w = best_some (λ c. best (λ r. passes (over c) r n) n) m p.some_lines in
      let v = best_some (λ r. passes (over w.0) r n) n p.some_places in
      let e = w.2 in
      let f = v.2 in
      (w.0, v.0, λ i h. passes_all (over w.0) v.0 n i (omega arith))

  pub float_most : (c r k : ℕ) → k ≤ n → GoesOn over c r k → k ≤ longest_float over m n
  unfolding longest_float
  float_most c r k h goes =
      let a = passes_least (over (c % m)) (r % n) n k h (λ i l. shifted c r i ∙ goes i l) in
      let b = best_least (λ q. passes (over (c % m)) q n) n (r % n) (mod-lt r p.some_places) in
      let e = best_least (λ q. best (λ s. passes (over q) s n) n) m (c % m) (mod-lt c p.some_lines) in
      omega arith

  -- a float as long as the draft never ends
  pub float_ever : (c r : ℕ) → GoesOn over c r n → (q : ℕ) → over c q ≡ true
  float_ever c r goes q =
      let far : ℕ = (q + (n - r % n)) % n in
      let round : (r + far) % n ≡ q % n = sym (mod-add-mod r n far) ∙ (add-mod-mod (r % n) (q + (n - r % n)) n ∙ (ap (λ (k : ℕ). k % n) (once (r % n) (mod-lt r p.some_places)) ∙ add-mod_right q n)) in
      sym (p.again_places c q) ∙ (ap (over c) (sym round) ∙ (p.again_places c (r + far) ∙ goes far (mod-lt (q + (n - r % n)) p.some_places)))
    where
      once : (s : ℕ) → s < n → s + (q + (n - s)) ≡ q + n
      once s h = omega arith

-- two drafts of one cloth: a float that ends is as long in both, and one that never ends is as long as each of them
module _ (over : ℕ → ℕ → Bool) (m n m' n' : ℕ) (p : ComesAgain over m n) (p' : ComesAgain over m' n') where
  pub float_ends : longest_float over m n < n → longest_float over m' n' ≡ longest_float over m n
  float_ends h =
      let w = float_where over m n p in
      let v = float_where over m' n' p' in
      elim (cases_lt n' (longest_float over m n)) [
        | inl k ↦
            let ever = float_ever over m' n' p' w.0 w.1 (λ i l. w.2 i (omega arith)) in
            let most = float_most over m n p w.0 0 n (omega arith) (λ i l. ever (0 + i)) in
            absurd (omega arith)
        | inr k ↦
            le_antisymm
            (elim (cases_lt (longest_float over m n) (longest_float over m' n')) [
              | inl l ↦
                  let most = float_most over m n p v.0 v.1 (suc (longest_float over m n)) (omega arith) (λ i j. v.2 i (omega arith)) in
                  absurd (omega arith)
              | inr l ↦ l
            ])
            (float_most over m' n' p' w.0 w.1 (longest_float over m n) k w.2)
      ]

  pub float_never_ends : longest_float over m n ≡ n → longest_float over m' n' ≡ n'
  float_never_ends e =
      let w = float_where over m n p in
      let ever = float_ever over m n p w.0 w.1 (λ i l. w.2 i (omega arith)) in
      le_antisymm (float_short over m' n' p') (float_most over m' n' p' w.0 0 n' (omega arith) (λ i l. ever (0 + i)))

-- only what is over counts
pub float_alike : (over over' : ℕ → ℕ → Bool) (m n : ℕ) → ((c r : ℕ) → over c r ≡ over' c r) → longest_float over m n ≡ longest_float over' m n
float_alike over over' m n h = ap (λ (f : ℕ → ℕ → Bool). longest_float f m n) (fun_ext (λ c. fun_ext (h c)))

-- a draft's cloth comes again after its ends and picks
pub ends_again : (d : Draft) (b : Bool) → 0 < long d.threading → 0 < long d.treadling → ComesAgain (end_over d b) (long d.threading) (long d.treadling)
ends_again d b hc hr =
    record {
      some_lines = hc;
      some_places = hr;
      again_lines = λ c r. rw (mod-mod c (long d.threading));
      again_places = λ c r. rw (mod-mod r (long d.treadling));
    }

pub picks_again : (d : Draft) (b : Bool) → 0 < long d.threading → 0 < long d.treadling → ComesAgain (pick_over d b) (long d.treadling) (long d.threading)
picks_again d b hc hr =
    record {
      some_lines = hr;
      some_places = hc;
      again_lines = λ r c. rw (mod-mod r (long d.treadling));
      again_places = λ r c. rw (mod-mod c (long d.threading));
    }

-- the largest of what g tells of the numbers in a list
unfoldable pub largest : (ℕ → ℕ) → List ℕ → ℕ
largest g [] = 0
largest g (x ∷ xs) = max (g x) (largest g xs)

pub largest_most : (g : ℕ → ℕ) (xs : List ℕ) (m : ℕ) → ((i : ℕ) → i < length xs → g (get_or xs i 0) ≤ m) → largest g xs ≤ m
unfolding largest
largest_most g [] m h = omega arith
largest_most g (x ∷ xs) m h = omega (arith, h 0 (omega arith), largest_most g xs m (λ i l. h (suc i) (omega arith)))

pub largest_at : (g : ℕ → ℕ) (xs : List ℕ) (i : ℕ) → i < length xs → g (get_or xs i 0) ≤ largest g xs
unfolding largest
largest_at g [] i h = absurd (omega arith)
largest_at g (x ∷ xs) zero h = omega arith
largest_at g (x ∷ xs) (suc i) h = omega (arith, largest_at g xs i (omega arith))

pub largest_among : (g : ℕ → ℕ) (xs : List ℕ) (x : ℕ) → among x xs ≡ true → g x ≤ largest g xs
largest_among g xs x e = let w = among_where x xs e in rw w.2 (largest_at g xs w.0 w.1)

-- how often a number comes, and in what order, is of no account
pub largest_fewer : (g : ℕ → ℕ) (xs ys : List ℕ) → ((x : ℕ) → among x xs ≡ true → among x ys ≡ true) → largest g xs ≤ largest g ys
largest_fewer g xs ys h = largest_most g xs (largest g ys) (λ i l. largest_among g ys (get_or xs i 0) (h (get_or xs i 0) (among_at xs i l)))

pub largest_reversed : (g : ℕ → ℕ) (xs : List ℕ) → largest g (reversed xs) ≡ largest g xs
largest_reversed g xs =
    le_antisymm
    (largest_fewer g (reversed xs) xs (λ x e. sym (among_reversed x xs) ∙ e))
    (largest_fewer g xs (reversed xs) (λ x e. among_reversed x xs ∙ e))

-- over the places of a list, and over the list
best_largest : (g : ℕ → ℕ) (xs : List ℕ) (n : ℕ) → n ≡ length xs → best (λ c. g (get_or xs (c % n) 0)) n ≡ largest g xs
best_largest g xs n e =
    best_alike (λ c. g (get_or xs (c % n) 0)) (λ c. g (get_or xs c 0)) n (λ c h. ap (λ (j : ℕ). g (get_or xs j 0)) (mod-eq_of_lt h))
    ∙ le_antisymm
    (best_most (λ c. g (get_or xs c 0)) n (largest g xs) (λ i h. largest_at g xs i (omega arith)))
    (largest_most g xs (best (λ c. g (get_or xs c 0)) n) (λ i h. best_least (λ c. g (get_or xs c 0)) n i (omega arith)))

-- the lines of one row along another
float_rows : (over : ℕ → ℕ → Bool) (r s : Row)
    → longest_float (λ c q. over (get_or (written r) (c % long r) 0) (get_or (written s) (q % long s) 0)) (long r) (long s) ≡ largest (λ x. longest_round (over x) (written s)) (written r)
unfolding longest_float
float_rows over r s =
    best_same
    (λ c. best (λ i. passes (λ q. over (get_or (written r) (c % long r) 0) (get_or (written s) (q % long s) 0)) i (long s)) (long s))
    (λ c. longest_round (over (get_or (written r) (c % long r) 0)) (written s))
    (long r)
    (λ c. best_round (over (get_or (written r) (c % long r) 0)) (written s) (long s) (sym (length_written s)))
    ∙ best_largest (λ x. longest_round (over x) (written s)) (written r) (long r) (sym (length_written r))

-- treadles that lift a shaft, or don't; shafts that a treadle doesn't lift, or does
abbrev pub shaft_over : Draft → Bool → ℕ → ℕ → Bool
shaft_over d b s t = pick b (lifts d.tied t s) (not (lifts d.tied t s))

abbrev pub treadle_over : Draft → Bool → ℕ → ℕ → Bool
treadle_over d b t s = pick b (not (lifts d.tied t s)) (lifts d.tied t s)

-- the longest float of ends is the longest run of the treadling, round its end, with treadles that lift a shaft, or don't, over all shafts that are threaded; that of picks likewise
pub ends_by_shafts : (d : Draft) (b : Bool) → longest_of_ends d b ≡ largest (λ s. longest_round (shaft_over d b s) (written d.treadling)) (written d.threading)
ends_by_shafts d b = ends_float d b ∙ float_rows (shaft_over d b) d.threading d.treadling

pub picks_by_treadles : (d : Draft) (b : Bool) → longest_of_picks d b ≡ largest (λ t. longest_round (treadle_over d b t) (written d.threading)) (written d.treadling)
picks_by_treadles d b = picks_float d b ∙ float_rows (treadle_over d b) d.treadling d.threading

-- the largest over the numbers below n that are used
pub largest_used : (g : ℕ → ℕ) (r : Row) (n : ℕ) → below n r ≡ true → best (λ x. pick (among x (written r)) (g x) 0) n ≡ largest g (written r)
largest_used g r n b =
    le_antisymm
    (best_most (λ x. pick (among x (written r)) (g x) 0) n (largest g (written r))
    (λ x l. elim (cases_Bool (among x (written r))) [ inl e ↦ rw e (largest_among g (written r) x e) | inr e ↦ rw e (omega arith) ]))
    (largest_most g (written r) (best (λ x. pick (among x (written r)) (g x) 0) n)
    (λ i l.
    let k : pick (among (get_or (written r) i 0) (written r)) (g (get_or (written r) i 0)) 0 ≤ best (λ x. pick (among x (written r)) (g x) 0) n =
    best_least (λ x. pick (among x (written r)) (g x) 0) n (get_or (written r) i 0) (written_below n r i b (rw (length_written r) at l)) in
    rw (among_at (written r) i l) at k))
