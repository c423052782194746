-- Sets of shafts and treadles in one line, as bits: what each place of the line needs at once. Assumes nothing.
use Rattle.std.proofs.Common.{◌≡◌, ℕ, ◌+◌, ◌-◌, ◌*◌, ◌%◌, ◌^◌, ◌<◌, ◌≤◌, Bool, true, false, not, ◌&&◌, ◌||◌, eqb, ltb, List, length, get_or, set, replicate, sym, ap, ◌∙◌, ap₂, inl, inr, arith, lit≤}
use mathlib.Core.Bool.{or-false}
use lib.Bits.{bit_and, bit_or}
use Rattle.std.proofs.lemmas.Nat.{shl_whole}
use Rattle.std.proofs.lemmas.List.{get_or_past, get_or-set_same, get_or-set_other, get_or-replicate, length-replicate}
use Rattle.std.proofs.lemmas.Bool.{cases_Bool, cases_eq, cases_lt, and_left, eq-eqb, ne_eqb, lt-ltb, le-ltb}
use Rattle.weave.specs.Rows.{pick, written, below}
use Rattle.weave.specs.Cloth.{Draft, lifts, among}
use Rattle.weave.proofs.Cloth.{used_below}
use Rattle.weave.proofs.Layers.{needs, is_used, treadle_needs, used_shaft, used_treadle}
use Rattle.lent.specs.Bits.{bit}
use Rattle.lent.proofs.Bits.{bit_past}
use Rattle.sets.proofs.Members.{bit_none, bit-bit_and, bit-bit_or, bit_shl, bit_under}
use Rattle.layering.specs.Needs.{at_once}

-- the shafts, and the treadles behind them
pub bit_line : (a b : ℕ) → a < 2 ^ 64 → b < 2 ^ 64 → (j : ℕ) → bit (bit_or (b * 2 ^ 64 % 2 ^ 128) a) j ≡ pick (ltb j 64) (bit a j) (bit b (j - 64))
bit_line a b ha hb j =
    bit-bit_or (b * 2 ^ 64 % 2 ^ 128) a j
    ∙ (ap (λ (x : ℕ). bit x j || bit a j) (shl_whole b 64 64 128 hb (lit≤ tt))
    ∙ elim (cases_lt j 64) [
      | inl h ↦ ap (λ (t : Bool). t || bit a j) (bit_under b 64 j h) ∙ rw (lt-ltb j 64 h)
      | inr h ↦
          let e : j ≡ 64 + (j - 64) = omega arith in
          ap₂ ◌||◌ (ap (bit (b * 2 ^ 64)) e ∙ bit_shl b 64 (j - 64)) (bit_past 64 a j ha h) ∙ (or-false (bit b (j - 64)) ∙ rw (le-ltb j 64 h))
    ])

-- what isn't used needs nothing
pub unused_row : (d : Draft) (i j : ℕ) → is_used d 64 i ≡ false → bit 0 j ≡ at_once d i j
unused_row d i j e = bit_none j ∙ sym (and_left (is_used d 64 i) (eqb j i || needs d 64 i j) e)

-- behind the treadles that are tied none is used
pub untied : (d : Draft) (n i : ℕ) → below n d.treadling ≡ true → 64 + n ≤ i → is_used d 64 i ≡ false
untied d n i br h =
    let e : i ≡ 64 + (i - 64) = omega arith in
    elim (cases_Bool (among (i - 64) (written d.treadling))) [
      | inl u ↦ absurd (let k = used_below n d.treadling (i - 64) br u in omega arith)
      | inr u ↦ ap (is_used d 64) e ∙ (used_treadle d 64 (i - 64) ∙ u)
    ]

-- in a draft whose ties are words
module _ (d : Draft) (ties : List ℕ) (br : below (length ties) d.treadling ≡ true)
    (tied : (t s : ℕ) → t < length ties → s < 64 → bit (get_or ties t 0) s ≡ lifts d.tied t s)
    (us ut : ℕ) (shafts : (s : ℕ) → bit us s ≡ among s (written d.threading)) (treadles : (t : ℕ) → bit ut t ≡ among t (written d.treadling)) where
  pub shaft_row : (s x one down : ℕ) → s < 64 → bit us s ≡ true → ((j : ℕ) → bit one j ≡ eqb j s)
      → ((t : ℕ) → bit down t ≡ (among t (written d.treadling) && not (lifts d.tied t s)))
      → ((j : ℕ) → bit x j ≡ pick (ltb j 64) (bit one j) (bit down (j - 64)))
      → (j : ℕ) → bit x j ≡ at_once d s j
  unfolding needs
  shaft_row s x one down small used itself leaving is j =
      is j
      ∙ elim (cases_lt j 64) [
        | inl h ↦ rw (lt-ltb j 64 h, used_shaft d 64 s small ∙ (sym (shafts s) ∙ used), lt-ltb s 64 small) (itself j ∙ sym (or-false (eqb j s)))
        | inr h ↦
            rw (le-ltb j 64 h, used_shaft d 64 s small ∙ (sym (shafts s) ∙ used), lt-ltb s 64 small, ne_eqb j s (λ e. omega arith))
            (leaving (j - 64) ∙ rw (sym (shafts s) ∙ used))
      ]

  pub treadle_row : (t x one : ℕ) → t < length ties → bit ut t ≡ true → ((j : ℕ) → bit one j ≡ eqb j t)
      → ((j : ℕ) → bit x j ≡ pick (ltb j 64) (bit (bit_and us (get_or ties t 0)) j) (bit one (j - 64)))
      → (j : ℕ) → bit x j ≡ at_once d (64 + t) j
  unfolding needs
  treadle_row t x one small used itself is j =
      let there : ltb (64 + t) 64 ≡ false = le-ltb (64 + t) 64 (omega arith) in
      let back : 64 + t - 64 ≡ t = omega arith in
      is j
      ∙ elim (cases_lt j 64) [
        | inl h ↦
            rw (lt-ltb j 64 h, used_treadle d 64 t ∙ (sym (treadles t) ∙ used), there, ne_eqb j (64 + t) (λ e. omega arith), back)
            (bit-bit_and us (get_or ties t 0) j ∙ (ap₂ ◌&&◌ (shafts j) (tied t j small h) ∙ row j))
        | inr h ↦
            rw (le-ltb j 64 h, used_treadle d 64 t ∙ (sym (treadles t) ∙ used), there) (itself (j - 64) ∙ (place h ∙ sym (or-false (eqb j (64 + t)))))
      ]
    where
      row : (j : ℕ) → (among j (written d.threading) && lifts d.tied t j) ≡ treadle_needs d t j
      row j = elim (cases_Bool (among j (written d.threading))) [ inl e ↦ rw (e, sym (treadles t) ∙ used) | inr e ↦ rw e ]

      place : 64 ≤ j → eqb (j - 64) t ≡ eqb j (64 + t)
      place h = elim (cases_eq j (64 + t)) [ inl e ↦ eq-eqb (j - 64) t (omega arith) ∙ sym (eq-eqb j (64 + t) e) | inr e ↦ ne_eqb (j - 64) t (λ q. e (omega arith)) ∙ sym (ne_eqb j (64 + t) e) ]

-- rows of sets that are filled one by one, those behind as they were
pub record Filled (at : ℕ → ℕ → Bool) (old sets : List ℕ) (k : ℕ) : Type 0 where
  pub before : (i j : ℕ) → i < k → bit (get_or sets i 0) j ≡ at i j
  pub behind : (i : ℕ) → k ≤ i → get_or sets i 0 ≡ get_or old i 0

module _ (at : ℕ → ℕ → Bool) (old : List ℕ) where
  pub filled_none : (sets : List ℕ) → ((i : ℕ) → get_or sets i 0 ≡ get_or old i 0) → Filled at old sets 0
  filled_none sets same = record { before = λ i j l. absurd (omega arith); behind = λ i l. same i }

  pub filled_more : (sets : List ℕ) (k x : ℕ) → k < length sets → Filled at old sets k → ((j : ℕ) → bit x j ≡ at k j) → Filled at old (set sets k x) (k + 1)
  filled_more sets k x h filled is =
      record {
        before = λ i j l.
            elim (cases_eq i k) [
              | inl e ↦ rw e (ap (λ (y : ℕ). bit y j) (get_or-set_same sets k x 0 h) ∙ is j)
              | inr e ↦ ap (λ (y : ℕ). bit y j) (get_or-set_other sets k i x 0 e) ∙ filled.before i j (omega arith)
            ];
        behind = λ i l. get_or-set_other sets k i x 0 (λ e. omega arith) ∙ filled.behind i (omega arith);
      }

  -- where the row was so already
  pub filled_passed : (sets : List ℕ) (k : ℕ) → Filled at old sets k → ((j : ℕ) → bit (get_or sets k 0) j ≡ at k j) → Filled at old sets (k + 1)
  filled_passed sets k filled is =
      record {
        before = λ i j l. elim (cases_eq i k) [ inl e ↦ rw e (is j) | inr e ↦ filled.before i j (omega arith) ];
        behind = λ i l. filled.behind i (omega arith);
      }

  pub filled_all : (sets : List ℕ) (k : ℕ) → Filled at old sets k → ((i j : ℕ) → k ≤ i → bit (get_or old i 0) j ≡ at i j) → (i j : ℕ) → bit (get_or sets i 0) j ≡ at i j
  filled_all sets k filled rest i j =
      elim (cases_lt i k) [
        | inl h ↦ filled.before i j h
        | inr h ↦ ap (λ (y : ℕ). bit y j) (filled.behind i h) ∙ rest i j h
      ]

pub zeros : (n i : ℕ) → get_or {A = ℕ} (replicate n 0) i 0 ≡ 0
zeros n i =
    elim (cases_lt i n) [
      | inl h ↦ get_or-replicate {A = ℕ} n i 0 0 h
      | inr h ↦ get_or_past {X = ℕ} (replicate n 0) i 0 (rw (length-replicate {A = ℕ} n 0) h)
    ]

-- what has a place takes what that place has
abbrev pub joined : List ℕ → ℕ → ℕ → ℕ → Bool
joined sets way i j = bit (get_or sets i 0) j || (bit (get_or sets i 0) way && bit (get_or sets way 0) j)

module _ (old sets : List ℕ) (way k : ℕ) (filled : Filled (joined old way) old sets k) where
  pub join_taken : bit (get_or sets k 0) way ≡ true → (j : ℕ) → bit (bit_or (get_or sets k 0) (get_or old way 0)) j ≡ joined old way k j
  join_taken has j =
      bit-bit_or (get_or sets k 0) (get_or old way 0) j
      ∙ ap₂ (λ (x : ℕ) (t : Bool). bit x j || (t && bit (get_or old way 0) j)) (filled.behind k (omega arith)) (sym has ∙ ap (λ (x : ℕ). bit x way) (filled.behind k (omega arith)))

  pub join_passed : bit (get_or sets k 0) way ≡ false → (j : ℕ) → bit (get_or sets k 0) j ≡ joined old way k j
  join_passed has j =
      sym (or-false (bit (get_or sets k 0) j))
      ∙ ap₂ (λ (x : ℕ) (t : Bool). bit x j || (t && bit (get_or old way 0) j)) (filled.behind k (omega arith)) (sym has ∙ ap (λ (x : ℕ). bit x way) (filled.behind k (omega arith)))

pub join_past : (old : List ℕ) (way i j : ℕ) → length old ≤ i → bit (get_or old i 0) j ≡ joined old way i j
join_past old way i j h = rw (get_or_past old i 0 h, bit_none j, bit_none way)
