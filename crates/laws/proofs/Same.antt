-- Only the cloth counts: drafts that weave the same are told the same; so a draft written several times over, and one with a tie that is never used. Assumes nothing.
use Rattle.std.proofs.Common.{◌≡◌, ℕ, zero, suc, ◌+◌, ◌*◌, ◌%◌, ◌<◌, ◌≤◌, Bool, true, false, length, get_or, sym, ◌∙◌, subst, inl, inr, mod-lt, le_antisymm, mul-pos, arith}
use mathlib.Core.Path.{fun_ext}
use native.Mathlib.Nat.{mod-mod_of_dvd, dvd-mul_left}
use Rattle.std.proofs.lemmas.Bool.{both_ways}
use Rattle.weave.specs.Rows.{Row, below, times, written, long}
use Rattle.weave.specs.Cloth.{Draft, Some, LieOver, warp_over, shaft_of, treadle_of, among, longest_of_ends, longest_of_picks, shafts_needed, treadles_needed}
use Rattle.weave.specs.Calls.{longest}
use Rattle.weave.specs.Promise.{SameCloth, FewestShafts}
use Rattle.weave.proofs.Rows.{length_written, get_or_again, bound, below_bound, below_more}
use Rattle.weave.proofs.Cloth.{used_at, lifts_other}
use Rattle.weave.proofs.Floats.{ComesAgain, longest_float, end_over, pick_over, ends_float, picks_float, ends_again, picks_again, float_ends, float_never_ends, float_alike}
use Rattle.laws.specs.Laws.{AsLongFloat, OnlyCloth, repeated, WrittenOver, retied, UnusedTie}
use Rattle.laws.proofs.Fewest.{fewest_shafts}

same_back : (d e : Draft) → 0 < long d.threading → 0 < long d.treadling → SameCloth d e → SameCloth e d
same_back d e hc hr same = (hc, hr, λ r c. sym (same.2 r c))

-- one cloth, counted along the lines of one draft and of another
float_too : (over over' : ℕ → ℕ → Bool) (m n m' n' x y : ℕ) → ((c r : ℕ) → over c r ≡ over' c r) → ComesAgain over m n → ComesAgain over' m' n'
    → x ≡ longest_float over m n → y ≡ longest_float over' m' n' → AsLongFloat x n y n'
float_too over over' m n m' n' x y same p p' ex ey =
    let q : ComesAgain over m' n' = subst (λ (f : ℕ → ℕ → Bool). ComesAgain f m' n') (fun_ext (λ c. fun_ext (λ r. sym (same c r)))) p' in
    let e : y ≡ longest_float over m' n' = ey ∙ sym (float_alike over over' m' n' same) in (
      λ h. e ∙ (float_ends over m n m' n' p q (rw ex at h) ∙ sym ex),
      λ h. e ∙ float_never_ends over m n m' n' p q (sym ex ∙ h),
    )

lies_too : (d e : Draft) → SameCloth d e → (s : Some) → LieOver e s → LieOver d s
unfolding LieOver
lies_too d e same s o = (λ r c p q. same.2 r c ∙ o.0 r c p q, λ r c p q. same.2 r c ∙ o.1 r c p q, o.2, o.3)

-- a number that both rows of a draft are below
rows_below : (d : Draft) → (n : ℕ) × (below n d.threading ≡ true) × (below n d.treadling ≡ true)
rows_below d =
    let n : ℕ = bound d.threading + bound d.treadling in
    let one_row : (r : Row) → bound r ≤ n → below n r ≡ true = λ r h. below_more (bound r) n r h (below_bound r) in
    (n, one_row d.threading (omega arith), one_row d.treadling (omega arith))

-- who weaves the cloth of e with just as many shafts and treadles as that needs weaves the cloth of d
needs_no_more : (d e : Draft) → 0 < long d.threading → 0 < long d.treadling → SameCloth d e → (shafts_needed d ≤ shafts_needed e) × (treadles_needed d ≤ treadles_needed e)
unfolding FewestShafts
needs_no_more d e hc hr same =
    let m = rows_below d in
    let n = rows_below e in
    let few = (fewest_shafts e n.0 n.1 n.2 same.0 same.1).1 in
    let woven = few.1 in
    let both : SameCloth d few.0 = (woven.0, woven.1, λ r c. same.2 r c ∙ woven.2 r c) in
    let no_fewer = (fewest_shafts d m.0 m.1 m.2 hc hr).0 few.0 n.0 few.4 few.5 both in
    (rw few.2 at no_fewer.0, rw few.3 at no_fewer.1)

module _ (d e : Draft) (hc : 0 < long d.threading) (hr : 0 < long d.treadling) (same : SameCloth d e) where
  ends_too : (face : Bool) → AsLongFloat (longest_of_ends d face) (long d.treadling) (longest_of_ends e face) (long e.treadling)
  ends_too face =
      float_too (end_over d face) (end_over e face) (long d.threading) (long d.treadling) (long e.threading) (long e.treadling)
      (longest_of_ends d face) (longest_of_ends e face)
      (λ c r. rw (same.2 r c))
      (ends_again d face hc hr) (ends_again e face same.0 same.1)
      (ends_float d face) (ends_float e face)

  picks_too : (face : Bool) → AsLongFloat (longest_of_picks d face) (long d.threading) (longest_of_picks e face) (long e.threading)
  picks_too face =
      float_too (pick_over d face) (pick_over e face) (long d.treadling) (long d.threading) (long e.treadling) (long e.threading)
      (longest_of_picks d face) (longest_of_picks e face)
      (λ r c. rw (same.2 r c))
      (picks_again d face hc hr) (picks_again e face same.0 same.1)
      (picks_float d face) (picks_float e face)

pub only_cloth : OnlyCloth
only_cloth d e hc hr same =
    let back = same_back d e hc hr same in
    let there = needs_no_more d e hc hr same in
    let again = needs_no_more e d same.0 same.1 back in
    record {
      ends_alike = ends_too d e hc hr same;
      picks_alike = picks_too d e hc hr same;
      shafts_alike = le_antisymm again.0 there.0;
      treadles_alike = le_antisymm again.1 there.1;
      hangs_too = λ hangs s o. hangs s (lies_too d e same s o);
      hung_too = λ hangs s o. hangs s (lies_too e d back s o);
    }

-- a row written several times over has the same threads
times_thread : (m : ℕ) (r : Row) → 0 < m → 0 < long r → (i : ℕ) → get_or (written r) (i % long r) 0 ≡ get_or (written (times m r)) (i % long (times m r)) 0
unfolding written long
times_thread m r hm hr i =
    let inside : i % (m * long r) < m * length (written r) = rw (length_written r) (mod-lt i (mul-pos hm hr)) in
    sym (get_or_again m (written r) (i % (m * long r)) inside ∙ rw (length_written r, mod-mod_of_dvd (long r) i (dvd-mul_left (long r) m)))

times_long : (m : ℕ) (r : Row) → 0 < m → 0 < long r → 0 < long (times m r)
unfolding long
times_long m r hm hr = mul-pos hm hr

pub written_over : WrittenOver
written_over d m n hm hn hc hr =
    only_cloth d (repeated m n d) hc hr
    (times_long m d.threading hm hc, times_long n d.treadling hn hr, λ r c. rw (times_thread m d.threading hm hc c, times_thread n d.treadling hn hr r))

longest_too : (d e : Draft) → ((face : Bool) → longest_of_ends e face ≡ longest_of_ends d face) → ((face : Bool) → longest_of_picks e face ≡ longest_of_picks d face) → (kind : ℕ) → longest e kind ≡ longest d kind
unfolding longest
longest_too d e ends picks zero = ends true
longest_too d e ends picks (suc zero) = ends false
longest_too d e ends picks (suc (suc zero)) = picks true
longest_too d e ends picks (suc (suc (suc k))) = picks false

pub unused_tie : UnusedTie
unused_tie d t s hc hr unused =
    let e : Draft = retied t s d in
    let same : (r c : ℕ) → warp_over e r c ≡ warp_over d r c =
    λ r c.
    lifts_other d.tied t s (treadle_of d r) (shaft_of d c)
    (λ p q.
    elim unused [
      | inl never ↦ both_ways (among t (written d.treadling)) never (rw p at (used_at d.treadling r hr))
      | inr never ↦ both_ways (among s (written d.threading)) never (rw q at (used_at d.threading c hc))
    ]) in
    let told = only_cloth d e hc hr (hc, hr, λ r c. sym (same r c)) in (
      same,
      longest_too d e
          (λ face. ends_float e face ∙ (float_alike (end_over e face) (end_over d face) (long d.threading) (long d.treadling) (λ c r. rw (same r c)) ∙ sym (ends_float d face)))
          (λ face. picks_float e face ∙ (float_alike (pick_over e face) (pick_over d face) (long d.treadling) (long d.threading) (λ r c. rw (same r c)) ∙ sym (picks_float d face))),
      told.shafts_alike,
      told.treadles_alike,
      told.hangs_too,
      told.hung_too,
    )
