-- How a call is read.
use Rattle.std.proofs.Common.{◌≡◌, ℕ, suc, ◌+◌, ◌-◌, ◌≤◌, List, [], ◌∷◌, length, take, sym, ap, ◌∙◌, subst, arith}
use Rattle.weave.specs.Rows.{Row}
use Rattle.weave.specs.Calls.{Call}
use Rattle.encoding.specs.Numbers.{Bytes}
use Rattle.encoding.specs.Rows.{Read, got, bad, row_in, row_read, row_of, Skip, past, stop, skip_of, HoldsRow}
use Rattle.encoding.specs.Calls.{First, begins, misfit, with_row, call_in, first_in, first_call, whole, reads}
use Rattle.encoding.proofs.Rows.{Within, row_within, Skipped, row_skipped}

pub first_cons : (k : ℕ) (bs cs : List ℕ) → bs ≡ k ∷ cs → first_call bs ≡ call_in row_read k cs
unfolding first_in
first_cons k bs cs e = rw e

-- a call with a row that was skipped, or was not
row_begins : (f : Row → Call) (m : ℕ) (ps cs : List ℕ) (x : Read) → Skipped ps cs x → with_row f m x ≡ begins (f (row_of (row_read ps))) cs
unfolding with_row
row_begins f m ps cs (got r k es) s = ap (λ (v : Row). begins (f v) es) s.0 ∙ ap (begins (f (row_of (row_read ps)))) s.1
row_begins f m ps cs (bad p) s = absurd s

row_misfit : (f : Row → Call) (m p : ℕ) (x : Read) → stop p ≡ skip_of x → with_row f m x ≡ misfit (suc (m - p))
unfolding with_row
row_misfit f m p (got r k bs) e = let z : ◌≡◌ {A = ℕ} 0 1 = cc in absurd (omega arith)
row_misfit f m p (bad q) e = let z : p ≡ q = cc in rw z

module _ (bs : List ℕ) where
  pub row_all : (ps : List ℕ) (n : ℕ) (cs : List ℕ) → Bytes bs → past n cs ≡ skip_of (row_in 255 1024 bs) → ps ≡ take (length bs - length cs) bs →
      ((f : Row → Call) → with_row f (length bs) (row_read bs) ≡ begins (f (row_of (row_read ps))) cs) × HoldsRow ps
  row_all ps n cs h e ep = let s = row_skipped bs ps n cs h e ep in (λ f. row_begins f (length bs) ps cs (row_read bs) s.0, s.1)

  pub row_bad : (p : ℕ) → stop p ≡ skip_of (row_in 255 1024 bs) → (f : Row → Call) → with_row f (length bs) (row_read bs) ≡ misfit (suc (length bs - p))
  unfolding row_read
  row_bad p e f = row_misfit f (length bs) p (row_in 255 1024 bs) e

  -- the bytes of a row are among the first 9,216
  pub row_far : (n : ℕ) (cs : List ℕ) → past n cs ≡ skip_of (row_in 255 1024 bs) → length cs ≤ length bs
  row_far n cs e = let w : Within 1024 (length bs) (past n cs) = subst (λ (z : Skip). Within 1024 (length bs) z) (sym e) (row_within 255 1024 bs) in w.1

  pub row_near : (p : ℕ) → stop p ≡ skip_of (row_in 255 1024 bs) → (p ≤ length bs) × (length bs ≤ p + 9216)
  row_near p e = let w : Within 1024 (length bs) (stop p) = subst (λ (z : Skip). Within 1024 (length bs) z) (sym e) (row_within 255 1024 bs) in (w.0, omega arith)

-- a call with nothing left over
whole_of : (m : ℕ) (x : First) (c : Call) (rest : List ℕ) → x ≡ begins c rest → length rest ≡ 0 → whole m x ≡ c
unfolding whole
whole_of m (begins e []) c rest q l = cc
whole_of m (begins e (b ∷ bs)) c rest q l = let z : rest ≡ b ∷ bs = cc in let y = ap length z in absurd (omega arith)
whole_of m (misfit p) c rest q l = let z : ◌≡◌ {A = ℕ} 0 1 = cc in absurd (omega arith)

pub reads_all : (bs : List ℕ) (c : Call) (rest : List ℕ) → first_call bs ≡ begins c rest → length rest ≡ 0 → reads bs ≡ c
reads_all bs c rest e l = whole_of (length bs) (first_call bs) c rest e l
