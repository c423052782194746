-- Threads that lie over all others: shafts and treadles are enough to find them, and an end that floats for ever is some. Assumes nothing.
use Rattle.std.proofs.Common.{true, false, not, eqb, refl, inl, inr}
use Rattle.std.proofs.lemmas.Bool.{eqb-true, eq-eqb, not-false, not_from_true, false≢true, true≢false}
use Rattle.weave.specs.Cloth.{LieOver}
use Rattle.weave.specs.Promise.{ByShafts, FloatsOff}
use Rattle.weave.proofs.Rows.{long_some}
use Rattle.weave.proofs.Sound.{sound_reached, good_below, good_some}
use Rattle.weave.proofs.Layers.{hangs_or_apart}
use Rattle.laws.specs.Laws.{ByUsedShafts}

pub by_used_shafts : ByUsedShafts
by_used_shafts l d s good at o =
    let g = (sound_reached l d good at).now_good in
    elim
    (hangs_or_apart l.shafts l.treadles d.now
    (long_some d.now.threading (good_some l.shafts d.now.threading g.threading_good))
    (long_some d.now.treadling (good_some l.treadles d.now.treadling g.treadling_good))
    (good_below l.shafts d.now.threading g.threading_good)
    (good_below l.treadles d.now.treadling g.treadling_good))
    [ inl hangs ↦ absurd (hangs s o) | inr apart ↦ apart ]

pub by_shafts_do : ByShafts
unfolding ByShafts
by_shafts_do l d s good at o = let w = by_used_shafts l d s good at o in (w.0, w.1, w.2, w.3, w.4)

-- the end alone, or all but the end
pub floats_off : FloatsOff
unfolding FloatsOff LieOver
floats_off d c true hc hr h = (
  record { ends = λ e. eqb e c; picks = λ r. false },
  (
    λ r e p q. rw (eqb-true e c p) (h r),
    λ r e p q. absurd (false≢true q),
    inl (c, eq-eqb c c refl),
    inr (0, refl),
  ),
)
floats_off d c false hc hr h = (
  record { ends = λ e. not (eqb e c); picks = λ r. true },
  (
    λ r e p q. absurd (true≢false q),
    λ r e p q. rw (eqb-true e c (not-false (eqb e c) p)) (h r),
    inr (0, refl),
    inl (c, not_from_true (eqb c c) (eq-eqb c c refl)),
  ),
)
