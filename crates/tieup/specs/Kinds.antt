-- Being alike sorts the shafts and the treadles of a draft into kinds.
use Rattle.std.specs.Prelude.{ℕ, ◌<◌, Bool, List, length, refl}
use Rattle.std.proofs.Common.{get_or, sym, subst}
use mathlib.Core.Path.{fun_ext}
use Rattle.weave.specs.Rows.{written}
use Rattle.weave.specs.Cloth.{Draft, among, lifts, same_on, same_by, shafts_needed, treadles_needed}
use Rattle.weave.proofs.Cloth.{used_below}
use Rattle.weave.proofs.Differ.{Kinds, alike_kinds, same_by_alike, same_on_alike, different_kinds}
use Rattle.weave.proofs.Rows.{length_written, written_below}
use Rattle.lent.specs.Shows.{Shows}
use Rattle.lent.specs.declared.Lent.{Lent}
use Rattle.sets.proofs.Drafts.{threading_below, treadling_below}
use Rattle.tieup.specs.Alike.{alike_shafts, alike_treadles, Sorted}

-- both tests of the definitions sort into kinds
pub same_by_kinds : (ts : List (List Bool)) (us : List ℕ) → Kinds (same_by ts us)
same_by_kinds ts us = subst Kinds (sym (fun_ext (λ a. fun_ext (λ b. same_by_alike ts us a b)))) (alike_kinds (λ t s. lifts ts t s) us)

pub same_on_kinds : (ts : List (List Bool)) (us : List ℕ) → Kinds (same_on ts us)
same_on_kinds ts us = subst Kinds (sym (fun_ext (λ a. fun_ext (λ b. same_on_alike ts us a b)))) (alike_kinds (λ s t. lifts ts t s) us)

module _ (d : Draft) (l : Lent) (shows : Shows d l) where
  pub shafts_few : (i : ℕ) → i < length (written d.threading) → get_or (written d.threading) i 0 < 64
  shafts_few i h = written_below 64 d.threading i (threading_below d l shows) (rw (length_written d.threading) at h)

  pub treadles_few : (i : ℕ) → i < length (written d.treadling) → get_or (written d.treadling) i 0 < 64
  treadles_few i h = written_below 64 d.treadling i (treadling_below d l shows) (rw (length_written d.treadling) at h)

-- being alike sorts the used shafts into as many kinds as are needed, and the used treadles
pub shafts_sorted : (d : Draft) (l : Lent) → Shows d l → Sorted (λ n. among n (written d.threading)) (alike_shafts d) (shafts_needed d)
shafts_sorted d l shows =
    let kinds = same_by_kinds d.tied (written d.treadling) in
    record {
      same = same_by d.tied (written d.treadling);
      kinds = kinds;
      alike_is = λ x n. refl;
      few = λ n. used_below 64 d.threading n (threading_below d l shows);
      counted = different_kinds (same_by d.tied (written d.treadling)) kinds 64 (written d.threading) (shafts_few d l shows);
    }

pub treadles_sorted : (d : Draft) (l : Lent) → Shows d l → Sorted (λ n. among n (written d.treadling)) (alike_treadles d) (treadles_needed d)
treadles_sorted d l shows =
    let kinds = same_on_kinds d.tied (written d.threading) in
    record {
      same = same_on d.tied (written d.threading);
      kinds = kinds;
      alike_is = λ x n. refl;
      few = λ n. used_below 64 d.treadling n (treadling_below d l shows);
      counted = different_kinds (same_on d.tied (written d.threading)) kinds 64 (written d.treadling) (treadles_few d l shows);
    }
