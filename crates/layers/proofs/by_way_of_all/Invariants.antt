use Rattle.std.proofs.Common.{◌≡◌, ℕ, true}
use Rattle.lent.specs.Bits.{bit}
use Rattle.layering.proofs.Ways.{Ways}
use Rattle.layers.specs.Told.{in_row}
use Rattle.layers.proofs.by_way_of_all.Given as goal

-- found is what is needed by way of those from `way` on
abbrev pub invariant-loop-way : goal.invariant-loop-way
invariant-loop-way l = Ways (bit l.used) (in_row l.initial.sets) 128 l.way (in_row l.sets) × ((i : ℕ) → bit l.used i ≡ true → in_row l.sets i i ≡ true)
