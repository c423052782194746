-- The bytes of a case are those of the call that it is.
use Rattle.std.proofs.Common.{◌≡◌, ℕ, List, ◌∷◌, refl, ap}
use Rattle.encoding.specs.Calls.{call_bytes}
use Rattle.wire.specs.declared.Call.{Call}
use Rattle.wire.specs.declared.Call.TheVariants.{Thread, Treadle, Tie, Back, Cell, Part, Floats, Fewest, Hangs}
use Rattle.wire.specs.Calls.{call_of, Holds, bytes_of}

pub meant : (c : Call) → Holds c → bytes_of c ≡ call_bytes (call_of c)
unfolding call_bytes
meant (Thread row) h = ap (λ (v : List ℕ). 0 ∷ v) h.0
meant (Treadle row) h = ap (λ (v : List ℕ). 1 ∷ v) h.0
meant (Tie t s) h = refl
meant Back h = refl
meant (Cell r c) h = refl
meant (Part r c n) h = refl
meant (Floats k) h = refl
meant Fewest h = refl
meant Hangs h = refl
