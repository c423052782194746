-- What is told of a draft's layers: that cloth hangs together, or which shafts and treadles are topmost. Assumes nothing: these are definitions.
use Rattle.std.specs.Prelude.{ℕ, zero, suc, ◌+◌, Bool, ◌&&◌, map, Some, None, Option, nat_lt}
use Rattle.std.specs.List.{range_with_len}
use Rattle.weave.specs.Rows.{pick}
use Rattle.weave.specs.Cloth.{Draft}
use Rattle.weave.specs.Calls.{Answer, together, over_all}
use Rattle.weave.proofs.Layers.{is_used}
use Rattle.layering.specs.Needs.{needed, how_many, how_many_used}

-- of the numbers below n that pass the first of the smallest, if any passes
abbrev pub or_smaller : (ℕ → Bool) → (ℕ → ℕ) → Option ℕ → ℕ → Option ℕ
or_smaller passes size None n = pick (passes n) (Some n) None
or_smaller passes size (Some x) n = pick (passes n && nat_lt (size n) (size x)) (Some n) (Some x)

unfoldable pub smallest : (ℕ → Bool) → (ℕ → ℕ) → ℕ → Option ℕ
smallest passes size zero = None
smallest passes size (suc n) = or_smaller passes size (smallest passes size n) n

-- whether something is used, and what it needs lacks something that is
abbrev pub lacking : Draft → ℕ → Bool
lacking d x = is_used d 64 x && nat_lt (how_many d x) (how_many_used d)

-- what needs the topmost: of those that lack something the first that needs the fewest
unfoldable pub topmost_of : Draft → Option ℕ
topmost_of d = smallest (lacking d) (how_many d) 128

-- what it needs, of m shafts and n treadles; and what is told of a draft
abbrev pub layer_of : ℕ → ℕ → Draft → Option ℕ → Answer
layer_of m n d None = together
layer_of m n d (Some x) = over_all (map (needed d x) (range_with_len 0 m)) (map (λ t. needed d x (64 + t)) (range_with_len 0 n))

unfoldable pub layers_told : ℕ → ℕ → Draft → Answer
layers_told m n d = layer_of m n d (topmost_of d)
