use Rattle.std.proofs.Common.{◌≡◌, ℕ, ◌+◌, ◌-◌, ap, ◌∙◌, arith}
use Rattle.layering.specs.Needs.{at_once}
use Rattle.layers.proofs.place_needs.Goals as goal

pub returns-else-place-lt-SHAFTS : goal.returns-else-place-lt-SHAFTS
returns-else-place-lt-SHAFTS c = λ d w j.
    let e : 64 + (c.args.place - 64) ≡ c.args.place = omega arith in
    c.treadle_needs.ensures d w j ∙ ap (λ (i : ℕ). at_once d i j) e
