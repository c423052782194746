use Rattle.std.proofs.Common.{◌≡◌, ◌+◌, ◌*◌, List, ℕ, length, set, refl, ap, ◌∙◌, arith}
use Rattle.std.proofs.lemmas.List.{length-set, take_all}
use Rattle.encoding.specs.Numbers.{placed, fours}
use Rattle.encoding.proofs.Writing.{mid_placed, placed_none, placed_number, byte_part, length_fours}
use Rattle.wire.proofs.put_numbers.Goals as goal

pub loop-i-init : goal.loop-i-init
loop-i-init c = placed_none (set c.args.out.now 0 c.args.kind) 1

pub loop-i-preserved : goal.loop-i-preserved
loop-i-preserved c =
    let l = length-set c.args.out.now 0 c.args.kind in
    let lb : length c.u32_bytes.result ≡ 4 = ap length c.u32_bytes.ensures in
    placed_number (set c.args.out.now 0 c.args.kind) c.loop-i.out _ c.args.numbers.now c.u32_bytes.result 1 (1 + 4 * c.loop-i.i) c.loop-i.i (omega arith) c.loop-i-test.true
    c.loop-i.invariant refl c.u32_bytes.ensures (mid_placed (1 + 4 * c.loop-i.i) _ c.loop-i.out c.copy_from_slice.new.self c.u32_bytes.result c.copy_from_slice.ensures.after (omega arith))

pub returns-clause-bytes : goal.returns-clause-bytes
returns-clause-bytes c =
    let l = length_fours c.args.numbers.now in
    byte_part c.args.out.now c.args.kind (fours c.args.numbers.now) (omega arith) c.loop-i.out
    (c.loop-i.invariant ∙ ap (λ (v : List ℕ). placed (set c.args.out.now 0 c.args.kind) 1 (fours v)) (take_all c.loop-i.i c.args.numbers.now c.loop-i-test.false))
