use Rattle.std.proofs.Common.{refl, ◌∙◌, arith}
use Rattle.encoding.specs.Numbers.{eight}
use Rattle.encoding.proofs.Writing.{mid_placed, byte_parts}
use Rattle.wire.proofs.put_over.Goals as goal

pub returns-clause-bytes : goal.returns-clause-bytes
returns-clause-bytes c =
    byte_parts c.args.out.now 5 (eight c.args.shafts) (omega (arith, c.told-out)) _ _ (eight c.args.treadles) 9
    (mid_placed 1 8 _ c.copy_from_slice.new.self (eight c.args.shafts) (c.copy_from_slice.ensures.after ∙ c.u64_bytes.ensures) refl) refl
    (mid_placed 9 8 _ c.copy_from_slice-2.new.self (eight c.args.treadles) (c.copy_from_slice-2.ensures.after ∙ c.u64_bytes-2.ensures) refl)
