use Rattle.std.proofs.Common.{rules, ℕ, ◌*◌, ◌%◌, ◌^◌, ◌<◌, ◌∙◌}
use lib.Bits.{bit_or}
use Rattle.std.proofs.lemmas.Iterator.{YieldsList-from_map}
use Rattle.std.proofs.lemmas.Iterator.Adapters.{YieldsList-from_rev_slice, serves_from_places}
use Rattle.std.proofs.lemmas.Iterator.Consumers.{fold_from_yields_List}
use Rattle.picks.proofs.Packed.{cell_bit, folded, in_reverse}
use Rattle.picks.proofs.byte.Goals as goal

pub fold-requires-clause-can : goal.fold-requires-clause-can
fold-requires-clause-can c =
    (tt, serves_from_places (YieldsList-from_rev_slice c.args.shafts.now cc) (λ x q k. search rules) (λ x k h e. let few : x.now < 64 = in_reverse 64 c.args.shafts.now c.requires.shafts x.now k h e in search rules))

pub returns : goal.returns
returns c =
    fold_from_yields_List _ (λ (a x : ℕ). bit_or (a * 2 ^ 1 % 2 ^ 8) x) 0 c.fold.result c.fold.ensures.ran
    (YieldsList-from_map _ (cell_bit c.args.lifted) {f = c.map.result.f} (YieldsList-from_rev_slice c.args.shafts.now cc) (cc) (λ x r q k. search rules))
    (λ a x b q k. search rules)
    ∙ folded c.args.lifted c.args.shafts.now c.requires.few
