use Rattle.std.proofs.Common.{ℕ, List, ◌++◌, length, drop, replicate, ap, ◌∙◌}
use Rattle.std.proofs.lemmas.List.{drop-replicate}
use Rattle.wire.proofs.padded.Goals as goal

pub returns : goal.returns
returns c =
    ap (λ (w : List ℕ). w ++ drop (length c.args.bytes.now) (replicate 128 0)) c.copy_from_slice.ensures.after
    ∙ ap (λ (w : List ℕ). c.args.bytes.now ++ w) (drop-replicate (length c.args.bytes.now) 128 0)
