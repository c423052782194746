use Rattle.std.proofs.Common.{◌++◌, drop, replicate, refl, ap, ◌∙◌, arith}
use Rattle.std.proofs.lemmas.List.{drop-replicate}
use Rattle.weave.specs.Rows.{one, size}
use Rattle.encoding.specs.Rows.{row_bytes}
use Rattle.rows.specs.Words.{row_words}
use Rattle.desks.proofs.Opens.{small_one}
use Rattle.drafts.proofs.write_new_row.Goals as goal

pub store_row-requires : goal.store_row-requires
unfolding row_bytes size
store_row-requires c = (one 0, refl, small_one, omega (arith, c.fill.ensures.len, c.requires))

pub returns : goal.returns
unfolding row_bytes size
returns c =
    c.store_row.ensures.words (one 0) refl small_one
    ∙ ap (λ x. row_words (one 0) ++ drop 2 x) (c.fill.ensures.after (λ y e. e) ∙ ap (λ n. replicate n 0) c.requires)
    ∙ ap (λ x. row_words (one 0) ++ x) (drop-replicate 2 575 0)
