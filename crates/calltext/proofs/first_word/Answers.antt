use Rattle.std.proofs.Common.{◌≡◌, ◌+◌, ◌++◌, get_or, drop, sym, ap, ◌∙◌, arith}
use Rattle.std.proofs.lemmas.List.{drop_more}
use Rattle.std.proofs.lemmas.Slice.Eq.{strip_prefix_is}
use Rattle.encoding.specs.declared.kinds.CallKind.TheVariants.{Thread}
use Rattle.calltext.specs.Lines.{words, word_in}
use Rattle.calltext.proofs.Words.{word_here, word_not, word_none}
use Rattle.calltext.proofs.first_word.Goals as goal
use Rattle.std.proofs.lemmas.Bool.Decides.{Decides-eqb}

pub returns-in-Some : goal.returns-in-Some
returns-in-Some c =
    let h = rw c.in-Some.is at (strip_prefix_is Decides-eqb c.args.text.now c.spelling.result.now c.strip_prefix.result c.strip_prefix.ensures.cases) in
    sym (c.loop-kind.invariant ∙ (ap (λ ws. word_in ws c.args.text.now) (drop_more words c.loop-kind.kind-index Thread (omega arith))
    ∙ word_here (get_or words c.loop-kind.kind-index Thread) (drop (c.loop-kind.kind-index + 1) words) c.args.text.now c.in-Some.rest.now (h ∙ ap (λ p. p ++ c.in-Some.rest.now) c.spelling.ensures)))

pub loop-kind-preserved : goal.loop-kind-preserved
loop-kind-preserved c =
    let h = rw c.in_default.is at (strip_prefix_is Decides-eqb c.args.text.now c.spelling.result.now c.strip_prefix.result c.strip_prefix.ensures.cases) in
    c.loop-kind.invariant ∙ (ap (λ ws. word_in ws c.args.text.now) (drop_more words c.loop-kind.kind-index Thread (omega arith))
    ∙ word_not (get_or words c.loop-kind.kind-index Thread) (drop (c.loop-kind.kind-index + 1) words) c.args.text.now (λ rest e. h rest (e ∙ ap (λ p. p ++ rest) (sym c.spelling.ensures))))

pub returns : goal.returns
returns c =
    let e : c.loop-kind.kind-index ≡ 9 = omega arith in
    sym (c.loop-kind.invariant ∙ rw e (word_none c.args.text.now))
