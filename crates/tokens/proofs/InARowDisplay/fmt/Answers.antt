use Rattle.std.proofs.Common.{◌++◌, get_or, arith, rules}
use Rattle.std.proofs.Output.{has_written_append, has_written_of_eq}
use Rattle.tokens.specs.declared.Token.TheVariants.{Number}
use Rattle.tokens.specs.Tokens.{token_text, gap, tokens_text}
use Rattle.tokens.proofs.Spelling.{text_more, text_end}
use Rattle.tokens.proofs.InARowDisplay.fmt.Goals as goal

pub loop-token-preserved : goal.loop-token-preserved
loop-token-preserved g c = λ p.
    let h = c.loop-token.invariant p in
    let t = c.loop-token.before in
    let u = get_or c.args.self.now.0.now c.loop-token.token-index (Number 0) in (
      h.0 ++ (gap t u ++ token_text u),
      has_written_append _ _ _ _ _ _ h.1 (search rules),
      text_more t c.args.self.now.0.now c.loop-token.token-index _ h.0 (omega arith) h.2,
    )

pub returns-clause-writes : goal.returns-clause-writes
unfolding tokens_text
returns-clause-writes g c = λ p ok. let h = c.loop-token.invariant p in has_written_of_eq _ _ _ _ _ (text_end c.loop-token.before c.args.self.now.0.now c.loop-token.token-index _ h.0 (omega arith) h.2) h.1
