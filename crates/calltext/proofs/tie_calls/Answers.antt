use Rattle.std.proofs.Common.{◌≡◌, get_or, ◌∙◌, arith, rules}
use Rattle.std.proofs.lemmas.List.{take_rest}
use Rattle.tokens.specs.declared.Token.TheVariants.{Number, Colon}
use Rattle.calltext.proofs.Saying.{returned, are_same, tie_short, tie_is, no_treadle, no_colon}
use Rattle.calltext.proofs.tie_calls.Goals as goal
use Rattle.calltext.proofs.tie_calls.Goals.{in_default-via-then-tokens-lt2, in_default-via-else-tokens-lt2+in-Number+in-Number-tokens-offset12, in_default-via-else-tokens-lt2+in-Run-1}

pub returns-in-Number : goal.returns-in-Number
returns-in-Number c =
    let first : get_or c.args.tokens.now 0 (Number 0) ≡ Number c.in-Number.treadle = search rules in
    let second : get_or c.args.tokens.now 1 (Number 0) ≡ Colon = search rules in
    let e = tie_is c.args.tokens.now c.in-Number.treadle (search rules) first second in
    returned c.each_tie.result _ _ _ _ (λ v h. are_same e h) (λ h. e ∙ h) (rw (take_rest c.args.tokens.now 2) at c.each_tie.ensures)

pub returns-in_default : goal.returns-in_default
returns-in_default c =
    elim c.in_default.branch [
      | in_default-via-then-tokens-lt2 w ↦ tie_short c.args.tokens.now (search rules)
      | in_default-via-else-tokens-lt2+in-Number+in-Number-tokens-offset12 w ↦ no_colon c.args.tokens.now (search rules) (λ e. grind arith)
      | in_default-via-else-tokens-lt2+in-Run-1 w ↦ no_treadle c.args.tokens.now (search rules) (λ n e. grind arith)
    ]
