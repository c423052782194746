use Rattle.std.proofs.Common.{◌≡◌, ℕ, eqb, sym, ◌∙◌, arith}
use Rattle.std.proofs.lemmas.List.Elements.{contains_decides}
use Rattle.weave.specs.Rows.{written}
use Rattle.weave.specs.Cloth.{Draft, among}
use Rattle.weave.proofs.Runs.{longest_round}
use Rattle.weave.proofs.Floats.{largest_used}
use Rattle.lent.specs.Bits.{bit}
use Rattle.lent.specs.Shows.{draft_in}
use Rattle.lent.proofs.Shown.{shown}
use Rattle.sets.proofs.Members.{bit_none}
use Rattle.runs.proofs.Bits.{round_none}
use Rattle.floats.specs.Kinds.{lines_of, crossed_of, goes_on}
use Rattle.floats.proofs.Drafts.{set_round, kind_largest, float_round, line_placed, lines_below, crossed_below}
use Rattle.floats.proofs.Best.{best_first, best_passed, best_again, best_taken, best_told}
use Rattle.floats.proofs.longest_float.Goals as goal
use Rattle.floats.proofs.longest_float.Goals.{then-has+then-not-contains, then-has+else-not-contains, else-has}
use Rattle.std.proofs.lemmas.Bool.Decides.{Decides-eqb}

pub used-used_lines-requires : goal.used-used_lines-requires
used-used_lines-requires c =
    let d : Draft = draft_in c.args.draft in
    rw (c.rows_of.ensures d (shown c.args.draft)).0 (lines_below d c.args.draft (shown c.args.draft) c.args.kind)

pub used-numbers-requires : goal.used-numbers-requires
used-numbers-requires c =
    let d : Draft = draft_in c.args.draft in
    rw (c.rows_of.ensures d (shown c.args.draft)).1 (crossed_below d c.args.draft (shown c.args.draft) c.args.kind)

pub longest_round-length-requires : goal.longest_round-length-requires
longest_round-length-requires c =
    let d : Draft = draft_in c.args.draft in
    rw (c.rows_of.ensures d (shown c.args.draft)).1 (crossed_below d c.args.draft (shown c.args.draft) c.args.kind)

pub going_on-set-requires : goal.going_on-set-requires
going_on-set-requires c =
    sym (rw (c.rows_of.ensures (draft_in c.args.draft) (shown c.args.draft)).0 at (c.used-used_lines.ensures c.loop-line.line)) ∙ (sym c.has.ensures ∙ c.if-has.true)

pub loop-line-init : goal.loop-line-init
loop-line-init c = λ d w. best_first (round_none (bit 0) (written (crossed_of d c.args.kind)) bit_none)

pub loop-line-preserved : goal.loop-line-preserved
loop-line-preserved c = λ d w.
    let used : c.has.result ≡ among c.loop-line.line (written (lines_of d c.args.kind)) =
    c.has.ensures ∙ rw (c.rows_of.ensures d w).0 at (c.used-used_lines.ensures c.loop-line.line) in
    let crossed = (c.rows_of.ensures d w).1 in
    let numbers : (n : ℕ) → bit c.used-numbers.result n ≡ among n (written (crossed_of d c.args.kind)) = λ n. rw crossed at (c.used-numbers.ensures n) in
    let round = set_round d c.args.kind c.loop-line.line c.used-numbers.result in
    elim c.if-has.branch [
      | then-has+then-not-contains v ↦
          let same = round v.going_on-set.result numbers (v.going_on-set.ensures d w) in
          let e = (rw crossed at v.longest_round-length.ensures) ∙ sym same in
          rw (v.seen-is, v.most-is) (best_taken (c.loop-line.invariant d w) (sym used ∙ v.if-has.true) same (rw e at v.longer-most.ensures))
      | then-has+else-not-contains v ↦
          let same = round v.going_on-set.result numbers (v.going_on-set.ensures d w) in
          let found = contains_decides eqb Decides-eqb c.loop-line.seen v.going_on-set.result v.contains.result v.contains.ensures.cases in
          rw (v.seen-is, v.most-is) (best_again (c.loop-line.invariant d w) (sym used ∙ v.if-has.true) same (found.0 v.if-not-contains.false))
      | else-has v ↦ rw (v.seen-is, v.most-is) (best_passed (c.loop-line.invariant d w) (sym used ∙ v.if-has.false))
    ]

pub returns : goal.returns
returns c = λ d w.
    let g : ℕ → ℕ = λ x. longest_round (goes_on d c.args.kind x) (written (crossed_of d c.args.kind)) in
    let e : c.loop-line.line ≡ 64 = omega arith in
    let so_far = c.loop-line.invariant d w in
    best_told d c.args.kind c.loop-line.most ((rw e at so_far.longest) ∙ largest_used g (lines_of d c.args.kind) 64 (lines_below d c.args.draft w c.args.kind) ∙ sym (kind_largest d c.args.kind))
    (λ f is. (so_far.of f is).0)
    (λ f is.
    let o = so_far.of f is in
    let place = line_placed d c.args.kind f.of o.1 in
    (place.0, place.1, float_round d c.args.kind place.0 ∙ rw place.1 o.2))
