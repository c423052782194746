use Rattle.std.proofs.Common.{◌≡◌, ℕ, ◌*◌, ◌%◌, ◌^◌, ◌<◌, Bool, not, ◌&&◌, eqb, length, get_or, ap, ◌∙◌, arith}
use lib.Bits.{bit_and}
use Rattle.std.proofs.lemmas.Bool.{eq-eqb, ne_eqb}
use Rattle.lent.specs.Bits.{bit}
use Rattle.sets.proofs.Members.{bit_without, bit_one}
use Rattle.tieup.proofs.Ties.{kept_on, kept_out}
use Rattle.lent.specs.Shows.{draft_in}
use Rattle.lent.proofs.Shown.{shown}
use Rattle.sets.proofs.Drafts.{uses_of, treadle_tied}
use Rattle.tieup.proofs.Drafts.{treadles_alike}
use Rattle.tieup.proofs.TreadlesLines.like.Goals as goal
use Rattle.tieup.proofs.TreadlesLines.like.Goals.{then-others-used, else-others-used}

pub bounds-used-treadle : goal.bounds-used-treadle
bounds-used-treadle c = let l = c.args.used.draft in treadle_tied (draft_in l) l (shown l) c.args.used (uses_of (draft_in l) c.args.used (shown l)) c.args.treadle (c.args.used.used.of_picks c.args.treadle ∙ c.requires)

pub loop-t-preserved : goal.loop-t-preserved
loop-t-preserved c = λ n h.
    let q : ℕ → Bool = λ k. eqb (bit_and (get_or c.args.used.draft.ties.now k 0) c.args.used.shafts) (bit_and (get_or c.args.used.draft.ties.now c.args.treadle 0) c.args.used.shafts) in
    let t : ℕ = c.loop-t.t in
    let few : t < 64 = omega (arith, c.args.used.draft.good.few) in
    elim c.if-others-used.branch [
      | then-others-used w ↦
          ap (λ (x : ℕ). bit x n) w.alike-is
          ∙ bit_without 64 c.loop-t.alike ((1 * 2 ^ t) % 2 ^ 64) n (omega arith) h
          ∙ ap (λ (b : Bool). bit c.loop-t.alike n && not b) (bit_one t n few)
          ∙ ap (λ (b : Bool). b && not (eqb n t)) (c.loop-t.invariant n h)
          ∙ kept_out (bit c.args.used.treadles n) q t n (ne_eqb _ _ w.if-others-used.true)
      | else-others-used w ↦
          ap (λ (x : ℕ). bit x n) w.alike-is ∙ c.loop-t.invariant n h ∙ kept_on (bit c.args.used.treadles n) q t n (eq-eqb _ _ w.if-others-used.false)
    ]

pub returns : goal.returns
returns c = λ d w n h.
    let e : c.loop-t.t ≡ length c.args.used.draft.ties.now = omega arith in
    (rw e at (c.loop-t.invariant n h)) ∙ treadles_alike d c.args.used.draft w c.args.used (uses_of d c.args.used w) c.args.treadle n (c.args.used.used.of_picks c.args.treadle ∙ c.requires)
