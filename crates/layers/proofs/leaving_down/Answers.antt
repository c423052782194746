use Rattle.std.proofs.Common.{Bool, not, ◌&&◌, length, sym, ◌∙◌, ap₂, inl, inr, arith}
use Rattle.std.proofs.lemmas.Bool.{cases_Bool, and_left, lt-ltb}
use Rattle.weave.specs.Rows.{written}
use Rattle.weave.specs.Cloth.{among, lifts}
use Rattle.weave.proofs.Cloth.{used_below}
use Rattle.sets.proofs.Members.{bit-bit_and, bit_without}
use Rattle.sets.proofs.Drafts.{uses_of, treadling_tied}
use Rattle.layers.proofs.leaving_down.Goals as goal

pub returns : goal.returns
returns c = λ d w t.
    let u = uses_of d c.args.used w in
    elim (cases_Bool (among t (written d.treadling))) [
      | inl e ↦
          let tied = used_below (length c.args.used.draft.ties.now) d.treadling t (treadling_tied d c.args.used.draft w) e in
          bit_without 64 c.args.used.treadles c.lifting.result t (omega arith) (omega (arith, w.few))
          ∙ ap₂ (λ (a b : Bool). a && not b) (u.treadles t) (c.lifting.ensures t ∙ rw (lt-ltb t (length c.args.used.draft.ties.now) tied) (w.tied t c.args.shaft tied c.requires))
      | inr e ↦ bit-bit_and c.args.used.treadles _ t ∙ and_left _ _ (u.treadles t ∙ e) ∙ sym (and_left _ (not (lifts d.tied t c.args.shaft)) e)
    ]
