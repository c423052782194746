use Rattle.std.proofs.Common.{inl, inr}
use Rattle.lent.proofs.Shown.{shown_threading, shown_treadling}
use Rattle.floats.proofs.rows_of.Goals as goal

pub returns-in-EndsOnFace : goal.returns-in-EndsOnFace
returns-in-EndsOnFace c = λ d w.
    let p = shown_threading d c.args.draft w in
    let q = shown_treadling d c.args.draft w in
    elim c.in-EndsOnFace.is [ inl e ↦ rw e (p, q) | inr e ↦ rw e (p, q) ]

pub returns-in-PicksOnFace : goal.returns-in-PicksOnFace
returns-in-PicksOnFace c = λ d w.
    let p = shown_threading d c.args.draft w in
    let q = shown_treadling d c.args.draft w in
    elim c.in-PicksOnFace.is [ inl e ↦ rw e (q, p) | inr e ↦ rw e (q, p) ]
