use Rattle.std.proofs.Common.{◌≡◌, ◌+◌, ◌-◌, ◌<◌, ◌++◌, length, drop, replicate, sym, ◌∙◌, arith, rules}
use Rattle.std.proofs.lemmas.List.{length-take, length-drop, length-append, get_or-replicate}
use Rattle.std.proofs.lemmas.Nat.{mod_below}
use Rattle.rows.specs.Rows.{row_in}
use Rattle.rows.specs.Along.{facing}
use Rattle.rows.proofs.Parts.{size_then, size_times, size_turned, long_then, long_turned, run_long}
use Rattle.rows.proofs.Told.{some_told}
use Rattle.rows.proofs.Along.{along_both, halves, first_round, length_mid, round_on}
use Rattle.rows.proofs.Facing.{long_facing, facing_one, along_run_back, along_then_back, along_times, along_turned}
use Rattle.rows.proofs.lent_row.LentRow.+across_along_around.Goals as goal

pub across-returns : goal.across-returns
across-returns t c =
    let n = c.length-n.ensures in
    let x : length c.along.new.out ≡ c.min-share.result = omega (arith, simp length-take at c.along.auto.out) in
    let y : length c.along-2.new.out ≡ length c.args.out.now - c.min-share.result = omega (arith, simp (length-take, length-drop, length-append) at c.along-2.auto.out) in
    rw (halves c.min-share.result c.along.new.out _ c.along-2.new.out x)
    (along_both (facing c.args.back (row_in c.args.self)) (facing c.args.back (row_in c.args.far)) c.length-n.result c.args.from c.along.new.out c.along-2.new.out
    (n ∙ sym (long_facing c.args.back (row_in c.args.self))) (omega arith) (rw c.min.ensures at c.along.ensures) (rw c.saturating_sub-2.ensures at c.along-2.ensures))

pub along-across-requires : goal.along-across-requires
along-across-requires t c =
    let s = rw (c.in-Then.ensures, size_then) at c.decreases in
    let l = rw (c.in-Then.ensures, long_then) at c.requires in
    (omega arith, omega arith)

pub along-across-requires-in-Then-2 : goal.along-across-requires-in-Then-2
along-across-requires-in-Then-2 t c =
    let s = rw (c.in-Then.ensures, size_then) at c.decreases in
    let l = rw (c.in-Then.ensures, long_then) at c.requires in
    (omega arith, omega arith)

pub along-around-requires : goal.along-around-requires
along-around-requires t c =
    let s = rw (c.in-Times.ensures, size_times) at c.decreases in
    (omega arith, tt)

pub along-along-requires : goal.along-along-requires
along-along-requires t c =
    let s = rw (c.in-Turned.ensures, size_turned) at c.decreases in
    let l = rw (c.in-Turned.ensures, long_turned) at c.requires in
    (omega arith, omega arith)

pub along-along_run-requires : goal.along-along_run-requires
along-along_run-requires t c =
    let l = rw c.in-Run.ensures at c.requires in
    omega (arith, run_long c.in-Run.a c.in-Run.b, run_long c.in-Run.b c.in-Run.a)

pub along-returns-in-One : goal.along-returns-in-One
along-returns-in-One t c = λ k h.
    let e : c.fill.new.self ≡ replicate (length c.args.out.now) c.in-One.n = c.fill.ensures.after (λ y p. p) in
    rw (e, c.in-One.ensures) (get_or-replicate (length c.args.out.now) k c.in-One.n 0 (omega arith) ∙ sym (facing_one c.args.back _ (c.args.from + k)))

pub along-returns-in-Then : goal.along-returns-in-Then
along-returns-in-Then t c =
    let l = rw c.in-Then.ensures at c.requires in
    rw c.in-Then.ensures (along_then_back c.args.back _ _ _ _ c.if-back.true (omega (arith, c.across.auto.out)) c.across.ensures)

pub along-returns-in-Times : goal.along-returns-in-Times
along-returns-in-Times t c =
    let l = rw c.in-Times.ensures at c.requires in
    rw c.in-Times.ensures (along_times c.args.back _ _ _ _ (some_told _ c.in-Times.inner.begins) (omega (arith, c.around.auto.out)) c.around.ensures)

pub along-returns-in-Turned : goal.along-returns-in-Turned
along-returns-in-Turned t c =
    let l = rw c.in-Turned.ensures at c.requires in
    rw c.in-Turned.ensures (along_turned c.args.back _ _ _ (omega (arith, c.along.auto.out)) c.along.ensures)

pub along-returns-in-Run : goal.along-returns-in-Run
along-returns-in-Run t c =
    let l = rw c.in-Run.ensures at c.requires in
    rw c.in-Run.ensures (along_run_back c.args.back _ _ _ _ c.if-back-2.true (omega (arith, c.along_run.auto.out)) c.along_run.ensures)

pub around-nonzero_rem-at : goal.around-nonzero_rem-at
around-nonzero_rem-at t c = omega (arith, c.length-n.ensures, some_told _ c.args.self.begins)

pub around-overflow_sub-n : goal.around-overflow_sub-n
around-overflow_sub-n t c =
    let s : 0 < c.length-n.result = omega (arith, c.length-n.ensures, some_told _ c.args.self.begins) in
    omega (arith, mod_below c.args.from c.length-n.result s)

pub around-along-requires : goal.around-along-requires
around-along-requires t c =
    let s : 0 < c.length-n.result = omega (arith, c.length-n.ensures, some_told _ c.args.self.begins) in
    let m = mod_below c.args.from c.length-n.result s in
    (omega arith, simp length-take (omega (arith, c.length-n.ensures)))

pub around-copy_rounds-requires : goal.around-copy_rounds-requires
around-copy_rounds-requires t c =
    let s : 0 < c.length-n.result = omega (arith, c.length-n.ensures, some_told _ c.args.self.begins) in
    let x : length c.along.new.out ≡ c.min-to_end.result = omega (arith, simp length-take at c.along.auto.out) in
    let y : length c.along-2.new.out ≡ c.min-round.result - c.min-to_end.result = omega (arith, simp (length-take, length-drop, length-append) at c.along-2.auto.out) in
    let z = length_mid c.min-to_end.result (c.min-round.result - c.min-to_end.result) (c.along.new.out ++ drop c.min-to_end.result c.args.out.now) c.along-2.new.out
    (simp (length-append, length-drop) (omega arith)) y in
    (let w = simp (length-append, length-drop) at z in let e : 0 < length c.args.out.now = search rules in (omega arith, omega arith))

pub around-returns : goal.around-returns
around-returns t c =
    let s : 0 < c.length-n.result = omega (arith, c.length-n.ensures, some_told _ c.args.self.begins) in
    let f : c.length-n.result ≡ _ = c.length-n.ensures ∙ sym (long_facing c.args.back (row_in c.args.self)) in
    let x : length c.along.new.out ≡ c.min-to_end.result = omega (arith, simp length-take at c.along.auto.out) in
    let y : c.min-to_end.result + length c.along-2.new.out ≡ c.min-round.result = omega (arith, simp (length-take, length-drop, length-append) at c.along-2.auto.out) in
    let z = length_mid c.min-to_end.result (c.min-round.result - c.min-to_end.result) (c.along.new.out ++ drop c.min-to_end.result c.args.out.now) c.along-2.new.out
    (simp (length-append, length-drop) (omega arith)) (omega arith) in
    let w = simp (length-append, length-drop) at z in
    round_on (facing c.args.back (row_in c.args.self)) c.length-n.result c.min-round.result c.args.from _ c.copy_rounds.new.out f (omega arith) s c.copy_rounds.ensures.long
    (first_round (facing c.args.back (row_in c.args.self)) c.length-n.result c.args.from c.min-to_end.result c.min-round.result _ c.along.new.out _ c.along-2.new.out
    f (omega arith) (omega arith) x y c.along.ensures c.along-2.ensures)
    c.copy_rounds.ensures.copied
