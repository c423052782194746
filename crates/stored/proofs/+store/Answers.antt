use Rattle.std.proofs.Common.{◌-◌, ◌*◌, ◌≤◌, length, take, drop, arith, rules}
use Rattle.std.proofs.lemmas.List.{take_rest, length-drop}
use Rattle.weave.specs.Rows.{size}
use Rattle.rows.proofs.Parts.{small_then, small_times, small_turned, deep_some, deep_then, deep_times, deep_turned, run_long, size_some, size_then, size_times, size_turned}
use Rattle.stored.proofs.Stores.{stores_one, stores_then, stores_times, stores_turned, stores_run, stores_room, stores_length, put_room, then_small, times_small, turned_small}
use Rattle.stored.proofs.Sources.{has_source, one_top, then_top, times_top, turned_top, run_top}
use Rattle.stored.proofs.+store.Goals as goal

pub unwrap-requires : goal.unwrap-requires
unwrap-requires t c = has_source _ _ _ _ c.requires.2 c.outermost.ensures

pub store-requires : goal.store-requires
store-requires t c =
    let h = then_top _ c.in-Then.inner.now _ _ c.requires.2 (rw c.in-Then.ensures at c.outermost.ensures) in
    let d = rw h.2 at c.requires.4 in
    let w = rw (h.2, size_then) at c.requires.5 in
    (omega (arith, deep_some c.requires.0), (h.0, _, h.3, (small_then h.0 h.1 (rw h.2 at c.requires.3)).0, omega (arith, d, deep_then h.0 h.1), simp (take_rest, length-drop) (omega (arith, w))))

pub overflow_mul-used : goal.overflow_mul-used
overflow_mul-used t c =
    let h = then_top _ c.in-Then.inner.now _ _ c.requires.2 (rw c.in-Then.ensures at c.outermost.ensures) in
    omega (arith, (c.store.ensures h.0 _ h.3).0.parts, (then_small h.0 h.1 (rw h.2 at c.requires.3)).0)

pub offset_bounds-room-used : goal.offset_bounds-room-used
offset_bounds-room-used t c =
    let h = then_top _ c.in-Then.inner.now _ _ c.requires.2 (rw c.in-Then.ensures at c.outermost.ensures) in
    omega (arith, (c.store.ensures h.0 _ h.3).0.parts, (then_small h.0 h.1 (rw h.2 at c.requires.3)).0)

pub slice_bounds-store-count : goal.slice_bounds-store-count
slice_bounds-store-count t c =
    let h = then_top _ c.in-Then.inner.now _ _ c.requires.2 (rw c.in-Then.ensures at c.outermost.ensures) in
    let s = (c.store.ensures h.0 _ h.3).0 in
    omega (arith, s.parts, stores_room _ _ _ _ s)

pub slice_bounds-store-start : goal.slice_bounds-store-start
slice_bounds-store-start t c =
    let h = then_top _ c.in-Then.inner.now _ _ c.requires.2 (rw c.in-Then.ensures at c.outermost.ensures) in
    let s = (c.store.ensures h.0 _ h.3).0 in
    let p = s.parts in
    let k = stores_room _ _ _ _ s in
    search rules

pub store-requires-in-Then : goal.store-requires-in-Then
store-requires-in-Then t c =
    let h = then_top _ c.in-Then.inner.now _ _ c.requires.2 (rw c.in-Then.ensures at c.outermost.ensures) in
    let e = c.store.ensures h.0 _ h.3 in
    let d = rw h.2 at c.requires.4 in
    let w = rw (h.2, size_then) at c.requires.5 in
    let f : 2 * size h.0 ≤ length (take (length c.args.words.now - 2) (drop 2 c.args.words.now)) = simp (take_rest, length-drop) (omega (arith, w)) in
    let l = simp (take_rest, length-drop) at (stores_length _ _ _ _ e.0 f) in
    (omega (arith, deep_some c.requires.0), (h.1, c.requires.1, record { fields = h.4; is = e.1 }, (small_then h.0 h.1 (rw h.2 at c.requires.3)).1, omega (arith, d, deep_then h.0 h.1), simp (take_rest, length-drop) (omega (arith, w, l, e.0.parts))))

pub put_then-requires : goal.put_then-requires
put_then-requires t c =
    let h = then_top _ c.in-Then.inner.now _ _ c.requires.2 (rw c.in-Then.ensures at c.outermost.ensures) in
    let e = c.store.ensures h.0 _ h.3 in
    let u = (c.store-in-Then.ensures h.1 c.requires.1 (record { fields = h.4; is = e.1 })).0 in
    let m = then_small h.0 h.1 (rw h.2 at c.requires.3) in
    (put_room 2 c.args.words.now _ (omega (arith, size_some c.requires.0)), (omega (arith, m.0, e.0.parts, u.parts), omega (arith, m.1, e.0.numbers, u.numbers)))

pub store-requires-in-Times : goal.store-requires-in-Times
store-requires-in-Times t c =
    let h = times_top _ c.in-Times.inner.now _ _ c.requires.2 _ (rw c.in-Times.ensures at c.outermost.ensures) in
    let d = rw (h.1, deep_times) at c.requires.4 in
    let w = rw (h.1, size_times) at c.requires.5 in
    (omega (arith, deep_some c.requires.0), (h.0, c.requires.1, h.2, small_times _ h.0 (rw h.1 at c.requires.3), omega (arith, d), simp (take_rest, length-drop) (omega (arith, w))))

pub put_times-requires : goal.put_times-requires
put_times-requires t c =
    let h = times_top _ c.in-Times.inner.now _ _ c.requires.2 _ (rw c.in-Times.ensures at c.outermost.ensures) in
    let s = (c.store-in-Times.ensures h.0 c.requires.1 h.2).0 in
    let m = times_small _ h.0 (rw h.1 at c.requires.3) in
    (put_room 2 c.args.words.now _ (omega (arith, size_some c.requires.0)), (omega (arith, m.0, s.parts), rw s.numbers m.1))

pub store-requires-in-Turned : goal.store-requires-in-Turned
store-requires-in-Turned t c =
    let h = turned_top _ c.in-Turned.inner.now _ _ c.requires.2 (rw c.in-Turned.ensures at c.outermost.ensures) in
    let d = rw (h.1, deep_turned) at c.requires.4 in
    let w = rw (h.1, size_turned) at c.requires.5 in
    (omega (arith, deep_some c.requires.0), (h.0, c.requires.1, h.2, small_turned h.0 (rw h.1 at c.requires.3), omega (arith, d), simp (take_rest, length-drop) (omega (arith, w))))

pub put_turned-requires : goal.put_turned-requires
put_turned-requires t c =
    let h = turned_top _ c.in-Turned.inner.now _ _ c.requires.2 (rw c.in-Turned.ensures at c.outermost.ensures) in
    let s = (c.store-in-Turned.ensures h.0 c.requires.1 h.2).0 in
    let m = turned_small h.0 (rw h.1 at c.requires.3) in
    (put_room 2 c.args.words.now _ (omega (arith, size_some c.requires.0)), omega (arith, m, s.parts))

pub overflow_add-numbers : goal.overflow_add-numbers
overflow_add-numbers t c =
    let h = run_top _ c.in-Run.rest.now _ _ c.requires.2 _ _ (rw c.in-Run.ensures at c.outermost.ensures) in
    let l = rw h.0 at c.requires.3.short in
    omega (arith, l, run_long c.in-Run.a c.in-Run.b)

pub returns-in-One : goal.returns-in-One
returns-in-One t c = λ r rest b.
    let h = one_top _ c.in-One.rest.now r rest b _ (rw c.in-One.ensures at c.outermost.ensures) in
    (rw h.0 (stores_one _ _ _ c.put_part.ensures), h.1)

pub returns-in-Then : goal.returns-in-Then
returns-in-Then t c = λ r rest b.
    let h = then_top _ c.in-Then.inner.now r rest b (rw c.in-Then.ensures at c.outermost.ensures) in
    let e = c.store.ensures h.0 _ h.3 in
    let u = c.store-in-Then.ensures h.1 rest (record { fields = h.4; is = e.1 }) in (
      rw h.2
          (stores_then h.0 h.1 _ _ _ c.args.words.now _ _ _ _ (omega (arith, size_some c.requires.0)) (take_rest c.args.words.now 2) e.0 c.put_then.ensures.extent
          (rw (take_rest, e.0.parts) at u.0) c.put_then.ensures.words),
      u.1,
    )

pub returns-in-Times : goal.returns-in-Times
returns-in-Times t c = λ r rest b.
    let h = times_top _ c.in-Times.inner.now r rest b _ (rw c.in-Times.ensures at c.outermost.ensures) in
    let e = c.store-in-Times.ensures h.0 rest h.2 in
    (rw h.1 (stores_times _ h.0 _ _ c.args.words.now _ _ _ (omega (arith, size_some c.requires.0)) (take_rest c.args.words.now 2) e.0 c.put_times.ensures.extent c.put_times.ensures.words), e.1)

pub returns-in-Turned : goal.returns-in-Turned
returns-in-Turned t c = λ r rest b.
    let h = turned_top _ c.in-Turned.inner.now r rest b (rw c.in-Turned.ensures at c.outermost.ensures) in
    let e = c.store-in-Turned.ensures h.0 rest h.2 in
    (rw h.1 (stores_turned h.0 _ _ c.args.words.now _ _ _ (omega (arith, size_some c.requires.0)) (take_rest c.args.words.now 2) e.0 c.put_turned.ensures.extent c.put_turned.ensures.words), e.1)

pub returns-in-Run : goal.returns-in-Run
returns-in-Run t c = λ r rest b.
    let h = run_top _ c.in-Run.rest.now r rest b _ _ (rw c.in-Run.ensures at c.outermost.ensures) in
    (rw h.0 (stores_run _ _ _ _ _ (omega (arith, c.abs_diff-numbers.ensures, run_long c.in-Run.a c.in-Run.b)) c.put_part-in-Run.ensures), h.1)
