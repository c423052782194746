use Rattle.std.proofs.Common.{◌≡◌, ◌/◌, ◌%◌, get_or, ap, ◌∙◌, ap₂, arith, rules}
use Rattle.std.proofs.lemmas.List.{take_rest}
use Rattle.weave.specs.Rows.{one, run}
use Rattle.rows.specs.Words.{row_of}
use Rattle.rows.proofs.Words.{left, first, is_one, is_run}
use Rattle.rows.proofs.Told.{opened_told, then_told, times_told, turned_told}
use Rattle.rows.proofs.lent_row.LentRow.outermost.Goals as goal

pub bounds-self-0 : goal.bounds-self-0
bounds-self-0 c = let o = opened_told _ c.args.self.begins in omega arith

pub bounds-self-1 : goal.bounds-self-1
bounds-self-1 c = let o = opened_told _ c.args.self.begins in search rules

pub slice_bounds-inner-count : goal.slice_bounds-inner-count
slice_bounds-inner-count c = let o = opened_told _ c.args.self.begins in search rules

pub slice_bounds-inner-start : goal.slice_bounds-inner-start
slice_bounds-inner-start c = let o = opened_told _ c.args.self.begins in search rules

pub slice_bounds-result-count : goal.slice_bounds-result-count
slice_bounds-result-count c = let o = opened_told _ c.args.self.begins in search rules

pub slice_bounds-result-start : goal.slice_bounds-result-start
slice_bounds-result-start c = let o = opened_told _ c.args.self.begins in search rules

pub invariant_of-result : goal.invariant_of-result
invariant_of-result c =
    let o = opened_told _ c.args.self.begins in
    record { begins = simp take_rest (then_told _ c.args.self.begins (omega arith)).1 }

pub invariant_of-result-in-1 : goal.invariant_of-result-in-1
invariant_of-result-in-1 c =
    let o = opened_told _ c.args.self.begins in
    let n : left (row_of 32 c.args.self.words.now) ≡ get_or c.args.self.words.now 0 0 % 4294967296 / 8 = omega arith in
    record { begins = simp (take_rest, ← n) (then_told _ c.args.self.begins (omega arith)).2 }

pub invariant_of-result-in-2 : goal.invariant_of-result-in-2
invariant_of-result-in-2 c =
    let o = opened_told _ c.args.self.begins in
    record { begins = simp take_rest (times_told _ c.args.self.begins (omega arith)).1 }

pub invariant_of-result-in-3 : goal.invariant_of-result-in-3
invariant_of-result-in-3 c =
    let o = opened_told _ c.args.self.begins in
    record { begins = simp take_rest (turned_told _ c.args.self.begins (omega arith)).1 }

pub returns-in-0 : goal.returns-in-0
returns-in-0 c =
    let o = opened_told _ c.args.self.begins in
    is_one _ (omega arith) ∙ ap one (omega arith)

pub returns-in-1 : goal.returns-in-1
returns-in-1 c =
    let o = opened_told _ c.args.self.begins in
    let n : left (row_of 32 c.args.self.words.now) ≡ get_or c.args.self.words.now 0 0 % 4294967296 / 8 = omega arith in
    simp (take_rest, ← n) (then_told _ c.args.self.begins (omega arith)).0

pub returns-in-2 : goal.returns-in-2
returns-in-2 c =
    let o = opened_told _ c.args.self.begins in
    let n : first (row_of 32 c.args.self.words.now) ≡ get_or c.args.self.words.now 1 0 % 4294967296 = omega arith in
    simp (take_rest, ← n) (times_told _ c.args.self.begins (omega arith)).0

pub returns-in-3 : goal.returns-in-3
returns-in-3 c =
    let o = opened_told _ c.args.self.begins in
    simp take_rest (turned_told _ c.args.self.begins (omega arith)).0

pub returns-in_default : goal.returns-in_default
returns-in_default c =
    let o = opened_told _ c.args.self.begins in
    is_run _ (omega arith) ∙ ap₂ run (omega arith) (omega arith)
