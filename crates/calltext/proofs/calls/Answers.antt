use Rattle.std.proofs.Common.{ℕ, List, map, get_or, vec_items}
use Rattle.weave.specs.Calls.{cell, part, floats}
use Rattle.encoding.specs.Calls.{call_bytes}
use Rattle.calltext.specs.Lines.{numbers_of, says}
use Rattle.calltext.proofs.Saying.{row_said, none_said, numbers_returned, bytes_one, bytes_two, bytes_three}
use Rattle.calltext.proofs.calls.Goals as goal

pub returns-in-Thread : goal.returns-in-Thread
returns-in-Thread c = row_said c.row_call.result (λ v. map vec_items (vec_items v)) c.args.kind c.args.tokens.now c.in-Thread.is c.row_call.ensures

pub returns-in-Tie : goal.returns-in-Tie
unfolding says
returns-in-Tie c = rw c.in-Tie.is c.tie_calls.ensures

pub returns-in-Back : goal.returns-in-Back
returns-in-Back c = none_said c.number_call.result (λ v. map vec_items (vec_items v)) c.args.kind c.args.tokens.now c.in-Back.is c.number_call.ensures

pub returns-in-Floats : goal.returns-in-Floats
unfolding says call_bytes
returns-in-Floats c = rw c.in-Floats.is (numbers_returned (λ (ns : List ℕ). floats (get_or ns 0 0)) 6 1 (bytes_one 6) c.number_call-in-Floats.result (λ v. map vec_items (vec_items v)) (numbers_of c.args.tokens.now) (rw c.in-Floats.is at c.number_call-in-Floats.ensures))

pub returns-in-Cell : goal.returns-in-Cell
unfolding says call_bytes
returns-in-Cell c = rw c.in-Cell.is (numbers_returned (λ (ns : List ℕ). cell (get_or ns 0 0) (get_or ns 1 0)) 4 2 (bytes_two 4) c.number_call-in-Cell.result (λ v. map vec_items (vec_items v)) (numbers_of c.args.tokens.now) (rw c.in-Cell.is at c.number_call-in-Cell.ensures))

pub returns-in-Part : goal.returns-in-Part
unfolding says call_bytes
returns-in-Part c = rw c.in-Part.is (numbers_returned (λ (ns : List ℕ). part (get_or ns 0 0) (get_or ns 1 0) (get_or ns 2 0)) 5 3 (bytes_three 5) c.number_call-in-Part.result (λ v. map vec_items (vec_items v)) (numbers_of c.args.tokens.now) (rw c.in-Part.is at c.number_call-in-Part.ensures))
