use Rattle.std.proofs.Common.{◌≡◌, ◌++◌, map, drop, vec_items}
use Rattle.console.specs.Console.{after_calls, calls_text}
use Rattle.console.proofs.Desk.answer_calls.Given as goal

abbrev pub invariant-loop-bytes : goal.invariant-loop-bytes
invariant-loop-bytes l =
    (l.self.memory.ghost_name ≡ l.initial.self.memory.ghost_name)
    × (after_calls l.initial.self.memory.now (map vec_items l.calls) ≡ after_calls l.self.memory.now (map vec_items (drop l.bytes-index l.calls)))
    × (l.initial.text.items ++ calls_text l.initial.self.memory.now l.line (map vec_items l.calls) ≡ l.text.items ++ calls_text l.self.memory.now l.line (map vec_items (drop l.bytes-index l.calls)))
