use Rattle.std.proofs.Common.{◌≡◌, ◌<◌, false, get_or, length, vec_items}
use Rattle.tokens.specs.Tokens.{is_blank}
use Rattle.tokens.proofs.Cutting.{SoFar}
use Rattle.tokens.proofs.read_tokens.Given as goal

abbrev pub invariant-loop-left : goal.invariant-loop-left
invariant-loop-left l = record {
  so_far : SoFar l.text (vec_items l.found) l.left;
  word : 0 < length l.left → is_blank (get_or l.left 0 0) ≡ false;
}

abbrev pub decreases-loop-left : goal.decreases-loop-left
decreases-loop-left l = length l.left
