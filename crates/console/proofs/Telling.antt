-- Answers as they are told of a line.
use Rattle.std.proofs.Common.{◌≡◌, ℕ, List, replicate, sym, refl, ap, ◌∙◌}
use Rattle.weave.specs.Calls.{refused}
use Rattle.weave.specs.Calls as weave
use Rattle.encoding.specs.Numbers.{placed}
use Rattle.encoding.specs.Answers.{answers, no_answer, first_answer}
use Rattle.wire.specs.declared.Refusal.{Refusal}
use Rattle.wire.specs.declared.Refusal.TheVariants.{Unreadable, NotThere, LimitsOutOfRange, TooLittleMemory, NothingToUndo}
use Rattle.wire.specs.declared.Answer.{Answer}
use Rattle.wire.specs.declared.Answer.TheVariants.{Refused, Number, Two, Cells, Together, Over}
use Rattle.wire.specs.Answers.{answer_of}
use Rattle.session.specs.Session.{says}
use Rattle.console.specs.Console.{told_at, told, told_of}

pub no_refusal : (line : ℕ) (a : Answer) → ((r : Refusal) → a ≡ Refused r → ⊥) → answer_of a ≡ told_at line (answer_of a)
unfolding told_at
no_refusal line (Refused r) h = absurd (h r refl)
no_refusal line (Number n) h = refl
no_refusal line (Two m n) h = refl
no_refusal line (Cells n bs) h = refl
no_refusal line Together h = refl
no_refusal line (Over s t) h = refl

pub other_refusal : (line : ℕ) (r : Refusal) → ((p : ℕ) → r ≡ Unreadable p → ⊥) → answer_of (Refused r) ≡ told_at line (answer_of (Refused r))
unfolding told_at
other_refusal line (Unreadable p) h = absurd (h p refl)
other_refusal line NotThere h = refl
other_refusal line LimitsOutOfRange h = refl
other_refusal line TooLittleMemory h = refl
other_refusal line NothingToUndo h = refl

pub unread_at : (line p : ℕ) → refused 1 line ≡ told_at line (refused 1 p)
unfolding told_at
unread_at line p = refl

pub told_none : (m bs ys : List ℕ) (line : ℕ) → ys ≡ placed (replicate 160 0) 0 (says m bs) → first_answer ys ≡ no_answer → refused 1 line ≡ told_of m bs line
unfolding told_of told
told_none m bs ys line e h = ap (told line) (sym h ∙ ap first_answer e)

pub told_some : (m bs ys rest : List ℕ) (line : ℕ) (a x : weave.Answer) → ys ≡ placed (replicate 160 0) 0 (says m bs) → first_answer ys ≡ answers a rest → x ≡ told_at line a → x ≡ told_of m bs line
unfolding told_of told
told_some m bs ys rest line a x e h f = f ∙ ap (told line) (sym h ∙ ap first_answer e)
