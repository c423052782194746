-- What the session answers: from what drafts and readers of drafts reply to what goes out as bytes.
use Rattle.std.proofs.Common.{◌≡◌, ℕ, Bool, true, false, List, ◌++◌, get_or, take, drop, ◌<◌, ◌≤◌, Ok, Err, Result, sym, refl, ap, ◌∙◌, subst, arith, take-append-drop}
use Rattle.std.specs.Result.{result_or}
use mir.Val.{bool_byte}
use Rattle.weave.specs.Rows.{pick}
use Rattle.weave.specs.Calls.{Call, Answer, garbled, refused}
use Rattle.weave.specs.Promise.{readable}
use Rattle.encoding.specs.Calls.{reads}
use Rattle.encoding.specs.Answers.{answer_bytes}
use Rattle.wire.specs.declared.Refusal.{Refusal}
use Rattle.wire.specs.declared.Refusal.TheVariants.{NotThere}
use Rattle.floats.specs.declared.Kind.{Kind}
use Rattle.floats.specs.Kinds.{number_of}
use Rattle.floats.specs.Names.{Names}
use Rattle.desks.specs.Memory.{undos_at, asked, next_words}
use Rattle.desks.specs.Keepers.{answer, Replied, front, behind, LentDesk}
use Rattle.desks.proofs.Fronts.{called}
use Rattle.desks.proofs.Asked.{garbled_refused}
use Rattle.drafts.specs.Replies.{reply, Replies}
use Rattle.session.specs.Session.{stage, Answered, Told}

-- what is replied goes out as it is
pub sent : (m n : List ℕ) (c : Call) (a : Answer) → Replied stage m c a n → Answered m c a n
sent m n c a it = record { bytes = ap answer_bytes it.says; leaves = it.leaves }

-- so is a reply of a number or of a refusal
pub replied : (m n : List ℕ) (c : Call) (x : Result ℕ Refusal) → Replies c x m n → Answered m c (reply x) n
replied m n c x replies = sent m n c (reply x) (replies stage refl)

-- a number that names no kind of floats, or one that does, where the refusal stands for the other error
pub no_kind : {E : Type 0} (n : ℕ) (r : Result Kind E) (s : Result Kind Refusal) (e : Refusal) → Names n r → s ≡ result_or r (Err NotThere) → s ≡ Err e → (4 ≤ n) × (e ≡ NotThere)
no_kind n (Ok k) s e named is err = let z : ◌≡◌ {A = Result Kind Refusal} (Ok k) (Err e) = sym is ∙ err in absurd (cc)
no_kind n (Err x) s e named is err = (named, grind arith)

pub some_kind : {E : Type 0} (n : ℕ) (r : Result Kind E) (s : Result Kind Refusal) (k : Kind) → Names n r → s ≡ result_or r (Err NotThere) → s ≡ Ok k → (n < 4) × (number_of k ≡ n)
some_kind n (Ok x) s k named is ok = let z : x ≡ k = grind arith in (named.0, ap number_of (sym z) ∙ named.1)
some_kind n (Err x) s k named is ok = let z : ◌≡◌ {A = Result Kind Refusal} (Ok k) (Err NotThere) = sym ok ∙ is in absurd (cc)

-- a truth as a number
pub as_number : (b : Bool) → bool_byte b ≡ pick b 1 0
as_number true = refl
as_number false = refl

told_whole : (m bs : List ℕ) (c : Call) (a : Answer) (k n : List ℕ) → LentDesk m → c ≡ reads bs → readable c ≡ true → Answered (front m) c a k → n ≡ k ++ behind m → Told m bs a n
told_whole m bs c a k n lent e q it en =
    let words : n ≡ next_words stage (front m) c ++ behind m = en ∙ ap (λ (w : List ℕ). w ++ behind m) it.leaves in
    record {
      bytes = it.bytes ∙ ap (λ (d : Call). answer_bytes (answer stage (front m) d)) e;
      words = words ∙ ap (λ (d : Call). next_words stage (front m) d ++ behind m) e;
      ready = (called stage m n c lent q words).lent;
    }

-- the same, where the desk's words end at a place that was found
pub told_front : (m bs : List ℕ) (end : ℕ) (c : Call) (a : Answer) (k n : List ℕ) → LentDesk m → end ≡ asked (get_or m undos_at 0) → c ≡ reads bs → readable (reads bs) ≡ true → Answered (take end m) c a k → n ≡ k ++ drop end m → Told m bs a n
told_front m bs end c a k n lent at e q it en =
    told_whole m bs c a k n lent e (ap readable e ∙ q) (subst (λ (x : ℕ). Answered (take x m) c a k) at it) (en ∙ ap (λ (x : ℕ). k ++ drop x m) at)

-- bytes that are no call change nothing
pub told_garbled : (m bs n : List ℕ) (p : ℕ) → LentDesk m → reads bs ≡ garbled p → n ≡ m → Told m bs (refused 1 p) n
told_garbled m bs n p lent e en =
    let it = garbled_refused stage (front m) p in
    record {
      bytes = ap answer_bytes (it.says ∙ ap (answer stage (front m)) (sym e));
      words = en ∙ (sym (take-append-drop (asked (get_or m undos_at 0)) m) ∙ (ap (λ (w : List ℕ). w ++ behind m) it.leaves ∙ ap (λ (d : Call). next_words stage (front m) d ++ behind m) (sym e)));
      ready = subst LentDesk (sym en) lent;
    }
