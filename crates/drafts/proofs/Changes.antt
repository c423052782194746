-- What a word of the log tells.
use Rattle.std.proofs.Common.{◌≡◌, ℕ, ◌≤◌, Ok, Err, Result, refl, subst, arith}
use Rattle.std.specs.Result.{IsOk}
use Rattle.desks.specs.Memory.{Entry}
use Rattle.drafts.specs.declared.Change.{Change}
use Rattle.drafts.specs.declared.Change.TheVariants.{Row, Tie}
use Rattle.drafts.specs.Changes.{word_of, IsOf, Tells}

-- an entry of the log is some change
pub entry_told : {E : Type 0} (w : ℕ) (r : Result Change E) → Entry 64 64 w → Tells w r → IsOk r
entry_told w (Ok c) entry told = refl
entry_told w (Err e) entry told =
    let it = entry (omega (arith, told)) in
    absurd (omega (arith, told, it.0))

-- of the shafts and treadles that the entry is of
pub entry_of : {E : Type 0} (w : ℕ) (r : Result Change E) (c : Change) → Entry 64 64 w → Tells w r → r ≡ Ok c → (word_of c ≡ w) × IsOf 64 64 c
entry_of {E = E} w r (Row k) entry told e =
    let it : Tells {E = E} w (Ok (Row k)) = subst (Tells {E = E} w) e told in
    (it.0, tt)
entry_of {E = E} w r (Tie t s) entry told e =
    let it : Tells {E = E} w (Ok (Tie t s)) = subst (Tells {E = E} w) e told in
    let two : 2 ≤ w = omega (arith, it.0) in
    let of = entry two in
    (it.0, (omega (arith, it.0, it.1.1, of.0), it.1.1))
