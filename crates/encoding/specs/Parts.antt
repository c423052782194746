-- A row's bytes by its outermost part.
use Rattle.std.specs.Prelude.{◌≡◌, ℕ, zero, suc, ◌<◌, ◌≤◌, true, List, [], ◌∷◌, ◌++◌, length, Some, None, Option}
use Rattle.weave.specs.Promise.{field}
use Rattle.encoding.specs.Numbers.{four}
use Rattle.encoding.specs.declared.parts.Source.{Source}
use Rattle.encoding.specs.declared.parts.Source.TheVariants.{One, Then, Times, Turned, Run}

-- how many bytes the numbers take of a part of kind k
abbrev pub room : ℕ → ℕ
room zero = 4
room (suc zero) = 0
room (suc (suc zero)) = 4
room (suc (suc (suc zero))) = 0
room (suc (suc (suc (suc k)))) = 8

-- no part: no byte, a byte of no kind, or a kind without all the bytes of its numbers
abbrev pub NoPart : List ℕ → Type 0
NoPart [] = Unit {0}
NoPart (k ∷ bs) = k ≤ 4 → length bs < room k

-- the outermost part of bytes: its numbers have four bytes each, and left comes after them; or there is none
abbrev pub Opened : Option Source → List ℕ → Type 0
Opened None bs = NoPart bs
Opened (Some (One n left)) bs = (field n ≡ true) × (bs ≡ 0 ∷ (four n ++ left.now))
Opened (Some (Then left)) bs = bs ≡ 1 ∷ left.now
Opened (Some (Times n left)) bs = (field n ≡ true) × (bs ≡ 2 ∷ (four n ++ left.now))
Opened (Some (Turned left)) bs = bs ≡ 3 ∷ left.now
Opened (Some (Run a b left)) bs = (field a ≡ true) × (field b ≡ true) × (bs ≡ 4 ∷ (four a ++ (four b ++ left.now)))
