-- Rows as bytes: a row is written from its outside in, each part a byte for its kind and what it has.
use Rattle.std.specs.Prelude.{◌≡◌, ℕ, zero, suc, true, cond, List, [], ◌∷◌, ◌++◌, length, drop, nat_lt}
use Rattle.weave.specs.Rows.{Row, one, then, times, turned, run}
use Rattle.weave.specs.Promise.{fields_in, carried}
use Rattle.encoding.specs.Numbers.{four, number_in}

-- the bytes of a row
unfoldable pub row_bytes : Row → List ℕ
row_bytes (one n) = 0 ∷ four n
row_bytes (then r s) = 1 ∷ (row_bytes r ++ row_bytes s)
row_bytes (times n r) = 2 ∷ (four n ++ row_bytes r)
row_bytes (turned r) = 3 ∷ row_bytes r
row_bytes (run a b) = 4 ∷ (four a ++ four b)

-- bytes that start with a row, whose numbers have four bytes
pub record Starts (r : Row) (bs : List ℕ) : Type 0 where
  pub fields : fields_in r ≡ true
  pub rest : List ℕ
  pub is : bs ≡ row_bytes r ++ rest

-- what comes of reading a row: the row, how many parts more there may be, and the bytes after it; or how many bytes there are from the first that does not fit on
pub data Read : Type 0 where
  got : Row → ℕ → List ℕ → Read
  bad : ℕ → Read

-- a row around a row that was read
unfoldable pub around : (Row → Row) → Read → Read
around f (got r n bs) = got (f r) n bs
around f (bad left) = bad left

-- a second row, read by f, after a first
unfoldable pub second : (ℕ → List ℕ → Read) → Read → Read
second f (got r n bs) = around (then r) (f n bs)
second f (bad left) = bad left

-- a part of kind k, of which the bytes after k are given; f reads the rows in it
unfoldable pub part_in : (ℕ → List ℕ → Read) → ℕ → ℕ → List ℕ → Read
part_in f zero n bs = cond (nat_lt (length bs) 4) (bad 0) (got (one (number_in bs)) n (drop 4 bs))
part_in f (suc zero) n bs = second f (f n bs)
part_in f (suc (suc zero)) n bs = cond (nat_lt (length bs) 4) (bad 0) (around (times (number_in bs)) (f n (drop 4 bs)))
part_in f (suc (suc (suc zero))) n bs = around turned (f n bs)
part_in f (suc (suc (suc (suc zero)))) n bs = cond (nat_lt (length bs) 8) (bad 0) (got (run (number_in bs) (number_in (drop 4 bs))) n (drop 8 bs))
part_in f (suc (suc (suc (suc (suc k))))) n bs = bad (suc (length bs))

-- a row at most so deep, of at most n parts
unfoldable pub row_in : ℕ → ℕ → List ℕ → Read
row_in zero n bs = bad (length bs)
row_in (suc d) zero bs = bad (length bs)
row_in (suc d) (suc n) [] = bad 0
row_in (suc d) (suc n) (k ∷ bs) = part_in (row_in d) k n bs

-- a row of up to 1,024 parts, 255 deep
unfoldable pub row_read : List ℕ → Read
row_read bs = row_in 255 1024 bs

-- the row that was read
abbrev pub row_of : Read → Row
row_of (got r n bs) = r
row_of (bad left) = one 0

-- the same without the row: how many parts more there may be, and the bytes after the row; or how many bytes there are from the first that does not fit on
pub data Skip : Type 0 where
  past : ℕ → List ℕ → Skip
  stop : ℕ → Skip

abbrev pub skip_of : Read → Skip
skip_of (got r n bs) = past n bs
skip_of (bad left) = stop left

-- bytes that are those of a row, of not too many parts and not too deep, and nothing more
abbrev pub HoldsRow : List ℕ → Type 0
HoldsRow bs = (bs ≡ row_bytes (row_of (row_read bs))) × (carried (row_of (row_read bs)) ≡ true)
