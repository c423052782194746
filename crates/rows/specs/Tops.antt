-- What a row is at its outside.
use Rattle.std.specs.Prelude.{◌≡◌}
use Rattle.weave.specs.Rows.{Row, one, then, times, turned, run}
use Rattle.rows.specs.Rows.{row_in}
use Rattle.rows.specs.declared.lent_row.Part.{Part}
use Rattle.rows.specs.declared.lent_row.Part.TheVariants.{One, Then, Times, Turned, Run}

abbrev pub Top : Row → Part → Type 0
Top r (One n) = r ≡ one n
Top r (Then a b) = r ≡ then (row_in a) (row_in b)
Top r (Times n a) = r ≡ times n (row_in a)
Top r (Turned a) = r ≡ turned (row_in a)
Top r (Run a b) = r ≡ run a b
