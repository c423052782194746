-- What the outermost part of bytes says of the row that they are.
use Rattle.std.proofs.Common.{◌≡◌, ℕ, true, List, [], ◌∷◌, ◌++◌, Some, None, Option, sym, ◌∙◌, rules}
use Rattle.std.specs.Prelude.{IsSome}
use Rattle.std.proofs.lemmas.List.{append-nil}
use Rattle.weave.specs.Rows.{Row, one, then, times, turned, run}
use Rattle.weave.specs.Promise.{field, fields_in}
use Rattle.encoding.specs.Numbers.{four}
use Rattle.encoding.specs.Rows.{row_bytes}
use Rattle.encoding.specs.Parts.{Opened}
use Rattle.encoding.specs.declared.parts.Source.{Source}
use Rattle.encoding.proofs.Heads.{has_part, one_head, then_head, times_head, turned_head, run_head}
use Rattle.rows.proofs.Parts.{fields_then, fields_times, fields_turned}
use Rattle.stored.specs.Sources.{Followed}

-- there is one
pub has_source : (o : Option Source) (bs : List ℕ) (r : Row) (rest : List ℕ) → Followed r rest bs → Opened o bs → IsSome o
has_source (Some s) bs r rest b h = search rules
has_source None bs r rest b h = absurd (has_part r bs rest h b.is)

module _ (bs left : List ℕ) (r : Row) (rest : List ℕ) (b : Followed r rest bs) where
  pub one_top : (n : ℕ) → (field n ≡ true) × (bs ≡ 0 ∷ (four n ++ left)) → (r ≡ one n) × (left ≡ rest)
  one_top n o = one_head bs rest left n o.0 o.1 r b.is b.fields

  pub run_top : (m n : ℕ) → (field m ≡ true) × (field n ≡ true) × (bs ≡ 4 ∷ (four m ++ (four n ++ left))) → (r ≡ run m n) × (left ≡ rest)
  run_top m n o = run_head bs rest left m n o.0 o.1 o.2 r b.is b.fields

  pub then_top : bs ≡ 1 ∷ left → (p : Row) × (q : Row) × (r ≡ then p q) × Followed p (row_bytes q ++ rest) left × (fields_in q ≡ true)
  then_top o =
      let h = then_head bs rest left o r b.is in
      let f = fields_then h.0 h.1 (rw h.2 at b.fields) in
      (h.0, h.1, h.2, record { fields = f.0; is = h.3 }, f.1)

  pub times_top : (n : ℕ) → (field n ≡ true) × (bs ≡ 2 ∷ (four n ++ left)) → (p : Row) × (r ≡ times n p) × Followed p rest left
  times_top n o =
      let h = times_head bs rest left n o.0 o.1 r b.is b.fields in
      (h.0, h.1, record { fields = fields_times n h.0 (rw h.1 at b.fields); is = h.2 })

  pub turned_top : bs ≡ 3 ∷ left → (p : Row) × (r ≡ turned p) × Followed p rest left
  turned_top o =
      let h = turned_head bs rest left o r b.is in
      (h.0, h.1, record { fields = fields_turned h.0 (rw h.1 at b.fields); is = h.2 })

-- all of the bytes are the row's
pub followed_whole : (r : Row) (bs : List ℕ) → fields_in r ≡ true → bs ≡ row_bytes r → Followed r [] bs
followed_whole r bs f e = record { fields = f; is = e ∙ sym (append-nil (row_bytes r)) }
