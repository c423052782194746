-- Tokens of rows, put behind others.
use Rattle.std.proofs.Common.{◌≡◌, ℕ, suc, ◌-◌, ◌<◌, ◌≤◌, Bool, true, false, cond, not, ◌&&◌, leb, List, [], ◌∷◌, ◌++◌, length, is_some, Some, Ok, Err, Option, Result, sym, refl, ap, ◌∙◌, append_assoc, arith, Bor}
use Rattle.std.specs.Bool.{then_some}
use Rattle.std.proofs.lemmas.List.{append-nil, nil_from_length}
use Rattle.std.proofs.lemmas.Bool.{and_from}
use Rattle.weave.specs.Rows.{Row, one, then, times, turned, run, deep, pick}
use Rattle.weave.specs.Promise.{field, fields_in}
use Rattle.encoding.specs.Numbers.{four}
use Rattle.encoding.specs.Rows.{row_bytes}
use Rattle.encoding.specs.Parts.{Opened}
use Rattle.encoding.specs.declared.parts.Source.{Source}
use Rattle.tokens.specs.declared.TextError.{TextError}
use Rattle.tokens.specs.declared.Token.{Token}
use Rattle.tokens.specs.declared.Token.TheVariants.{Number, Run, Times, Turned, Open, Close}
use Rattle.rowtext.specs.Rows.{items, evenly, is_join, grouped, row_tokens}
use Rattle.tokens.specs.Tokens.{tokens_text}
use Rattle.rowtext.specs.Round.{row_text}
use Rattle.rowprint.specs.Results.{even_items, Printed, Begins, Found, IsPrinted, NoRow}

-- what is known of the outermost part, if it is v
pub opened : (x : Option Source) (s v : Source) (bs : List ℕ) → x ≡ Some s → s ≡ v → Opened x bs → Opened (Some v) bs
opened x s v bs e f o = rw (e, f) at o

-- tokens p before those that were put
printed_after : (x : Result (Bor (List ℕ)) TextError) (rest : List ℕ) (old mid new p ts : List Token) → mid ≡ old ++ p → Printed x rest mid new ts → Printed x rest old new (p ++ ts)
printed_after (Ok left) rest old mid new p ts m h = (h.0, h.1 ∙ (ap (λ l. l ++ ts) m ∙ append_assoc old p ts))
printed_after (Err e) rest old mid new p ts m h = h

not_joined : (b : Bool) (ts : List Token) → grouped (b && false) ts ≡ ts
not_joined true ts = refl
not_joined false ts = refl

pub one_tokens : (b : Bool) (r : Row) (n : ℕ) → r ≡ one n → grouped (b && is_join r) (row_tokens r) ≡ Number n ∷ []
unfolding is_join row_tokens
one_tokens b r n e = rw e (not_joined b (Number n ∷ []))

pub run_tokens : (b : Bool) (r : Row) (m n : ℕ) → r ≡ run m n → grouped (b && is_join r) (row_tokens r) ≡ Run m n ∷ []
unfolding is_join row_tokens
run_tokens b r m n e = rw e (not_joined b (Run m n ∷ []))

pub times_printed : (b : Bool) (r : Row) (n : ℕ) (a : Row) → r ≡ times n a → (x : Result (Bor (List ℕ)) TextError) (rest : List ℕ) (old mid new : List Token) →
    mid ≡ old ++ (Times n ∷ []) → Printed x rest mid new (grouped (true && is_join a) (row_tokens a)) → Printed x rest old new (grouped (b && is_join r) (row_tokens r))
unfolding is_join row_tokens
times_printed b r n a e x rest old mid new m h =
    rw e (rw (not_joined b (Times n ∷ grouped (is_join a) (row_tokens a))) (printed_after x rest old mid new (Times n ∷ []) (grouped (is_join a) (row_tokens a)) m h))

pub turned_printed : (b : Bool) (r a : Row) → r ≡ turned a → (x : Result (Bor (List ℕ)) TextError) (rest : List ℕ) (old mid new : List Token) →
    mid ≡ old ++ (Turned ∷ []) → Printed x rest mid new (grouped (true && is_join a) (row_tokens a)) → Printed x rest old new (grouped (b && is_join r) (row_tokens r))
unfolding is_join row_tokens
turned_printed b r a e x rest old mid new m h =
    rw e (rw (not_joined b (Turned ∷ grouped (is_join a) (row_tokens a))) (printed_after x rest old mid new (Turned ∷ []) (grouped (is_join a) (row_tokens a)) m h))

-- a token that was put behind others, as it was wanted, and one that was not
pub put : (b : Bool) (old new : List Token) (t : Token) → b ≡ true → new ≡ old ++ (t ∷ []) → new ≡ old ++ cond b (t ∷ []) []
put b old new t e h = rw e h

pub not_put : (b : Bool) (old : List Token) (t : Token) → b ≡ false → old ≡ old ++ cond b (t ∷ []) []
not_put b old t e = rw e (sym (append-nil old))

-- whether a join is not in halves, from the items that it has if it is
pub uneven : (x : Option ℕ) (r : Row) (v : Bool) → x ≡ even_items r → is_some x ≡ not v → not v ≡ evenly r
uneven x r v e h = sym h ∙ (ap is_some e ∙ go (evenly r))
  where
    go : (b : Bool) → is_some (then_some b (items r)) ≡ b
    go true = refl
    go false = refl

-- a join's tokens, by whether it is not in halves
then_tokens : (a b : Row) (v : Bool) → not v ≡ evenly (then a b) → row_tokens (then a b) ≡ grouped (v && is_join a) (row_tokens a) ++ grouped (v && is_join b) (row_tokens b)
unfolding row_tokens
then_tokens a b true e = rw (← e) refl
then_tokens a b false e = rw (← e) refl

wrapped : (b : Bool) (ts : List Token) → cond b (Open ∷ []) [] ++ (ts ++ cond b (Close ∷ []) []) ≡ grouped b ts
wrapped true ts = refl
wrapped false ts = append-nil ts

regroup : (o a b c d : List Token) → (((o ++ a) ++ b) ++ c) ++ d ≡ o ++ (a ++ ((b ++ c) ++ d))
regroup o a b c d = simp append_assoc

joined_tokens : (b v : Bool) (r a s : Row) → r ≡ then a s → not v ≡ evenly r →
    cond b (Open ∷ []) [] ++ ((grouped (v && is_join a) (row_tokens a) ++ grouped (v && is_join s) (row_tokens s)) ++ cond b (Close ∷ []) []) ≡ grouped (b && is_join r) (row_tokens r)
unfolding is_join
joined_tokens b v r a s e ev =
    let q = then_tokens a s v (ev ∙ ap evenly e) in
    rw e (rw (← q) (wrapped b (row_tokens (then a s)) ∙ same b))
  where
    same : (b : Bool) → grouped b (row_tokens (then a s)) ≡ grouped (b && true) (row_tokens (then a s))
    same true = refl
    same false = refl

pub then_printed : (b v : Bool) (r a s : Row) → r ≡ then a s → not v ≡ evenly r → (o1 o2 o3 o4 o5 : List Token) → o2 ≡ o1 ++ cond b (Open ∷ []) [] →
    o3 ≡ o2 ++ grouped (v && is_join a) (row_tokens a) → o4 ≡ o3 ++ grouped (v && is_join s) (row_tokens s) → o5 ≡ o4 ++ cond b (Close ∷ []) [] →
    o5 ≡ o1 ++ grouped (b && is_join r) (row_tokens r)
then_printed b v r a s e ev o1 o2 o3 o4 o5 h2 h3 h4 h5 =
    h5 ∙ (ap (λ l. l ++ cond b (Close ∷ []) []) (h4 ∙ (ap (λ l. l ++ grouped (v && is_join s) (row_tokens s)) (h3 ∙ ap (λ l. l ++ grouped (v && is_join a) (row_tokens a)) h2)))
    ∙ go)
  where
    go : (((o1 ++ cond b (Open ∷ []) []) ++ grouped (v && is_join a) (row_tokens a)) ++ grouped (v && is_join s) (row_tokens s)) ++ cond b (Close ∷ []) [] ≡ o1 ++ grouped (b && is_join r) (row_tokens r)
    go = regroup o1 (cond b (Open ∷ []) []) (grouped (v && is_join a) (row_tokens a)) (grouped (v && is_join s) (row_tokens s)) (cond b (Close ∷ []) []) ∙ ap (λ l. o1 ++ l) (joined_tokens b v r a s e ev)

-- the row that bytes begin with, from its outermost part and the rows in it
pub one_found : (bs left : List ℕ) (n d : ℕ) → 0 < d → field n ≡ true → bs ≡ 0 ∷ (four n ++ left) → Begins bs left d
unfolding row_bytes fields_in deep
one_found bs left n d h f o = record { row = one n; bytes = o; fields = f; shallow = omega (arith, h) }

pub run_found : (bs left : List ℕ) (m n d : ℕ) → 0 < d → field m ≡ true → field n ≡ true → bs ≡ 4 ∷ (four m ++ (four n ++ left)) → Begins bs left d
unfolding row_bytes fields_in deep
run_found bs left m n d h f g o = record { row = run m n; bytes = o; fields = and_from (field m) (field n) f g; shallow = omega (arith, h) }

pub times_found : (x : Result (Bor (List ℕ)) TextError) (bs left : List ℕ) (n d : ℕ) → 0 < d → field n ≡ true → bs ≡ 2 ∷ (four n ++ left) → Found x left (d - 1) → Found x bs d
unfolding row_bytes fields_in deep
times_found (Ok rest) bs left n d h f o a =
    record { row = times n a.row; bytes = o ∙ ap (λ l. 2 ∷ (four n ++ l)) a.bytes; fields = and_from (field n) (fields_in a.row) f a.fields; shallow = omega (arith, h, a.shallow) }
times_found (Err e) bs left n d h f o a = tt

pub turned_found : (x : Result (Bor (List ℕ)) TextError) (bs left : List ℕ) (d : ℕ) → 0 < d → bs ≡ 3 ∷ left → Found x left (d - 1) → Found x bs d
unfolding row_bytes fields_in deep
turned_found (Ok rest) bs left d h o a =
    record { row = turned a.row; bytes = o ∙ ap (λ l. 3 ∷ l) a.bytes; fields = a.fields; shallow = omega (arith, h, a.shallow) }
turned_found (Err e) bs left d h o a = tt

deeper : (b : Bool) (x y d : ℕ) → 0 < d → x ≤ d - 1 → y ≤ d - 1 → suc (pick b y x) ≤ d
deeper true x y d p h k = omega arith
deeper false x y d p h k = omega arith

pub then_found : (bs left mid rest : List ℕ) (d : ℕ) → 0 < d → bs ≡ 1 ∷ left → Begins left mid (d - 1) → Begins mid rest (d - 1) → Begins bs rest d
unfolding row_bytes fields_in deep
then_found bs left mid rest d h o a b = record {
  row = then a.row b.row;
  bytes = o ∙ ap (λ l. 1 ∷ l) (a.bytes ∙ (ap (λ l. row_bytes a.row ++ l) b.bytes ∙ sym (append_assoc (row_bytes a.row) (row_bytes b.row) rest)));
  fields = and_from (fields_in a.row) (fields_in b.row) a.fields b.fields;
  shallow = deeper (leb (deep a.row) (deep b.row)) (deep a.row) (deep b.row) d h a.shallow b.shallow;
}

module _ (bs : List ℕ) where
  whole : (r : Row) → bs ≡ row_bytes r → bs ≡ row_bytes r ++ []
  whole r e = e ∙ sym (append-nil (row_bytes r))

  pub row_over : (left : List ℕ) → 0 < length left → ((r : Row) (rest : List ℕ) → bs ≡ row_bytes r ++ rest → fields_in r ≡ true → deep r ≤ 255 → left ≡ rest) → NoRow bs
  row_over left some t = λ r e f h. omega (arith, some, ap length (t r [] (whole r e) f (omega (arith, h))))

  pub is_printed : (left text : List ℕ) (out from ts : List Token) → length left ≡ 0 → Begins bs left 255 →
      ((r : Row) (rest : List ℕ) → bs ≡ row_bytes r ++ rest → fields_in r ≡ true → deep r ≤ 255 → out ≡ from ++ row_tokens r) →
      from ≡ [] → ts ≡ out → text ≡ tokens_text ts → IsPrinted bs text
  unfolding row_text
  is_printed left text out from ts none b t ef s h = record {
    row = b.row;
    bytes = b.bytes ∙ (ap (λ l. row_bytes b.row ++ l) (nil_from_length left none) ∙ append-nil (row_bytes b.row));
    fields = b.fields;
    shallow = omega (arith, b.shallow);
    is = h ∙ ap tokens_text (s ∙ (t b.row left b.bytes b.fields b.shallow ∙ ap (λ l. l ++ row_tokens b.row) ef));
  }
