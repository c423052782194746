-- Cells and numbers put behind a text, one at a time.
use Rattle.std.proofs.Common.{◌≡◌, ℕ, suc, ◌+◌, ◌^◌, ◌<◌, Bool, true, false, List, [], ◌∷◌, ◌++◌, map, length, drop, decimal, sym, refl, ap, ◌∙◌, append_assoc, add-one, arith}
use Rattle.std.proofs.lemmas.List.{append-nil, drop_more, drop_all}
use Rattle.encoding.specs.Answers.{bit, bits, value, bit_of, bits_in}
use Rattle.encoding.proofs.Bits.{value_bits, length_bits, get_or_bits, length_bits_in, get_or_bits_in}
use Rattle.answertext.specs.Answers.{members, listed, named, cell_text}

-- the cells from i on
pub cells_more : (bs : List ℕ) (n i : ℕ) (whole now new : List ℕ) (c : ℕ) → i < n → whole ≡ now ++ map cell_text (drop i (bits_in bs n)) → c ≡ cell_text (bit_of bs i) → new ≡ now ++ (c ∷ []) →
    whole ≡ new ++ map cell_text (drop (i + 1) (bits_in bs n))
cells_more bs n i whole now new c h e k f =
    let d = drop_more (bits_in bs n) i false (omega (arith, length_bits_in bs n)) in
    e ∙ (ap (λ l. now ++ map cell_text l) d
    ∙ (ap (λ b. now ++ (cell_text b ∷ map cell_text (drop (i + 1) (bits_in bs n)))) (get_or_bits_in bs n i h)
    ∙ (ap (λ x. now ++ (x ∷ map cell_text (drop (i + 1) (bits_in bs n)))) (sym k)
    ∙ (sym (append_assoc now (c ∷ []) (map cell_text (drop (i + 1) (bits_in bs n)))) ∙ ap (λ l. l ++ map cell_text (drop (i + 1) (bits_in bs n))) (sym f)))))

pub cells_two : (bs : List ℕ) (n i j : ℕ) (whole now new : List ℕ) (a b : ℕ) → i + 1 < n → j ≡ i + 1 + 1 → whole ≡ now ++ map cell_text (drop i (bits_in bs n)) → a ≡ cell_text (bit_of bs i) → b ≡ cell_text (bit_of bs (i + 1)) → new ≡ now ++ (a ∷ (b ∷ [])) →
    whole ≡ new ++ map cell_text (drop j (bits_in bs n))
cells_two bs n i j whole now new a b h is e ka kb f =
    let one = cells_more bs n i whole now (now ++ (a ∷ [])) a (omega arith) e ka refl in
    rw is (cells_more bs n (i + 1) whole (now ++ (a ∷ [])) new b h one kb (f ∙ sym (append_assoc now (a ∷ []) (b ∷ []))))

pub cells_end : (bs : List ℕ) (n i : ℕ) (whole now : List ℕ) → i ≡ n → whole ≡ now ++ map cell_text (drop i (bits_in bs n)) → now ≡ whole
cells_end bs n i whole now h e =
    sym (e ∙ (ap (λ l. now ++ map cell_text l) (drop_all i (bits_in bs n) (omega (arith, length_bits_in bs n))) ∙ append-nil now))

-- the numbers of a set from i on
module _ (x i : ℕ) (whole now : List ℕ) (h : i < 64) (e : whole ≡ now ++ listed (members i (drop i (bits 64 x)))) where
  next : whole ≡ now ++ listed (members i (bit x i ∷ drop (i + 1) (bits 64 x)))
  next =
      e ∙ (ap (λ l. now ++ listed (members i l)) (drop_more (bits 64 x) i false (omega (arith, length_bits 64 x)))
      ∙ ap (λ b. now ++ listed (members i (b ∷ drop (i + 1) (bits 64 x)))) (get_or_bits 64 x i h))

  pub member_more : bit x i ≡ true → whole ≡ (now ++ (32 ∷ decimal i)) ++ listed (members (i + 1) (drop (i + 1) (bits 64 x)))
  unfolding members listed
  member_more b = next ∙ rw (b, add-one i, append_assoc now (32 ∷ decimal i) (listed (members (suc i) (drop (suc i) (bits 64 x))))) refl

  pub member_not : bit x i ≡ false → whole ≡ now ++ listed (members (i + 1) (drop (i + 1) (bits 64 x)))
  unfolding members
  member_not b = next ∙ rw (b, add-one i) refl

pub members_end : (x i : ℕ) (whole now : List ℕ) → i ≡ 64 → whole ≡ now ++ listed (members i (drop i (bits 64 x))) → now ≡ whole
unfolding members listed
members_end x i whole now h e =
    sym (e ∙ (ap (λ l. now ++ listed (members i l)) (drop_all i (bits 64 x) (omega (arith, length_bits 64 x))) ∙ append-nil now))

-- a set without members is 0
value_none : (k : ℕ) (bs : List Bool) → members k bs ≡ [] → value bs ≡ 0
unfolding members value
value_none k [] e = refl
value_none k (true ∷ bs) e = absurd (omega (arith, ap length e))
value_none k (false ∷ bs) e = omega (arith, value_none (suc k) bs e)

pub named_some : (w ns : List ℕ) → 0 < length ns → named w ns ≡ 32 ∷ (w ++ listed ns)
unfolding named
named_some w [] h = absurd (omega arith)
named_some w (n ∷ ns) h = refl

pub some_members : (x : ℕ) → x < 2 ^ 64 → (x ≡ 0 → ⊥) → 0 < length (members 0 (bits 64 x))
some_members x h f = go (members 0 (bits 64 x)) refl
  where
    go : (ms : List ℕ) → members 0 (bits 64 x) ≡ ms → 0 < length ms
    go [] e = absurd (f (sym (value_bits 64 x h) ∙ value_none 0 (bits 64 x) e))
    go (m ∷ ms) e = omega arith

pub set_none : (x : ℕ) (w : List ℕ) → x ≡ 0 → [] ≡ named w (members 0 (bits 64 x))
unfolding members named bits
set_none x w e = rw e refl
