-- A tie turned in words is a tie turned in lists.
use Rattle.std.proofs.Common.{◌≡◌, ℕ, ◌^◌, ◌<◌, ◌≤◌, false, not, List, [], map, length, get_or, take, set, sym, ap, ◌∙◌, arith}
use lib.Bits.{bit_xor, xor_zero_r, xor_self, xor_assoc}
use lib.Seq.{take-set-lt}
use Rattle.std.proofs.lemmas.List.{map-set, set-set, set-get_or, get_or-set_same, get_or-map, get_or-take, length-take-le}
use Rattle.weave.specs.Calls.{tied_so}
use Rattle.lent.specs.Bits.{bits_of}
use Rattle.lent.proofs.Bits.{turned_bit}
use Rattle.desks.specs.Desks.{with_tie}

pub bits_at : (n m t : ℕ) (ties : List ℕ) → t < m → m ≤ length ties → get_or (map (bits_of n) (take m ties)) t [] ≡ bits_of n (get_or ties t 0)
bits_at n m t ties lt le =
    let long : length (take m ties) ≡ m = length-take-le m ties le in
    get_or-map (bits_of n) (take m ties) t 0 [] (omega arith) ∙ ap (bits_of n) (get_or-take m ties t 0 lt)

pub tied_words : (n m t s : ℕ) (ties : List ℕ) → t < m → m ≤ length ties → map (bits_of n) (take m (with_tie ties t s)) ≡ tied_so (map (bits_of n) (take m ties)) t s
tied_words n m t s ties lt le =
    let w = get_or ties t 0 in
    ap (map (bits_of n)) (take-set-lt m ties t (bit_xor w (2 ^ s)) lt)
    ∙ map-set (bits_of n) (take m ties) t (bit_xor w (2 ^ s))
    ∙ ap (λ bs. set (map (bits_of n) (take m ties)) t bs) (turned_bit n w s)
    ∙ ap (λ bs. set (map (bits_of n) (take m ties)) t (set bs s (not (get_or bs s false)))) (sym (bits_at n m t ties lt le))

-- turned twice it is as it was
pub twice : (ties : List ℕ) (t s : ℕ) → t < length ties → with_tie (with_tie ties t s) t s ≡ ties
twice ties t s lt =
    let w = get_or ties t 0 in
    set-set ties t (bit_xor w (2 ^ s)) (bit_xor (get_or (with_tie ties t s) t 0) (2 ^ s))
    ∙ ap (λ x. set ties t (bit_xor x (2 ^ s))) (get_or-set_same ties t (bit_xor w (2 ^ s)) 0 lt)
    ∙ ap (λ x. set ties t x) (xor_assoc w (2 ^ s) (2 ^ s) ∙ ap (λ x. bit_xor w x) (xor_self (2 ^ s)) ∙ xor_zero_r w)
    ∙ set-get_or ties t 0
