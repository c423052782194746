-- Numbers among tokens, one after the other.
use Rattle.std.proofs.Common.{◌≡◌, ℕ, suc, ◌+◌, ◌<◌, ◌≤◌, List, [], ◌∷◌, ◌++◌, map, length, get_or, drop, sym, refl, ap, ◌∙◌, subst, append_assoc, arith}
use Rattle.std.proofs.lemmas.List.{append-nil, drop_more, drop_all}
use Rattle.weave.specs.Calls.{ties}
use Rattle.encoding.specs.Numbers.{four, fours}
use Rattle.encoding.specs.Calls.{call_bytes}
use Rattle.tokens.specs.declared.Token.{Token}
use Rattle.tokens.specs.declared.Token.TheVariants.{Number, Run, Times, Turned, Open, Close, Colon}
use Rattle.calltext.specs.Lines.{calls, unreadable, Numbers, numbers, others, before, numbers_of, tie_each}
use Rattle.calltext.specs.Results.{PutNumbers, AreCalls}

-- numbers before others
abbrev pub fronted : List ℕ → Numbers → Numbers
fronted ms (numbers ns) = numbers (ms ++ ns)
fronted ms others = others

-- ms are the numbers of all up to left
abbrev pub SoFar : List Token → List Token → List ℕ → Type 0
SoFar all left ms = numbers_of all ≡ fronted ms (numbers_of left)

pub so_none : (all : List Token) → SoFar all all []
so_none all = go (numbers_of all)
  where
    go : (x : Numbers) → x ≡ fronted [] x
    go (numbers ns) = refl
    go others = refl

first_is : (all : List Token) (i : ℕ) (t : Token) → i < length all → get_or all i (Number 0) ≡ t → drop i all ≡ t ∷ drop (i + 1) all
first_is all i t h e = drop_more all i (Number 0) h ∙ ap (λ (u : Token). u ∷ drop (i + 1) all) e

pub so_more : (all : List Token) (i : ℕ) (ms : List ℕ) (n : ℕ) → SoFar all (drop i all) ms → i < length all → get_or all i (Number 0) ≡ Number n → SoFar all (drop (i + 1) all) (ms ++ (n ∷ []))
unfolding numbers_of before
so_more all i ms n h some e = h ∙ (ap (λ ts. fronted ms (numbers_of ts)) (first_is all i (Number n) some e) ∙ go (numbers_of (drop (i + 1) all)))
  where
    go : (x : Numbers) → fronted ms (before n x) ≡ fronted (ms ++ (n ∷ [])) x
    go (numbers ns) = ap numbers (sym (append_assoc ms (n ∷ []) ns))
    go others = refl

pub so_all : (all : List Token) (i : ℕ) (ms : List ℕ) → SoFar all (drop i all) ms → length all ≤ i → numbers_of all ≡ numbers ms
unfolding numbers_of
so_all all i ms h e = h ∙ (ap (λ ts. fronted ms (numbers_of ts)) (drop_all i all e) ∙ ap numbers (append-nil ms))

not_number : (t : Token) (ts : List Token) → ((n : ℕ) → t ≡ Number n → ⊥) → numbers_of (t ∷ ts) ≡ others
unfolding numbers_of
not_number (Number n) ts h = absurd (h n refl)
not_number (Run a b) ts h = refl
not_number (Times n) ts h = refl
not_number Turned ts h = refl
not_number Open ts h = refl
not_number Close ts h = refl
not_number Colon ts h = refl

pub so_other : (all : List Token) (i : ℕ) (ms : List ℕ) → SoFar all (drop i all) ms → i < length all → ((n : ℕ) → get_or all i (Number 0) ≡ Number n → ⊥) → numbers_of all ≡ others
so_other all i ms h some f =
    h ∙ ap (fronted ms) (ap numbers_of (first_is all i (get_or all i (Number 0)) some refl) ∙ not_number (get_or all i (Number 0)) (drop (i + 1) all) f)

-- numbers that are put behind bytes
pub record Putting (all left : List Token) (old now : List ℕ) : Type 0 where
  pub ms : List ℕ
  pub so : SoFar all left ms
  pub bytes : now ≡ old ++ fours ms

fours_more : (ms : List ℕ) (n : ℕ) → fours (ms ++ (n ∷ [])) ≡ fours ms ++ four n
fours_more [] n = append-nil (four n)
fours_more (m ∷ ms) n = ap (λ l. four m ++ l) (fours_more ms n) ∙ sym (append_assoc (four m) (fours ms) (four n))

pub putting_more : (all : List Token) (i : ℕ) (old now new : List ℕ) (n : ℕ) → Putting all (drop i all) old now → i < length all → get_or all i (Number 0) ≡ Number n → new ≡ now ++ four n → Putting all (drop (i + 1) all) old new
putting_more all i old now new n p some e h = record {
  ms = p.ms ++ (n ∷ []);
  so = so_more all i p.ms n p.so some e;
  bytes = h ∙ (ap (λ l. l ++ four n) p.bytes ∙ (append_assoc old (fours p.ms) (four n) ∙ ap (λ l. old ++ l) (sym (fours_more p.ms n))));
}

pub putting_all : (all : List Token) (i : ℕ) (old now : List ℕ) → Putting all (drop i all) old now → length all ≤ i → PutNumbers (numbers_of all) old now
putting_all all i old now p e = record { these = p.ms; so = so_all all i p.ms p.so e; bytes = p.bytes }

-- calls that tie a treadle to shafts
pub record Tying (t : ℕ) (all left : List Token) (bss : List (List ℕ)) : Type 0 where
  pub ms : List ℕ
  pub so : SoFar all left ms
  pub bytes : bss ≡ map call_bytes (map (ties t) ms)

pub map_more : {A B : Type 0} (f : A → B) (xs ys : List A) → map f (xs ++ ys) ≡ map f xs ++ map f ys
map_more f [] ys = refl
map_more f (x ∷ xs) ys = ap (λ l. f x ∷ l) (map_more f xs ys)

pub tying_more : (t : ℕ) (all : List Token) (i : ℕ) (bss new : List (List ℕ)) (s : ℕ) → Tying t all (drop i all) bss → i < length all → get_or all i (Number 0) ≡ Number s → new ≡ bss ++ (call_bytes (ties t s) ∷ []) → Tying t all (drop (i + 1) all) new
tying_more t all i bss new s p some e h = record {
  ms = p.ms ++ (s ∷ []);
  so = so_more all i p.ms s p.so some e;
  bytes = h ∙ (ap (λ l. l ++ (call_bytes (ties t s) ∷ [])) p.bytes ∙ sym (ap (map call_bytes) (map_more (ties t) p.ms (s ∷ [])) ∙ map_more call_bytes (map (ties t) p.ms) (ties t s ∷ [])));
}

-- as many numbers as tokens
abbrev Many : ℕ → Numbers → Type 0
Many n (numbers ns) = length ns ≡ n
Many n others = Unit {0}

before_many : (k n : ℕ) (x : Numbers) → Many n x → Many (suc n) (before k x)
unfolding before
before_many k n (numbers ns) h = ap suc h
before_many k n others h = tt

many_of : (ts : List Token) → Many (length ts) (numbers_of ts)
unfolding numbers_of
many_of [] = refl
many_of (Number n ∷ ts) = before_many n (length ts) (numbers_of ts) (many_of ts)
many_of (Run a b ∷ ts) = tt
many_of (Times n ∷ ts) = tt
many_of (Turned ∷ ts) = tt
many_of (Open ∷ ts) = tt
many_of (Close ∷ ts) = tt
many_of (Colon ∷ ts) = tt

pub numbers_many : (ts : List Token) (ns : List ℕ) → numbers_of ts ≡ numbers ns → length ns ≡ length ts
numbers_many ts ns e = subst (Many (length ts)) e (many_of ts)

tie_some : (t : ℕ) (ms : List ℕ) → 0 < length ms → tie_each t (numbers ms) ≡ calls (map (ties t) ms)
unfolding tie_each
tie_some t [] h = absurd (omega arith)
tie_some t (m ∷ ms) h = refl

pub tying_all : (t : ℕ) (all : List Token) (i : ℕ) (bss : List (List ℕ)) → 0 < length all → Tying t all (drop i all) bss → length all ≤ i → AreCalls (tie_each t (numbers_of all)) bss
tying_all t all i bss some p e =
    let q = so_all all i p.ms p.so e in
    record { these = map (ties t) p.ms; so = ap (tie_each t) q ∙ tie_some t p.ms (omega (arith, some, numbers_many all p.ms q)); bytes = p.bytes }

pub tying_other : (t : ℕ) (all : List Token) (i : ℕ) (bss : List (List ℕ)) → Tying t all (drop i all) bss → i < length all → ((n : ℕ) → get_or all i (Number 0) ≡ Number n → ⊥) → tie_each t (numbers_of all) ≡ unreadable
unfolding tie_each
tying_other t all i bss p some f = ap (tie_each t) (so_other all i p.ms p.so some f)

pub tie_none : (t : ℕ) (ts : List Token) → length ts ≡ 0 → tie_each t (numbers_of ts) ≡ unreadable
unfolding tie_each numbers_of
tie_none t [] e = refl
tie_none t (x ∷ xs) e = absurd (omega arith)
