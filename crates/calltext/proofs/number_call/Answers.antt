use Rattle.std.proofs.Common.{◌≡◌, [], ◌∷◌, ◌++◌, map, vec_items, sym, ap, ◌∙◌, arith, rules}
use Rattle.encoding.specs.Kinds.{call_byte}
use Rattle.calltext.specs.Lines.{numbers_of}
use Rattle.calltext.proofs.Numbers.{numbers_many}
use Rattle.calltext.proofs.Saying.{number_call}
use Rattle.calltext.proofs.number_call.Goals as goal

pub returns-then-tokens-count : goal.returns-then-tokens-count
returns-then-tokens-count c = λ ns e h. c.if-tokens-count.true (sym (numbers_many c.args.tokens.now ns e) ∙ h)

pub returns : goal.returns
returns c =
    let p = c.in_ok-put_numbers.ensures in
    let pushed : vec_items c.push.new.self ≡ vec_items c.new-call.result ++ (call_byte c.args.kind ∷ []) = search rules in
    number_call (numbers_of c.args.tokens.now) (call_byte c.args.kind) c.args.count (vec_items c.new-call.result) (vec_items c.push.new.self) (vec_items c.put_numbers.new.bytes) (map vec_items (vec_items c.in_ok-vec.field-0))
    c.new-call.ensures.items pushed p (omega (arith, numbers_many c.args.tokens.now p.these p.so)) (ap (map vec_items) c.in_ok-vec.ensures.items)
