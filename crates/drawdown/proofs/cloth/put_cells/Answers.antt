use Rattle.std.proofs.Common.{string_bytes}
use Rattle.std.proofs.lemmas.Result.{on_ok_weaker}
use Rattle.drawdown.proofs.Cells.{cells_told}
use Rattle.drawdown.proofs.cloth.put_cells.Goals as goal

pub returns : goal.returns
returns c =
    let told = c.in-Some.ensures in
    on_ok_weaker c.write.result
    (λ is d s. cells_told d c.args.pick c.args.end c.args.count c.in-Some.bits (string_bytes c.args.text.now) (string_bytes c.write.new.self) c.requires (told.1 d s) is)
    c.write.ensures.bytes
