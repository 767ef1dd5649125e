use Rattle.texts.proofs.Hexes.{hexed_ascii}
use Rattle.texts.proofs.hex.put_hex.Goals as goal

pub returns-clause-ascii : goal.returns-clause-ascii
returns-clause-ascii c = hexed_ascii c.args.bytes.now (λ i. (c.type_inv.bytes i).fits)
