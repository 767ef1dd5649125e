use Rattle.layouts.proofs.Layouts.{layouts}
use Rattle.layouts.proofs.Promises.{promised}
use Rattle.layouts.proofs.worked_layouts.Goals as goal

pub returns : goal.returns
returns c = record { layouts = layouts; promised = promised }
