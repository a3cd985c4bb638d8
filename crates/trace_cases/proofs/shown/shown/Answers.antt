use Rattle.std.proofs.Common.{refl}
use Rattle.trace_cases.proofs.Held.{all_hold}
use Rattle.trace_cases.proofs.shown.shown.Goals as goal

pub returns : goal.returns
returns c = record { count = refl; hold = all_hold }
