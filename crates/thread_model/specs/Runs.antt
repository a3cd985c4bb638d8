-- Runs of events, the newest first, and which of them the rules accept.
use Rattle.std.specs.Prelude.{◌≡◌, List, [], ◌∷◌, None}
use Rattle.trace_file.specs.declared.event.Event.{Event}
use Rattle.thread_model.specs.declared.state.State.{State}
use Rattle.thread_model.specs.Rules.{verdict}
use Rattle.thread_model.specs.State.{start, next}

-- the state after a run
unfoldable pub state : {I : Type 0} → List (Event I) → State
state [] = start
state (e ∷ past) = next (state past) e

-- each event was allowed in the state that those before it lead to
pub data Accepted {I : Type 0} : List (Event I) → Type 0 where
  none : Accepted []
  more : {e : Event I} {past : List (Event I)} → Accepted past → verdict (state past) e ≡ None → Accepted (e ∷ past)
