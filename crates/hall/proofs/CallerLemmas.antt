-- What callers of a server need: it may begin without connections; then each connection gets its own, accepted uploads alone are
-- stored, and no search went on for ever.
use Rattle.std.proofs.Common.{◌≡◌, ℕ, List, Option, Some, None, subst, sym}
use Rattle.edge_io.specs.Acts.{Act, OpensOnce}
use Rattle.edge_io.specs.Hub.{HubSeen}
use Rattle.hall.proofs.EndedLemmas.{ended_each_wait}
use Rattle.hall.specs.Law.{GetsOwn, KeepsApart}
use Rattle.hall.specs.Serving.{AreLive}
use Rattle.hall.specs.Served.{OpenOnceIn, Served}
use Rattle.hall.specs.State.{Service, State, empty_hall}
use Rattle.hall.specs.Turns.{EventOf, Run}
use Rattle.hall.specs.Uploads.{GrowsByUploads, StoresUploads}
use Rattle.hall.specs.Waiting.{EndedEachWait, EndsEachWait}
use Rattle.hall.specs.declared.serve_end.ServeEnd.{ServeEnd}
use Rattle.session_answers.specs.Stored.{Stored}

-- a hall without connections has none that the hub doesn't hold
pub AreLive-empty : (given : List Stored) (seen : HubSeen) → AreLive (empty_hall given) seen
AreLive-empty given seen id c known = (let clash : None ≡ Some c = known in absurd (cc))

module _ (service : Service) (given : List Stored) (s : State) (empty : s ≡ empty_hall given) (turns : ℕ) (old new : HubSeen)
    (end : ServeEnd) (left : State) (before : List Act) (told : old.acts ≡ Some before)
    (served : Served service turns s old end left new) where
  -- no connection was opened twice by what was told
  once_told : OpensOnce served.acts
  once_told = subst (λ (acts : Option (List Act)). OpenOnceIn acts served.acts) told served.once

  -- what a hub told of one `serve` that began without connections gives each connection its own
  pub GetsOwn-served : KeepsApart service → (id : ℕ) → GetsOwn service (EventOf served.run.turns) id served.acts
  GetsOwn-served law id =
      subst (λ (from : State). (run : Run service from served.n served.over served.acts left) →
      GetsOwn service (EventOf run.turns) id served.acts) (sym empty)
      (λ run. law given served.n served.over served.acts left run once_told id) served.run

  -- and of uploads those alone were stored that were accepted
  pub GrowsByUploads-served : StoresUploads service → GrowsByUploads served.run
  GrowsByUploads-served law =
      subst (λ (from : State). (run : Run service from served.n served.over served.acts left) → GrowsByUploads run) (sym empty)
      (λ run. law given served.n served.over served.acts left run once_told) served.run

-- in what one `serve` did that began without connections no search went on for ever
pub EndedEachWait-served : (service : Service) (given : List Stored) (s : State) → s ≡ empty_hall given → (turns : ℕ) (old new : HubSeen)
    (end : ServeEnd) (left : State) (served : Served service turns s old end left new) → EndsEachWait service →
    EndedEachWait served.run.turns
EndedEachWait-served service given s empty turns old new end left served law =
    subst (λ (from : State). (run : Run service from served.n served.over served.acts left) → EndedEachWait run.turns) (sym empty)
    (λ run. ended_each_wait service given left served.n run.turned run.turns law) served.run
