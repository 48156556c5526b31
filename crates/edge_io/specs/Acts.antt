-- This project's own rule: the acts of a hub in their order, and what they come to for one connection.
use Rattle.std.specs.Prelude.{◌≡◌, ◌==◌, ℕ, Bool, true, false, List, [], ◌∷◌, ◌++◌, if◌then◌else◌}
use Rattle.edge_io.specs.declared.event.Event.{Event}
use Rattle.edge_io.specs.declared.event.Event.TheVariants.{Opened, Bytes, Ended, Lost, Quiet, Over}

-- one act: the hub began to take connections at an address, from then on with an end of a peer as the loss of its
-- connection or not; an event was given, with the bytes that came; bytes were taken from a send to a connection; a
-- send to a connection failed, which ends it; a connection was closed by the caller
pub data Act : Type 0 where
  Listens : List ℕ → Bool → Act
  Gave : Event → List ℕ → Act
  Took : ℕ → List ℕ → Act
  Broke : ℕ → Act
  Closed : ℕ → Act

-- what acts come to for one connection: an event opened it; it is held; the bytes that came; its peer ended;
-- the bytes that were sent to it; it was closed by the caller
pub record Traffic : Type 0 where
  pub opened : Bool
  pub live : Bool
  pub came : List ℕ
  pub ended : Bool
  pub sent : List ℕ
  pub closed : Bool

-- no act so far
abbrev pub no_traffic : Traffic
no_traffic = record { opened = false; live = false; came = []; ended = false; sent = []; closed = false }

-- the traffic after an event of its own connection, with the bytes that came
abbrev pub after_event : Traffic → Event → List ℕ → Traffic
after_event t (Opened id) bytes = record t { opened = true; live = true }
after_event t (Bytes id n) bytes = record t { came = t.came ++ bytes }
after_event t (Ended id) bytes = record t { ended = true }
after_event t (Lost id) bytes = record t { live = false }
after_event t Quiet bytes = t
after_event t Over bytes = t

-- the traffic after an act on its own connection
abbrev pub after_own : Traffic → Act → Traffic
after_own t (Listens address hangup) = t
after_own t (Gave event bytes) = after_event t event bytes
after_own t (Took id bytes) = record t { sent = t.sent ++ bytes }
after_own t (Broke id) = record t { live = false }
after_own t (Closed id) = record t { live = false; closed = true }

-- an event is one of this connection
abbrev pub is_event_of : ℕ → Event → Bool
is_event_of id (Opened at) = at == id
is_event_of id (Bytes at n) = at == id
is_event_of id (Ended at) = at == id
is_event_of id (Lost at) = at == id
is_event_of id Quiet = false
is_event_of id Over = false

-- an act is one on this connection
abbrev pub is_act_on : ℕ → Act → Bool
is_act_on id (Listens address hangup) = false
is_act_on id (Gave event bytes) = is_event_of id event
is_act_on id (Took at bytes) = at == id
is_act_on id (Broke at) = at == id
is_act_on id (Closed at) = at == id

-- the traffic of a connection after one more act
abbrev pub after_act : ℕ → Traffic → Act → Traffic
after_act id t act = if is_act_on id act then after_own t act else t

-- the traffic of a connection after more acts, in their order
abbrev pub after_acts : ℕ → Traffic → List Act → Traffic
after_acts id t [] = t
after_acts id t (act ∷ acts) = after_acts id (after_act id t act) acts

-- what acts told of a connection
abbrev pub told : ℕ → List Act → Traffic
told id acts = after_acts id no_traffic acts

-- at each opening nothing was opened under that id before
abbrev pub OpensOnce : List Act → Type 0
OpensOnce acts =
    (before after : List Act) (id : ℕ) (bytes : List ℕ) → acts ≡ before ++ (Gave (Opened id) bytes ∷ after) →
    (told id before).opened ≡ false

-- an act ends a connection: it is lost, a send to it failed, or it was closed
abbrev pub is_end_of : ℕ → Act → Bool
is_end_of id (Listens address hangup) = false
is_end_of id (Gave (Opened at) bytes) = false
is_end_of id (Gave (Bytes at n) bytes) = false
is_end_of id (Gave (Ended at) bytes) = false
is_end_of id (Gave (Lost at) bytes) = at == id
is_end_of id (Gave Quiet bytes) = false
is_end_of id (Gave Over bytes) = false
is_end_of id (Took at bytes) = false
is_end_of id (Broke at) = at == id
is_end_of id (Closed at) = at == id

-- an end of a peer is the loss of its connection after one more act, where it was or wasn't before
abbrev pub hangs_up_by : Act → Bool → Bool
hangs_up_by (Listens address hangup) before = hangup
hangs_up_by (Gave event bytes) before = before
hangs_up_by (Took id bytes) before = before
hangs_up_by (Broke id) before = before
hangs_up_by (Closed id) before = before

-- the same after more acts, in their order
abbrev pub hangs_up_after : Bool → List Act → Bool
hangs_up_after before [] = before
hangs_up_after before (act ∷ acts) = hangs_up_after (hangs_up_by act before) acts

-- the hub was last opened with an end of a peer as the loss of its connection
abbrev pub hangs_up : List Act → Bool
hangs_up acts = hangs_up_after false acts
