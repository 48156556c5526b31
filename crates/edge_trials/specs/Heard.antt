-- What a hub told of its connections. This project's own rule.
use Rattle.std.specs.Prelude.{◌≡◌, ◌==◌, ◌+◌, ◌<◌, ℕ, Bool, not, ◌&&◌, if◌then◌else◌, min, List, [], ◌++◌, length, take}
use Rattle.std.specs.List.{filter}
use Rattle.edge_io.specs.declared.event.Event.{Event}
use Rattle.edge_io.specs.declared.event.Event.TheVariants.{Opened, Bytes, Ended, Lost, Quiet, Over}
use Rattle.edge_trials.specs.declared.heard.Heard.{Heard}

-- what was heard: how many connections opened, ended and were lost, the last that opened, and all bytes
pub record HeardValue : Type 0 where
  pub opened : ℕ
  pub ended : ℕ
  pub lost : ℕ
  pub last : ℕ
  pub bytes : List ℕ

abbrev pub value_of : Heard → HeardValue
value_of heard = record {
  opened = heard.opened;
  ended = heard.ended;
  lost = heard.lost;
  last = heard.last;
  bytes = heard.bytes.items;
}

-- nothing was heard
abbrev pub nothing_heard : HeardValue
nothing_heard = record { opened = 0; ended = 0; lost = 0; last = 0; bytes = [] }

-- one more, but for the greatest count
abbrev pub one_more : ℕ → ℕ
one_more count = min (count + 1) 18446744073709551615

-- what was heard after an event, whose bytes stand at the front of a buffer
abbrev pub heard_after : HeardValue → Event → (buffer : List ℕ) → HeardValue
heard_after heard (Opened id) buffer = record heard { opened = one_more heard.opened; last = id }
heard_after heard (Bytes id n) buffer = record heard { bytes = heard.bytes ++ take n buffer }
heard_after heard (Ended id) buffer = record heard { ended = one_more heard.ended }
heard_after heard (Lost id) buffer = record heard { lost = one_more heard.lost }
heard_after heard Quiet buffer = heard
heard_after heard Over buffer = heard

-- one connection opened, and these bytes came
pub record HasMessage (heard : HeardValue) (text : List ℕ) : Type 0 where
  pub one : heard.opened ≡ 1
  pub came : heard.bytes ≡ text

-- the end of the only peer was told as a loss, after which its connection is held no more; or as an end, after which it is
abbrev pub ends_as : HeardValue → (lost held : Bool) → Bool
ends_as heard lost held =
    if lost then heard.lost == 1 && heard.ended == 0 && not held else heard.lost == 0 && heard.ended == 1 && held

-- so many peers opened, and so many bytes of others than the loud one came, before so many bytes came in all
pub record HasPeers (heard : HeardValue) (peers others loud most : ℕ) : Type 0 where
  pub all : heard.opened ≡ peers
  pub came : length (filter (λ byte. not (byte == loud)) heard.bytes) ≡ others
  pub before : length heard.bytes < most
