-- What an event, and a turn of work, change in a hall. This project's own rule.
use Rattle.std.specs.Prelude.{◌≡◌, ◌≢◌, ◌⊎◌, ℕ, suc, ◌-◌, ◌≤◌, true, false, List, [], ◌∷◌, ◌++◌, length, take, Option, Some, None, Ok}
use Rattle.edge_io.specs.declared.event.Event.{Event}
use Rattle.edge_io.specs.declared.event.Event.TheVariants as event
use Rattle.hall.specs.Held.{HasRoom, IsFull}
use Rattle.hall.specs.State.{site_in, Connection, Service, State, Reading, Waits, Answered, Silent, changed, freed, put, with_frame}
use Rattle.profile_text.specs.Tree.{Sections}
use Rattle.route_http.specs.Asked.{Asked}
use Rattle.route_http.specs.declared.span.Span.{Span}
use Rattle.session_answers.specs.Searches.{turns_for}
use Rattle.session_answers.specs.Frames.{refusal_frame}
use Rattle.session_answers.specs.Rows.{Asks, IsEarlyFrame, IsQueryFrame}
use Rattle.session_answers.specs.Sites.{request_at}
use Rattle.session_answers.specs.Stored.{Stored, Uploaded, upload_of}
use Rattle.session_answers.specs.Verdicts.{IsVerdict, part}
use Rattle.route_engine.specs.declared.aim.Aim.{Aim}
use Rattle.session_answers.specs.declared.refusal.Refusal.{Refusal}
use Rattle.session_answers.specs.declared.refusal.Refusal.TheVariants.{OutOfMemory, SessionsFull}
use Rattle.session_answers.specs.declared.verdict.Verdict.TheVariants.{Undecided, NoByte, Refused, Upload, Query}

-- ---- What is fixed for a connection is given at once

-- the frames of want of memory, and of one that is turned away
abbrev pub memory_frame : List ℕ
memory_frame = refusal_frame OutOfMemory

abbrev pub full_frame : List ℕ
full_frame = refusal_frame SessionsFull

-- a connection whose request became whole, with the number of profiles that were stored before
abbrev pub whole_in : List Stored → Connection → Connection
whole_in stored c = record c { before = Some (length stored) }

-- what an upload comes to
abbrev pub uploaded : Service → List Stored → List ℕ → Uploaded
uploaded service stored text = upload_of service.world.table (length stored - service.given) text

-- what a session comes to after bytes, or after the end of its peer, by what was known of it before and what
-- is known now; and which profiles are stored by that
pub data Takes (service : Service) (stored : List Stored) (old c : Connection) : Connection → List Stored →
    Type 0 where
  undecided : IsVerdict c.bytes c.ended Undecided → Takes service stored old c c []
  silent : IsVerdict c.bytes c.ended NoByte → Takes service stored old c (record c { phase = Silent }) []
  refused : {r : Refusal} → IsVerdict c.bytes c.ended (Refused r) →
      Takes service stored old c (with_frame c (refusal_frame r)) []
  upload :
      {span : Span} → IsVerdict c.bytes c.ended (Upload span) →
      Takes service stored old c
      (with_frame (whole_in stored c) (uploaded service stored (part c.bytes span)).frame)
      (uploaded service stored (part c.bytes span)).added
  early :
      {aim : Aim} {span : Span} {frame : List ℕ} → IsVerdict c.bytes c.ended (Query aim span) →
      IsEarlyFrame (site_in service) stored aim (part c.bytes span) frame →
      Takes service stored old c (with_frame (whole_in stored c) frame) []
  waits :
      {aim : Aim} {span : Span} {asked : Asked} {sections : Sections} → IsVerdict c.bytes c.ended (Query aim span) →
      Asks (site_in service) stored aim (part c.bytes span) asked sections →
      Takes service stored old c (record (whole_in stored c) { phase = Waits (turns_for service.world aim asked) }) []
  gives_up :
      {kept : Connection} → (IsVerdict c.bytes c.ended NoByte → ⊥) →
      (kept ≡ old) ⊎ ((kept ≡ c) ⊎ (kept ≡ whole_in stored c)) →
      Takes service stored old c (with_frame kept memory_frame) []

-- ---- Events

-- a new session, and a connection that is turned away
abbrev pub session : Connection
session = record { away = false; bytes = []; ended = false; before = None; phase = Reading }

abbrev pub turned_away : Connection
turned_away = record { away = true; bytes = []; ended = false; before = None; phase = Answered full_frame 0 }

-- what the opening of a connection changes, and whether it is to be closed at once: one that is held is
-- ignored; the others are held as sessions, or are turned away, or are not held
pub data Opens (s : State) (id : ℕ) : State → Option ℕ → Type 0 where
  again : {c : Connection} → s.known id ≡ Some c → Opens s id s None
  held : s.known id ≡ None → HasRoom s false → Opens s id (put s id (Some session)) None
  away : s.known id ≡ None → IsFull s false → HasRoom s true → Opens s id (put s id (Some turned_away)) None
  full : s.known id ≡ None → IsFull s false → IsFull s true → Opens s id s (Some id)

-- a connection with more bytes, and one whose peer ended
abbrev pub with_bytes : List ℕ → Connection → Connection
with_bytes bytes c = record c { bytes = c.bytes ++ bytes }

abbrev pub with_end : Connection → Connection
with_end c = record c { ended = true }

-- what is heard from a connection changes this: it is kept where the connection is held and read, and else
-- ignored
pub data Hears (service : Service) (s : State) (id : ℕ) (heard : Connection → Connection) : State →
    Type 0 where
  ignored : ((c : Connection) → s.known id ≡ Some c → c.phase ≢ Reading) → Hears service s id heard s
  kept :
      {c now : Connection} {added : List Stored} → s.known id ≡ Some c → c.phase ≡ Reading →
      Takes service s.stored c (heard c) now added → Hears service s id heard (changed s id now added)

-- what the loss of a connection changes
pub data Loses (s : State) (id : ℕ) : State → Type 0 where
  stranger : s.known id ≡ None → Loses s id s
  gone : {c : Connection} → s.known id ≡ Some c → Loses s id (freed s id)

-- what an event changes, with the bytes that came, and which connection is to be closed at once
abbrev pub Step : (service : Service) (s : State) → Event → (bytes : List ℕ) (new : State) (shut : Option ℕ) →
    Type 0
Step service s (event.Opened id) bytes new shut = Opens s id new shut
Step service s (event.Bytes id n) bytes new shut = Hears service s id (with_bytes bytes) new × (shut ≡ None)
Step service s (event.Ended id) bytes new shut = Hears service s id with_end new × (shut ≡ None)
Step service s (event.Lost id) bytes new shut = Loses s id new × (shut ≡ None)
Step service s event.Quiet bytes new shut = (new ≡ s) × (shut ≡ None)
Step service s event.Over bytes new shut = (new ≡ s) × (shut ≡ None)

-- ---- Work

-- what the query of a connection is asked for whose request was whole after so many profiles, and the query
pub record AskedBy (c : Connection) (before : ℕ) (aim : Aim) (query : List ℕ) : Type 0 where
  pub span : Span
  pub verdict : IsVerdict c.bytes c.ended (Query aim span)
  pub query_is : query ≡ part c.bytes span
  pub before_is : c.before ≡ Some before

-- what the query of a connection is asked for, and the request that it spells
pub record AsksFor (service : Service) (c : Connection) (aim : Aim) (asked : Asked) : Type 0 where
  pub span : Span
  pub verdict : IsVerdict c.bytes c.ended (Query aim span)
  pub spells : request_at (site_in service) aim (part c.bytes span) ≡ Ok asked

-- what a connection comes to by a turn of its search: it waits on, with a turn less; or it is answered by its
-- query or by want of memory
pub data GoesOn (service : Service) (stored : List Stored) (c : Connection) : Connection → Type 0 where
  more : {due : ℕ} → c.phase ≡ Waits (suc due) → GoesOn service stored c (record c { phase = Waits due })
  answers :
      {due before : ℕ} {aim : Aim} {query frame : List ℕ} → c.phase ≡ Waits due →
      AskedBy c before aim query → before ≤ length stored →
      IsQueryFrame (site_in service) (take before stored) aim query frame →
      GoesOn service stored c (with_frame c frame)
  gives_up : {due : ℕ} → c.phase ≡ Waits due → GoesOn service stored c (with_frame c memory_frame)

-- what a turn of work changes: the search that waited longest goes on, and then waits last where it isn't at
-- its end
pub data Works (service : Service) (s : State) : State → Type 0 where
  idle : s.waiting ≡ [] → Works service s s
  turn :
      {id : ℕ} {rest : List ℕ} {c now : Connection} → s.waiting ≡ id ∷ rest → s.known id ≡ Some c →
      GoesOn service s.stored c now → Works service s (changed (record s { waiting = rest }) id now [])
