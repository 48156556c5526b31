-- What a run told of a connection's cause stays so with more acts.
use Rattle.std.proofs.Common.{ℕ, Bool, List, [], ◌∷◌, ◌++◌, sym, ◌∙◌, ap, subst, append_assoc}
use Rattle.edge_io.specs.Acts.{Act, Gave, told}
use Rattle.hall.proofs.TrafficLemmas.{EndsSilent-more, OpensThen-more, SendsNone}
use Rattle.hall.specs.Causes.{HasCause, IsDecidedIn, OpensIn, away, memory, row}
use Rattle.hall.specs.Law.{GetsOwn, HadNoRoom, IsFrontOf, WasSilent, waits, no_room, silent, own}
use Rattle.hall.specs.State.{Service, State}
use Rattle.session_answers.specs.Stored.{Stored}
use Rattle.hall.specs.Turns.{Meets}

module _ (meets : Meets) (id : ℕ) (acts more : List Act) where
  -- a run opened a connection
  abbrev pub OpensIn-more : (since : List Act) (state : State) → OpensIn meets id acts since state →
      OpensIn meets id (acts ++ more) (since ++ more) state
  OpensIn-more since state opening = record {
    opens = OpensThen-more id acts since more opening.opens;
    stepped = opening.stepped;
    met = opening.met;
  }

  -- what it gets was decided
  pub IsDecidedIn-more : (state : State) (bytes : List ℕ) (ended : Bool) (added : List Stored) →
      IsDecidedIn meets id acts state bytes ended added → IsDecidedIn meets id (acts ++ more) state bytes ended added
  IsDecidedIn-more state bytes ended added decided = record {
    since = decided.since ++ more;
    opened_in = decided.opened_in;
    opening = OpensIn-more decided.since decided.opened_in decided.opening;
    room = decided.room;
    before = decided.before;
    event = decided.event;
    given = decided.given;
    after = decided.after ++ more;
    since_are = ap (λ (xs : List Act). xs ++ more) decided.since_are
        ∙ append_assoc decided.before (Gave decided.event decided.given ∷ decided.after) more;
    hears = decided.hears;
    stepped = decided.stepped;
    met = decided.met;
    stores = decided.stores;
  }

  -- its frame has a cause
  pub HasCause-more : (service : Service) (frame : List ℕ) → HasCause service meets id acts frame →
      HasCause service meets id (acts ++ more) frame
  HasCause-more service frame (away {since} {state} opening full room) = away (OpensIn-more since state opening) full room
  HasCause-more service frame (memory {state} {bytes} {ended} decided some) = memory (IsDecidedIn-more state bytes ended [] decided) some
  HasCause-more service frame (row {state} {bytes} {ended} {added} decided is) =
      row (IsDecidedIn-more state bytes ended added decided) is

  -- it was a session that got no byte
  pub WasSilent-more : WasSilent meets id acts → WasSilent meets id (acts ++ more)
  WasSilent-more was_silent = record {
    since = was_silent.since ++ more;
    state = was_silent.state;
    opening = OpensIn-more was_silent.since was_silent.state was_silent.opening;
    room = was_silent.room;
    ends = EndsSilent-more id was_silent.since more was_silent.ends;
  }

  -- there was no room for it
  HadNoRoom-more : HadNoRoom meets id acts → HadNoRoom meets id (acts ++ more)
  HadNoRoom-more had = record {
    since = had.since ++ more;
    state = had.state;
    opening = OpensIn-more had.since had.state had.opening;
    sessions_full = had.sessions_full;
    aways_full = had.aways_full;
  }

  -- it got its own, and no more is sent to it
  pub GetsOwn-more : (service : Service) → SendsNone (told id acts) (told id (acts ++ more)) → GetsOwn service meets id acts →
      GetsOwn service meets id (acts ++ more)
  GetsOwn-more service none (waits sent unclosed) = waits (none.sent ∙ sent) (none.closed ∙ unclosed)
  GetsOwn-more service none (no_room sent had) = no_room (none.sent ∙ sent) (HadNoRoom-more had)
  GetsOwn-more service none (silent sent was_silent) = silent (none.sent ∙ sent) (WasSilent-more was_silent)
  GetsOwn-more service none (own has) =
      own (record {
        frame = has.frame;
        cause = HasCause-more service has.frame has.cause;
        sent = subst (λ (xs : List ℕ). IsFrontOf xs has.frame) (sym none.sent) has.sent;
        whole = λ h. none.sent ∙ has.whole (sym none.closed ∙ h);
      })
