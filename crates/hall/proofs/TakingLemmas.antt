-- What a session comes to that was read, by an event of its own.
use Rattle.std.proofs.Common.{◌≡◌, ℕ, Bool, true, false, List, [], ◌∷◌, ◌++◌, refl, sym, ◌∙◌, ap, subst}
use Rattle.std.proofs.lemmas.Bool.{eq-eqb}
use Rattle.edge_io.specs.Acts.{Act, Gave, Traffic, is_event_of, told}
use Rattle.edge_io.specs.declared.event.Event.TheVariants.{Bytes, Ended}
use Rattle.edge_io.specs.declared.event.Event.{Event}
use Rattle.hall.proofs.CauseLemmas.{OpensIn-more}
use Rattle.hall.proofs.Status.{FitsPhase, IsHeldSo, IsRead}
use Rattle.hall.proofs.TrafficLemmas.{told-own}
use Rattle.hall.proofs.VerdictLemmas.{silent_by, undecided_goes_on}
use Rattle.hall.specs.Allowed as rows
use Rattle.hall.specs.Causes.{HearsIn, IsDecidedIn, OpensIn, memory, row}
use Rattle.hall.specs.Law.{EndsSilent}
use Rattle.hall.specs.State.{Connection, Reading, Service, State, changed}
use Rattle.hall.specs.Steps as steps
use Rattle.hall.specs.Steps.{Takes, with_bytes, with_end}
use Rattle.hall.specs.Turns.{Meets}
use Rattle.session_answers.proofs.CallerLemmas.{verdict_unique}
use Rattle.session_answers.specs.Rows as queries
use Rattle.session_answers.specs.Stored.{Stored}
use Rattle.session_answers.specs.Verdicts.{IsVerdict}
use Rattle.session_answers.specs.declared.verdict.Verdict.TheVariants.{NoByte, Query, Undecided}

-- ---- What a session comes to

-- these are the facts of what is known now of a session that was read, and of what was told with this event
pub record IsTaking (id : ℕ) (acts since : List Act) (act : Act) (c : Connection) : Type 0 where
  pub reading : c.phase ≡ Reading
  pub kept : c.bytes ≡ (told id (since ++ (act ∷ []))).came
  pub ends : c.ended ≡ (told id (since ++ (act ∷ []))).ended
  pub quiet : c.ended ≡ true → c.bytes ≡ [] → EndsSilent id (since ++ (act ∷ []))
  pub none : (told id (acts ++ (act ∷ []))).sent ≡ []
  pub unclosed : (told id (acts ++ (act ∷ []))).closed ≡ false

module _ (service : Service) (meets : Meets) (s : State) (id : ℕ) (acts : List Act) (event : Event) (given : List ℕ)
    (own : is_event_of id event ≡ true) (old c : Connection) (read : IsRead meets id acts old.bytes old.ended)
    (taking : IsTaking id acts read.since (Gave event given) c) where
  -- the acts with the event, and those since the opening
  abbrev with_it : List Act
  with_it = acts ++ (Gave event given ∷ [])

  abbrev since_with : List Act
  since_with = read.since ++ (Gave event given ∷ [])

  -- the event came when nothing was fixed
  pub hears_it : HearsIn id read.since event given c.bytes c.ended
  hears_it = record {
    own = own;
    undecided =
        subst (λ (e : Bool). IsVerdict (told id read.since).came e Undecided) read.ends
        (subst (λ (xs : List ℕ). IsVerdict xs old.ended Undecided) read.kept read.undecided);
    bytes_are = taking.kept;
    ended_is = taking.ends;
  }

  opens_with : OpensIn meets id with_it since_with read.opened_in
  opens_with = OpensIn-more meets id acts (Gave event given ∷ []) read.since read.opened_in read.opening

  -- so what it comes to is decided by it
  decided : (stepped : State) (added : List Stored) → meets acts s event given stepped → stepped.stored ≡ s.stored ++ added →
      IsDecidedIn meets id with_it s c.bytes c.ended added
  decided stepped added met stores = record {
    since = since_with;
    opened_in = read.opened_in;
    opening = OpensIn-more meets id acts (Gave event given ∷ []) read.since read.opened_in read.opening;
    room = read.room;
    before = read.since;
    event = event;
    given = given;
    after = [];
    since_are = refl;
    hears = hears_it;
    stepped = stepped;
    met = subst (λ (xs : List Act). meets xs s event given stepped) read.opening.opens.acts_are met;
    stores = stores;
  }

  -- whatever it comes to fits what was told
  pub takes_fit : (now : Connection) (added : List Stored) → meets acts s event given (changed s id now added) →
      Takes service s.stored old c now added →
      FitsPhase service meets (s.stored ++ added) id with_it now now.phase
  takes_fit now added met (steps.undecided v) =
      subst (FitsPhase service meets (s.stored ++ []) id with_it c) (sym taking.reading) (
        record {
          since = since_with;
          opened_in = read.opened_in;
          opening = opens_with;
          room = read.room;
          kept = taking.kept;
          ends = taking.ends;
          undecided = v;
        },
        taking.none,
      )
  takes_fit now added met (steps.silent v) =
      let quiet = silent_by c.bytes c.ended v in (
        record {
          since = since_with;
          state = read.opened_in;
          opening = opens_with;
          room = read.room;
          ends = taking.quiet quiet.ends quiet.none;
        },
        taking.none,
      )
  takes_fit now added met (steps.refused {r} v) = (row (decided (changed s id now []) [] met refl) (rows.refused v), taking.none)
  takes_fit now added met (steps.upload {span} v) = (row (decided (changed s id now added) added met refl) (rows.upload v), taking.none)
  takes_fit now added met (steps.early {span} {frame} v found) =
      (row (decided (changed s id now []) [] met refl) (rows.query v (queries.before found)), taking.none)
  takes_fit now added met (steps.waits {aim} {span} v searched) = (
    record {
      state = s;
      decided = decided (changed s id now []) [] met refl;
      some = λ silent. (let clash : Query aim span ≡ NoByte = verdict_unique c.bytes c.ended (Query aim span) NoByte v silent in cc);
      counts = refl;
      rest = [];
      grown = refl;
    },
    taking.none,
  )
  takes_fit now added met (steps.gives_up {kept} why which) = (memory (decided (changed s id now []) [] met refl) why, taking.none)

-- ---- Bytes and ends

-- what is known of one that is read
pub read_at : (service : Service) (meets : Meets) (s : State) (id : ℕ) (acts : List Act) (c : Connection) →
    IsHeldSo service meets s.stored id acts c → c.phase ≡ Reading → FitsPhase service meets s.stored id acts c Reading
read_at service meets s id acts c at reading = subst (FitsPhase service meets s.stored id acts c) reading at.by_phase

module _ (service : Service) (meets : Meets) (s : State) (id : ℕ) (acts : List Act) (c : Connection)
    (at : IsHeldSo service meets s.stored id acts c) (reading : c.phase ≡ Reading)
    (read : FitsPhase service meets s.stored id acts c Reading) where
  -- where nothing is fixed, the peer didn't end
  goes_on : c.ended ≡ false
  goes_on = undecided_goes_on c.bytes c.ended read.0.undecided

  -- bytes come of it
  pub bytes_taking : (n : ℕ) (bytes : List ℕ) → IsTaking id acts read.0.since (Gave (Bytes id n) bytes) (with_bytes bytes c)
  bytes_taking n bytes =
      let t = told-own id acts (Gave (Bytes id n) bytes) (eq-eqb id id refl) in
      let u = told-own id read.0.since (Gave (Bytes id n) bytes) (eq-eqb id id refl) in
      record {
        reading = reading;
        kept = ap (λ (xs : List ℕ). xs ++ bytes) read.0.kept ∙ sym (ap (λ (v : Traffic). v.came) u);
        ends = read.0.ends ∙ sym (ap (λ (v : Traffic). v.ended) u);
        quiet = λ h e. absurd (let clash : true ≡ false = sym h ∙ goes_on in cc);
        none = ap (λ (v : Traffic). v.sent) t ∙ read.1;
        unclosed = ap (λ (v : Traffic). v.closed) t ∙ at.unclosed;
      }

  -- its peer ends
  pub end_taking : (bytes : List ℕ) → IsTaking id acts read.0.since (Gave (Ended id) bytes) (with_end c)
  end_taking bytes =
      let t = told-own id acts (Gave (Ended id) bytes) (eq-eqb id id refl) in
      let u = told-own id read.0.since (Gave (Ended id) bytes) (eq-eqb id id refl) in
      record {
        reading = reading;
        kept = read.0.kept ∙ sym (ap (λ (v : Traffic). v.came) u);
        ends = sym (ap (λ (v : Traffic). v.ended) u);
        quiet = λ h e.
            record { before = read.0.since; bytes = bytes; after = []; acts_are = refl; none_came = sym read.0.kept ∙ e };
        none = ap (λ (v : Traffic). v.sent) t ∙ read.1;
        unclosed = ap (λ (v : Traffic). v.closed) t ∙ at.unclosed;
      }
