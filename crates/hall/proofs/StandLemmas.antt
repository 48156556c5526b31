-- What more acts leave of how a connection stands, and how all stand after one of them changes.
use Rattle.std.proofs.Common.{◌≡◌, ◌≢◌, ℕ, Bool, true, false, List, [], ◌++◌, drop, Option, Some, None, inl, inr, refl, sym, ◌∙◌, ap, subst, append-nil, append_assoc, take-append-drop}
use Rattle.std.proofs.lemmas.Bool.{cases_eq}
use Rattle.edge_io.specs.Acts.{Act, Traffic, told}
use Rattle.hall.proofs.CauseLemmas.{GetsOwn-more, HasCause-more, IsDecidedIn-more, OpensIn-more, WasSilent-more}
use Rattle.hall.proofs.ChangeLemmas.{Changes, changes_none}
use Rattle.hall.proofs.Status.{AllStand, FitsPhase, IsAsked, IsHeldSo, IsNew, IsRead, Stands, unheard, held, gone}
use Rattle.hall.proofs.TrafficLemmas.{AreApart, SendsNone, SendsNone-apart, opened-more, told-apart}
use Rattle.hall.specs.Law.{GetsOwn, waits, own}
use Rattle.hall.specs.State.{Answered, Connection, Phase, Reading, Service, Silent, State, Waits}
use Rattle.hall.specs.Turns.{Meets}
use Rattle.session_answers.specs.Stored.{Stored}

module _ (service : Service) (meets : Meets) where
  -- ---- What a connection gets

  -- what a connection that is held got so far is its own
  pub GetsOwn-held : (stored : List Stored) (id : ℕ) (acts : List Act) (c : Connection) → IsHeldSo service meets stored id acts c →
      GetsOwn service meets id acts
  GetsOwn-held stored id acts c at = by_phase c.phase at.by_phase
    where
      by_phase : (p : Phase) → FitsPhase service meets stored id acts c p → GetsOwn service meets id acts
      by_phase Reading fits = waits fits.1 at.unclosed
      by_phase (Waits due) fits = waits fits.1 at.unclosed
      by_phase Silent fits = waits fits.1 at.unclosed
      by_phase (Answered frame n) fits = own (record {
        frame = frame;
        cause = fits.0;
        sent = (drop n frame, sym (take-append-drop n frame) ∙ ap (λ (xs : List ℕ). xs ++ drop n frame) (sym fits.1));
        whole = λ h. absurd (let clash : true ≡ false = sym h ∙ at.unclosed in cc);
      })

  -- ---- What is known of a connection

  -- one that is read, and of which the acts tell nothing, is read as it was
  read_more : (id : ℕ) (acts more : List Act) (bytes : List ℕ) (ended : Bool) →
      ((since : List Act) → told id (since ++ more) ≡ told id since) → IsRead meets id acts bytes ended →
      IsRead meets id (acts ++ more) bytes ended
  read_more id acts more bytes ended same read = record {
    since = read.since ++ more;
    opened_in = read.opened_in;
    opening = OpensIn-more meets id acts more read.since read.opened_in read.opening;
    room = read.room;
    kept = read.kept ∙ ap (λ (t : Traffic). t.came) (sym (same read.since));
    ends = read.ends ∙ ap (λ (t : Traffic). t.ended) (sym (same read.since));
    undecided = read.undecided;
  }

  -- one that waits does so, whatever is stored besides
  asked_more : (stored added : List Stored) (id : ℕ) (acts more : List Act) (bytes : List ℕ) (ended : Bool) (before : Option ℕ) →
      IsAsked meets stored id acts bytes ended before → IsAsked meets (stored ++ added) id (acts ++ more) bytes ended before
  asked_more stored added id acts more bytes ended before asked = record {
    state = asked.state;
    decided = IsDecidedIn-more meets id acts more asked.state bytes ended [] asked.decided;
    some = asked.some;
    counts = asked.counts;
    rest = asked.rest ++ added;
    grown = ap (λ (xs : List Stored). xs ++ added) asked.grown ∙ append_assoc asked.state.stored asked.rest added;
  }

  fits_more : (stored added : List Stored) (id : ℕ) (acts more : List Act) (c : Connection) (p : Phase) →
      (told id (acts ++ more)).sent ≡ (told id acts).sent →
      (p ≡ Reading → (since : List Act) → told id (since ++ more) ≡ told id since) → FitsPhase service meets stored id acts c p →
      FitsPhase service meets (stored ++ added) id (acts ++ more) c p
  fits_more stored added id acts more c Reading none same fits = (read_more id acts more c.bytes c.ended (same refl) fits.0, none ∙ fits.1)
  fits_more stored added id acts more c (Waits due) none same fits =
      (asked_more stored added id acts more c.bytes c.ended c.before fits.0, none ∙ fits.1)
  fits_more stored added id acts more c (Answered frame n) none same fits =
      (HasCause-more meets id acts more service frame fits.0, none ∙ fits.1)
  fits_more stored added id acts more c Silent none same fits = (WasSilent-more meets id acts more fits.0, none ∙ fits.1)

  -- what is known still fits after acts that send nothing, and that tell nothing of one that is read
  pub held_more : (stored added : List Stored) (id : ℕ) (acts more : List Act) (c : Connection) →
      SendsNone (told id acts) (told id (acts ++ more)) →
      (c.phase ≡ Reading → (since : List Act) → told id (since ++ more) ≡ told id since) → IsHeldSo service meets stored id acts c →
      IsHeldSo service meets (stored ++ added) id (acts ++ more) c
  held_more stored added id acts more c none same at = record {
    opened = opened-more id acts more at.opened;
    unclosed = none.closed ∙ at.unclosed;
    by_phase = fits_more stored added id acts more c c.phase none.sent same at.by_phase;
  }

  -- ---- How all stand

  -- another connection stands as it did
  pub Stands-more : (stored added : List Stored) (id : ℕ) (acts more : List Act) (x : Option Connection) → AreApart id more →
      Stands service meets stored id acts x → Stands service meets (stored ++ added) id (acts ++ more) x
  Stands-more stored added id acts more x apart (unheard fresh) =
      let same = told-apart id acts more apart in
      unheard (record {
        unopened = ap (λ (t : Traffic). t.opened) same ∙ fresh.unopened;
        none = ap (λ (t : Traffic). t.sent) same ∙ fresh.none;
        unclosed = ap (λ (t : Traffic). t.closed) same ∙ fresh.unclosed;
      })
  Stands-more stored added id acts more x apart (held {c} at) =
      held (held_more stored added id acts more c (SendsNone-apart id acts more apart) (λ reading since. told-apart id since more apart) at)
  Stands-more stored added id acts more x apart (gone opened gets) =
      gone (opened-more id acts more opened) (GetsOwn-more meets id acts more service (SendsNone-apart id acts more apart) gets)

  -- and so where nothing is stored
  pub Stands-apart : (stored : List Stored) (id : ℕ) (acts more : List Act) (x : Option Connection) → AreApart id more →
      Stands service meets stored id acts x → Stands service meets stored id (acts ++ more) x
  Stands-apart stored id acts more x apart stands =
      subst (λ (l : List Stored). Stands service meets l id (acts ++ more) x) (append-nil stored)
      (Stands-more stored [] id acts more x apart stands)

  -- all stand after a change of one by acts on it alone, if that one does
  pub AllStand-by : (s new : State) (id : ℕ) (x : Option Connection) (added : List Stored) (acts more : List Act) →
      Changes s new id x added → ((j : ℕ) → j ≢ id → AreApart j more) → AllStand service meets s acts →
      Stands service meets new.stored id (acts ++ more) x → AllStand service meets new (acts ++ more)
  AllStand-by s new id x added acts more changes apart all mine j =
      elim (cases_eq j id) [
        | inl same ↦
            subst (λ (i : ℕ). Stands service meets new.stored i (acts ++ more) (new.known i)) (sym same)
            (subst (λ (y : Option Connection). Stands service meets new.stored id (acts ++ more) y) (sym changes.here) mine)
        | inr other ↦
            subst (λ (l : List Stored). Stands service meets l j (acts ++ more) (new.known j)) (sym changes.stored)
            (subst (λ (y : Option Connection). Stands service meets (s.stored ++ added) j (acts ++ more) y) (sym (changes.others j other))
            (Stands-more s.stored added j acts more (s.known j) (apart j other) (all j)))
      ]

  -- and so where nothing changes
  pub AllStand-same : (s : State) (id : ℕ) (acts more : List Act) → ((j : ℕ) → j ≢ id → AreApart j more) →
      AllStand service meets s acts → Stands service meets s.stored id (acts ++ more) (s.known id) → AllStand service meets s (acts ++ more)
  AllStand-same s id acts more apart all mine = AllStand-by s s id (s.known id) [] acts more (changes_none s id) apart all mine

  -- all stand as they did after acts that are on no connection
  pub AllStand-quiet : (s : State) (acts more : List Act) → ((j : ℕ) → AreApart j more) → AllStand service meets s acts →
      AllStand service meets s (acts ++ more)
  AllStand-quiet s acts more apart all j = Stands-apart s.stored j acts more (s.known j) (apart j) (all j)

  -- ---- The connection itself

  -- what is known of one that is held fits
  pub held_at : (stored : List Stored) (id : ℕ) (acts : List Act) (x : Option Connection) (c : Connection) → x ≡ Some c →
      Stands service meets stored id acts x → IsHeldSo service meets stored id acts c
  held_at stored id acts x c is (unheard fresh) = (let clash : None ≡ Some c = is in absurd (cc))
  held_at stored id acts x c is (gone opened gets) = (let clash : None ≡ Some c = is in absurd (cc))
  held_at stored id acts x c is (held {c = d} at) =
      let one : Some d ≡ Some c = is in
      let same : d ≡ c = cc in
      subst (IsHeldSo service meets stored id acts) same at

  -- a connection that nothing opened so far is new
  pub is_new : (stored : List Stored) (id : ℕ) (acts : List Act) (x : Option Connection) → (told id acts).opened ≡ false →
      Stands service meets stored id acts x → IsNew id acts
  is_new stored id acts x never (unheard fresh) = fresh
  is_new stored id acts x never (held at) = absurd (let clash : true ≡ false = sym at.opened ∙ never in cc)
  is_new stored id acts x never (gone opened gets) = absurd (let clash : true ≡ false = sym opened ∙ never in cc)

  -- and isn't held
  pub new_is_none : (stored : List Stored) (id : ℕ) (acts : List Act) (x : Option Connection) (c : Connection) →
      (told id acts).opened ≡ false → x ≡ Some c → Stands service meets stored id acts x → ⊥
  new_is_none stored id acts x c never is stands =
      let at = held_at stored id acts x c is stands in
      let clash : true ≡ false = sym at.opened ∙ never in cc

  -- whoever stands gets its own
  pub gets_own : (stored : List Stored) (id : ℕ) (acts : List Act) (x : Option Connection) → Stands service meets stored id acts x →
      GetsOwn service meets id acts
  gets_own stored id acts x (unheard fresh) = waits fresh.none fresh.unclosed
  gets_own stored id acts x (held {c} at) = GetsOwn-held stored id acts c at
  gets_own stored id acts x (gone opened gets) = gets
